-- `least_from` meets its contract: `lesser`, one hint after another.
use Rattle.arm64_hint_order.specs.Walk.{Least}
use Rattle.arm64_hint_order.proofs.least_from.Given as goal

abbrev pub invariant-loop-k : goal.invariant-loop-k
invariant-loop-k l = Least l.hints l.o l.k l.best
