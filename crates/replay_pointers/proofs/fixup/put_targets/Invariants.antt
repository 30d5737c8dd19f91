-- The targets keep their length.
use Rattle.std.proofs.Common.{◌≡◌, length}
use Rattle.replay_pointers.proofs.fixup.put_targets.Given as goal

abbrev pub invariant-loop-k : goal.invariant-loop-k
invariant-loop-k l = length l.targets ≡ length l.initial.targets
