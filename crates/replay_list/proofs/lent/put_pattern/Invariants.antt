-- `put_pattern`: up to place i the slots hold the pattern (Slots); one more store keeps that.
use mathlib.Core.List.{[]}
use mathlib.Core.Path.{◌≡◌}
use lib.ListN.{length}
use Rattle.replay_list.proofs.Slots.{Due}
use Rattle.replay_list.proofs.lent.put_pattern.Given as goal

abbrev pub invariant-loop-i : goal.invariant-loop-i
invariant-loop-i l = (length l.slots ≡ length l.initial.slots) × Due l.slots [] l.i
