-- `are_filled`: up to place i the slots hold what is due (Slots); the first that does not decides.
use Rattle.replay_list.proofs.Slots.{Due}
use Rattle.replay_list.proofs.lent.are_filled.Given as goal

abbrev pub invariant-loop-i : goal.invariant-loop-i
invariant-loop-i l = Due l.slots l.records l.i
