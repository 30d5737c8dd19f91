-- No sum passes `most`.
use Rattle.std.proofs.Common.{◌≤◌}
use Rattle.replay_payload.proofs.size_of.Given as goal

abbrev pub invariant-loop-value : goal.invariant-loop-value
invariant-loop-value l = l.size ≤ l.most
