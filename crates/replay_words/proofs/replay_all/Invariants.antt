-- No more rows held than were read.
use Rattle.std.proofs.Common.{◌≤◌}
use Rattle.replay_words.proofs.replay_all.Given as goal

abbrev pub invariant-loop-rows : goal.invariant-loop-rows
invariant-loop-rows g l = l.held ≤ l.rows
