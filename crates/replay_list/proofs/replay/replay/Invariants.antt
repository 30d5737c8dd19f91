-- Each turn leaves fewer records. What was read and written so far is some turns'.
use Rattle.std.proofs.Common.{List, ◌≡◌}
use Rattle.std.specs.Io.KnownBytes.{Appends}
use Rattle.replay_list.specs.Replay.{Turn, AreTurns, seen_after, table}
use Rattle.replay_list.specs.Seen.{Bounded}
use Rattle.replay_list.proofs.replay.replay.Given as goal

abbrev pub invariant-loop-seen : goal.invariant-loop-seen
invariant-loop-seen g l =
    Bounded l.seen
    × ((ts : List Turn) × AreTurns (λ head body said. g.F.Fn.post l.holds (head, (body, tt)) said) (g.R.Read.remaining l.initial.from) (g.R.Read.remaining l.from) ts × (l.seen ≡ seen_after ts)
    × Appends (g.W.Write.contents l.initial.to) (g.W.Write.contents l.to) (table ts))

abbrev pub decreases-loop-seen : goal.decreases-loop-seen
decreases-loop-seen g l = l.seen.left
