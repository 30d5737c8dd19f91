-- `work_and_list`: between two hints, the work that is left ends as the whole does (`Going`), and so do the records (`Listing`).
use lib.ListN.{length}
use Rattle.arm64_hint_order.specs.Cursor.{rest}
use Rattle.arm64_hint_run.proofs.Loop.{Going}
use Rattle.arm64_hint_run.proofs.Listing.{Listing}
use Rattle.arm64_hint_run.proofs.run.work_and_list.Given as goal

abbrev pub invariant-loop-k : goal.invariant-loop-k
invariant-loop-k l = Going l.initial.image l.hints l.entries l.image l.c l.tally × Listing l.initial.image l.hints l.entries l.initial.slots l.lists l.image l.c l.slots l.count

abbrev pub decreases-loop-k : goal.decreases-loop-k
decreases-loop-k l = length (rest l.hints l.c)
