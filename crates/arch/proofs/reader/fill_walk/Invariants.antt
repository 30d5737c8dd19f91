-- `fill_walk` meets its contract: what is left to read, stored on from here, makes the slots after; a turn is `fill-read` and `fill-stored` of Walk.
use mathlib.Core.Path.{◌≡◌}
use Prim.Native.Nat.{◌≤◌, ◌-◌}
use lib.ListN.{length}
use Rattle.arch.specs.Table.{record_count}
use Rattle.arch.specs.Walk.{Fills, slots_after}
use Rattle.arch.specs.Reader.{read_table}
use Rattle.arch.proofs.Walk.{Rest, stored}
use Rattle.arch.proofs.reader.fill_walk.Given as goal

abbrev pub invariant-loop-i : goal.invariant-loop-i
invariant-loop-i g l =
    let step = g.M.Machine.step l.machine l.lent in
    let rest = Rest step (record_count l.lent.records.now) l.count l.i in
    (l.count ≤ l.i)
    × Fills rest
    × (stored l.count rest l.slots ≡ slots_after (read_table step l.lent) l.initial.slots)
    × (length l.slots ≡ length l.initial.slots)

abbrev pub decreases-loop-i : goal.decreases-loop-i
decreases-loop-i g l = record_count l.lent.records.now - l.i
