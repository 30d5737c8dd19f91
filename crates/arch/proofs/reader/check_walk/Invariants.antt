-- `check_walk` meets its contract: what is left to read, counted on from here, is the answer; a turn is `check-next` or `check-stopped` of Walk.
use mathlib.Core.Path.{◌≡◌}
use Prim.Native.Nat.{◌≤◌, ◌-◌}
use Rattle.arch.specs.Table.{record_count}
use Rattle.arch.specs.Walk.{answer_of}
use Rattle.arch.specs.Reader.{read_table}
use Rattle.arch.proofs.Walk.{Rest, counted}
use Rattle.arch.proofs.reader.check_walk.Given as goal

abbrev pub invariant-loop-i : goal.invariant-loop-i
invariant-loop-i g l =
    let step = g.M.Machine.step l.machine l.lent in
    (l.count ≤ l.i) × (counted l.count (Rest step (record_count l.lent.records.now) l.count l.i) ≡ answer_of (read_table step l.lent))

abbrev pub decreases-loop-i : goal.decreases-loop-i
decreases-loop-i g l = record_count l.lent.records.now - l.i
