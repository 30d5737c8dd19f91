-- `read_relocs` meets its contract: lengths and first walk decide the case (Lengths); a walk that counts is one that fills (Walk).
use mathlib.Core.Path.{sym, ◌∙◌}
use Rattle.arch.proofs.Walk.{fills_of, fit-room}
use Rattle.arch.proofs.reader.read_relocs.Goals as goal

pub fill_walk-requires : goal.fill_walk-requires
fill_walk-requires g c =
    let f = sym c.check_lengths.ensures ∙ c.in_ok-check_lengths.was in
    let d = sym c.in_ok-entries.was ∙ c.check_walk.ensures in
    (fills_of _ _ d, fit-room _ _ _ f)
