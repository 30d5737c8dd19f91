-- `check_hints`: the hints before position k are fit, with whether their object numbers never fall; the first that is not fit ends the walk.
use Rattle.std.specs.Prelude.{Ok}
use mathlib.Core.Path.{◌≡◌}
use Rattle.arm64_hint_order.specs.Cursor.{object_at}
use Rattle.arm64_hint_order.specs.Walk.{grouped, last_of}
use Rattle.arm64_hint_check.specs.Check.{check_to}
use Rattle.arm64_hint_check.proofs.check_hints.Given as goal

abbrev pub invariant-loop-k : goal.invariant-loop-k
invariant-loop-k l = (check_to l.len l.count l.hints l.k ≡ Ok tt)
    × (l.grouped ≡ grouped (object_at l.hints) l.k)
    × (l.last ≡ last_of (object_at l.hints) l.k)
