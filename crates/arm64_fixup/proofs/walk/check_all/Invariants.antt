-- `check_all` meets its contract: the entries before i pass, and entry i is one that is worked; a turn is `check-again` or `check-refused` of Turns.
use Rattle.std.specs.Prelude.{Ok}
use mathlib.Core.Path.{◌≡◌}
use mathlib.Core.Bool.{false}
use Prim.Native.Nat.{◌-◌, ◌≤◌}
use Rattle.arm64_fixup.specs.Walk.{entry_count, consumed, check_to}
use Rattle.arm64_fixup.proofs.walk.check_all.Given as goal

abbrev pub invariant-loop-i : goal.invariant-loop-i
invariant-loop-i l = (l.i ≤ entry_count l.entries) × (consumed l.entries l.i ≡ false) × (check_to l.len l.bases l.entries l.targets l.i ≡ Ok tt)

abbrev pub decreases-loop-i : goal.decreases-loop-i
decreases-loop-i l = entry_count l.entries - l.i
