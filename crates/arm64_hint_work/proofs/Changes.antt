-- A place is written once or not at all: by the two cases of a new word.
use Rattle.std.specs.Prelude.{ℕ, Option, Some, None}
use Prim.Native.Nat.{◌≤◌}
use native.Mathlib.Omega.{arith}
use Rattle.arm64_hint_work.specs.Acted.{changed_at}

-- a place is written once or not at all
pub at_most_one : (w : Option ℕ) → changed_at w ≤ 1
at_most_one None = omega arith
at_most_one (Some w) = omega arith
