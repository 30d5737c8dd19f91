-- A bit as a test and as a number.
use Rattle.std.proofs.Common.{◌≡◌, ℕ, zero, suc, ◌<◌, Bool, true, false, eqb, refl, arith, lit<}
use mir.Val.{bool_byte}
use Rattle.util.specs.Choice.{flag}

-- a test cast to a number
pub cast-flag : (b : Bool) → (bool_byte b ≡ flag b) × (flag b < 2)
cast-flag true = (refl, lit< tt)
cast-flag false = (refl, lit< tt)

-- the test of a bit, cast back
pub cast-bit : (x : ℕ) → x < 2 → bool_byte (eqb x 1) ≡ x
cast-bit zero h = refl
cast-bit (suc zero) h = refl
cast-bit (suc (suc x)) h = absurd (omega arith)
