-- The scale of imm12 is at most 4, so the access size is a power of two up to 16.
use Rattle.std.specs.Prelude.{Result, Ok, Err}
use mathlib.Core.Path.{◌≡◌, subst}
use Prim.Native.Nat.{ℕ, ◌*◌, ◌%◌, ◌^◌, ◌≤◌}
use native.Mathlib.Omega.{arith}
use lib.Dec.{eqb, lit≤}
use lib.Pow.{pow_mono}
use Rattle.util.specs.Bits.{field}
use Rattle.util.specs.Diagram.{matches}
use Rattle.util.proofs.Choice.{chosen}
use Rattle.util.proofs.Shift.{one_shl}
use Rattle.arm64_insn.specs.Encoding.{load_store}
use Rattle.arm64_insn.specs.Fix.{scale_of, quad, offset_with}

pub scale-le : (x : ℕ) → scale_of x ≤ 4
unfolding scale_of
scale-le x = chosen P (matches load_store x) _ 0 (chosen P (matches quad x) 4 (field x 30 2) (lit≤ tt) (omega arith)) (lit≤ tt)
  where
    P : ℕ → Type 0
    P n = n ≤ 4

Small : Result ℕ ℕ → Type 0
Small (Ok w) = Unit {0}
Small (Err n) = n ≤ 16

-- the shifted one of the code
pub scaled : (x r : ℕ) → r ≡ scale_of x → (1 * 2 ^ r) % 2 ^ 64 ≡ 2 ^ scale_of x
scaled x r e = rw e (one_shl (scale_of x) (omega (arith, scale-le x)))

-- an access size that does not divide a target
pub misaligned-le : (x val n : ℕ) → offset_with x val ≡ Err n → n ≤ 16
unfolding offset_with Small
misaligned-le x val n e =
    subst Small e (chosen Small (eqb (val % 2 ^ scale_of x) 0) _ (Err (2 ^ scale_of x)) tt (pow_mono {i = scale_of x} {j = 4} (scale-le x)))
