-- The 32 cells of size, V and opc: a rule of all of them is one computed test.
use mathlib.Core.Path.{◌≡◌}
use mathlib.Core.Bool.{Bool, true}
use Prim.Native.Nat.{ℕ, ◌+◌, ◌*◌, ◌/◌, ◌%◌, ◌<◌}
use native.Mathlib.Omega.{arith}
use Rattle.util.specs.Bits.{field}
use Rattle.util.proofs.Below.{every, every-at}
use Rattle.arm64_insn.specs.Manual.{opc_in}

-- a test that holds of every cell holds of this one
pub each-cell : (f : ℕ → ℕ → ℕ → Bool) → every (λ k. f (k / 8) (k / 4 % 2) (k % 4)) 32 ≡ true
    → (size v opc : ℕ) → size < 4 → v < 2 → opc < 4 → f size v opc ≡ true
each-cell f e size v opc hs hv ho =
    let k = size * 8 + v * 4 + opc in
    let es : k / 8 ≡ size = omega arith in
    let ev : k / 4 % 2 ≡ v = omega arith in
    let eo : k % 4 ≡ opc = omega arith in
    rw (es, ev, eo) at (every-at (λ k. f (k / 8) (k / 4 % 2) (k % 4)) 32 e k (omega arith))

-- bit 23 is the high bit of opc
pub opc-high : (w : ℕ) → field w 23 1 ≡ opc_in w / 2
opc-high w = omega arith

-- bit 22 is the low one
pub opc-low : (w : ℕ) → field w 22 1 ≡ opc_in w % 2
opc-low w = omega arith
