-- The flags below 0x180 are those with no bit above 8 and not both of bits 7 and 8.
use mathlib.Core.Path.{◌≡◌, refl, sym}
use mathlib.Core.Bool.{Bool, true, false, not, ◌&&◌}
use Prim.Native.Nat.{ℕ, ◌^◌, ◌≤◌, ◌<◌}
use native.Mathlib.Omega.{arith}
use borrow.Author.Tests.{lt-ltb, eq-eqb, ne_eqb, ltb-true, ltb-false}
use lib.Dec.{eqb, ltb}
use Rattle.util.specs.Bits.{field, has_bit}
use Rattle.util.proofs.Choice.{and-true, and-false}
use Rattle.macho.specs.Resolved.{well_formed}
use Rattle.macho.proofs.resolved.Resolved.is_well_formed.Goals as goal

-- not both of the bits
apart : (f : ℕ) → f < 0x180 → (has_bit f 7 && has_bit f 8) ≡ false
apart f h = go (ltb f (2 ^ 8)) refl
  where
    go : (b : Bool) → ltb f (2 ^ 8) ≡ b → (has_bit f 7 && has_bit f 8) ≡ false
    go true e = let l = ltb-true f (2 ^ 8) e in simp (ne_eqb (field f 8 1) 1 (λ q. omega arith), and-false (has_bit f 7))
    go false e = let l = ltb-false f (2 ^ 8) e in simp (ne_eqb (field f 7 1) 1 (λ q. omega arith))

let_through : (f : ℕ) (z : Bool) → f < 0x180 → z ≡ (ltb f (2 ^ 9) && (z && not (has_bit f 7 && has_bit f 8)))
let_through f z h = rw (lt-ltb f (2 ^ 9) (omega arith), apart f h) (sym (and-true z))

-- both of them, or a bit above
turned_down : (f : ℕ) (z : Bool) → 0x180 ≤ f → (ltb f (2 ^ 9) && (z && not (has_bit f 7 && has_bit f 8))) ≡ false
turned_down f z h = go (ltb f (2 ^ 9)) refl
  where
    go : (b : Bool) → ltb f (2 ^ 9) ≡ b → (ltb f (2 ^ 9) && (z && not (has_bit f 7 && has_bit f 8))) ≡ false
    go true e =
        let l = ltb-true f (2 ^ 9) e in
        simp (e, eq-eqb (field f 7 1) 1 (omega arith), eq-eqb (field f 8 1) 1 (omega arith), and-false z)
    go false e = simp e

pub returns-then-self-ge384 : goal.returns-then-self-ge384
unfolding well_formed
returns-then-self-ge384 c =
    sym (turned_down c.args.self.flags (eqb c.args.self.zero 0) (omega (arith, c.if-self-ge384.true)))

pub returns : goal.returns
unfolding well_formed
returns c =
    let_through c.args.self.flags (eqb c.args.self.zero 0) (omega (arith, c.if-self-ge384.false))
