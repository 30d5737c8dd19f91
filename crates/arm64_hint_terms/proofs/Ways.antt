-- What a sum, a fitting literal load and decoded operands tell.
use Rattle.std.specs.Prelude.{Result, Err, Option, Some, None}
use mathlib.Core.Path.{◌≡◌, refl}
use mathlib.Core.Bool.{true, ◌&&◌}
use Prim.Native.Nat.{ℕ, ◌+◌, ◌%◌, ◌^◌, ◌≤◌, ◌<◌}
use native.Mathlib.Nat.{mul-le-mul, div-le_self}
use native.Mathlib.Omega.{arith}
use borrow.Author.Tests.{ltb-true, eqb-true}
use lib.Dec.{eqb, ltb}
use Rattle.util.proofs.Choice.{split, both}
use Rattle.arm64_insn.specs.Reach.{within1mb}
use Rattle.arm64_insn.specs.Add.{add_of}
use Rattle.arm64_insn.specs.LoadStore.{load_store_of}
use Rattle.arm64_insn.specs.declared.add.Add.{Add}
use Rattle.arm64_hint_terms.specs.declared.answer.Plan.{Plan}
use Rattle.arm64_hint_terms.specs.declared.answer.NoRewrite.{NoRewrite}
use Rattle.arm64_hint_terms.specs.declared.answer.NoRewrite.TheVariants.{Nine}
use Rattle.arm64_insn.specs.declared.ldst.LoadStore.{LoadStore}
use Rattle.arm64_insn.specs.Literal.{has_literal_form, Rebased}
use Rattle.arm64_insn.proofs.Decoded.{decoded-add, decoded-load-store}
use Rattle.arm64_hint_terms.specs.Answer.{sum_of, summed, fits_literal}
use Rattle.arm64_hint_terms.specs.Operands.{Operands}

-- nothing comes of 0 and 1 being one
pub never : {P : Type 0} → ◌≡◌ {A = ℕ} 0 1 → P
never z = absurd (omega arith)

-- a sum that is given is the sum, and below 2^64
pub sum_is : (a b n : ℕ) → sum_of a b ≡ Some n → (n ≡ a + b) × (n < 2 ^ 64)
unfolding sum_of
sum_is a b n =
    split (λ (x : Option ℕ). x ≡ Some n → (n ≡ a + b) × (n < 2 ^ 64)) (ltb (a + b) (2 ^ 64)) (Some (a + b)) None
    (λ t e. let q : n ≡ a + b = cc in (q, omega (arith, ltb-true (a + b) (2 ^ 64) t)))
    (λ t e. never (cc))

-- a decision of a sum: nine, or what is decided of the sum, which is below 2^64
pub by-sum : (P : Result Plan NoRewrite → Type 0) (a b : ℕ) (f : ℕ → Result Plan NoRewrite) → P (Err Nine) → ((n : ℕ) → n ≡ a + b → n < 2 ^ 64 → P (f n)) → P (summed (sum_of a b) f)
unfolding sum_of
by-sum P a b f z g =
    split (λ (x : Option ℕ). P (summed x f)) (ltb (a + b) (2 ^ 64)) (Some (a + b)) None (λ e. g (a + b) refl (ltb-true (a + b) (2 ^ 64) e)) (λ e. z)

-- a literal load that fits
pub fits-is : (ld : LoadStore) (target pc : ℕ) → fits_literal ld target pc ≡ true
    → (has_literal_form ld ≡ true) × (target % 4 ≡ 0) × (within1mb pc target ≡ true)
unfolding fits_literal
fits-is ld target pc e =
    let f = both (has_literal_form ld && eqb (target % 4) 0) (within1mb pc target) e in
    let g = both (has_literal_form ld) (eqb (target % 4) 0) f.0 in
    (g.0, eqb-true (target % 4) 0 g.1, f.1)

-- a decoded ADD and a decoded access
pub operands : (x y : ℕ) (d : Add) (ls : LoadStore) → add_of x ≡ Some d → load_store_of y ≡ Some ls → Operands d ls
operands x y d ls ed el =
    let a = decoded-add x d ed in
    let l = decoded-load-store y ls el in
    let m : l.imm ≤ 4095 = omega (arith, l.room) in
    record {
      source = a.source;
      imm = a.immediate;
      register = l.register;
      base = l.base-register;
      some = l.some;
      offset = omega (arith, mul-le-mul m l.most, l.scaled);
    }
