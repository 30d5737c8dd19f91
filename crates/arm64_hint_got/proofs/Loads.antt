-- What a GOT load tells of the words that it was decoded from: by a case on the decoded words and on the tests.
use Rattle.std.specs.Prelude.{Result, Ok, Err, Option, Some, None}
use mathlib.Core.Path.{◌≡◌, refl, sym, subst, ◌∙◌}
use mathlib.Core.Bool.{Bool, true, false, ◌&&◌, not}
use Prim.Native.Nat.{ℕ, ◌+◌, ◌^◌, ◌<◌}
use borrow.Author.Tests.{eqb-true, not-true}
use lib.Dec.{eqb}
use Rattle.util.proofs.Choice.{split, both}
use Rattle.arm64_insn.specs.Page.{adrp_page}
use Rattle.arm64_insn.specs.Adrp.{adrp_of}
use Rattle.arm64_insn.specs.Add.{add_of}
use Rattle.arm64_insn.specs.LoadStore.{load_store_of}
use Rattle.arm64_insn.specs.declared.adrp.Adrp.{Adrp}
use Rattle.arm64_hint_terms.specs.declared.answer.NoRewrite.{NoRewrite}
use Rattle.arm64_hint_got.specs.declared.GotLoad.{GotLoad}
use Rattle.arm64_hint_terms.specs.declared.answer.NoRewrite.TheVariants.{Declined, Nine}
use Rattle.arm64_hint_got.specs.declared.GotLoad.TheVariants.{Slot, Relaxed}
use Rattle.arm64_insn.specs.declared.add.Add.{Add}
use Rattle.arm64_insn.specs.declared.ldst.LoadStore.{LoadStore}
use Rattle.arm64_insn.specs.Literal.{has_literal_form}
use Rattle.arm64_insn.proofs.Decoded.{DecodedAdd, decoded-add, decoded-load-store}
use Rattle.arm64_hint_terms.proofs.Ways.{sum_is, operands}
use Rattle.arm64_hint_terms.specs.Answer.{sum_of}
use Rattle.arm64_hint_terms.specs.Operands.{Operands}
use Rattle.arm64_hint_got.specs.Got.{loads_slot, slot_at, relaxed_at, slot_load, relaxed_load, got_load_with, got_load}
use Rattle.arm64_hint_terms.specs.declared.answer.Insns.{Insns}

-- ADRP, and a load of a GOT slot through its register
pub record Loads (s : Insns) (slot : ℕ) (got : LoadStore) : Type 0 where
  pub adrp : Adrp
  pub first : adrp_of s.w0 ≡ Some adrp
  pub second : load_store_of s.w1 ≡ Some got
  pub loads : loads_slot got adrp.rd ≡ true
  pub made : slot ≡ adrp_page adrp.imm s.p0 + got.offset
  pub below : slot < 2 ^ 64

-- ADRP, and the ADD that a relaxed load became
pub record Makes (s : Insns) (target : ℕ) (d : Add) : Type 0 where
  pub adrp : Adrp
  pub first : adrp_of s.w0 ≡ Some adrp
  pub second : add_of s.w1 ≡ Some d
  pub source : d.rn ≡ adrp.rd
  pub made : target ≡ adrp_page adrp.imm s.p0 + d.imm
  pub below : target < 2 ^ 64

-- what a GOT load tells
abbrev pub Got : Insns → Result GotLoad NoRewrite → Type 0
Got s (Ok (Slot slot got)) = Loads s slot got
Got s (Ok (Relaxed target d)) = Makes s target d
Got s (Err Nine) = Unit {0}
Got s (Err Declined) = Unit {0}

slot-at : (s : Insns) (a : Adrp) (ld : LoadStore) → adrp_of s.w0 ≡ Some a → load_store_of s.w1 ≡ Some ld
    → loads_slot ld a.rd ≡ true → (m : Option ℕ) → sum_of (adrp_page a.imm s.p0) ld.offset ≡ m → Got s (slot_at ld m)
slot-at s a ld ea el t None em = tt
slot-at s a ld ea el t (Some n) em =
    let b = sum_is (adrp_page a.imm s.p0) ld.offset n em in
    record { adrp = a; first = ea; second = el; loads = t; made = b.0; below = b.1 }

relaxed-at : (s : Insns) (a : Adrp) (d : Add) → adrp_of s.w0 ≡ Some a → add_of s.w1 ≡ Some d
    → eqb d.rn a.rd ≡ true → (m : Option ℕ) → sum_of (adrp_page a.imm s.p0) d.imm ≡ m → Got s (relaxed_at d m)
relaxed-at s a d ea ed t None em = tt
relaxed-at s a d ea ed t (Some n) em =
    let b = sum_is (adrp_page a.imm s.p0) d.imm n em in
    record { adrp = a; first = ea; second = ed; source = eqb-true d.rn a.rd t; made = b.0; below = b.1 }

got-with : (s : Insns) (x : Option Adrp) (y : Option LoadStore) (z : Option Add)
    → adrp_of s.w0 ≡ x → load_store_of s.w1 ≡ y → add_of s.w1 ≡ z → Got s (got_load_with s x y z)
unfolding slot_load relaxed_load
got-with s None y z ex ey ez = tt
got-with s (Some a) (Some ld) z ex ey ez =
    split (Got s) (loads_slot ld a.rd) _ (Err Declined) (λ t. slot-at s a ld ex ey t (sum_of (adrp_page a.imm s.p0) ld.offset) refl) (λ t. tt)
got-with s (Some a) None (Some d) ex ey ez =
    split (Got s) (eqb d.rn a.rd) _ (Err Declined) (λ t. relaxed-at s a d ex ez t (sum_of (adrp_page a.imm s.p0) d.imm) refl) (λ t. tt)
got-with s (Some a) None None ex ey ez = tt

pub got : (s : Insns) (pair : Bool) → Got s (got_load s pair)
unfolding got_load
got s pair =
    split (Got s) pair _ (Err Declined) (λ t. got-with s (adrp_of s.w0) (load_store_of s.w1) (add_of s.w1) refl refl refl) (λ t. tt)

-- a load of a GOT slot moves 8 bytes into a general register
pub record EightBytes (ld : LoadStore) (rd : ℕ) : Type 0 where
  pub size : ld.size ≡ 8
  pub general : ld.is_float ≡ false
  pub loading : ld.is_store ≡ false
  pub base : ld.base ≡ rd
  pub form : has_literal_form ld ≡ true

pub eight-bytes : (ld : LoadStore) (rd : ℕ) → loads_slot ld rd ≡ true → EightBytes ld rd
unfolding loads_slot has_literal_form
eight-bytes ld rd e =
    let f = both (eqb ld.size 8 && not ld.is_float && not ld.is_store) (eqb ld.base rd) e in
    let g = both (eqb ld.size 8 && not ld.is_float) (not ld.is_store) f.0 in
    let h = both (eqb ld.size 8) (not ld.is_float) g.0 in
    let s = eqb-true ld.size 8 h.0 in
    record {
      size = s;
      general = not-true ld.is_float h.1;
      loading = not-true ld.is_store g.1;
      base = eqb-true ld.base rd f.1;
      form = rw (s, g.1);
    }

pub slot-register : (s : Insns) (pair : Bool) (slot : ℕ) (ld : LoadStore) (r : Result GotLoad NoRewrite) → r ≡ got_load s pair → r ≡ Ok (Slot slot ld) → ld.reg < 32
slot-register s pair slot ld r e f =
    let w = subst (Got s) (sym e ∙ f) (got s pair) in
    (decoded-load-store s.w1 ld w.second).register

pub relaxed-add : (s : Insns) (pair : Bool) (target : ℕ) (d : Add) (r : Result GotLoad NoRewrite) → r ≡ got_load s pair → r ≡ Ok (Relaxed target d) → DecodedAdd d
relaxed-add s pair target d r e f =
    let w = subst (Got s) (sym e ∙ f) (got s pair) in
    decoded-add s.w1 d w.second

pub relaxed-operands : (s : Insns) (pair : Bool) (target : ℕ) (d : Add) (r : Result GotLoad NoRewrite) → r ≡ got_load s pair → r ≡ Ok (Relaxed target d)
    → (y : ℕ) (ls : LoadStore) → load_store_of y ≡ Some ls → Operands d ls
relaxed-operands s pair target d r e f y ls g =
    let w = subst (Got s) (sym e ∙ f) (got s pair) in
    operands s.w1 y d ls w.second g
