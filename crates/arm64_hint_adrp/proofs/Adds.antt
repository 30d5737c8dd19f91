-- What ADRP, ADD and an access tell of the words that they were decoded from: by a case on the decoded words and on the tests.
use Rattle.std.specs.Prelude.{Result, Ok, Err, Option, Some, None}
use mathlib.Core.Path.{◌≡◌, refl, sym, ap, ◌∙◌}
use mathlib.Core.Bool.{Bool, true, ◌&&◌}
use Prim.Native.Nat.{ℕ, ◌+◌, ◌^◌, ◌<◌}
use native.Mathlib.Omega.{arith}
use borrow.Author.Tests.{eqb-true}
use lib.Dec.{eqb}
use Rattle.util.proofs.Choice.{split, both}
use Rattle.arm64_insn.specs.Page.{adrp_page}
use Rattle.arm64_insn.specs.Adrp.{adrp_of}
use Rattle.arm64_insn.specs.Add.{add_of}
use Rattle.arm64_insn.specs.LoadStore.{load_store_of}
use Rattle.arm64_insn.specs.declared.adrp.Adrp.{Adrp}
use Rattle.arm64_hint_terms.specs.declared.answer.NoRewrite.{NoRewrite}
use Rattle.arm64_hint_terms.specs.declared.answer.NoRewrite.TheVariants.{Declined}
use Rattle.arm64_insn.specs.declared.add.Add.{Add}
use Rattle.arm64_insn.specs.declared.ldst.LoadStore.{LoadStore}
use Rattle.arm64_hint_terms.proofs.Ways.{never, sum_is, operands}
use Rattle.arm64_hint_terms.specs.Answer.{sum_of}
use Rattle.arm64_hint_terms.specs.Operands.{Operands}
use Rattle.arm64_hint_adrp.specs.Three.{through_at, add_access, through_with, through}
use Rattle.arm64_hint_terms.specs.declared.answer.Insns.{Insns}

-- ADRP, ADD to its register, and an access through what the ADD made
pub record Adds (s : Insns) (addr : ℕ) (d : Add) (ls : LoadStore) : Type 0 where
  pub adrp : Adrp
  pub first : adrp_of s.w0 ≡ Some adrp
  pub second : add_of s.w1 ≡ Some d
  pub third : load_store_of s.w2 ≡ Some ls
  pub source : d.rn ≡ adrp.rd
  pub base : ls.base ≡ d.rd
  pub made : addr ≡ adrp_page adrp.imm s.p0 + d.imm
  pub below : addr < 2 ^ 64

adds-with : (s : Insns) (addr : ℕ) (d : Add) (ls : LoadStore) (x : Option Adrp) (y : Option Add) (z : Option LoadStore)
    → adrp_of s.w0 ≡ x → add_of s.w1 ≡ y → load_store_of s.w2 ≡ z → through_with s x y z ≡ Ok (addr, d, ls) → Adds s addr d ls
unfolding add_access
adds-with s addr d ls None y z ex ey ez e = never (cc)
adds-with s addr d ls (Some a) None z ex ey ez e = never (cc)
adds-with s addr d ls (Some a) (Some d') None ex ey ez e = never (cc)
adds-with s addr d ls (Some a) (Some d') (Some ls') ex ey ez e =
    split (λ (x : Result (ℕ × Add × LoadStore) NoRewrite). x ≡ Ok (addr, d, ls) → Adds s addr d ls) (eqb d'.rn a.rd && eqb ls'.base d'.rd) _ (Err Declined)
    (λ t. at (both (eqb d'.rn a.rd) (eqb ls'.base d'.rd) t) (sum_of (adrp_page a.imm s.p0) d'.imm) refl)
    (λ t e. never (cc))
    e
  where
    at : (eqb d'.rn a.rd ≡ true) × (eqb ls'.base d'.rd ≡ true)
        → (m : Option ℕ) → sum_of (adrp_page a.imm s.p0) d'.imm ≡ m → through_at d' ls' m ≡ Ok (addr, d, ls) → Adds s addr d ls
    at t None em e = never (cc)
    at t (Some n) em e =
        let q : ◌≡◌ {A = ℕ × Add × LoadStore} (n, d', ls') (addr, d, ls) = cc in
        let en : n ≡ addr = ap (λ (p : ℕ × Add × LoadStore). p.0) q in
        let ed : d' ≡ d = ap (λ (p : ℕ × Add × LoadStore). p.1) q in
        let el : ls' ≡ ls = ap (λ (p : ℕ × Add × LoadStore). p.2) q in
        let b = sum_is (adrp_page a.imm s.p0) d'.imm n em in
        record {
          adrp = a;
          first = ex;
          second = cc;
          third = cc;
          source = cc (eqb-true d'.rn a.rd t.0);
          base = cc (eqb-true ls'.base d'.rd t.1);
          made = cc b.0;
          below = omega (arith, b.1);
        }

pub adds : (s : Insns) (pair : Bool) (addr : ℕ) (d : Add) (ls : LoadStore) → through s pair ≡ Ok (addr, d, ls) → Adds s addr d ls
unfolding through
adds s pair addr d ls =
    split (λ (x : Result (ℕ × Add × LoadStore) NoRewrite). x ≡ Ok (addr, d, ls) → Adds s addr d ls) pair _ (Err Declined)
    (λ t. adds-with s addr d ls (adrp_of s.w0) (add_of s.w1) (load_store_of s.w2) refl refl refl)
    (λ t e. never (cc))

-- what callers of the rewrites need, of the result r of a stage
pub adds-operands : (s : Insns) (pair : Bool) (addr : ℕ) (d : Add) (ls : LoadStore) (r : Result (ℕ × Add × LoadStore) NoRewrite)
    → r ≡ through s pair → r ≡ Ok (addr, d, ls) → Operands d ls
adds-operands s pair addr d ls r e f =
    let w = adds s pair addr d ls (sym e ∙ f) in
    operands s.w1 s.w2 d ls w.second w.third
