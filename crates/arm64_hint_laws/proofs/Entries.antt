-- Of an entry a decision takes type, target and addend: entries that agree in these decide the same. Carried by equal tests of the entries.
use Rattle.std.specs.Prelude.{Option, Some, None}
use mathlib.Core.Path.{◌≡◌, refl}
use mathlib.Core.Bool.{Bool, true, false}
use Prim.Native.Nat.{ℕ}
use Rattle.macho.specs.declared.reloc.Reloc.{Reloc}
use Rattle.arm64_hint_terms.specs.Rels.{is_page_rel, is_pageoff_rel, same_reference, is_absent, has_page_pair, both_pages}
use Rattle.arm64_hint_terms.specs.declared.answer.Insns.{Insns}
use Rattle.arm64_hint_terms.specs.declared.rels.Rels.{Rels}
use Rattle.arm64_hint_laws.specs.Decide.{by_rule, decide}

-- entries that agree in type, target and addend
pub record AlikeEntry (a b : Reloc) : Type 0 where
  pub type : a.ty ≡ b.ty
  pub target : a.target ≡ b.target
  pub addend : a.addend ≡ b.addend

-- neither place has an entry, or both have alike ones
pub data SameRel : Option Reloc → Option Reloc → Type 0 where
  neither : SameRel None None
  both : {a b : Reloc} → AlikeEntry a b → SameRel (Some a) (Some b)

-- ---- what the entries say

same-page : {a b : Option Reloc} → SameRel a b → (got : Bool) → is_page_rel a got ≡ is_page_rel b got
unfolding is_page_rel
same-page neither got = refl
same-page (both e) got = rw e.type

same-pageoff : {a b : Option Reloc} → SameRel a b → (got : Bool) → is_pageoff_rel a got ≡ is_pageoff_rel b got
unfolding is_pageoff_rel
same-pageoff neither got = refl
same-pageoff (both e) got = rw e.type

same-absent : {a b : Option Reloc} → SameRel a b → is_absent a ≡ is_absent b
unfolding is_absent
same-absent neither = refl
same-absent (both e) = refl

same-reference : {a b c d : Option Reloc} → SameRel a b → SameRel c d → same_reference a c ≡ same_reference b d
unfolding same_reference
same-reference neither neither = refl
same-reference neither (both f) = refl
same-reference (both e) neither = refl
same-reference (both e) (both f) = rw (e.target, e.addend, f.target, f.addend)

module _ (r q : Rels) (first : SameRel r.r0 q.r0) (second : SameRel r.r1 q.r1) (third : SameRel r.r2 q.r2) where
  same-pair : (n : ℕ) (got : Bool) → has_page_pair r n got ≡ has_page_pair q n got
  unfolding has_page_pair
  same-pair n got = rw (same-page first got, same-pageoff second got, same-reference first second, same-absent third)

  same-pages : both_pages r ≡ both_pages q
  unfolding both_pages
  same-pages = rw (same-page first false, same-page second false)

  pub same-decision : (kind : ℕ) (s : Insns) → decide kind s r ≡ decide kind s q
  unfolding decide by_rule
  same-decision kind s = rw (same-pages, same-pair 2 false, same-pair 3 false, same-pair 3 true, same-pair 2 true)
