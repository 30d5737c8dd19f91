-- What an entry does, type by type: the tests of its type decide the definition.
use Rattle.std.specs.Prelude.{Option, None}
use mathlib.Core.Path.{◌≡◌, refl, ap, ◌∙◌}
use mathlib.Core.Bool.{Bool, true, false}
use mathlib.Core.Logic.{⊎_elim}
use Prim.Native.Nat.{ℕ}
use lib.Dec.{eqb}
use Rattle.util.specs.Choice.{choose}
use Rattle.macho.specs.Types.{ARM64_RELOC_UNSIGNED, ARM64_RELOC_SUBTRACTOR, ARM64_RELOC_BRANCH26, ARM64_RELOC_PAGE21, ARM64_RELOC_PAGEOFF12}
use Rattle.macho.specs.Types.{ARM64_RELOC_GOT_LOAD_PAGE21, ARM64_RELOC_GOT_LOAD_PAGEOFF12, ARM64_RELOC_POINTER_TO_GOT, ARM64_RELOC_TLVP_LOAD_PAGE21}
use Rattle.macho.specs.Types.{ARM64_RELOC_TLVP_LOAD_PAGEOFF12, ARM64_RELOC_AUTHENTICATED_POINTER}
use Rattle.macho.specs.Resolved.{has_address, can_relax_got, has_helper}
use Rattle.macho.specs.declared.reloc.Reloc.{Reloc}
use Rattle.macho.specs.declared.resolved.Resolved.{Resolved}
use Rattle.arm64_insn.specs.Fix.{offset_with}
use Rattle.arm64_fixup_entry.specs.Target.{imported_symbol, address_of, target_of, slot_of, got_target, width_of}
use Rattle.arm64_fixup_entry.specs.Change.{silent, unsigned_value, authenticated_value, authenticated_change, subtractor_value, difference, dtrace_site_insn, branch, branch_unless}
use Rattle.arm64_fixup_entry.specs.Change.{page21, fitted, pageoff12, got_page21, got_pageoff12, pointer_to_got, word_change, change_of}
use Rattle.arm64_fixup_entry.specs.Roles.{Page, page, got-page, tlv-page, GotOffset, Offset, offset, got-offset}
use Rattle.arm64_fixup_entry.specs.declared.target.Bases.{Bases}
use Rattle.arm64_fixup_entry.specs.declared.change.Site.{Site}
use Rattle.arm64_fixup_entry.specs.declared.change.Change.{Change}
use Rattle.arm64_fixup_entry.specs.declared.change.Write.TheVariants.{Word, Pointer}

-- entry i's number and P
abbrev pub site_of : Bases → ℕ → Reloc → Site
site_of b i e = record { entry = i; addr = address_of b e }

module _ (b : Bases) (i : ℕ) (e : Reloc) (t : Resolved) (next : Reloc) (next_target : Resolved) (word : ℕ) where
  pub unsigned-does : e.ty ≡ ARM64_RELOC_UNSIGNED → imported_symbol e t ≡ false
      → change_of b i e t next next_target word ≡ silent (Pointer (unsigned_value b e t))
  unfolding change_of width_of choose
  unsigned-does h s = rw (h, s)

  pub authenticated-does : e.ty ≡ ARM64_RELOC_AUTHENTICATED_POINTER → imported_symbol e t ≡ false
      → change_of b i e t next next_target word ≡ silent (Pointer (authenticated_value b e t))
  unfolding change_of width_of choose
  authenticated-does h s = rw (h, s)

  -- of an imported symbol, too
  pub authenticated-is : e.ty ≡ ARM64_RELOC_AUTHENTICATED_POINTER → change_of b i e t next next_target word ≡ authenticated_change b e t
  unfolding change_of authenticated_change width_of choose
  authenticated-is h = go (imported_symbol e t) refl
    where
      go : (x : Bool) → imported_symbol e t ≡ x → change_of b i e t next next_target word ≡ authenticated_change b e t
      go true s = rw (h, s)
      go false s = rw (h, s)

  pub subtractor-does : e.ty ≡ ARM64_RELOC_SUBTRACTOR → change_of b i e t next next_target word ≡ difference e (subtractor_value t next next_target)
  unfolding change_of width_of choose
  subtractor-does h = rw h (go (eqb e.size 4) _ _)
    where
      go : (q : Bool) (a c : Change) → choose (eqb (choose q 4 8) 0) a c ≡ c
      go true a c = refl
      go false a c = refl

  pub branch-does : e.ty ≡ ARM64_RELOC_BRANCH26
      → change_of b i e t next next_target word ≡ branch_unless (dtrace_site_insn e t) (branch (site_of b i e) e t word)
  unfolding change_of word_change width_of choose
  branch-does h = rw h

  pub page-does : e.ty ≡ ARM64_RELOC_PAGE21 → has_address t ≡ true → change_of b i e t next next_target word ≡ page21 (site_of b i e) (target_of e t) word
  unfolding change_of word_change width_of choose
  page-does h a = rw (h, a)

  pub offset-does : e.ty ≡ ARM64_RELOC_PAGEOFF12 → has_address t ≡ true → change_of b i e t next next_target word ≡ pageoff12 (site_of b i e) (target_of e t) word
  unfolding change_of word_change width_of choose
  offset-does h a = rw (h, a)

  pub got-page-does : e.ty ≡ ARM64_RELOC_GOT_LOAD_PAGE21 → change_of b i e t next next_target word ≡ got_page21 (site_of b i e) e t word
  unfolding change_of word_change width_of choose
  got-page-does h = rw h

  pub tlv-page-does : e.ty ≡ ARM64_RELOC_TLVP_LOAD_PAGE21 → change_of b i e t next next_target word ≡ page21 (site_of b i e) (got_target e t) word
  unfolding change_of word_change width_of choose
  tlv-page-does h = rw h

  pub got-offset-does : e.ty ≡ ARM64_RELOC_GOT_LOAD_PAGEOFF12 → change_of b i e t next next_target word ≡ got_pageoff12 (site_of b i e) e t word
  unfolding change_of word_change width_of choose
  got-offset-does h = rw h

  pub tlv-offset-does : e.ty ≡ ARM64_RELOC_TLVP_LOAD_PAGEOFF12 → change_of b i e t next next_target word ≡ got_pageoff12 (site_of b i e) e t word
  unfolding change_of word_change width_of choose
  tlv-offset-does h = rw h

  pub pointer-does : e.ty ≡ ARM64_RELOC_POINTER_TO_GOT → change_of b i e t next next_target word ≡ silent (Word (pointer_to_got (site_of b i e) e t))
  unfolding change_of word_change width_of choose
  pointer-does h = rw h

-- BRANCH26 at no tracing site
pub branch-untraced : (b : Bases) (i : ℕ) (e : Reloc) (t : Resolved) (next : Reloc) (next_target : Resolved) (word : ℕ) → e.ty ≡ ARM64_RELOC_BRANCH26
    → dtrace_site_insn e t ≡ None → change_of b i e t next next_target word ≡ branch (site_of b i e) e t word
branch-untraced b i e t next next_target word h d =
    branch-does b i e t next next_target word h ∙ ap (λ (x : Option ℕ). branch_unless x (branch (site_of b i e) e t word)) d

-- by role
helperless : (s : Site) (e : Reloc) (t : Resolved) (word : ℕ) → has_helper t ≡ false → got_page21 s e t word ≡ page21 s (got_target e t) word
unfolding got_page21 choose
helperless s e t word h = rw h

pub page-does-it : (b : Bases) (i : ℕ) (e : Reloc) (t : Resolved) (next : Reloc) (next_target : Resolved) (word : ℕ) {target : ℕ} → Page e t target
    → change_of b i e t next next_target word ≡ page21 (site_of b i e) target word
page-does-it b i e t next next_target word (page h a) = page-does b i e t next next_target word h a
page-does-it b i e t next next_target word (got-page h n) = got-page-does b i e t next next_target word h ∙ helperless _ e t word n
page-does-it b i e t next next_target word (tlv-page h) = tlv-page-does b i e t next next_target word h

unrelaxed : (s : Site) (e : Reloc) (t : Resolved) (word : ℕ) → can_relax_got t ≡ false → got_pageoff12 s e t word ≡ pageoff12 s (slot_of e t) word
unfolding got_pageoff12 choose
unrelaxed s e t word h = rw h

pub got-offset-does-it : (b : Bases) (i : ℕ) (e : Reloc) (t : Resolved) (next : Reloc) (next_target : Resolved) (word : ℕ) → GotOffset e
    → change_of b i e t next next_target word ≡ got_pageoff12 (site_of b i e) e t word
got-offset-does-it b i e t next next_target word =
    ⊎_elim (got-offset-does b i e t next next_target word) (tlv-offset-does b i e t next next_target word)

pub offset-does-it : (b : Bases) (i : ℕ) (e : Reloc) (t : Resolved) (next : Reloc) (next_target : Resolved) (word : ℕ) {target : ℕ} → Offset e t target
    → change_of b i e t next next_target word ≡ fitted (site_of b i e) (offset_with word target)
unfolding pageoff12
offset-does-it b i e t next next_target word (offset h a) = offset-does b i e t next next_target word h a
offset-does-it b i e t next next_target word (got-offset g n) = got-offset-does-it b i e t next next_target word g ∙ unrelaxed _ e t word n
