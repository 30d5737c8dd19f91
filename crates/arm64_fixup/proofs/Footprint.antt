-- Which bytes a fix-up changes, and by which entry: an entry writes in its footprint; a byte that no entry writes stays; bytes that only entry k
-- writes end as entry k's step on the lent bytes leaves them.
use mathlib.Core.Path.{◌≡◌, refl, ap, ◌∙◌}
use mathlib.Core.Bool.{true, false}
use mathlib.Core.List.{List}
use mathlib.Core.Logic.{◌⊎◌, ⊎_elim}
use Prim.Native.Nat.{ℕ, ◌+◌, ◌≤◌, ◌<◌}
use native.Mathlib.Omega.{arith}
use lib.ListN.{get_or}
use Rattle.util.specs.Choice.{choose}
use Rattle.util.specs.Word.{le}
use Rattle.util.proofs.Word.{le-ext}
use Rattle.macho.specs.Types.{ARM64_RELOC_UNSIGNED, ARM64_RELOC_PAGE21, ARM64_RELOC_PAGEOFF12, ARM64_RELOC_AUTHENTICATED_POINTER}
use Rattle.macho.specs.Resolved.{has_address}
use Rattle.macho.specs.declared.reloc.Reloc.{Reloc}
use Rattle.macho.specs.declared.resolved.Resolved.{Resolved}
use Rattle.arm64_fixup_entry.specs.Target.{imported_symbol, width_of}
use Rattle.arm64_fixup.specs.Walk.{entry_count, stored, Fixed, change_at}
use Rattle.arm64_fixup.specs.Footprint.{offset_at, width_at, Touches, Writes, Alone}
use Rattle.arm64_fixup.specs.Answer.{Outcome, refused, fixed, outcome_of, section_after}
use Rattle.arm64_fixup_entry.specs.declared.target.Bases.{Bases}
use Rattle.arm64_fixup.proofs.Bytewise.{from_start, written-fits, touched-worked, only-it}
use Rattle.arm64_fixup.proofs.Whole.{accepts}

-- an imported symbol's UNSIGNED and AUTHENTICATED_POINTER, and PAGE21 and PAGEOFF12 without an address, have no footprint
pub imported-width : (e : Reloc) (t : Resolved) → (e.ty ≡ ARM64_RELOC_UNSIGNED) ⊎ (e.ty ≡ ARM64_RELOC_AUTHENTICATED_POINTER) → imported_symbol e t ≡ true
    → width_of e t ≡ 0
unfolding width_of choose
imported-width e t h i = ⊎_elim plain authenticated h
  where
    plain : e.ty ≡ ARM64_RELOC_UNSIGNED → width_of e t ≡ 0
    plain q = rw (q, i)

    authenticated : e.ty ≡ ARM64_RELOC_AUTHENTICATED_POINTER → width_of e t ≡ 0
    authenticated q = rw (q, i)

pub unaddressed-width : (e : Reloc) (t : Resolved) → (e.ty ≡ ARM64_RELOC_PAGE21) ⊎ (e.ty ≡ ARM64_RELOC_PAGEOFF12) → has_address t ≡ false
    → width_of e t ≡ 0
unfolding width_of choose
unaddressed-width e t h a = ⊎_elim page offset h
  where
    page : e.ty ≡ ARM64_RELOC_PAGE21 → width_of e t ≡ 0
    page q = rw (q, a)

    offset : e.ty ≡ ARM64_RELOC_PAGEOFF12 → width_of e t ≡ 0
    offset q = rw (q, a)

module _ (section : List ℕ) (b : Bases) (entries targets slots : List ℕ) where
  -- what an entry writes lies in its footprint
  pub writes-touch : (i p : ℕ) → Writes section b entries targets i p → Touches entries targets i p
  writes-touch i p w = (w.0, omega (arith, w.1, written-fits section b entries targets i))

  -- so an entry whose footprint meets no other is alone
  pub apart-alone : (k : ℕ) → ((i p : ℕ) → i < entry_count entries → (i ≡ k → ⊥) → Touches entries targets k p → Touches entries targets i p → ⊥)
      → Alone section b entries targets k
  apart-alone k apart i p l ne t w = apart i p l ne t (writes-touch i p w)

  -- bytes that no entry writes stay, whatever the call answers
  pub unwritten : (p : ℕ) → ((i : ℕ) → i < entry_count entries → Writes section b entries targets i p → ⊥)
      → get_or (section_after (outcome_of section b entries targets slots) section) p 0 ≡ get_or section p 0
  unwritten p h = go (outcome_of section b entries targets slots) refl
    where
      go : (o : Outcome) → outcome_of section b entries targets slots ≡ o → get_or (section_after o section) p 0 ≡ get_or section p 0
      go (refused r) e = refl
      go (fixed f) e =
          ap (λ (g : Fixed). get_or g.section p 0) (accepts section b entries targets slots e).work
          ∙ from_start section b entries targets (entry_count entries) p h

  module _ {f : Fixed} (accepted : outcome_of section b entries targets slots ≡ fixed f) (k : ℕ) (below : k < entry_count entries) where
    -- a byte of entry k's footprint, which no entry before it wrote in, ends as its step on the lent bytes leaves it, unless a later entry writes it
    pub last_written : ((j p : ℕ) → j < k → Touches entries targets k p → Writes section b entries targets j p → ⊥)
        → (p : ℕ) → Touches entries targets k p → ((j : ℕ) → k < j → j < entry_count entries → Writes section b entries targets j p → ⊥)
        → get_or f.section p 0 ≡ get_or (stored section (offset_at entries k) (change_at b entries targets section k).write) p 0
    last_written before p t after =
        let a = accepts section b entries targets slots accepted in
        ap (λ (g : Fixed). get_or g.section p 0) a.work
        ∙ only-it section b entries targets k below a.fit before (touched-worked entries targets k (omega arith)) p t after

    module _ (alone : Alone section b entries targets k) where
      -- bytes that only entry k writes end as its step on the lent bytes leaves them
      pub only : (p : ℕ) → Touches entries targets k p
          → get_or f.section p 0 ≡ get_or (stored section (offset_at entries k) (change_at b entries targets section k).write) p 0
      only p t =
          last_written (λ j q l u w. alone j q (omega arith) (λ e. omega arith) u w) p t
          (λ j g l w. alone j p l (λ e. omega arith) t w)

      -- and so do its words
      pub only-word : (n : ℕ) → n ≤ width_at entries targets k
          → le n f.section (offset_at entries k)
          ≡ le n (stored section (offset_at entries k) (change_at b entries targets section k).write) (offset_at entries k)
      only-word n h = le-ext n _ _ (offset_at entries k) (offset_at entries k) (λ j l. only (offset_at entries k + j) (omega arith, omega arith))
