-- The image base is taken off authenticated pointers alone: where each among the worked entries is of an imported symbol it decides nothing.
use mathlib.Core.Path.{◌≡◌, refl, ap₂}
use mathlib.Core.Bool.{Bool, true, false}
use mathlib.Core.List.{List}
use mathlib.Core.Logic.{inr}
use Prim.Native.Nat.{ℕ, zero, suc, ◌≤◌, ◌<◌}
use native.Mathlib.Omega.{arith}
use borrow.Author.Tests.{eqb-true}
use lib.Dec.{eqb}
use lib.ListN.{length}
use Rattle.util.specs.Choice.{choose}
use Rattle.macho.specs.Refusal.{first}
use Rattle.macho.specs.Types.{ARM64_RELOC_AUTHENTICATED_POINTER}
use Rattle.macho.specs.declared.reloc.Reloc.{Reloc}
use Rattle.macho.specs.declared.resolved.Resolved.{Resolved}
use Rattle.arm64_fixup_entry.specs.Target.{imported_symbol}
use Rattle.arm64_fixup_entry.specs.Check.{check_of}
use Rattle.arm64_fixup_entry.specs.Change.{unsigned_value, change_of}
use Rattle.arm64_fixup.specs.Walk.{lent_entry, lent_target, entry_count, consumed, check_at, check_to, Fixed, work_at, fix_to}
use Rattle.arm64_fixup.specs.Answer.{bases_of, outcome_of}
use Rattle.arm64_fixup.proofs.Footprint.{imported-width}

module _ (base tls image image' : ℕ) where
  -- of one entry that is no authenticated pointer, or one of an imported symbol
  check-image : (len : ℕ) (e : Reloc) (t : Resolved) (last : Bool) → (e.ty ≡ ARM64_RELOC_AUTHENTICATED_POINTER → imported_symbol e t ≡ true)
      → check_of len (bases_of base tls image) e t last ≡ check_of len (bases_of base tls image') e t last
  unfolding check_of
  check-image len e t last h = go (eqb e.ty ARM64_RELOC_AUTHENTICATED_POINTER) refl
    where
      go : (x : Bool) → eqb e.ty ARM64_RELOC_AUTHENTICATED_POINTER ≡ x
          → check_of len (bases_of base tls image) e t last ≡ check_of len (bases_of base tls image') e t last
      go true x = rw (x, h (eqb-true e.ty ARM64_RELOC_AUTHENTICATED_POINTER x))
      go false x = rw x

  change-image : (i : ℕ) (e : Reloc) (t : Resolved) (next : Reloc) (next_target : Resolved) (word : ℕ)
      → (e.ty ≡ ARM64_RELOC_AUTHENTICATED_POINTER → imported_symbol e t ≡ true)
      → change_of (bases_of base tls image) i e t next next_target word ≡ change_of (bases_of base tls image') i e t next next_target word
  unfolding change_of unsigned_value choose
  change-image i e t next next_target word h = go (eqb e.ty ARM64_RELOC_AUTHENTICATED_POINTER) refl
    where
      go : (x : Bool) → eqb e.ty ARM64_RELOC_AUTHENTICATED_POINTER ≡ x
          → change_of (bases_of base tls image) i e t next next_target word ≡ change_of (bases_of base tls image') i e t next next_target word
      go true x =
          let type = eqb-true e.ty ARM64_RELOC_AUTHENTICATED_POINTER x in
          rw (imported-width e t (inr type) (h type))
      go false x = rw x

  module _ (section entries targets : List ℕ)
      (none : (i : ℕ) → i < entry_count entries → consumed entries i ≡ false → (lent_entry entries i).ty ≡ ARM64_RELOC_AUTHENTICATED_POINTER
      → imported_symbol (lent_entry entries i) (lent_target targets i) ≡ true)
    where
      check-at : (i : ℕ) → i < entry_count entries
          → check_at (length section) (bases_of base tls image) entries targets i ≡ check_at (length section) (bases_of base tls image') entries targets i
      unfolding check_at choose
      check-at i l = go (consumed entries i) refl
        where
          go : (x : Bool) → consumed entries i ≡ x
              → check_at (length section) (bases_of base tls image) entries targets i ≡ check_at (length section) (bases_of base tls image') entries targets i
          go true h = rw h
          go false h = rw h (check-image (length section) _ _ _ (none i l h))

      check-to : (k : ℕ) → k ≤ entry_count entries
          → check_to (length section) (bases_of base tls image) entries targets k ≡ check_to (length section) (bases_of base tls image') entries targets k
      unfolding check_to
      check-to zero l = refl
      check-to (suc i) l = ap₂ first (check-to i (omega arith)) (check-at i l)

      work-at : (f : Fixed) (i : ℕ) → i < entry_count entries
          → work_at (bases_of base tls image) entries targets f i ≡ work_at (bases_of base tls image') entries targets f i
      unfolding work_at choose
      work-at f i l = go (consumed entries i) refl
        where
          go : (x : Bool) → consumed entries i ≡ x
              → work_at (bases_of base tls image) entries targets f i ≡ work_at (bases_of base tls image') entries targets f i
          go true h = rw h
          go false h = rw (h, change-image i (lent_entry entries i) _ _ _ _ (none i l h))

      fix-to : (k : ℕ) → k ≤ entry_count entries
          → fix_to (bases_of base tls image) entries targets section k ≡ fix_to (bases_of base tls image') entries targets section k
      unfolding fix_to
      fix-to zero l = refl
      fix-to (suc i) l = rw (fix-to i (omega arith)) (work-at _ i l)

      -- the whole call
      pub image-unused : (slots : List ℕ)
          → outcome_of section (bases_of base tls image) entries targets slots ≡ outcome_of section (bases_of base tls image') entries targets slots
      unfolding outcome_of
      image-unused slots = rw (check-to (entry_count entries) (omega arith), fix-to (entry_count entries) (omega arith))
