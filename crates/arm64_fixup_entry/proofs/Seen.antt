-- What is not looked at changes neither the check nor the change of an entry: its type decides which tests and sums are left.
use mathlib.Core.Path.{◌≡◌, refl, sym, ap, ◌∙◌}
use mathlib.Core.Bool.{Bool, true, false, true≢false}
use mathlib.Core.Logic.{inl, inr}
use Prim.Native.Nat.{ℕ, ◌≤◌, ◌<◌}
use native.Mathlib.Omega.{arith}
use borrow.Author.Tests.{eqb-true, ne_eqb, leb-true}
use lib.Dec.{eqb, leb, lit<}
use Rattle.util.specs.Choice.{choose}
use Rattle.macho.specs.Types.{ARM64_RELOC_SUBTRACTOR, ARM64_RELOC_ADDEND, ARM64_RELOC_AUTHENTICATED_POINTER}
use Rattle.macho.proofs.Signing.{word-used}
use Rattle.macho.specs.Reloc.{is_section}
use Rattle.macho.specs.Resolved.{is_imported, well_formed}
use Rattle.macho.specs.declared.reloc.Reloc.{Reloc}
use Rattle.macho.specs.declared.resolved.Resolved.{Resolved}
use Rattle.arm64_fixup_entry.specs.Target.{is_symbol, imported_symbol, target_of, slot_of, got_target, from_image, width_of}
use Rattle.arm64_fixup_entry.specs.Check.{unsupported, subtracts, check_of}
use Rattle.arm64_fixup_entry.specs.Change.{unsigned_value, authenticated_value, subtractor_value, difference, dtrace_site_insn, branch_target, thunk_serves}
use Rattle.arm64_fixup_entry.specs.Change.{branch, got_page21, got_pageoff12, pointer_to_got, word_change, change_of}
use Rattle.arm64_fixup_entry.specs.Seen.{seen, SameUse, same-unsigned, same-authenticated, same-subtractor, same-branch-symbol}
use Rattle.arm64_fixup_entry.specs.Seen.{same-branch-section, same-page, same-got-helper, same-got-page, same-tlv-page, same-got-offset}
use Rattle.arm64_fixup_entry.specs.Seen.{same-pointer-to-got, same-unknown, same-all}
use Rattle.arm64_fixup_entry.specs.declared.target.Bases.{Bases}

-- ---- the entry

pub check-seen : (len : ℕ) (b : Bases) (e : Reloc) (t : Resolved) (last : Bool) → check_of len b (seen e) t last ≡ check_of len b e t last
unfolding check_of width_of from_image target_of choose
check-seen len b e t last = go (subtracts e.ty) refl (is_section e.target) refl
  where
    go : (x : Bool) → subtracts e.ty ≡ x → (y : Bool) → is_section e.target ≡ y → check_of len b (seen e) t last ≡ check_of len b e t last
    go true h true k = rw (eqb-true e.ty ARM64_RELOC_SUBTRACTOR h, k)
    go true h false k = rw (eqb-true e.ty ARM64_RELOC_SUBTRACTOR h, k)
    go false h true k = rw (h, k)
    go false h false k = rw (h, k)

-- what the work of an entry takes of the next one and its target
abbrev pub of_addend : ℕ → Reloc
of_addend a = record { offset = 0; ty = 0; size = 0; is_pcrel = 0; is_subtracted = 0; target = 0; signing = 0; addend = a }

abbrev pub of_address : ℕ → Resolved
of_address s = record { addr = s; got = 0; branch = 0; thunk = 0; helper = 0; flags = 0; zero = 0 }

pub change-seen : (b : Bases) (i : ℕ) (e : Reloc) (t : Resolved) (next : Reloc) (next_target : Resolved) (word : ℕ)
    → change_of b i (seen e) t (of_addend next.addend) (of_address next_target.addr) word ≡ change_of b i e t next next_target word
unfolding change_of width_of unsigned_value authenticated_value from_image subtractor_value difference target_of slot_of got_target word_change
    dtrace_site_insn branch_target thunk_serves branch got_page21 got_pageoff12 pointer_to_got choose
change-seen b i e t next next_target word = by-type (eqb e.ty ARM64_RELOC_AUTHENTICATED_POINTER) refl
  where
    authenticated : eqb e.ty ARM64_RELOC_AUTHENTICATED_POINTER ≡ true → (y : Bool) → is_section e.target ≡ y
        → change_of b i (seen e) t (of_addend next.addend) (of_address next_target.addr) word ≡ change_of b i e t next next_target word
    authenticated h true k = rw (eqb-true e.ty ARM64_RELOC_AUTHENTICATED_POINTER h, k, word-used)
    authenticated h false k = rw (eqb-true e.ty ARM64_RELOC_AUTHENTICATED_POINTER h, k, word-used)

    go : eqb e.ty ARM64_RELOC_AUTHENTICATED_POINTER ≡ false → (x : Bool) → subtracts e.ty ≡ x → (y : Bool) → is_section e.target ≡ y
        → change_of b i (seen e) t (of_addend next.addend) (of_address next_target.addr) word ≡ change_of b i e t next next_target word
    go n true h y k = rw (eqb-true e.ty ARM64_RELOC_SUBTRACTOR h)
    go n false h true k = rw (n, h, k)
    go n false h false k = rw (n, h, k)

    by-type : (x : Bool) → eqb e.ty ARM64_RELOC_AUTHENTICATED_POINTER ≡ x
        → change_of b i (seen e) t (of_addend next.addend) (of_address next_target.addr) word ≡ change_of b i e t next next_target word
    by-type true h = authenticated h (is_section e.target) refl
    by-type false h = go h (subtracts e.ty) refl (is_section e.target) refl

-- ---- its target

imported : (e : Reloc) (t t' : Resolved) → (is_symbol e ≡ true → is_imported t ≡ is_imported t') → imported_symbol e t ≡ imported_symbol e t'
imported e t t' same = go (is_symbol e) refl
  where
    go : (x : Bool) → is_symbol e ≡ x → imported_symbol e t ≡ imported_symbol e t'
    go true h = rw (h, same h)
    go false h = rw h

-- a type that is turned down is 10 or above, and not 11
turned_down : (ty : ℕ) → unsupported ty ≡ true → (ARM64_RELOC_ADDEND ≤ ty) × (eqb ty ARM64_RELOC_AUTHENTICATED_POINTER ≡ false)
turned_down ty h = go (leb ARM64_RELOC_ADDEND ty) refl (eqb ty ARM64_RELOC_AUTHENTICATED_POINTER) refl
  where
    go : (x : Bool) → leb ARM64_RELOC_ADDEND ty ≡ x → (y : Bool) → eqb ty ARM64_RELOC_AUTHENTICATED_POINTER ≡ y
        → (ARM64_RELOC_ADDEND ≤ ty) × (eqb ty ARM64_RELOC_AUTHENTICATED_POINTER ≡ false)
    go true l false n = (leb-true ARM64_RELOC_ADDEND ty l, n)
    go true l true n = let spared : unsupported ty ≡ false = rw (l, n) in absurd (true≢false (sym h ∙ spared))
    go false l y n = let below : unsupported ty ≡ false = rw l in absurd (true≢false (sym h ∙ below))

pub check-same : (len : ℕ) (b : Bases) (e : Reloc) (t t' : Resolved) (last : Bool) → well_formed t ≡ well_formed t' → SameUse e t t'
    → check_of len b e t last ≡ check_of len b e t' last
unfolding check_of width_of from_image target_of choose
check-same len b e t t' last w (same-unsigned h a s i) = rw (w, h, imported e t t' i)
check-same len b e t t' last w (same-authenticated h a i) = rw (w, h, imported e t t' i, a)
check-same len b e t t' last w (same-subtractor h a) = rw (w, h)
check-same len b e t t' last w (same-branch-symbol h s a k x p n) = rw (w, h)
check-same len b e t t' last w (same-branch-section h s a) = rw (w, h)
check-same len b e t t' last w (same-page (inl h) d a) = rw (w, h, d)
check-same len b e t t' last w (same-page (inr h) d a) = rw (w, h, d)
check-same len b e t t' last w (same-got-helper h p p' a o) = rw (w, h, p, p')
check-same len b e t t' last w (same-got-page h p p' s) = rw (w, h, p, p')
check-same len b e t t' last w (same-tlv-page h s) = rw (w, h)
check-same len b e t t' last w (same-got-offset (inl h) s) = rw (w, h)
check-same len b e t t' last w (same-got-offset (inr h) s) = rw (w, h)
check-same len b e t t' last w (same-pointer-to-got h a) = rw (w, h)
check-same len b e t t' last w (same-unknown h) = rw (w, h)
check-same len b e t t' last w (same-all q) = ap (λ (x : Resolved). check_of len b e x last) q

module _ (b : Bases) (i : ℕ) (e : Reloc) (t t' : Resolved) (next : Reloc) (next_target : Resolved) (word : ℕ) where
  pub change-same : SameUse e t t' → change_of b i e t next next_target word ≡ change_of b i e t' next next_target word
  unfolding change_of width_of unsigned_value authenticated_value from_image subtractor_value target_of slot_of got_target word_change
      dtrace_site_insn branch_target thunk_serves branch got_page21 got_pageoff12 pointer_to_got choose
  change-same (same-unsigned h a s i) = rw (h, imported e t t' i, s, a)
  change-same (same-authenticated h a i) = rw (h, imported e t t' i, a)
  change-same (same-subtractor h a) = rw (h, a)
  change-same (same-branch-symbol h s a k x p n) = rw (h, s, p, n, a, k, x)
  change-same (same-branch-section h s a) = rw (h, s, a)
  change-same (same-page (inl h) d a) = rw (h, d, a)
  change-same (same-page (inr h) d a) = rw (h, d, a)
  change-same (same-got-helper h p p' a o) = rw (h, p, p', a, o)
  change-same (same-got-page h p p' (inl s)) = rw (h, p, p', s.0, s.1, s.2)
  change-same (same-got-page h p p' (inr s)) = rw (h, p, p', s.0, s.1, s.2)
  change-same (same-tlv-page h (inl s)) = rw (h, s.0, s.1, s.2)
  change-same (same-tlv-page h (inr s)) = rw (h, s.0, s.1, s.2)
  change-same (same-got-offset (inl h) (inl s)) = rw (h, s.0, s.1, s.2)
  change-same (same-got-offset (inl h) (inr s)) = rw (h, s.0, s.1, s.2)
  change-same (same-got-offset (inr h) (inl s)) = rw (h, s.0, s.1, s.2)
  change-same (same-got-offset (inr h) (inr s)) = rw (h, s.0, s.1, s.2)
  change-same (same-pointer-to-got h a) = rw (h, a)
  change-same (same-unknown h) =
      let u = turned_down e.ty h in
      let ne : (x : ℕ) → x < 10 → eqb e.ty x ≡ false = λ x l. ne_eqb e.ty x (λ q. omega (arith, u.0)) in
      rw (
        ne 0 (lit< tt),
        ne 1 (lit< tt),
        ne 2 (lit< tt),
        ne 3 (lit< tt),
        ne 4 (lit< tt),
        ne 5 (lit< tt),
        ne 6 (lit< tt),
        ne 7 (lit< tt),
        ne 8 (lit< tt),
        ne 9 (lit< tt),
        u.1,
      )
  change-same (same-all q) = ap (λ (x : Resolved). change_of b i e x next next_target word) q
