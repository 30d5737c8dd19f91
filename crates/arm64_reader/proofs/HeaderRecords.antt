-- One record read, against what it means: what its entry says, and the refusals that are left where it is defined.
use Rattle.std.specs.Prelude.{Result, Ok, Err, ⊤}
use mathlib.Core.Path.{◌≡◌, refl, sym, ap, ap₂, subst, ◌∙◌}
use mathlib.Core.Logic.{◌⊎◌, inl, inr}
use mathlib.Core.Bool.{Bool, true, false, true≢false}
use mathlib.Core.List.{List}
use Prim.Native.Nat.{ℕ, zero, suc, ◌+◌, ◌-◌, ◌/◌, ◌%◌, ◌^◌, ◌<◌, ◌≤◌}
use native.Mathlib.Omega.{arith}
use borrow.Author.Tests.{eq-eqb, ne_eqb, eqb-true, eqb-false, lt-ltb, le-ltb}
use lib.ListN.{length, drop}
use lib.Dec.{eqb}
use lib.Pow.{pow_mono}
use Rattle.util.specs.Bits.{extend}
use Rattle.util.specs.Choice.{choose}
use Rattle.util.specs.Diagram.{matches}
use Rattle.util.specs.Word.{le}
use Rattle.util.proofs.Choice.{split, chosen, choose-true, choose-false}
use Rattle.util.proofs.Bytes.{le-drop}
use Rattle.macho.specs.MachRel.{idx_of, p2size_of, extern_of, type_of}
use Rattle.macho.specs.Authenticated.{authenticated, diversity_in, address_diversity_in, key_in}
use Rattle.macho.specs.Reloc.{with_signing}
use Rattle.macho.specs.Types.{ARM64_RELOC_UNSIGNED, ARM64_RELOC_AUTHENTICATED_POINTER}
use Rattle.macho.proofs.Signing.{signing-fields}
use Rattle.macho.specs.declared.mach_rel.MachRel.{MachRel}
use Rattle.macho.specs.declared.reloc.Reloc.{Reloc}
use Rattle.macho.specs.declared.refusal.Refusal.{Refusal}
use Rattle.macho.specs.declared.refusal.Refusal.TheVariants.{Unsupported, Unfit}
use Rattle.arch.specs.Entry.{entry_of, enter, targeted}
use Rattle.arch.specs.Target.{section_target, target_of}
use Rattle.arm64_reader.specs.Support.{supported_of}
use Rattle.arm64_reader.specs.Check.{pointer32, word_check, check_reloc}
use Rattle.arch.specs.Walk.{passing}
use Rattle.arm64_reader.specs.Record.{addend_of, adding, authenticated_record, entered, record_of}
use Rattle.arch.specs.Target.{target_in, addend_in}
use Rattle.arm64_reader.specs.Fields.{held_in, signed_by}
use Rattle.arm64_reader.specs.Header.{Referent, section, Signing, not-signed, signed, Less, Relocation, is_defined}
use Rattle.arm64_reader.specs.Header.{referent_of, pointer_of, Known}
use Rattle.arm64_reader.specs.Said.{named_by, signing_of, say_one}
use Rattle.arm64_reader.proofs.AuthenticatedRecords.{authenticated-fields, authenticated-symbol, check-passing, StepSigns, record-signs}
use Rattle.arm64_reader.proofs.Fields.{Says, record-says}
use Rattle.arm64_reader.proofs.HeaderForms.{supported-is, size-at-least}

-- ---- a record that reads

module _ (loc sections : List ℕ) (r : MachRel) (subtracted : Bool) (offset given next : ℕ) where
  abbrev Step-of : Result (Reloc × ℕ) Refusal
  Step-of = record_of loc sections r subtracted offset given next

  -- its entry
  pub read-entry : {e : Reloc} {m : ℕ} → Step-of ≡ Ok (e, m)
      → e
      ≡ with_signing (entry_of r subtracted offset (target_in r) (addend_in sections r (held_in r (le 4 loc 0) (le 8 loc 0) given))) (signed_by r (le 8 loc 0))
  unfolding Says
  read-entry e = (subst (Says _ next) e (record-says sections r subtracted offset next loc given _ _ refl refl)).0

  -- it is defined
  Supported : Result (Reloc × ℕ) Refusal → Type 0
  Supported (Err x) = Unit {0}
  Supported (Ok (e, m)) = supported_of r ≡ true

  pub read-formed : {e : Reloc} {m : ℕ} → Step-of ≡ Ok (e, m) → is_defined r ≡ true
  unfolding record_of Supported
  read-formed e =
      sym (supported-is r)
      ∙ subst Supported e
      (check-passing loc r subtracted Supported (entered loc sections r subtracted offset given next) (λ _. tt)
      (λ h. within h (entered loc sections r subtracted offset given next)))
    where
      within : supported_of r ≡ true → (s : Result (Reloc × ℕ) Refusal) → Supported s
      within h (Err x) = tt
      within h (Ok (e, m)) = h

  -- it names a symbol, or a section by an ordinal from 1 on
  Refuses : Result (Reloc × ℕ) Refusal → Type 0
  Refuses (Err x) = Unit {0}
  Refuses (Ok (e, m)) = ⊥

  no-ordinal : eqb (extern_of r.bits) 1 ≡ false → idx_of r.bits ≡ 0 → Refuses Step-of
  unfolding record_of Refuses targeted target_of section_target choose
  no-ordinal x z =
      check-passing loc r subtracted Refuses (entered loc sections r subtracted offset given next) (λ _. tt)
      (λ s.
      split Refuses (eqb (type_of r.bits) ARM64_RELOC_AUTHENTICATED_POINTER) _ _ (λ t. absurd (true≢false (sym (authenticated-symbol r s t) ∙ x)))
      (λ _. adds (addend_of r loc given)))
    where
      adds : (a : Result ℕ Refusal) → Refuses (adding sections r subtracted offset next a)
      adds (Err y) = tt
      adds (Ok a) = rw (x, z) tt

  pub read_named : {e : Reloc} {m : ℕ} → Step-of ≡ Ok (e, m) → (eqb (extern_of r.bits) 1 ≡ false) → idx_of r.bits ≡ 0 → ⊥
  unfolding Refuses
  read_named e x z = subst Refuses e (no-ordinal x z)

  -- an authenticated pointer has the word of one
  pub read-authenticated : {e : Reloc} {m : ℕ} → Step-of ≡ Ok (e, m) → type_of r.bits ≡ ARM64_RELOC_AUTHENTICATED_POINTER
      → matches authenticated (le 8 loc 0) ≡ true
  unfolding StepSigns
  read-authenticated e t =
      let s = subst (StepSigns loc offset) e (record-signs loc sections r subtracted offset given next) in
      (s.word (ap (λ (d : Reloc). d.ty) (read-entry e) ∙ t)).1

-- ---- a record that is defined, whose bytes are there, and whose section is there

-- the refusals that are left: an unfit word, and a 4-byte pointer that is not subtracted
abbrev pub Left : MachRel → Bool → Refusal → Type 0
Left r subtracted x = (x ≡ Unfit) ⊎ ((x ≡ Unsupported) × (pointer32 r subtracted ≡ true))

module _ (loc sections : List ℕ) (r : MachRel) (subtracted : Bool) (offset given next : ℕ) (formed : is_defined r ≡ true)
    (room : 2 ^ p2size_of r.bits ≤ length loc) (known : Known (length sections) (referent_of r))
    (stored : type_of r.bits ≡ ARM64_RELOC_AUTHENTICATED_POINTER → matches authenticated (le 8 loc 0) ≡ true) where
  four : 4 ≤ length loc
  four = omega (arith, pow_mono {i = 2} {j = p2size_of r.bits} (size-at-least r formed))

  eight : eqb (p2size_of r.bits) 2 ≡ false → 8 ≤ length loc
  eight e =
      let n = eqb-false (p2size_of r.bits) 2 e in
      let q : p2size_of r.bits ≡ 3 = omega (arith, size-at-least r formed) in
      rw q at room

  -- of a check
  CheckLeft : Result ⊤ Refusal → Type 0
  CheckLeft (Ok tt) = Unit {0}
  CheckLeft (Err x) = Left r subtracted x

  word-left : (ty : ℕ) → CheckLeft (word_check ty loc)
  unfolding word_check CheckLeft
  word-left ty = rw (choose-false _ _ _ (le-ltb (length loc) 4 four)) (chosen CheckLeft _ _ _ tt (inl refl))

  check-left : CheckLeft (check_reloc r subtracted loc)
  unfolding check_reloc CheckLeft
  check-left =
      rw (choose-true _ _ _ (supported-is r ∙ formed))
      (split CheckLeft (pointer32 r subtracted) _ _ (λ e. inr (refl, e))
      (λ _. chosen CheckLeft _ _ _ (word-left (type_of r.bits)) (chosen CheckLeft _ _ _ (word-left (type_of r.bits)) tt)))

  -- the addend and the target are there
  IsHeld : Result ℕ Refusal → Type 0
  IsHeld (Ok a) = Unit {0}
  IsHeld (Err x) = ⊥

  addend-held : IsHeld (addend_of r loc given)
  unfolding addend_of IsHeld choose
  addend-held =
      chosen IsHeld (eqb (type_of r.bits) ARM64_RELOC_UNSIGNED) _ _
      (split IsHeld (eqb (p2size_of r.bits) 2) _ _ (λ _. rw (le-ltb (length loc) 4 four) tt) (λ e. rw (le-ltb (length loc) 8 (eight e)) tt)) tt

  IsNamed : Result (ℕ × ℕ) Refusal → Type 0
  IsNamed (Ok (t, a)) = Unit {0}
  IsNamed (Err x) = ⊥

  section-named : (k held : ℕ) → 0 < k → k ≤ length sections → IsNamed (section_target sections k held)
  unfolding section_target IsNamed choose
  section-named zero held h l = absurd (omega arith)
  section-named (suc i) held h l = rw (lt-ltb i (length sections) l) tt

  target-named : (held : ℕ) → IsNamed (target_of sections r held)
  unfolding target_of IsNamed choose
  target-named held = go (eqb (extern_of r.bits) 1) refl
    where
      go : (t : Bool) → eqb (extern_of r.bits) 1 ≡ t → IsNamed (target_of sections r held)
      go true e = rw e tt
      go false e =
          let k : Known (length sections) (section (idx_of r.bits)) = rw e at known in
          rw e (section-named (idx_of r.bits) held k.0 k.1)

  -- of the step
  pub StepLeft : Result (Reloc × ℕ) Refusal → Type 0
  StepLeft (Ok (e, m)) = Unit {0}
  StepLeft (Err x) = Left r subtracted x

  enter-left : (t : Result (ℕ × ℕ) Refusal) → IsNamed t → StepLeft (enter r subtracted offset next t)
  unfolding IsNamed StepLeft
  enter-left (Ok (t, a)) h = tt
  enter-left (Err x) h = absurd h

  adding-left : (a : Result ℕ Refusal) → IsHeld a → StepLeft (adding sections r subtracted offset next a)
  unfolding IsHeld targeted
  adding-left (Ok a) h = enter-left (target_of sections r a) (target-named a)
  adding-left (Err x) h = absurd h

  authenticated-left : type_of r.bits ≡ ARM64_RELOC_AUTHENTICATED_POINTER → StepLeft (authenticated_record loc r subtracted offset next)
  unfolding authenticated_record StepLeft
  authenticated-left t =
      let s = (authenticated-fields r (supported-is r ∙ formed) t).0 in
      let l : 8 ≤ length loc = rw s at room in
      rw (choose-false _ _ _ (le-ltb (length loc) 8 l)) (rw (choose-true _ _ _ (stored t)) tt)

  entered-left : StepLeft (entered loc sections r subtracted offset given next)
  entered-left =
      split StepLeft (eqb (type_of r.bits) ARM64_RELOC_AUTHENTICATED_POINTER) _ _
      (λ t. authenticated-left (eqb-true (type_of r.bits) ARM64_RELOC_AUTHENTICATED_POINTER t)) (λ _. adding-left (addend_of r loc given) addend-held)

  passing-left : (c : Result ⊤ Refusal) (s : Result (Reloc × ℕ) Refusal) → CheckLeft c → StepLeft s → StepLeft (passing c s)
  unfolding CheckLeft StepLeft
  passing-left (Ok tt) s h g = g
  passing-left (Err x) s h g = h

  pub refused-left : {x : Refusal} → record_of loc sections r subtracted offset given next ≡ Err x → Left r subtracted x
  unfolding record_of StepLeft
  refused-left e = subst StepLeft e (passing-left (check_reloc r subtracted loc) _ check-left entered-left)

-- ---- what an entry says

-- a target names what the record refers to
pub named-is : (r : MachRel) → (eqb (extern_of r.bits) 1 ≡ false → idx_of r.bits ≡ 0 → ⊥) → named_by (target_in r) ≡ referent_of r
unfolding choose
named-is r h = go (eqb (extern_of r.bits) 1) refl
  where
    go : (t : Bool) → eqb (extern_of r.bits) 1 ≡ t → named_by (target_in r) ≡ referent_of r
    go true e =
        let z : idx_of r.bits / 2 ^ 31 % 2 ^ 1 ≡ 0 = omega arith in
        rw (e, z)
    go false e =
        let n = h e in
        let o : (2 ^ 31 + (idx_of r.bits - 1)) / 2 ^ 31 % 2 ^ 1 ≡ 1 = omega arith in
        let k : 2 ^ 31 + (idx_of r.bits - 1) - 2 ^ 31 + 1 ≡ idx_of r.bits = omega arith in
        rw (e, o) (ap section k)

module _ (contents sections : List ℕ) (r : MachRel) (subtracted : Bool) (given : ℕ) (m : Less)
    (ordinal : eqb (extern_of r.bits) 1 ≡ false → idx_of r.bits ≡ 0 → ⊥) where
  -- the entry that the record reads to at its own offset
  abbrev pub own : Reloc
  own =
      let loc = drop r.offset contents in
      with_signing (entry_of r subtracted r.offset (target_in r) (addend_in sections r (held_in r (le 4 loc 0) (le 8 loc 0) given))) (signed_by r (le 8 loc 0))

  word_at : (n : ℕ) → le n (drop r.offset contents) 0 ≡ le n contents r.offset
  word_at n = le-drop n contents r.offset 0 ∙ ap (le n contents) (omega arith)

  abbrev says : Signing → Referent → ℕ → Relocation
  says s t a =
      record { ty = type_of r.bits; place = r.offset; size = 2 ^ p2size_of r.bits; target = t; addend = a; minus = m; signing = s }

  -- how it says that its pointer is signed
  say-signed : type_of r.bits ≡ ARM64_RELOC_AUTHENTICATED_POINTER
      → let stored = le 8 contents r.offset in signing_of own ≡ signed (diversity_in stored) (address_diversity_in stored) (key_in stored)
  unfolding signing_of signed_by choose
  say-signed t =
      let f = signing-fields (le 8 contents r.offset) in
      rw (eq-eqb (type_of r.bits) ARM64_RELOC_AUTHENTICATED_POINTER t, word_at 8, f.0, f.1, f.2)

  say-unsigned : (type_of r.bits ≡ ARM64_RELOC_AUTHENTICATED_POINTER → ⊥) → signing_of own ≡ not-signed
  unfolding signing_of choose
  say-unsigned t = rw (ne_eqb (type_of r.bits) ARM64_RELOC_AUTHENTICATED_POINTER t)

  pub say-pointer : type_of r.bits ≡ ARM64_RELOC_UNSIGNED → say_one m own ≡ pointer_of contents sections r m
  unfolding held_in choose
  say-pointer t =
      ap (λ (s : Signing). says s (named_by own.target) own.addend) (say-unsigned (λ e. omega arith))
      ∙ ap₂ (says not-signed) (named-is r ordinal)
      (rw (eq-eqb (type_of r.bits) ARM64_RELOC_UNSIGNED t, word_at 4, word_at 8))

  pub say-authenticated : type_of r.bits ≡ ARM64_RELOC_AUTHENTICATED_POINTER → eqb (extern_of r.bits) 1 ≡ true
      → let stored = le 8 contents r.offset in
      say_one m own ≡ says (signed (diversity_in stored) (address_diversity_in stored) (key_in stored)) (referent_of r) (extend stored 32)
  unfolding held_in choose
  say-authenticated t e =
      let u : eqb (type_of r.bits) ARM64_RELOC_UNSIGNED ≡ false = ne_eqb (type_of r.bits) ARM64_RELOC_UNSIGNED (λ z. omega (arith, t)) in
      ap (λ (s : Signing). says s (named_by own.target) own.addend) (say-signed t)
      ∙ ap₂ (says _) (named-is r ordinal) (rw (u, eq-eqb (type_of r.bits) ARM64_RELOC_AUTHENTICATED_POINTER t, e, word_at 8))

  pub say-word : (type_of r.bits ≡ ARM64_RELOC_UNSIGNED → ⊥) → (type_of r.bits ≡ ARM64_RELOC_AUTHENTICATED_POINTER → ⊥)
      → eqb (extern_of r.bits) 1 ≡ true → say_one m own ≡ says not-signed (referent_of r) given
  unfolding held_in choose
  say-word t n e =
      ap (λ (s : Signing). says s (named_by own.target) own.addend) (say-unsigned n)
      ∙ ap₂ (says not-signed) (named-is r ordinal)
      (rw (ne_eqb (type_of r.bits) ARM64_RELOC_UNSIGNED t, ne_eqb (type_of r.bits) ARM64_RELOC_AUTHENTICATED_POINTER n, e))
