-- An own record that passes its check has a form of its type: an authenticated pointer is 8 bytes of a symbol, and no type after it has a form, each by
-- one test of every type and form. What it reads to, by the tests on the way.
use Rattle.std.specs.Prelude.{Result, Ok, Err, ⊤}
use mathlib.Core.Path.{◌≡◌, refl, sym, ap, subst, ◌∙◌}
use mathlib.Core.Bool.{Bool, true, false, not, ◌||◌}
use mathlib.Core.List.{List}
use Prim.Native.Nat.{ℕ, ◌<◌, ◌≤◌}
use borrow.Author.Tests.{eq-eqb, lt-ltb, le-ltb, eqb-true, eqb-false, ltb-false, not-true}
use lib.Dec.{eqb, ltb}
use lib.ListN.{length}
use Rattle.util.specs.Bits.{extend}
use Rattle.util.specs.Choice.{choose}
use Rattle.util.specs.Diagram.{matches}
use Rattle.util.specs.Word.{le}
use Rattle.util.proofs.Below.{every}
use Rattle.util.proofs.Choice.{both, agree, agree-is, split, choose-false}
use Rattle.macho.specs.Authenticated.{authenticated, signing_in}
use Rattle.macho.specs.MachRel.{idx_of, pcrel_of, p2size_of, extern_of, type_of}
use Rattle.macho.specs.Reloc.{with_signing}
use Rattle.macho.specs.Types.{ARM64_RELOC_AUTHENTICATED_POINTER}
use Rattle.macho.specs.declared.mach_rel.MachRel.{MachRel}
use Rattle.macho.specs.declared.reloc.Reloc.{Reloc}
use Rattle.macho.specs.declared.refusal.Refusal.{Refusal}
use Rattle.macho.specs.declared.refusal.Refusal.TheVariants.{Unsupported, NotAuthenticated}
use Rattle.arch.specs.Entry.{entry_of, enter, targeted}
use Rattle.arch.specs.Form.{form, form_in, same_form, member}
use Rattle.arch.specs.Target.{target_of}
use Rattle.arch.specs.Walk.{passing}
use Rattle.arch.proofs.Forms.{each-form, implied}
use Rattle.arm64_reader.specs.Support.{forms_of, supported_of}
use Rattle.arm64_reader.specs.Check.{pointer32, check_reloc}
use Rattle.arm64_reader.specs.Record.{addend_of, adding, authenticated_record, entered, record_of}

-- ---- forms

-- type 11 takes one form: not pc-relative, 8 bytes, a symbol
pub authenticated-form : (r : MachRel) → type_of r.bits ≡ ARM64_RELOC_AUTHENTICATED_POINTER → supported_of r ≡ same_form (form_in r) (form 0 3 1)
unfolding supported_of forms_of every choose
authenticated-form r t =
    agree-is _ _
    (implied _ _
    (each-form (λ ty p s e. not (eqb ty ARM64_RELOC_AUTHENTICATED_POINTER) || agree (member (form p s e) (forms_of ty)) (same_form (form p s e) (form 0 3 1)))
    refl r) (eq-eqb _ _ t))

-- and no later type takes any
pub later-form : (r : MachRel) → ARM64_RELOC_AUTHENTICATED_POINTER < type_of r.bits → supported_of r ≡ false
unfolding supported_of forms_of every choose
later-form r h =
    not-true (supported_of r)
    (implied _ _ (each-form (λ ty p s e. not (ltb ARM64_RELOC_AUTHENTICATED_POINTER ty) || not (member (form p s e) (forms_of ty))) refl r) (lt-ltb _ _ h))

-- so where it passes it has 8 bytes and names a symbol
pub authenticated-fields : (r : MachRel) → supported_of r ≡ true → type_of r.bits ≡ ARM64_RELOC_AUTHENTICATED_POINTER
    → (p2size_of r.bits ≡ 3) × (eqb (extern_of r.bits) 1 ≡ true)
authenticated-fields r h t =
    let p = both (eqb (pcrel_of r.bits) 0) _ (sym (authenticated-form r t) ∙ h) in
    let s = both (eqb (p2size_of r.bits) 3) (eqb (extern_of r.bits) 1) p.1 in
    (eqb-true (p2size_of r.bits) 3 s.0, s.1)

pub authenticated-symbol : (r : MachRel) → supported_of r ≡ true → eqb (type_of r.bits) ARM64_RELOC_AUTHENTICATED_POINTER ≡ true
    → eqb (extern_of r.bits) 1 ≡ true
authenticated-symbol r h t = (authenticated-fields r h (eqb-true (type_of r.bits) ARM64_RELOC_AUTHENTICATED_POINTER t)).1

-- ---- the check

module _ (loc : List ℕ) (r : MachRel) (subtracted : Bool) where
  -- what holds of each refusal, and of a step where the record has a form of its type, holds of that step after the check
  pub check-passing : (P : Result (Reloc × ℕ) Refusal → Type 0) (s : Result (Reloc × ℕ) Refusal) → ((x : Refusal) → P (Err x)) → (supported_of r ≡ true → P s)
      → P (passing (check_reloc r subtracted loc) s)
  unfolding check_reloc
  check-passing P s refuses reads = go (supported_of r) refl
    where
      any : (c : Result ⊤ Refusal) → P s → P (passing c s)
      any (Ok tt) p = p
      any (Err x) p = refuses x

      go : (b : Bool) → supported_of r ≡ b → P (passing (check_reloc r subtracted loc) s)
      go true e = any (check_reloc r subtracted loc) (reads e)
      go false e = subst (λ (c : Result ⊤ Refusal). P (passing c s)) (sym (choose-false _ _ _ e)) (refuses Unsupported)

  -- a form that its type does not take is 5, whatever stands at the place
  pub other-form : supported_of r ≡ false → (sections : List ℕ) (offset given next : ℕ)
      → record_of loc sections r subtracted offset given next ≡ Err Unsupported
  unfolding record_of check_reloc
  other-form h sections offset given next =
      ap (λ (c : Result ⊤ Refusal). passing c (entered loc sections r subtracted offset given next)) (choose-false _ _ _ h)

-- an authenticated pointer of its form, with 8 bytes at its place, by its stored word alone: the entry, or 15
pub authenticated-reads : (loc sections : List ℕ) (r : MachRel) (subtracted : Bool) (offset given next : ℕ)
    → type_of r.bits ≡ ARM64_RELOC_AUTHENTICATED_POINTER → supported_of r ≡ true → 8 ≤ length loc
    → let word = le 8 loc 0 in
    record_of loc sections r subtracted offset given next
    ≡ choose (matches authenticated word)
    (Ok (with_signing (entry_of r subtracted offset (idx_of r.bits) (extend word 32)) (signing_in word), next)) (Err NotAuthenticated)
unfolding record_of check_reloc pointer32 authenticated_record choose
authenticated-reads loc sections r subtracted offset given next t h l = rw (h, t, le-ltb (length loc) 8 l)

-- ---- how an entry is signed

-- an entry at an offset against the contents from there on: an authenticated pointer's 8 bytes are there and are such a word, which gives its addend and
-- its four bytes; those of any other are 0
module _ (loc : List ℕ) (offset : ℕ) (e : Reloc) where
  pub record Signs : Type 0 where
    pub place : e.offset ≡ offset
    pub word : e.ty ≡ ARM64_RELOC_AUTHENTICATED_POINTER
        → (8 ≤ length loc) × (matches authenticated (le 8 loc 0) ≡ true) × (e.signing ≡ signing_in (le 8 loc 0)) × (e.addend ≡ extend (le 8 loc 0) 32)
    pub other : (e.ty ≡ ARM64_RELOC_AUTHENTICATED_POINTER → ⊥) → e.signing ≡ 0

-- a step that reads such an entry, if it reads
unfoldable pub StepSigns : List ℕ → ℕ → Result (Reloc × ℕ) Refusal → Type 0
StepSigns loc offset (Err x) = Unit {0}
StepSigns loc offset (Ok (e, m)) = Signs loc offset e

module _ (loc sections : List ℕ) (r : MachRel) (subtracted : Bool) (offset given next : ℕ) where
  authenticated-signs : type_of r.bits ≡ ARM64_RELOC_AUTHENTICATED_POINTER → StepSigns loc offset (authenticated_record loc r subtracted offset next)
  unfolding authenticated_record StepSigns
  authenticated-signs t =
      split (StepSigns loc offset) (ltb (length loc) 8) _ _ (λ _. tt)
      (λ l.
      split (StepSigns loc offset) (matches authenticated (le 8 loc 0)) _ _
      (λ m. record { place = refl; word = λ _. (ltb-false (length loc) 8 l, m, refl, refl); other = λ n. absurd (n t) }) (λ _. tt))

  enter-signs : (type_of r.bits ≡ ARM64_RELOC_AUTHENTICATED_POINTER → ⊥) → (t : Result (ℕ × ℕ) Refusal) → StepSigns loc offset (enter r subtracted offset next t)
  unfolding StepSigns
  enter-signs n (Ok (target, addend)) = record { place = refl; word = λ t. absurd (n t); other = λ _. refl }
  enter-signs n (Err x) = tt

  adding-signs : (type_of r.bits ≡ ARM64_RELOC_AUTHENTICATED_POINTER → ⊥) → (a : Result ℕ Refusal) → StepSigns loc offset (adding sections r subtracted offset next a)
  unfolding StepSigns targeted
  adding-signs n (Ok a) = enter-signs n (target_of sections r a)
  adding-signs n (Err x) = tt

  pub record-signs : StepSigns loc offset (record_of loc sections r subtracted offset given next)
  unfolding record_of StepSigns
  record-signs =
      check-passing loc r subtracted (StepSigns loc offset) (entered loc sections r subtracted offset given next) (λ _. tt)
      (λ _.
      split (StepSigns loc offset) (eqb (type_of r.bits) ARM64_RELOC_AUTHENTICATED_POINTER) _ _
      (λ t. authenticated-signs (eqb-true (type_of r.bits) ARM64_RELOC_AUTHENTICATED_POINTER t))
      (λ n. adding-signs (eqb-false (type_of r.bits) ARM64_RELOC_AUTHENTICATED_POINTER n) (addend_of r loc given)))
