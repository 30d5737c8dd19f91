-- A step depends on its records' bits, on the contents from its offset on and on where the list stands: what agrees in these reads alike.
use Rattle.std.specs.Prelude.{Result, Ok, Err, ⊤}
use mathlib.Core.Path.{◌≡◌, refl, sym, ap, ap₂, ◌∙◌}
use mathlib.Core.Bool.{Bool, true, false}
use mathlib.Core.List.{List}
use Prim.Native.Nat.{ℕ, ◌+◌, ◌<◌}
use native.Mathlib.Omega.{arith}
use borrow.Author.Tests.{ltb-true, ltb-false, eqb-true, eqb-false}
use lib.ListN.{length, drop}
use lib.Dec.{eqb, ltb}
use Rattle.util.specs.Bits.{extend}
use Rattle.util.specs.Choice.{choose}
use Rattle.util.specs.Diagram.{matches}
use Rattle.util.specs.Word.{le}
use Rattle.util.proofs.Choice.{choose-ap}
use Rattle.macho.specs.Authenticated.{authenticated, signing_in}
use Rattle.macho.specs.MachRel.{idx_of, type_of}
use Rattle.macho.specs.Reloc.{with_signing}
use Rattle.macho.specs.Types.{ARM64_RELOC_SUBTRACTOR, ARM64_RELOC_ADDEND, ARM64_RELOC_AUTHENTICATED_POINTER}
use Rattle.macho.specs.declared.mach_rel.MachRel.{MachRel}
use Rattle.macho.specs.declared.reloc.Reloc.{Reloc}
use Rattle.macho.specs.declared.refusal.Refusal.TheVariants.{Bounds, NotAuthenticated}
use Rattle.arch.specs.Entry.{entry_of, enter, targeted}
use Rattle.arch.specs.Join.{moved}
use Rattle.arch.specs.Table.{record_at, subtracted_at}
use Rattle.arch.specs.Target.{target_of}
use Rattle.macho.specs.declared.refusal.Refusal.{Refusal}
use Rattle.arm64_reader.specs.Support.{supported_of}
use Rattle.arm64_reader.specs.Check.{pointer32, check_reloc}
use Rattle.arch.specs.Walk.{passing}
use Rattle.arm64_reader.specs.Record.{addend_of, adding, authenticated_record, entered, record_of, step_at}
use Rattle.arm64_reader.proofs.Steps.{past_is, lone_is, pair_is, other-is}

-- a record counts by its bits alone
abbrev bare : ℕ → MachRel
bare bits = record { offset = 0; bits = bits }

module _ (sections : List ℕ) (r : MachRel) (subtracted : Bool) (offset next : ℕ) where
  target-bits : (t : Result (ℕ × ℕ) Refusal) → enter r subtracted offset next t ≡ enter (bare r.bits) subtracted offset next t
  target-bits (Ok (target, addend)) = refl
  target-bits (Err x) = refl

  addend-bits : (a : Result ℕ Refusal) → adding sections r subtracted offset next a ≡ adding sections (bare r.bits) subtracted offset next a
  unfolding targeted target_of
  addend-bits (Ok addend) = target-bits (target_of sections r addend)
  addend-bits (Err x) = refl

  by_bits : (loc : List ℕ) (addend : ℕ)
      → record_of loc sections r subtracted offset addend next ≡ record_of loc sections (bare r.bits) subtracted offset addend next
  unfolding record_of check_reloc supported_of pointer32 addend_of authenticated_record
  by_bits loc addend =
      ap (λ (s : Result (Reloc × ℕ) Refusal). passing (check_reloc r subtracted loc)
      (choose (eqb (type_of r.bits) ARM64_RELOC_AUTHENTICATED_POINTER) (authenticated_record loc r subtracted offset next) s))
      (addend-bits (addend_of r loc addend))

-- f takes an entry at one offset to the same entry at another, however its pointer is signed
abbrev pub Shifts : (Reloc → Reloc) → ℕ → ℕ → Type 0
Shifts f from to =
    (r : MachRel) (subtracted : Bool) (target addend signing : ℕ)
    → f (with_signing (entry_of r subtracted from target addend) signing) ≡ with_signing (entry_of r subtracted to target addend) signing

module _ (d : ℕ) (f : Reloc → Reloc) (from to : ℕ) (shifts : Shifts f from to) where
  target-moved : (r : MachRel) (subtracted : Bool) (next : ℕ) (t : Result (ℕ × ℕ) Refusal) → enter r subtracted to (d + next) t ≡ moved d f (enter r subtracted from next t)
  target-moved r subtracted next (Ok (target, addend)) = ap (λ (e : Reloc). Ok (e, d + next)) (sym (shifts r subtracted target addend 0))
  target-moved r subtracted next (Err x) = refl

  addend-moved : (sections : List ℕ) (r : MachRel) (subtracted : Bool) (next : ℕ) (a : Result ℕ Refusal)
      → adding sections r subtracted to (d + next) a ≡ moved d f (adding sections r subtracted from next a)
  unfolding targeted
  addend-moved sections r subtracted next (Ok addend) = target-moved r subtracted next (target_of sections r addend)
  addend-moved sections r subtracted next (Err x) = refl

  authenticated-moved : (loc : List ℕ) (r : MachRel) (subtracted : Bool) (next : ℕ)
      → authenticated_record loc r subtracted to (d + next) ≡ moved d f (authenticated_record loc r subtracted from next)
  unfolding authenticated_record
  authenticated-moved loc r subtracted next =
      let word = le 8 loc 0 in
      ap (choose (ltb (length loc) 8) (Err Bounds))
      (ap (λ (e : Reloc). choose (matches authenticated word) (Ok (e, d + next)) (Err NotAuthenticated))
      (sym (shifts r subtracted (idx_of r.bits) (extend word 32) (signing_in word)))
      ∙ sym (choose-ap (moved d f) (matches authenticated word) _ _))
      ∙ sym (choose-ap (moved d f) (ltb (length loc) 8) _ _)

  entered-moved : (loc sections : List ℕ) (r : MachRel) (subtracted : Bool) (addend next : ℕ)
      → entered loc sections r subtracted to addend (d + next) ≡ moved d f (entered loc sections r subtracted from addend next)
  entered-moved loc sections r subtracted addend next =
      ap₂ (choose (eqb (type_of r.bits) ARM64_RELOC_AUTHENTICATED_POINTER)) (authenticated-moved loc r subtracted next)
      (addend-moved sections r subtracted next (addend_of r loc addend))
      ∙ sym (choose-ap (moved d f) (eqb (type_of r.bits) ARM64_RELOC_AUTHENTICATED_POINTER) _ _)

  check-moved : (c : Result ⊤ Refusal) (s t : Result (Reloc × ℕ) Refusal) → s ≡ moved d f t → passing c s ≡ moved d f (passing c t)
  check-moved (Ok tt) s t e = e
  check-moved (Err x) s t e = refl

  -- the same record at another offset of contents that are the same from there on, d records further on
  pub record-moved : (loc sections : List ℕ) (r : MachRel) (subtracted : Bool) (addend next : ℕ)
      → record_of loc sections r subtracted to addend (d + next) ≡ moved d f (record_of loc sections r subtracted from addend next)
  unfolding record_of
  record-moved loc sections r subtracted addend next =
      check-moved (check_reloc r subtracted loc) _ _ (entered-moved loc sections r subtracted addend next)

  pub same-record : (l k sections : List ℕ) (r q : MachRel) (s t : Bool) (a b m n : ℕ) → l ≡ k → r.bits ≡ q.bits → s ≡ t → a ≡ b → m ≡ d + n
      → record_of l sections r s to a m ≡ moved d f (record_of k sections q t from b n)
  same-record l k sections r q s t a b m n el er es ea em =
      by_bits sections r s to m l a
      ∙ (cc)
      ∙ sym (by_bits sections q t to (d + n) k b)
      ∙ record-moved k sections q t b n

-- step i of one list against step j of another, of which the first stands d records further on
module _ (d : ℕ) (f : Reloc → Reloc) (c e sections : List ℕ) (a b : Bool) (rs qs : List MachRel) (i j : ℕ) where
  -- what the steps look at is the same
  pub record Alike : Type 0 where
    pub number : i ≡ d + j
    pub shifts : Shifts f (record_at qs j).offset (record_at rs i).offset
    pub inside : ltb (length c) (record_at rs i).offset ≡ ltb (length e) (record_at qs j).offset
    pub loc : drop (record_at rs i).offset c ≡ drop (record_at qs j).offset e
    pub bits : (record_at rs i).bits ≡ (record_at qs j).bits
    pub subtracted : subtracted_at ARM64_RELOC_SUBTRACTOR a rs i ≡ subtracted_at ARM64_RELOC_SUBTRACTOR b qs j
    pub more : type_of (record_at qs j).bits ≡ ARM64_RELOC_ADDEND → ltb (i + 1) (length rs) ≡ ltb (j + 1) (length qs)
    pub own : j + 1 < length qs → (record_at rs (i + 1)).bits ≡ (record_at qs (j + 1)).bits

  pub step-moved : Alike → step_at c sections a rs i ≡ moved d f (step_at e sections b qs j)
  step-moved m = go (ltb (length e) (record_at qs j).offset) refl (eqb (type_of (record_at qs j).bits) ARM64_RELOC_ADDEND) refl (ltb (j + 1) (length qs)) refl
    where
      go : (x : Bool) → ltb (length e) (record_at qs j).offset ≡ x → (y : Bool) → eqb (type_of (record_at qs j).bits) ARM64_RELOC_ADDEND ≡ y
          → (z : Bool) → ltb (j + 1) (length qs) ≡ z → step_at c sections a rs i ≡ moved d f (step_at e sections b qs j)
      go true p y q z w =
          rw (past_is e sections b qs j (ltb-true _ _ p)) (past_is c sections a rs i (ltb-true _ _ (m.inside ∙ p)))
      go false p false q z w =
          let n = eqb-false _ _ q in
          rw (other-is e sections b qs j (ltb-false _ _ p) n)
          (other-is c sections a rs i (ltb-false _ _ (m.inside ∙ p))
          (λ (t : type_of (record_at rs i).bits ≡ ARM64_RELOC_ADDEND). n (ap type_of (sym m.bits) ∙ t))
          ∙ same-record d f _ _ m.shifts _ _ sections _ _ _ _ 0 0 (i + 1) (j + 1) m.loc m.bits m.subtracted refl (omega (arith, m.number)))
      go false p true q false w =
          let t = eqb-true _ _ q in
          rw (lone_is e sections b qs j (ltb-false _ _ p) t (ltb-false _ _ w))
          (lone_is c sections a rs i (ltb-false _ _ (m.inside ∙ p)) (ap type_of m.bits ∙ t) (ltb-false _ _ (m.more t ∙ w)))
      go false p true q true w =
          let t = eqb-true _ _ q in
          let l = ltb-true _ _ w in
          rw (pair_is e sections b qs j (ltb-false _ _ p) t l)
          (pair_is c sections a rs i (ltb-false _ _ (m.inside ∙ p)) (ap type_of m.bits ∙ t) (ltb-true _ _ (m.more t ∙ w))
          ∙ same-record d f _ _ m.shifts _ _ sections _ _ false false _ _ (i + 1 + 1) (j + 1 + 1) m.loc (m.own l) refl
          (ap (λ (x : ℕ). extend (idx_of x) 24) m.bits) (omega (arith, m.number)))
