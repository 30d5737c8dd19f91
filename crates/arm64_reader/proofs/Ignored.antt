-- What is ignored changes nothing: the slots' bytes, contents outside the words that records are read against, addresses of sections that no record
-- names, an ADDEND record's form, and the offset of the record after it. Steps that agree walk alike.
use Rattle.std.specs.Prelude.{Result, Ok, Err}
use mathlib.Core.Path.{◌≡◌, refl, sym, ap, subst, ◌∙◌}
use mathlib.Core.Logic.{◌⊎◌}
use mathlib.Core.Bool.{Bool, true, false}
use mathlib.Core.List.{List, ◌∷◌, ◌++◌}
use Prim.Native.Nat.{ℕ, zero, suc, zero-le, ◌+◌, ◌-◌, ◌<◌, ◌≤◌}
use native.Mathlib.Omega.{arith}
use borrow.Author.Tests.{ltb-true, ltb-false, eqb-true}
use lib.ListN.{length, get_or, drop, length-drop}
use lib.Dec.{eqb, ltb}
use Rattle.util.specs.Bits.{extend}
use Rattle.util.specs.Choice.{choose}
use Rattle.util.specs.Word.{le}
use Rattle.util.proofs.Bytes.{le-drop}
use Rattle.macho.specs.MachRel.{idx_of, type_of, p2size_of, extern_of}
use Rattle.macho.specs.Reloc.{with_signing}
use Rattle.macho.specs.Types.{ARM64_RELOC_UNSIGNED, ARM64_RELOC_SUBTRACTOR, ARM64_RELOC_GOT_LOAD_PAGEOFF12, ARM64_RELOC_TLVP_LOAD_PAGEOFF12}
use Rattle.macho.specs.Types.{ARM64_RELOC_ADDEND, ARM64_RELOC_AUTHENTICATED_POINTER}
use Rattle.macho.specs.declared.mach_rel.MachRel.{MachRel}
use Rattle.macho.specs.declared.reloc.Reloc.{Reloc}
use Rattle.arch.specs.Entry.{entry_of, enter, targeted}
use Rattle.arch.specs.Join.{joined}
use Rattle.arch.specs.Table.{record_at, subtracted_at}
use Rattle.arch.specs.Target.{section_target, target_of}
use Rattle.arch.specs.Walk.{Reading, before, after, read_from, read_all, Fills}
use Rattle.macho.specs.declared.refusal.Refusal.{Refusal}
use Rattle.arch.proofs.Walk.{Ends, turn_suc}
use Rattle.arch.proofs.Fuel.{same_from}
use Rattle.arm64_reader.specs.Check.{word_check, check_reloc}
use Rattle.arch.specs.Walk.{passing}
use Rattle.arm64_reader.specs.Record.{addend_of, adding, authenticated_record, entered, record_of, own_at, step_at}
use Rattle.arm64_reader.specs.Read.{read_records, ends_in, NoLastAddend, read_relocs}
use Rattle.arm64_reader.specs.Fields.{is_addend, own_of, looked_at}
use Rattle.arm64_reader.specs.Onward.{step-onward}
use Rattle.arm64_reader.proofs.Steps.{past_is, pair_is, pair_ends}
use Rattle.arm64_reader.proofs.Moves.{same-record, step-moved}
use Rattle.arch.proofs.Append.{moved_none}
use Rattle.arm64_reader.proofs.Tables.{read-append}

-- slots count by their length
pub slots-ignored : (contents records sections slots others : List ℕ) → length slots ≡ length others
    → read_relocs contents records sections slots ≡ read_relocs contents records sections others
unfolding read_relocs
slots-ignored contents records sections slots others e = rw e

-- ---- contents and sections

-- the bytes that a record is read against, by its type
looked-got : (r : MachRel) → type_of r.bits ≡ ARM64_RELOC_GOT_LOAD_PAGEOFF12 → looked_at r ≡ 4
unfolding looked_at choose
looked-got r e = rw e

looked-tlvp : (r : MachRel) → type_of r.bits ≡ ARM64_RELOC_TLVP_LOAD_PAGEOFF12 → looked_at r ≡ 4
unfolding looked_at choose
looked-tlvp r e = rw e

looked-word : (r : MachRel) → type_of r.bits ≡ ARM64_RELOC_UNSIGNED → eqb (p2size_of r.bits) 2 ≡ true → looked_at r ≡ 4
unfolding looked_at choose
looked-word r e h = rw (e, h)

looked-pointer : (r : MachRel) → type_of r.bits ≡ ARM64_RELOC_UNSIGNED → eqb (p2size_of r.bits) 2 ≡ false → looked_at r ≡ 8
unfolding looked_at choose
looked-pointer r e h = rw (e, h)

looked-authenticated : (r : MachRel) → type_of r.bits ≡ ARM64_RELOC_AUTHENTICATED_POINTER → looked_at r ≡ 8
unfolding looked_at choose
looked-authenticated r e = rw e

word_same : (ty : ℕ) (loc lac : List ℕ) → length loc ≡ length lac → le 4 loc 0 ≡ le 4 lac 0 → word_check ty loc ≡ word_check ty lac
unfolding word_check
word_same ty loc lac e w = rw (e, w)

-- two contents from an offset on, and two section lists, that a record does not tell apart
module _ (loc lac sections others : List ℕ) (r : MachRel) where
  pub record Same : Type 0 where
    pub room : length loc ≡ length lac
    pub words : le (looked_at r) loc 0 ≡ le (looked_at r) lac 0
    pub ordinals : length sections ≡ length others
    pub named : eqb (extern_of r.bits) 1 ≡ false → get_or sections (idx_of r.bits - 1) 0 ≡ get_or others (idx_of r.bits - 1) 0

  bytes_same : (n : ℕ) → Same → looked_at r ≡ n → le n loc 0 ≡ le n lac 0
  bytes_same n m e = rw e at m.words

  check-same : (subtracted : Bool) → Same → check_reloc r subtracted loc ≡ check_reloc r subtracted lac
  unfolding check_reloc choose
  check-same subtracted m =
      go (eqb (type_of r.bits) ARM64_RELOC_GOT_LOAD_PAGEOFF12) refl (eqb (type_of r.bits) ARM64_RELOC_TLVP_LOAD_PAGEOFF12) refl
    where
      word : looked_at r ≡ 4 → word_check (type_of r.bits) loc ≡ word_check (type_of r.bits) lac
      word e = word_same (type_of r.bits) loc lac m.room (bytes_same 4 m e)

      go : (g : Bool) → eqb (type_of r.bits) ARM64_RELOC_GOT_LOAD_PAGEOFF12 ≡ g → (t : Bool) → eqb (type_of r.bits) ARM64_RELOC_TLVP_LOAD_PAGEOFF12 ≡ t
          → check_reloc r subtracted loc ≡ check_reloc r subtracted lac
      go true q t w = rw (word (looked-got r (eqb-true (type_of r.bits) ARM64_RELOC_GOT_LOAD_PAGEOFF12 q)))
      go false q true w = rw (word (looked-tlvp r (eqb-true (type_of r.bits) ARM64_RELOC_TLVP_LOAD_PAGEOFF12 w)))
      go false q false w = rw (q, w)

  addend-same : (given : ℕ) → Same → addend_of r loc given ≡ addend_of r lac given
  unfolding addend_of choose
  addend-same given m = go (eqb (type_of r.bits) ARM64_RELOC_UNSIGNED) refl (eqb (p2size_of r.bits) 2) refl
    where
      go : (u : Bool) → eqb (type_of r.bits) ARM64_RELOC_UNSIGNED ≡ u → (p : Bool) → eqb (p2size_of r.bits) 2 ≡ p
          → addend_of r loc given ≡ addend_of r lac given
      go false q p w = rw q
      go true q true w =
          rw (q, w, m.room, bytes_same 4 m (looked-word r (eqb-true (type_of r.bits) ARM64_RELOC_UNSIGNED q) w))
      go true q false w =
          rw (q, w, m.room, bytes_same 8 m (looked-pointer r (eqb-true (type_of r.bits) ARM64_RELOC_UNSIGNED q) w))

  section-same : (held k : ℕ) → k ≡ idx_of r.bits → eqb (extern_of r.bits) 1 ≡ false → Same → section_target sections k held ≡ section_target others k held
  unfolding section_target
  section-same held zero e x m = refl
  section-same held (suc i) e x m =
      let z : idx_of r.bits - 1 ≡ i = omega arith in
      let a : get_or sections i 0 ≡ get_or others i 0 = rw z at (m.named x) in
      rw (m.ordinals, a)

  target-same : (held : ℕ) → Same → target_of sections r held ≡ target_of others r held
  unfolding target_of choose
  target-same held m = go (eqb (extern_of r.bits) 1) refl
    where
      go : (x : Bool) → eqb (extern_of r.bits) 1 ≡ x → target_of sections r held ≡ target_of others r held
      go true x = rw x
      go false x = rw (x, section-same held (idx_of r.bits) refl x m)

  adding-same : (subtracted : Bool) (offset next : ℕ) (a : Result ℕ Refusal) → Same
      → adding sections r subtracted offset next a ≡ adding others r subtracted offset next a
  unfolding targeted
  adding-same subtracted offset next (Ok a) m = ap (enter r subtracted offset next) (target-same a m)
  adding-same subtracted offset next (Err x) m = refl

  authenticated-same : (subtracted : Bool) (offset next : ℕ) → type_of r.bits ≡ ARM64_RELOC_AUTHENTICATED_POINTER → Same
      → authenticated_record loc r subtracted offset next ≡ authenticated_record lac r subtracted offset next
  unfolding authenticated_record
  authenticated-same subtracted offset next t m = rw (m.room, bytes_same 8 m (looked-authenticated r t))

  entered-same : (subtracted : Bool) (offset given next : ℕ) → Same
      → entered loc sections r subtracted offset given next ≡ entered lac others r subtracted offset given next
  unfolding choose
  entered-same subtracted offset given next m = go (eqb (type_of r.bits) ARM64_RELOC_AUTHENTICATED_POINTER) refl
    where
      go : (t : Bool) → eqb (type_of r.bits) ARM64_RELOC_AUTHENTICATED_POINTER ≡ t
          → entered loc sections r subtracted offset given next ≡ entered lac others r subtracted offset given next
      go true e = rw e (authenticated-same subtracted offset next (eqb-true (type_of r.bits) ARM64_RELOC_AUTHENTICATED_POINTER e) m)
      go false e = rw (e, addend-same given m) (adding-same subtracted offset next (addend_of r lac given) m)

  record_same : (subtracted : Bool) (offset given next : ℕ) → Same
      → record_of loc sections r subtracted offset given next ≡ record_of lac others r subtracted offset given next
  unfolding record_of
  record_same subtracted offset given next m =
      rw (check-same subtracted m) (ap (passing (check_reloc r subtracted lac)) (entered-same subtracted offset given next m))

-- two contents and two section lists of the same lengths that agree in the words that entries' own records are read against, and in the addresses of the
-- sections that they name
module _ (contents others sections addresses : List ℕ) (first : Bool) (rs : List MachRel) where
  pub record Unseen : Type 0 where
    pub size : length contents ≡ length others
    pub ordinals : length sections ≡ length addresses
    pub words : (i : ℕ) → i < length rs
        → le (looked_at (record_at rs (own_of rs i))) contents (record_at rs i).offset ≡ le (looked_at (record_at rs (own_of rs i))) others (record_at rs i).offset
    pub named : (i : ℕ) → i < length rs → eqb (extern_of (record_at rs (own_of rs i)).bits) 1 ≡ false
        → get_or sections (idx_of (record_at rs (own_of rs i)).bits - 1) 0 ≡ get_or addresses (idx_of (record_at rs (own_of rs i)).bits - 1) 0

  own_same : (i : ℕ) → i < length rs → Unseen → (given : ℕ)
      → own_at contents sections first rs (own_of rs i) (record_at rs i).offset given ≡ own_at others addresses first rs (own_of rs i) (record_at rs i).offset given
  own_same i h m given =
      record_same (drop off contents) (drop off others) sections addresses own _ off given (own_of rs i + 1)
      (record {
        room = simp length-drop (ap (λ (n : ℕ). n - off) m.size);
        words = word contents ∙ m.words i h ∙ sym (word others);
        ordinals = m.ordinals;
        named = m.named i h;
      })
    where
      off : ℕ
      off = (record_at rs i).offset

      own : MachRel
      own = record_at rs (own_of rs i)

      word : (s : List ℕ) → le (looked_at own) (drop off s) 0 ≡ le (looked_at own) s off
      word s = le-drop (looked_at own) s off 0 ∙ ap (le (looked_at own) s) (omega arith)

  step_same : Unseen → (i : ℕ) → i < length rs → step_at contents sections first rs i ≡ step_at others addresses first rs i
  unfolding step_at choose
  step_same m i h = go (is_addend (record_at rs i)) refl
    where
      given : ℕ
      given = extend (idx_of (record_at rs i).bits) 24

      go : (t : Bool) → is_addend (record_at rs i) ≡ t → step_at contents sections first rs i ≡ step_at others addresses first rs i
      go true e =
          let o : own_of rs i ≡ i + 1 = rw e in
          let s = subst (λ (j : ℕ).
          own_at contents sections first rs j (record_at rs i).offset given
          ≡ own_at others addresses first rs j (record_at rs i).offset given) o (own_same i h m given) in
          rw (e, m.size, s)
      go false e =
          let o : own_of rs i ≡ i = rw e in
          let s = subst (λ (j : ℕ).
          own_at contents sections first rs j (record_at rs i).offset 0 ≡ own_at others addresses first rs j (record_at rs i).offset 0) o (own_same i h m 0) in
          rw (e, m.size, s)

  pub contents-ignored : Unseen → read_records contents sections first rs ≡ read_records others addresses first rs
  unfolding read_records read_all
  contents-ignored m =
      same_from (step_at contents sections first rs) (step_at others addresses first rs) (length rs) 0 (step-onward contents sections first rs)
      (λ i _ h. step_same m i h) (length rs) 0 zero-le

-- ---- an ADDEND record's form, and the offset of the record after it

after-ends : (m : ℕ) (s : Result (Reloc × ℕ) Refusal) (p q : ℕ → Reading) → Ends m s → p m ≡ q m → after s p ≡ after s q
unfolding Ends
after-ends m (Err x) p q h e = refl
after-ends m (Ok (r, next)) p q h e = rw h (ap (before r) e)

-- an ADDEND record a with a record r after it, and another such pair
module _ (contents sections : List ℕ) (first : Bool) (ys : List MachRel) (a b r q : MachRel)
    (ta : type_of a.bits ≡ ARM64_RELOC_ADDEND) (tb : type_of b.bits ≡ ARM64_RELOC_ADDEND) (offsets : a.offset ≡ b.offset)
    (indices : idx_of a.bits ≡ idx_of b.bits) (owns : r.bits ≡ q.bits) where
  abbrev rs : List MachRel
  rs = a ∷ (r ∷ ys)

  abbrev qs : List MachRel
  qs = b ∷ (q ∷ ys)

  head-same : step_at contents sections first rs 0 ≡ step_at contents sections first qs 0
  head-same = go (ltb (length contents) b.offset) refl
    where
      go : (t : Bool) → ltb (length contents) b.offset ≡ t → step_at contents sections first rs 0 ≡ step_at contents sections first qs 0
      go true e =
          let h = ltb-true (length contents) b.offset e in
          past_is contents sections first rs 0 (omega arith) ∙ sym (past_is contents sections first qs 0 h)
      go false e =
          let h = ltb-false (length contents) b.offset e in
          let s = same-record 0 (λ (x : Reloc). x) b.offset a.offset (λ m s t v x. ap (λ (o : ℕ). with_signing (entry_of m s o t v) x) (sym offsets))
          (drop a.offset contents) (drop b.offset contents) sections r q false false (extend (idx_of a.bits) 24) (extend (idx_of b.bits) 24) 2 2
          (ap (λ (o : ℕ). drop o contents) offsets) owns refl (ap (λ (i : ℕ). extend i 24) indices) refl in
          pair_is contents sections first rs 0 (omega arith) ta (omega arith)
          ∙ s
          ∙ moved_none _
          ∙ sym (pair_is contents sections first qs 0 h tb (omega arith))

  bits-later : (k : ℕ) → (record_at rs (suc k)).bits ≡ (record_at qs (suc k)).bits
  bits-later zero = owns
  bits-later (suc k) = refl

  subtracted-later : (k : ℕ) → subtracted_at ARM64_RELOC_SUBTRACTOR first rs (suc (suc k)) ≡ subtracted_at ARM64_RELOC_SUBTRACTOR first qs (suc (suc k))
  unfolding subtracted_at
  subtracted-later k =
      let z : suc (suc k) - 1 ≡ suc k = omega arith in
      rw (z, bits-later k)

  later_same : (i : ℕ) → 2 ≤ i → i < length rs → step_at contents sections first rs i ≡ step_at contents sections first qs i
  later_same zero h l = absurd (omega arith)
  later_same (suc zero) h l = absurd (omega arith)
  later_same (suc (suc k)) h l =
      step-moved 0 (λ (x : Reloc). x) contents contents sections first first rs qs (suc (suc k)) (suc (suc k))
      (record {
        number = omega arith;
        shifts = λ m s t v x. refl;
        inside = refl;
        loc = refl;
        bits = refl;
        subtracted = subtracted-later k;
        more = λ _. refl;
        own = λ _. ap (λ (i : ℕ). (record_at rs i).bits) add-one ∙ bits-later (suc (suc k)) ∙ ap (λ (i : ℕ). (record_at qs i).bits) (sym add-one);
      })
      ∙ moved_none _
    where
      add-one : suc (suc k) + 1 ≡ suc (suc (suc k))
      add-one = omega arith

  pair_same : read_records contents sections first rs ≡ read_records contents sections first qs
  unfolding read_records read_all
  pair_same =
      turn_suc (step_at contents sections first rs) (length rs) (suc (length ys)) 0 (omega arith)
      ∙ after-ends 2 (step_at contents sections first rs 0) (read_from (step_at contents sections first rs) (length rs) (suc (length ys)))
      (read_from (step_at contents sections first qs) (length rs) (suc (length ys))) (pair_ends contents sections first rs 0 ta)
      (same_from (step_at contents sections first rs) (step_at contents sections first qs) (length rs) 2 (step-onward contents sections first rs) later_same
      (suc (length ys)) 2 (omega arith))
      ∙ ap (λ (s : Result (Reloc × ℕ) Refusal). after s (read_from (step_at contents sections first qs) (length rs) (suc (length ys)))) head-same
      ∙ sym (turn_suc (step_at contents sections first qs) (length qs) (suc (length ys)) 0 (omega arith))

-- an ADDEND record that heads a pair counts by its offset, its index and its type, and the record after it by its bits
pub addend-ignored : (contents sections : List ℕ) (first : Bool) (xs ys : List MachRel) (a b r q : MachRel)
    → type_of a.bits ≡ ARM64_RELOC_ADDEND → type_of b.bits ≡ ARM64_RELOC_ADDEND → a.offset ≡ b.offset → idx_of a.bits ≡ idx_of b.bits
    → r.bits ≡ q.bits → NoLastAddend xs ⊎ Fills (read_records contents sections first xs)
    → read_records contents sections first (xs ++ (a ∷ (r ∷ ys))) ≡ read_records contents sections first (xs ++ (b ∷ (q ∷ ys)))
addend-ignored contents sections first xs ys a b r q ta tb o i w h =
    read-append contents sections first xs (a ∷ (r ∷ ys)) h
    ∙ ap (joined (read_records contents sections first xs)) (pair_same contents sections (ends_in first xs) ys a b r q ta tb o i w)
    ∙ sym (read-append contents sections first xs (b ∷ (q ∷ ys)) h)
