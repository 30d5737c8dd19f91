-- What a table means against what is read, for every table: where it is defined and read, the entries say what it means; where it is defined, its bytes and
-- sections are there and it is refused, the word is unfit or a 4-byte pointer stands alone; where it is read and not defined, the reason is one of those
-- listed. One induction over the records, by the cases of a turn.
use Rattle.std.specs.Prelude.{Result}
use mathlib.Core.Path.{◌≡◌, refl, sym, ap, ap₂, subst, subst₂, ◌∙◌}
use mathlib.Core.Logic.{◌⊎◌, inl, inr, ⊎_elim}
use mathlib.Core.Bool.{Bool, true, false, ◌||◌, or-true, true≢false, false≢true}
use mathlib.Core.List.{List, [], ◌∷◌}
use Prim.Native.Nat.{ℕ, ◌+◌, ◌*◌, ◌/◌, ◌%◌, ◌^◌, ◌<◌, ◌≤◌}
use native.Mathlib.Omega.{arith}
use borrow.Author.Tests.{eq-eqb, ne_eqb, eqb-true, ltb-true, ltb-false}
use lib.ListN.{length, drop, length-drop}
use lib.Dec.{eqb, ltb}
use Rattle.util.specs.Bits.{extend}
use Rattle.util.specs.Choice.{choose}
use Rattle.util.specs.Diagram.{matches}
use Rattle.util.specs.Word.{le}
use Rattle.util.proofs.Bytes.{le-drop}
use Rattle.util.proofs.Choice.{both, choose-true}
use Rattle.macho.specs.Authenticated.{authenticated}
use Rattle.macho.specs.MachRel.{idx_of, p2size_of, extern_of, type_of}
use Rattle.macho.specs.Types.{ARM64_RELOC_UNSIGNED, ARM64_RELOC_SUBTRACTOR, ARM64_RELOC_ADDEND, ARM64_RELOC_AUTHENTICATED_POINTER}
use Rattle.macho.specs.declared.mach_rel.MachRel.{MachRel}
use Rattle.macho.specs.declared.reloc.Reloc.{Reloc}
use Rattle.macho.specs.declared.refusal.Refusal.{Refusal}
use Rattle.macho.specs.declared.refusal.Refusal.TheVariants.{Bounds, LoneAddend, Unsupported, Unfit}
use Rattle.arch.specs.Table.{records_of}
use Rattle.arch.specs.Walk.{Reading, refused, entries, before}
use Rattle.arm64_reader.specs.Check.{pointer32}
use Rattle.arm64_reader.specs.Record.{record_of}
use Rattle.arm64_reader.specs.Read.{read_records, read_relocs}
use Rattle.arm64_reader.specs.Header.{Referent, Less, nothing, less, Relocation, is_defined, takes_addend, referent_of, pointer_of, word_of}
use Rattle.arm64_reader.specs.Header.{authenticated_of, not-authenticated}
use Rattle.arm64_reader.specs.Header.{Reason, lack_of, subtractor-last, subtractor-type, subtractor-place, subtractor-size}
use Rattle.arm64_reader.specs.Header.{addend-form, addend-last, addend-type, addend-place}
use Rattle.arm64_reader.specs.Header.{is_tolerated, Pending, none, minus, plus, Turn, Meaning, undefined, relocations}
use Rattle.arm64_reader.specs.Header.{with_first, follow, meaning_from, meaning_of, Known, Present, is_lone_pointer32, has_lone_pointer32}
use Rattle.arm64_reader.specs.Said.{named_by, say_one, said_from, said}
use Rattle.arm64_reader.proofs.Lengths.{enough}
use Rattle.arm64_reader.proofs.Lists.{is_subtractor, read-nil, read_past, read-lone, plain-cases, pair-cases}
use Rattle.arm64_reader.proofs.HeaderForms.{names-symbol}
use Rattle.arm64_reader.proofs.HeaderRecords.{read-entry, read-formed, read_named, read-authenticated, refused-left, named-is, own, say-pointer}
use Rattle.arm64_reader.proofs.HeaderRecords.{say-authenticated, say-word}
use Rattle.arm64_reader.proofs.HeaderTurns as View

-- the refusals that a table of these relocations may meet
abbrev pub Allowed : List Relocation → Refusal → Type 0
Allowed ms x = (x ≡ Unfit) ⊎ ((x ≡ Unsupported) × (has_lone_pointer32 ms ≡ true))

-- a meaning and an answer that go together, where m is subtracted from the first entry
module _ (size sections : ℕ) where
  unfoldable pub Consistent : Less → Meaning → Reading → Type 0
  Consistent m (relocations ms) (entries es) = said_from m es ≡ ms
  Consistent m (relocations ms) (refused x) = Present size sections ms → Allowed ms x
  Consistent m (undefined y) (entries es) = is_tolerated y ≡ true
  Consistent m (undefined y) (refused x) = Unit {0}

  tolerated : (m : Less) (y : Reason) → is_tolerated y ≡ true → (a : Reading) → Consistent m (undefined y) a
  unfolding Consistent
  tolerated m y h (refused x) = tt
  tolerated m y h (entries es) = h

  turned_down : (m : Less) (y : Reason) (x : Refusal) → Consistent m (undefined y) (refused x)
  unfolding Consistent
  turned_down m y x = tt

  more-allowed : (r : Relocation) (ms : List Relocation) (x : Refusal) → Allowed ms x → Allowed (r ∷ ms) x
  more-allowed r ms x = ⊎_elim (λ u. inl u) (λ u. inr (u.0, ap (λ (b : Bool). is_lone_pointer32 r || b) u.1 ∙ or-true (is_lone_pointer32 r)))

  -- a relocation and its entry before the rest
  give-read : (m : Less) (r : Relocation) (e : Reloc) (w : Meaning) (a : Reading) → say_one m e ≡ r → (e.ty ≡ ARM64_RELOC_SUBTRACTOR → ⊥)
      → Consistent nothing w a → Consistent m (with_first r w) (before e a)
  unfolding Consistent choose
  give-read m r e (undefined y) (refused x) s n g = tt
  give-read m r e (undefined y) (entries es) s n g = g
  give-read m r e (relocations ms) (refused x) s n g = λ i. more-allowed r ms x (g i.1)
  give-read m r e (relocations ms) (entries es) s n g =
      rw (ne_eqb e.ty ARM64_RELOC_SUBTRACTOR n) (ap₂ (λ (a : Relocation) (l : List Relocation). a ∷ l) s g)

  -- a relocation whose record is refused
  give-refused : (m : Less) (r : Relocation) (w : Meaning) (x : Refusal)
      → ((r.place + r.size ≤ size) × Known sections r.target → (x ≡ Unfit) ⊎ ((x ≡ Unsupported) × (is_lone_pointer32 r ≡ true)))
      → Consistent m (with_first r w) (refused x)
  unfolding Consistent
  give-refused m r (undefined y) x f = tt
  give-refused m r (relocations ms) x f =
      λ i. ⊎_elim (λ u. inl u) (λ u. inr (u.0, ap (λ (b : Bool). b || has_lone_pointer32 ms) u.1)) (f i.0)

  -- a SUBTRACTOR's entry before the rest
  minus-read : (q : Referent) (e : Reloc) (w : Meaning) (a : Reading) → e.ty ≡ ARM64_RELOC_SUBTRACTOR → named_by e.target ≡ q
      → Consistent (less q) w a → Consistent nothing w (before e a)
  unfolding Consistent choose
  minus-read q e (undefined y) (refused x) t n g = tt
  minus-read q e (undefined y) (entries es) t n g = g
  minus-read q e (relocations ms) (refused x) t n g = g
  minus-read q e (relocations ms) (entries es) t n g =
      rw (eq-eqb e.ty ARM64_RELOC_SUBTRACTOR t) (ap (λ (p : Referent). said_from (less p) es) n ∙ g)

  -- a SUBTRACTOR that is refused
  minus-refused : (w : Meaning) (x : Refusal) → ((ms : List Relocation) → w ≡ relocations ms → Present size sections ms → Allowed ms x)
      → Consistent nothing w (refused x)
  unfolding Consistent
  minus-refused (undefined y) x f = tt
  minus-refused (relocations ms) x f = λ i. f ms refl i

-- ---- a 4-byte pointer alone

lone-type : (r : MachRel) (b : Bool) → pointer32 r b ≡ true → type_of r.bits ≡ ARM64_RELOC_UNSIGNED
unfolding pointer32
lone-type r b h = eqb-true (type_of r.bits) ARM64_RELOC_UNSIGNED (both (eqb (type_of r.bits) ARM64_RELOC_UNSIGNED) _ h).0

lone-says : (contents sections : List ℕ) (r : MachRel) (b : Bool) → pointer32 r b ≡ true → is_lone_pointer32 (pointer_of contents sections r nothing) ≡ true
unfolding pointer32
lone-says contents sections r b h =
    let t = both (eqb (type_of r.bits) ARM64_RELOC_UNSIGNED) _ h in
    let s = both (eqb (p2size_of r.bits) 2) _ t.1 in
    let z : 2 ^ p2size_of r.bits ≡ 4 = ap (λ (k : ℕ). 2 ^ k) (eqb-true (p2size_of r.bits) 2 s.0) in
    rw (t.0, z)

not-lone : (r : MachRel) → pointer32 r true ≡ true → ⊥
unfolding pointer32
not-lone r h =
    let t = both (eqb (type_of r.bits) ARM64_RELOC_UNSIGNED) _ h in
    false≢true (both (eqb (p2size_of r.bits) 2) _ t.1).1

-- ---- one record

module _ (contents sections : List ℕ) where
  abbrev Read-so : Less → Meaning → Reading → Type 0
  Read-so = Consistent (length contents) (length sections)

  -- the 8 bytes at a record's place, from there on
  stored_at : (r : MachRel) → le 8 (drop r.offset contents) 0 ≡ le 8 contents r.offset
  stored_at r = le-drop 8 contents r.offset 0 ∙ ap (le 8 contents) (omega arith)

  -- a record that gives a relocation of its own
  single : (m : Less) (b : Bool) (r : MachRel) (rs : List MachRel) (g : Relocation) (w : Meaning)
      → (type_of r.bits ≡ ARM64_RELOC_ADDEND → ⊥) → (type_of r.bits ≡ ARM64_RELOC_SUBTRACTOR → ⊥) → is_defined r ≡ true
      → g.place ≡ r.offset → g.size ≡ 2 ^ p2size_of r.bits → g.target ≡ referent_of r
      → ((o : eqb (extern_of r.bits) 1 ≡ false → idx_of r.bits ≡ 0 → ⊥) → say_one m (own contents sections r b 0 m o) ≡ g)
      → (pointer32 r b ≡ true → is_lone_pointer32 g ≡ true)
      → (type_of r.bits ≡ ARM64_RELOC_AUTHENTICATED_POINTER → matches authenticated (le 8 contents r.offset) ≡ true)
      → Read-so nothing w (read_records contents sections false rs) → Read-so m (with_first g w) (read_records contents sections b (r ∷ rs))
  single m b r rs g w na ns f gp gs gt says lone stored rest =
      plain-cases contents sections b (Read-so m (with_first g w)) r rs na
      (λ h. give-refused _ _ m g w Bounds (λ i. absurd (past h i.0)))
      (λ h x e. give-refused _ _ m g w x (λ i. ⊎_elim (λ u. inl u) (λ u. inr (u.0, lone u.1))
      (refused-left (drop r.offset contents) sections r b r.offset 0 1 f (room i.0) (subst (Known (length sections)) gt i.1)
      (λ t. ap (matches authenticated) (stored_at r) ∙ stored t) e)))
      (λ h e k q. give-read _ _ m g e w (read_records contents sections (is_subtractor r) rs)
      (ap (say_one m) (read-entry _ sections r b _ 0 1 q) ∙ says (read_named _ sections r b _ 0 1 q))
      (λ t. ns (ap (λ (d : Reloc). d.ty) (sym (read-entry _ sections r b _ 0 1 q)) ∙ t))
      (rw (ne_eqb (type_of r.bits) ARM64_RELOC_SUBTRACTOR ns) rest))
    where
      past : length contents < r.offset → g.place + g.size ≤ length contents → ⊥
      past h i = omega arith

      room : g.place + g.size ≤ length contents → 2 ^ p2size_of r.bits ≤ length (drop r.offset contents)
      room i = simp length-drop (omega arith)

  -- an ADDEND record and one that gives a relocation with its addend
  summed : (a r : MachRel) (rs : List MachRel) (w : Meaning) → type_of a.bits ≡ ARM64_RELOC_ADDEND → takes_addend (type_of r.bits) ≡ true
      → is_defined r ≡ true → r.offset ≡ a.offset → Read-so nothing w (read_records contents sections false rs)
      → Read-so nothing (with_first (word_of r (extend (idx_of a.bits) 24)) w) (read_records contents sections false (a ∷ (r ∷ rs)))
  summed a r rs w t takes f o rest =
      pair-cases contents sections false (Read-so nothing (with_first g w)) a r rs t
      (λ h. give-refused _ _ nothing g w Bounds (λ i. absurd (past h i.0)))
      (λ h x e. give-refused _ _ nothing g w x (λ i. ⊎_elim (λ u. inl u) (λ u. absurd (none_of 0 refl (lone-type r false u.1)))
      (refused-left (drop r.offset contents) sections r false r.offset given 2 f (room i.0) i.1 (λ t. absurd (none_of 11 refl t)) (here e))))
      (λ h e k q. give-read _ _ nothing g e w (read_records contents sections (is_subtractor r) rs)
      (ap (say_one nothing) (read-entry _ sections r false _ given 2 (here q))
      ∙ say-word contents sections r false given nothing (read_named _ sections r false _ given 2 (here q)) (none_of 0 refl)
      (none_of 11 refl) (names-symbol r f (none_of 0 refl) (none_of 10 refl)))
      (λ u. none_of 1 refl (ap (λ (d : Reloc). d.ty) (sym (read-entry _ sections r false _ given 2 (here q))) ∙ u))
      (rw (ne_eqb (type_of r.bits) ARM64_RELOC_SUBTRACTOR (none_of 1 refl)) rest))
    where
      given : ℕ
      given = extend (idx_of a.bits) 24

      g : Relocation
      g = word_of r given

      none_of : (k : ℕ) → takes_addend k ≡ false → type_of r.bits ≡ k → ⊥
      none_of k n e = true≢false (sym takes ∙ ap takes_addend e ∙ n)

      here : {s : Result (Reloc × ℕ) Refusal} → record_of (drop a.offset contents) sections r false a.offset given 2 ≡ s
          → record_of (drop r.offset contents) sections r false r.offset given 2 ≡ s
      here e = ap (λ (k : ℕ). record_of (drop k contents) sections r false k given 2) o ∙ e

      past : length contents < a.offset → r.offset + 2 ^ p2size_of r.bits ≤ length contents → ⊥
      past h i = omega arith

      room : r.offset + 2 ^ p2size_of r.bits ≤ length contents → 2 ^ p2size_of r.bits ≤ length (drop r.offset contents)
      room i = simp length-drop (omega arith)

  -- a record that is not defined is refused
  unformed : (m : Less) (b : Bool) (r : MachRel) (rs : List MachRel) → (type_of r.bits ≡ ARM64_RELOC_ADDEND → ⊥) → is_defined r ≡ false
      → Read-so m (undefined (lack_of r)) (read_records contents sections b (r ∷ rs))
  unformed m b r rs na f =
      plain-cases contents sections b (Read-so m (undefined (lack_of r))) r rs na
      (λ h. turned_down _ _ m (lack_of r) Bounds)
      (λ h x e. turned_down _ _ m (lack_of r) x)
      (λ h e k q. absurd (true≢false (sym (read-formed _ sections r b _ 0 1 q) ∙ f)))

  -- an authenticated pointer whose stored word is none is refused
  unauthentic : (r : MachRel) (rs : List MachRel) → type_of r.bits ≡ ARM64_RELOC_AUTHENTICATED_POINTER
      → matches authenticated (le 8 contents r.offset) ≡ false → Read-so nothing (undefined not-authenticated) (read_records contents sections false (r ∷ rs))
  unauthentic r rs t f =
      plain-cases contents sections false (Read-so nothing (undefined not-authenticated)) r rs (λ a. omega arith)
      (λ h. turned_down _ _ nothing not-authenticated Bounds)
      (λ h x e. turned_down _ _ nothing not-authenticated x)
      (λ h e k q.
      absurd (true≢false (sym (read-authenticated _ sections r false _ 0 1 q t) ∙ ap (matches authenticated) (stored_at r) ∙ f)))

  unformed-pair : (a r : MachRel) (rs : List MachRel) → type_of a.bits ≡ ARM64_RELOC_ADDEND → is_defined r ≡ false
      → Read-so nothing (undefined (lack_of r)) (read_records contents sections false (a ∷ (r ∷ rs)))
  unformed-pair a r rs t f =
      pair-cases contents sections false (Read-so nothing (undefined (lack_of r))) a r rs t
      (λ h. turned_down _ _ nothing (lack_of r) Bounds)
      (λ h x e. turned_down _ _ nothing (lack_of r) x)
      (λ h e k q. absurd (true≢false (sym (read-formed _ sections r false _ (extend (idx_of a.bits) 24) 2 q) ∙ f)))

  -- what is subtracted has its bytes where the difference has them
  first-inside : (g : Relocation) (w : Meaning) (ms : List Relocation) → with_first g w ≡ relocations ms → Present (length contents) (length sections) ms
      → g.place + g.size ≤ length contents
  first-inside g (undefined y) ms e i = let z : ◌≡◌ {A = ℕ} 0 1 = cc in absurd (omega arith)
  first-inside g (relocations ns) ms e i =
      let q : g ∷ ns ≡ ms = cc in
      (subst (Present (length contents) (length sections)) (sym q) i).0.0

  minus-inside : (q : MachRel) (rs : List MachRel) (ms : List Relocation) → meaning_from contents sections (minus q) rs ≡ relocations ms
      → Present (length contents) (length sections) ms → q.offset + 2 ^ p2size_of q.bits ≤ length contents
  unfolding meaning_from
  minus-inside q [] ms e i = let z : ◌≡◌ {A = ℕ} 0 1 = cc in absurd (omega arith)
  minus-inside q (r ∷ rs) ms e i = go (View.after_minus contents sections q r) e
    where
      rest : Pending → Meaning
      rest = λ p. meaning_from contents sections p rs

      never : {A : Type 0} (y : Reason) → undefined y ≡ relocations ms → A
      never y e = let z : ◌≡◌ {A = ℕ} 0 1 = cc in absurd (omega arith)

      go : {t : Turn} → View.AfterMinus contents sections q r t → follow t rest ≡ relocations ms → q.offset + 2 ^ p2size_of q.bits ≤ length contents
      go View.other-type e = never _ e
      go (View.unknown u f) e = never _ e
      go View.other_place e = never _ e
      go View.other-size e = never _ e
      go (View.difference u f o z) e =
          let h = first-inside (pointer_of contents sections r (less (referent_of q))) (rest none) ms e i in
          subst₂ (λ (k l : ℕ). k + 2 ^ l ≤ length contents) o z h

  -- a SUBTRACTOR before what follows it
  subtracted : (r : MachRel) (rs : List MachRel) → type_of r.bits ≡ ARM64_RELOC_SUBTRACTOR → is_defined r ≡ true
      → Read-so (less (referent_of r)) (meaning_from contents sections (minus r) rs) (read_records contents sections true rs)
      → Read-so nothing (meaning_from contents sections (minus r) rs) (read_records contents sections false (r ∷ rs))
  subtracted r rs t f rest =
      plain-cases contents sections false (Read-so nothing w) r rs (λ a. omega arith)
      (λ h. minus-refused _ _ w Bounds (λ ms e i. absurd (past h (minus-inside r rs ms e i))))
      (λ h x e. minus-refused _ _ w x (λ ms d i. ⊎_elim (λ u. inl u) (λ u. absurd (not-unsigned (lone-type r false u.1)))
      (refused-left (drop r.offset contents) sections r false r.offset 0 1 f (room (minus-inside r rs ms d i)) known (λ a. absurd (other-type a)) e)))
      (λ h e k q. minus-read _ _ (referent_of r) e w (read_records contents sections (is_subtractor r) rs)
      (ap (λ (d : Reloc). d.ty) (read-entry _ sections r false _ 0 1 q) ∙ t)
      (ap (λ (d : Reloc). named_by d.target) (read-entry _ sections r false _ 0 1 q) ∙ named-is r (read_named _ sections r false _ 0 1 q))
      (rw (eq-eqb (type_of r.bits) ARM64_RELOC_SUBTRACTOR t) rest))
    where
      w : Meaning
      w = meaning_from contents sections (minus r) rs

      not-unsigned : type_of r.bits ≡ ARM64_RELOC_UNSIGNED → ⊥
      not-unsigned u = omega arith

      other-type : type_of r.bits ≡ ARM64_RELOC_AUTHENTICATED_POINTER → ⊥
      other-type a = omega arith

      known : Known (length sections) (referent_of r)
      known = subst (Known (length sections)) (sym (choose-true _ _ _ (names-symbol r f not-unsigned (λ a. omega arith)))) tt

      past : length contents < r.offset → r.offset + 2 ^ p2size_of r.bits ≤ length contents → ⊥
      past h i = omega arith

      room : r.offset + 2 ^ p2size_of r.bits ≤ length contents → 2 ^ p2size_of r.bits ≤ length (drop r.offset contents)
      room i = simp length-drop (omega arith)

  -- ---- the table

  -- after what is pending
  Good : Pending → List MachRel → Type 0
  Good none rs = Read-so nothing (meaning_from contents sections none rs) (read_records contents sections false rs)
  Good (minus q) rs = Read-so (less (referent_of q)) (meaning_from contents sections (minus q) rs) (read_records contents sections true rs)
  Good (plus a) rs =
      type_of a.bits ≡ ARM64_RELOC_ADDEND → Read-so nothing (meaning_from contents sections (plus a) rs) (read_records contents sections false (a ∷ rs))

  good-end : (p : Pending) → Good p []
  unfolding Good meaning_from
  good-end none = rw (read-nil contents sections false) (unfold Consistent in refl)
  good-end (minus q) = rw (read-nil contents sections true) (tolerated _ _ _ subtractor-last refl _)
  good-end (plus a) = λ t. lone a t (ltb (length contents) a.offset) refl
    where
      lone : (a : MachRel) → type_of a.bits ≡ ARM64_RELOC_ADDEND → (b : Bool) → ltb (length contents) a.offset ≡ b
          → Read-so nothing (undefined addend-last) (read_records contents sections false (a ∷ []))
      lone a t true e = rw (read_past contents sections false a [] (ltb-true _ _ e)) (turned_down _ _ nothing addend-last Bounds)
      lone a t false e = rw (read-lone contents sections false a (ltb-false _ _ e) t) (turned_down _ _ nothing addend-last LoneAddend)

  good : (rs : List MachRel) (p : Pending) → Good p rs
  unfolding Good meaning_from
  good [] p = good-end p
  good (r ∷ rs) none = go (View.alone contents sections r) (good rs none) (good rs (minus r)) (good rs (plus r))
    where
      A : Reading
      A = read_records contents sections false (r ∷ rs)

      go : {t : Turn} → View.Alone contents sections r t → Good none rs → Good (minus r) rs → Good (plus r) rs
          → Read-so nothing (follow t (λ q. meaning_from contents sections q rs)) A
      go (View.odd-addend t) n m p = tolerated _ _ nothing addend-form refl A
      go (View.addend t) n m p = p t
      go (View.unknown a f) n m p = unformed nothing false r rs a f
      go (View.subtractor t f) n m p = subtracted r rs t f m
      go (View.pointer t f) n m p =
          single nothing false r rs (pointer_of contents sections r nothing) _ (λ a. omega arith) (λ s. omega arith) f refl refl refl
          (λ o. say-pointer contents sections r false 0 nothing o t) (lone-says contents sections r false)
          (λ a. absurd (omega arith)) n
      go (View.authenticated-pointer t f w) n m p =
          single nothing false r rs (authenticated_of contents r) _ (λ a. omega arith) (λ s. omega arith) f refl refl refl
          (λ o. say-authenticated contents sections r false 0 nothing o t (names-symbol r f (λ u. omega arith) (λ a. omega arith)))
          (λ l. let u = lone-type r false l in absurd (omega arith)) (λ _. w) n
      go (View.other-bits t f w) n m p = unauthentic r rs t w
      go (View.word a s u t f) n m p =
          single nothing false r rs (word_of r 0) _ a s f refl refl refl
          (λ o. say-word contents sections r false 0 nothing o u t (names-symbol r f u a)) (λ l. absurd (u (lone-type r false l))) (λ e. absurd (t e)) n
  good (r ∷ rs) (minus q) = go (View.after_minus contents sections q r) (good rs none)
    where
      A : Reading
      A = read_records contents sections true (r ∷ rs)

      go : {t : Turn} → View.AfterMinus contents sections q r t → Good none rs
          → Read-so (less (referent_of q)) (follow t (λ p. meaning_from contents sections p rs)) A
      go View.other-type n = tolerated _ _ (less (referent_of q)) subtractor-type refl A
      go (View.unknown u f) n = unformed (less (referent_of q)) true r rs (λ a. omega arith) f
      go View.other_place n = tolerated _ _ (less (referent_of q)) subtractor-place refl A
      go View.other-size n = tolerated _ _ (less (referent_of q)) subtractor-size refl A
      go (View.difference u f o z) n =
          single (less (referent_of q)) true r rs (pointer_of contents sections r (less (referent_of q))) _ (λ a. omega arith) (λ s. omega arith) f refl refl refl
          (λ d. say-pointer contents sections r true 0 (less (referent_of q)) d u) (λ l. absurd (not-lone r l)) (λ a. absurd (omega arith)) n
  good (r ∷ rs) (plus a) = λ t. go t (View.after_plus a r) (good rs none)
    where
      A : Reading
      A = read_records contents sections false (a ∷ (r ∷ rs))

      go : {t : Turn} → type_of a.bits ≡ ARM64_RELOC_ADDEND → View.AfterPlus a r t → Good none rs
          → Read-so nothing (follow t (λ p. meaning_from contents sections p rs)) A
      go t View.other-type n = tolerated _ _ nothing addend-type refl A
      go t (View.unknown f) n = unformed-pair a r rs t f
      go t View.other_place n = tolerated _ _ nothing addend-place refl A
      go t (View.sum k f o) n = summed a r rs _ t k f o n

-- ---- the claims

module _ (contents sections : List ℕ) (rs : List MachRel) where
  -- where a table is defined and read, the entries say what it means
  pub same-meaning : (ms : List Relocation) (es : List Reloc) → meaning_of contents sections rs ≡ relocations ms
      → read_records contents sections false rs ≡ entries es → said es ≡ ms
  unfolding Good Consistent
  same-meaning ms es e q = subst₂ (Consistent (length contents) (length sections) nothing) e q (good contents sections rs none)

  -- where a table is defined, and the bytes of its relocations and the sections that they refer to are there, it is refused only where a word is
  -- unfit for its record, or where a pointer of 4 bytes stands alone
  pub refused-only : (ms : List Relocation) (x : Refusal) → meaning_of contents sections rs ≡ relocations ms → Present (length contents) (length sections) ms
      → read_records contents sections false rs ≡ refused x → (x ≡ Unfit) ⊎ ((x ≡ Unsupported) × (has_lone_pointer32 ms ≡ true))
  unfolding Good Consistent
  refused-only ms x e i q = subst₂ (Consistent (length contents) (length sections) nothing) e q (good contents sections rs none) i

  -- where a table is read that is not defined, the reason is one of the seven
  pub tolerated-only : (y : Reason) (es : List Reloc) → meaning_of contents sections rs ≡ undefined y → read_records contents sections false rs ≡ entries es
      → is_tolerated y ≡ true
  unfolding Good Consistent
  tolerated-only y es e q = subst₂ (Consistent (length contents) (length sections) nothing) e q (good contents sections rs none)

-- the second of a call: with whole records, slots and sections enough it returns entries or one of these two numbers
pub call-refused-only : (contents records sections slots : List ℕ) (ms : List Relocation) (x : Refusal) → length records % 8 ≡ 0 → length records / 8 < 2 ^ 32
    → length sections < 2 ^ 32 → 24 * (length records / 8) ≤ length slots → meaning_of contents sections (records_of records) ≡ relocations ms
    → Present (length contents) (length sections) ms → read_relocs contents records sections slots ≡ refused x
    → (x ≡ Unfit) ⊎ ((x ≡ Unsupported) × (has_lone_pointer32 ms ≡ true))
call-refused-only contents records sections slots ms x w n k l e i q =
    refused-only contents sections (records_of records) ms x e i (sym (enough contents records sections slots w n k l) ∙ q)
