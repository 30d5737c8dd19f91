-- What the tests of a hint's places say, what a check that finds nothing says, and what is told of the object numbers beside it. Carried by the
-- choices of `check_hint`, hint by hint.
use Rattle.std.specs.Prelude.{Result, Ok, Err, ⊤}
use mathlib.Core.Path.{◌≡◌, refl, sym, ap, ◌∙◌}
use mathlib.Core.Logic.{⊎_elim}
use mathlib.Core.Bool.{Bool, true, false, ◌&&◌, ◌||◌}
use mathlib.Core.List.{List, [], ◌∷◌}
use Prim.Native.Nat.{ℕ, zero, suc, ◌+◌, ◌*◌, ◌/◌, ◌%◌, ◌^◌, ◌≤◌, ◌<◌}
use native.Mathlib.Omega.{arith}
use native.Mathlib.Nat.{not-suc-le-zero, eq-or-lt_of_le, le_of_suc-le-suc}
use native.Mathlib.Numerals.{add-one}
use borrow.Author.Tests.{ne_eqb, leb-true, ltb-false, leb-false}
use lib.Dec.{eqb, leb}
use lib.ListN.{length}
use Rattle.util.specs.All.{empty, more}
use Rattle.util.proofs.Choice.{split, choose-false, choose-first, both, neither}
use Rattle.macho.specs.Record.{most_records}
use Rattle.macho.specs.Hint.{hint_size, no_entry, hint_count, hint_of}
use Rattle.macho.specs.Reloc.{reloc_size}
use Rattle.macho.specs.declared.hint.HintInsn.{HintInsn}
use Rattle.macho.specs.declared.hint.HintRecord.{HintRecord}
use Rattle.macho.specs.declared.refusal.Refusal.{Refusal}
use Rattle.macho.specs.declared.refusal.Refusal.TheVariants.{Lengths}
use Rattle.macho.specs.Refusal.{first, answer_number}
use Rattle.arm64_hint_order.specs.Cursor.{object_at}
use Rattle.arm64_hint_order.specs.Walk.{grouped, last_of}
use Rattle.arm64_hint_order.proofs.Walk.{grouped-step}
use Rattle.arm64_hint_words.specs.Place.{InBytes}
use Rattle.arm64_hint_words.specs.Entry.{InEntries}
use Rattle.arm64_hint_places.specs.Hint.{is_skipped, insns_in, Inside, Named}
use Rattle.arm64_hint_places.proofs.Places.{by_count}
use Rattle.arm64_hint_check.specs.Check.{is_list, check_lists, part_past, ends_past, names_absent, any_of, check_hint}
use Rattle.arm64_hint_check.specs.Check.{check_to, check_all, checked_as, checked_number}

pub never : {x : Refusal} → ◌≡◌ {A = Result ⊤ Refusal} (Err x) (Ok tt) → ⊥
never q = let z : ◌≡◌ {A = ℕ} 0 1 = cc in omega arith

-- ---- a test of the places, one after another

-- one of two passes, or neither does
two : (a b c : Bool) → (a || b) ≡ true → (a || (b || c)) ≡ true
two true b c q = refl
two false true c q = refl
two false false c q = cc

none : (a b c : Bool) → (a || b) ≡ false → (a || (b || c)) ≡ c
none true b c q = cc
none false true c q = cc
none false false c q = refl

or-false : (b : Bool) → (b || false) ≡ b
or-false true = refl
or-false false = refl

module _ (h : HintRecord) (e : is_skipped h ≡ false) (test : HintInsn → Bool) where
  pub any-two : (test h.insn0 || test h.insn1) ≡ true → any_of test (insns_in h) ≡ true
  any-two q =
      by_count h e (λ l. any_of test l ≡ true) (λ n. two (test h.insn0) (test h.insn1) (test h.insn2 || false) q)
      (λ n. two (test h.insn0) (test h.insn1) false q)

  module _ (q : (test h.insn0 || test h.insn1) ≡ false) where
    pub any-three : h.n ≡ 3 → any_of test (insns_in h) ≡ test h.insn2
    any-three n =
        by_count h e (λ l. any_of test l ≡ test h.insn2)
        (λ m. none (test h.insn0) (test h.insn1) (test h.insn2 || false) q ∙ or-false (test h.insn2)) (λ m. absurd (m n))

    pub any_none : (h.n ≡ 3 → ⊥) → any_of test (insns_in h) ≡ false
    any_none n = by_count h e (λ l. any_of test l ≡ false) (λ m. absurd (n m)) (λ m. none (test h.insn0) (test h.insn1) false q)

-- ---- no place passes

-- words inside a part
none-past : (len : ℕ) (insns : List HintInsn) → any_of (ends_past len) insns ≡ false → InBytes len insns
none-past len [] q = empty
none-past len (i ∷ insns) q = let t = neither _ _ q in more (ltb-false len (i.off + 4) t.0) (none-past len insns t.1)

-- entries below a count
none-absent : (count bytes : ℕ) → count ≡ bytes / reloc_size → (insns : List HintInsn) → any_of (names_absent count) insns ≡ false → InEntries bytes insns
none-absent count bytes e [] q = empty
none-absent count bytes e (i ∷ insns) q =
    let t = neither _ _ q in
    more (λ n. below n t.0) (none-absent count bytes e insns t.1)
  where
    below : (i.rel ≡ no_entry → ⊥) → names_absent count i ≡ false → reloc_size * i.rel + reloc_size ≤ bytes
    below n t =
        let s : leb count i.rel ≡ false = rw (ne_eqb i.rel no_entry n) at t in
        let l : i.rel < count = leb-false count i.rel s in
        omega arith

-- ---- a hint that is not skipped, and not turned down

module _ (len count : ℕ) (h : HintRecord) (e : is_skipped h ≡ false) (fit : check_hint len count h ≡ Ok tt) where
  tests : (part_past len h ≡ false) × (any_of (ends_past h.len) (insns_in h) ≡ false) × (any_of (names_absent count) (insns_in h) ≡ false)
  unfolding check_hint
  tests =
      split P (part_past len h) _ _ (λ a q. absurd (never q))
      (λ a q. split P (any_of (ends_past h.len) (insns_in h)) _ _ (λ b r. absurd (never r))
      (λ b r. split P (any_of (names_absent count) (insns_in h)) _ _ (λ c s. absurd (never s)) (λ c s. (a, b, c)) r) q)
      (sym (choose-false (is_skipped h) _ _ e) ∙ fit)
    where
      P : Result ⊤ Refusal → Type 0
      P c = c ≡ Ok tt → (part_past len h ≡ false) × (any_of (ends_past h.len) (insns_in h) ≡ false) × (any_of (names_absent count) (insns_in h) ≡ false)

  -- its part is inside the image
  part-inside : h.start + h.len ≤ len
  part-inside = ltb-false len (h.start + h.len) tests.0

  -- its words are inside its part
  words_inside : Inside h h.len
  words_inside = record { worked = e; words = none-past h.len (insns_in h) tests.1 }

  -- and the entries that it names are in a list of so many
  entries-inside : (bytes : ℕ) → count ≡ bytes / reloc_size → Named h bytes
  entries-inside bytes q = record { worked = e; entries = none-absent count bytes q (insns_in h) tests.2 }

-- all three
pub record Ready (len bytes : ℕ) (h : HintRecord) : Type 0 where
  pub part : h.start + h.len ≤ len
  pub words : Inside h h.len
  pub entries : Named h bytes

pub ready : (len bytes : ℕ) (h g : HintRecord) → h ≡ g → check_hint len (bytes / reloc_size) g ≡ Ok tt → is_skipped h ≡ false → Ready len bytes h
ready len bytes h g e fit works =
    let f : check_hint len (bytes / reloc_size) h ≡ Ok tt = ap (check_hint len (bytes / reloc_size)) e ∙ fit in
    record {
      part = part-inside len (bytes / reloc_size) h works f;
      words = words_inside len (bytes / reloc_size) h works f;
      entries = entries-inside len (bytes / reloc_size) h works f bytes refl;
    }

-- ---- the hints one after another

pub both-fit : (a b : Result ⊤ Refusal) → first a b ≡ Ok tt → (a ≡ Ok tt) × (b ≡ Ok tt)
both-fit (Ok tt) b e = (refl, e)
both-fit (Err x) b e = absurd (never e)

module _ (len count : ℕ) (hints : List ℕ) where
  pub check-more : (k : ℕ) → check_to len count hints k ≡ Ok tt → check_hint len count (hint_of hints k) ≡ Ok tt → check_to len count hints (k + 1) ≡ Ok tt
  unfolding check_to
  check-more k e q = rw (add-one k) (ap (λ (c : Result ⊤ Refusal). first c (check_hint len count (hint_of hints k))) e ∙ q)

  stays : (n k : ℕ) (x : Refusal) → k ≤ n → check_to len count hints k ≡ Err x → check_to len count hints n ≡ Err x
  unfolding check_to
  stays zero zero x h e = e
  stays zero (suc k) x h e = absurd (not-suc-le-zero h)
  stays (suc n) k x h e =
      ⊎_elim (λ (w : k ≡ suc n). ap (check_to len count hints) (sym w) ∙ e)
      (λ (w : k < suc n). ap (λ (c : Result ⊤ Refusal). first c (check_hint len count (hint_of hints n))) (stays n k x (le_of_suc-le-suc w) e))
      (eq-or-lt_of_le h)

  pub check-stop : (n k : ℕ) (x : Refusal) → k < n → check_to len count hints k ≡ Ok tt → check_hint len count (hint_of hints k) ≡ Err x
      → check_to len count hints n ≡ Err x
  unfolding check_to
  check-stop n k x h e q = stays n (suc k) x h (ap (λ (c : Result ⊤ Refusal). first c (check_hint len count (hint_of hints k))) e ∙ q)

  pub fit_at : (n : ℕ) → check_to len count hints n ≡ Ok tt → (k : ℕ) → k < n → check_hint len count (hint_of hints k) ≡ Ok tt
  unfolding check_to
  fit_at zero e k h = absurd (not-suc-le-zero h)
  fit_at (suc n) e k h =
      let t = both-fit (check_to len count hints n) (check_hint len count (hint_of hints n)) e in
      ⊎_elim (λ (w : k ≡ n). ap (λ (j : ℕ). check_hint len count (hint_of hints j)) w ∙ t.1) (λ (w : k < n). fit_at n t.0 k w)
      (eq-or-lt_of_le (le_of_suc-le-suc h))

-- ---- with whether their object numbers never fall

-- one hint more: whether the object numbers with it never fall, and its own as the last
pub grouped-more : (obj : ℕ → ℕ) (k : ℕ) {g r : Bool} {last o : ℕ} → g ≡ grouped obj k → last ≡ last_of obj k → o ≡ obj k → r ≡ (g && leb last o)
    → (r ≡ grouped obj (k + 1)) × (o ≡ last_of obj (k + 1))
grouped-more obj k a b c e = rw (add-one k) (e ∙ rw (a, b, c) (sym (grouped-step obj k)), c)

-- the object number of a hint that is read
pub object-is : (hints : List ℕ) (k : ℕ) {h : HintRecord} → h ≡ hint_of hints k → h.object ≡ object_at hints k
object-is hints k e = ap (λ (h : HintRecord). h.object) e

-- the check's word with that
pub says-refused : {c : Result ⊤ Refusal} (g : Bool) {x : Refusal} → c ≡ Err x → Err x ≡ checked_as c g
unfolding checked_as
says-refused g e = sym (ap (λ (c : Result ⊤ Refusal). checked_as c g) e)

pub says-fit : {c : Result ⊤ Refusal} {f : Bool} (g : Bool) → c ≡ Ok tt → f ≡ g → Ok f ≡ checked_as c g
unfolding checked_as
says-fit g e q = ap Ok q ∙ sym (ap (λ (c : Result ⊤ Refusal). checked_as c g) e)

-- and what the word tells of the check
pub told-refused : (c : Result ⊤ Refusal) (g : Bool) (x : Refusal) → checked_as c g ≡ Err x → c ≡ Err x
unfolding checked_as
told-refused (Ok tt) g x e = let z : ◌≡◌ {A = ℕ} 0 1 = cc in absurd (omega arith)
told-refused (Err y) g x e = cc

pub told_fit : (c : Result ⊤ Refusal) (f g : Bool) → checked_as c g ≡ Ok f → (c ≡ Ok tt) × (f ≡ g)
unfolding checked_as
told_fit (Ok tt) f g e = (refl, cc)
told_fit (Err y) f g e = let z : ◌≡◌ {A = ℕ} 0 1 = cc in absurd (omega arith)

-- its number is the check's
pub same_number : (c : Result ⊤ Refusal) (g : Bool) → checked_number (checked_as c g) ≡ answer_number c
unfolding checked_as
same_number (Ok tt) g = refl
same_number (Err x) g = refl

-- ---- the whole check

module _ (len : ℕ) (hints : List ℕ) (entries : ℕ) where
  pub all-refused : (x : Refusal) → check_lists (length hints) entries ≡ Err x → check_all len hints entries ≡ Err x
  unfolding check_all
  all-refused x e = ap (λ (c : Result ⊤ Refusal). first c (check_to len (entries / reloc_size) hints (hint_count hints))) e

  pub all-hints : (g : Bool) → check_lists (length hints) entries ≡ Ok tt
      → checked_as (check_to len (entries / reloc_size) hints (hint_count hints)) g ≡ checked_as (check_all len hints entries) g
  unfolding check_all
  all-hints g e = sym (ap (λ (c : Result ⊤ Refusal). checked_as (first c (check_to len (entries / reloc_size) hints (hint_count hints))) g) e)

  module _ (fit : check_all len hints entries ≡ Ok tt) where
    pub few-hints : hint_count hints < 2 ^ 32
    unfolding check_all check_lists is_list
    few-hints =
        let t = both-fit (check_lists (length hints) entries) (check_to len (entries / reloc_size) hints (hint_count hints)) fit in
        let l = choose-first (is_list (length hints) hint_size && is_list entries reloc_size) (Ok tt) (Err Lengths) (Ok tt) t.0 (λ q. never q) in
        let m = both (is_list (length hints) hint_size) (is_list entries reloc_size) l.0 in
        let n = leb-true (hint_count hints) most_records (both (eqb (length hints % hint_size) 0) (leb (hint_count hints) most_records) m.0).1 in
        omega arith

    pub each-fit : (k : ℕ) → k < hint_count hints → check_hint len (entries / reloc_size) (hint_of hints k) ≡ Ok tt
    unfolding check_all
    each-fit =
        fit_at len (entries / reloc_size) hints (hint_count hints)
        (both-fit (check_lists (length hints) entries) (check_to len (entries / reloc_size) hints (hint_count hints)) fit).1
