-- The premises (RULES 9.12 to 9.20) and what is said of lists of hints as tests: on closed hints and images they are computed.
use mathlib.Core.Path.{◌≡◌, refl, sym, ap₂, ◌∙◌}
use mathlib.Core.Logic.{inl, inr}
use mathlib.Core.Bool.{Bool, true, false, not, ◌&&◌, ◌||◌, true≢false}
use mathlib.Core.List.{List, [], ◌∷◌}
use Prim.Native.Nat.{ℕ, ◌+◌, ◌<◌}
use borrow.Author.Tests.{ltb-true, leb-true, eqb-true, not-true}
use lib.Dec.{eqb, ltb, leb}
use Rattle.util.specs.All.{All, empty, more}
use Rattle.util.proofs.Choice.{both, either}
use Rattle.util.proofs.Below.{every, every-at}
use Rattle.macho.specs.declared.hint.HintRecord.{HintRecord}
use Rattle.macho.specs.Hint.{hint_count, hint_of}
use Rattle.image.specs.Words.{span, in_words}
use Rattle.image.specs.Local.{Apart}
use Rattle.image.proofs.Words.{spans_apart}
use Rattle.arm64_hint_order.specs.Lists.{count, of_obj, Once, passes, bound}
use Rattle.arm64_hint_order.specs.Cursor.{object_at, late_at}
use Rattle.arm64_hint_order.proofs.Lists.{once-of}
use Rattle.arm64_hint_order.proofs.Own.{kept_of}
use Rattle.arm64_machine.specs.Machine.{Other, State}
use Rattle.arm64_machine.specs.Tests.{each}
use Rattle.arm64_machine.proofs.FairTest.{each-by, fair-by, left_out, premises-by}
use Rattle.arm64_hint_places.specs.Hint.{is_skipped}
use Rattle.arm64_hint_work.specs.Step.{places_of}
use Rattle.arm64_hint_kept.specs.HintsKept.{codes, Disjoint, KeepsOrder, PartsApart, Alone, Fair, Premises}
use Rattle.arm64_hint_kept.specs.Tests.{far, spaced, tests}

-- ---- words that share no byte

far_apart : (at q : ℕ) → far at q ≡ true → Apart (span at 4) (span q 4)
far_apart at q e =
    either (leb (at + 4) q) (leb (q + 4) at) e
    (λ l. spans_apart at 4 q 4 (inl (leb-true (at + 4) q l)))
    (λ l. spans_apart at 4 q 4 (inr (leb-true (q + 4) at l)))

word-apart : (at : ℕ) (places : List ℕ) → each (far at) places ≡ true → Apart (span at 4) (in_words places)
word-apart at [] e b p q = true≢false (sym q)
word-apart at (next ∷ places) e b p q =
    let f = both (far at next) (each (far at) places) e in
    either (span next 4 b) (in_words places b) q (far_apart at next f.0 b p) (word-apart at places f.1 b p)

pub disjoint-by : (places : List ℕ) → spaced places ≡ true → Disjoint places
disjoint-by [] e = tt
disjoint-by (at ∷ places) e =
    let f = both (each (far at) places) (spaced places) e in
    (word-apart at places f.0, disjoint-by places f.1)

-- no word of some places meets one of others
words-apart : (ps qs : List ℕ) → each (λ at. each (far at) qs) ps ≡ true → Apart (in_words ps) (in_words qs)
words-apart [] qs e b p q = true≢false (sym p)
words-apart (at ∷ ps) qs e b p q =
    let f = both (each (far at) qs) (each (λ at. each (far at) qs) ps) e in
    either (span at 4 b) (in_words ps b) p (λ h. word-apart at qs f.0 b h q) (λ h. words-apart ps qs f.1 b h q)

-- whether hint j is hint k, or shares no byte with it
abbrev pub far_from : List ℕ → ℕ → ℕ → Bool
far_from hints k j = eqb j k || each (λ at. each (far at) (places_of (hint_of hints k))) (places_of (hint_of hints j))

-- hint k shares no byte with another
pub alone-by : (hints : List ℕ) (k : ℕ) → every (far_from hints k) (hint_count hints) ≡ true → Alone hints k
alone-by hints k e j l ne b p q =
    let away : Bool = each (λ at. each (far at) (places_of (hint_of hints k))) (places_of (hint_of hints j)) in
    either (eqb j k) away (every-at (far_from hints k) (hint_count hints) e j l)
    (λ s. ne (eqb-true j k s))
    (λ f. words-apart (places_of (hint_of hints j)) (places_of (hint_of hints k)) f b p q)

-- ---- a hint's words

pub fair-when : (h : HintRecord) (image : List ℕ) → each (λ t. t) (tests h image) ≡ true → Fair h image
fair-when h image e =
    let f = each-by (λ t. t) (λ t. t ≡ true) (λ t h. h) (tests h image) e in
    record { disjoint = disjoint-by (places_of h) f.0; words = fair-by f.1.0 f.1.1.0 }

-- whether they meet every premise (RULES 9.12 to 9.20) in a run from state s
abbrev pub meets_all : HintRecord → List ℕ → Other → State → Bool
meets_all h image o s = each (λ t. t) (tests h image) && left_out (codes h image) o s

pub premises-when : (h : HintRecord) (image : List ℕ) (o : Other) (s : State) → s.log ≡ [] → meets_all h image o s ≡ true → Premises h image o s
premises-when h image o s bare e =
    let b = both (each (λ t. t) (tests h image)) (left_out (codes h image) o s) e in
    let fair = fair-when h image b.0 in
    record { disjoint = fair.disjoint; words = premises-by (codes h image) o s fair.words bare b.1 }

-- ---- parts

-- whether two hints are of one object, one of them is skipped, or one's part ends before the other's
abbrev pub clear : List ℕ → ℕ → ℕ → Bool
clear hints i j =
    eqb (object_at hints i) (object_at hints j) || is_skipped (hint_of hints i) || is_skipped (hint_of hints j)
    || leb ((hint_of hints i).start + (hint_of hints i).len) (hint_of hints j).start
    || leb ((hint_of hints j).start + (hint_of hints j).len) (hint_of hints i).start

pub parts-by : (hints : List ℕ) → every (λ i. every (clear hints i) (hint_count hints)) (hint_count hints) ≡ true → PartsApart hints
parts-by hints e i j hi hj ne b p q =
    let c = every-at (clear hints i) (hint_count hints) (every-at (λ i. every (clear hints i) (hint_count hints)) (hint_count hints) e i hi) j hj in
    let f = both (not (is_skipped h)) (span h.start h.len b) p in
    let g = both (not (is_skipped k)) (span k.start k.len b) q in
    either _ (leb (k.start + k.len) h.start) c
    (λ c. either _ (leb (h.start + h.len) k.start) c
    (λ c. either _ (is_skipped k) c
    (λ c. either (eqb (object_at hints i) (object_at hints j)) (is_skipped h) c
    (λ s. ne (eqb-true (object_at hints i) (object_at hints j) s)) (not-skipped h f.0))
    (not-skipped k g.0))
    (λ l. spans_apart h.start h.len k.start k.len (inl (leb-true (h.start + h.len) k.start l)) b f.1 g.1))
    (λ l. spans_apart h.start h.len k.start k.len (inr (leb-true (k.start + k.len) h.start l)) b f.1 g.1)
  where
    h : HintRecord
    h = hint_of hints i

    k : HintRecord
    k = hint_of hints j

    not-skipped : (h : HintRecord) → not (is_skipped h) ≡ true → is_skipped h ≡ true → ⊥
    not-skipped h n s = true≢false (sym s ∙ not-true (is_skipped h) n)

-- ---- lists

all-below : (n : ℕ) (l : List ℕ) → each (λ k. ltb k n) l ≡ true → All (λ k. k < n) l
all-below n [] e = empty
all-below n (k ∷ l) e =
    let f = both (ltb k n) (each (λ k. ltb k n) l) e in
    more (ltb-true k n f.0) (all-below n l f.1)

-- each member is below n, and each number below n stands there once
pub once_by : (n : ℕ) (l : List ℕ) → each (λ k. ltb k n) l ≡ true → every (λ k. eqb (count k l) 1) n ≡ true → Once n l
once_by n l e f = once-of n l (all-below n l e) (λ k h. eqb-true (count k l) 1 (every-at (λ k. eqb (count k l) 1) n f k h))

abbrev pub same : List ℕ → List ℕ → Bool
same [] [] = true
same [] (b ∷ m) = false
same (a ∷ l) [] = false
same (a ∷ l) (b ∷ m) = eqb a b && same l m

same-is : (l m : List ℕ) → same l m ≡ true → l ≡ m
same-is [] [] e = refl
same-is [] (b ∷ m) e = absurd (true≢false (sym e))
same-is (a ∷ l) [] e = absurd (true≢false (sym e))
same-is (a ∷ l) (b ∷ m) e =
    let f = both (eqb a b) (same l m) e in
    ap₂ (λ (a : ℕ) (l : List ℕ). a ∷ l) (eqb-true a b f.0) (same-is l m f.1)

-- the hints of object o in a list, and in its two passes
abbrev pub keeps : List ℕ → List ℕ → ℕ → Bool
keeps hints l o = same (of_obj (object_at hints) o l) (passes (object_at hints) (late_at hints) (hint_count hints) o)

pub kept_by : (hints l : List ℕ) → Once (hint_count hints) l → every (keeps hints l) (bound (object_at hints) (hint_count hints)) ≡ true → KeepsOrder hints l
kept_by hints l once e =
    kept_of (object_at hints) (late_at hints) (hint_count hints) l once
    (λ o h. same-is _ _ (every-at (keeps hints l) (bound (object_at hints) (hint_count hints)) e o h))
