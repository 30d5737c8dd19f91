-- Selections and counts of a list, by the test of its first member.
use mathlib.Core.Path.{◌≡◌, refl, sym, ap, ap₂, ◌∙◌, subst}
use mathlib.Core.Logic.{◌≢◌}
use mathlib.Core.Bool.{Bool, true, false}
use mathlib.Core.List.{List, [], ◌∷◌, ◌++◌}
use Prim.Native.Nat.{ℕ, zero, suc, ◌+◌, ◌-◌, ◌≤◌, ◌<◌}
use native.Mathlib.Omega.{arith}
use native.Mathlib.Nat.{zero-add, add-zero, suc-add, add-suc}
use native.Mathlib.Numerals.{add-one}
use borrow.Author.Tests.{eq-eqb, ne_eqb}
use lib.Dec.{eqb}
use lib.ListN.{length, replicate, length-append}
use Rattle.util.specs.Choice.{choose}
use Rattle.util.specs.All.{All, empty, more}
use Rattle.util.proofs.Choice.{split, choose-true, choose-false, choose-ap}
use Rattle.util.proofs.All.{all_map}
use Rattle.util.proofs.Cases.{same_or, less-or}
use Rattle.arm64_hint_order.specs.Lists.{run_list, range, those, count, of_obj, Once, sel}

-- the steps of one list after those of another
pub run-append : {S : Type 0} (step : ℕ → S → S) (l m : List ℕ) (s : S) → run_list step (l ++ m) s ≡ run_list step m (run_list step l s)
run-append step [] m s = refl
run-append step (k ∷ l) m s = run-append step l m (step k s)

-- ---- every member

-- a selection's members are the list's, and pass
pub all-those : {P : ℕ → Type 0} (p : ℕ → Bool) {l : List ℕ} → All P l → All (λ k. P k × (p k ≡ true)) (those p l)
all-those p empty = empty
all-those {P} p (more {k = k} {l = l} h a) =
    split (All (λ k. P k × (p k ≡ true))) (p k) (k ∷ those p l) (those p l) (λ e. more (h, e) (all-those p a)) (λ e. all-those p a)

pub all-range : (lo n : ℕ) → All (λ k. (lo ≤ k) × (k < lo + n)) (range lo n)
all-range lo zero = empty
all-range lo (suc n) =
    let h : (lo ≤ lo) × (lo < lo + suc n) = omega arith in
    more h (all_map (λ k g. omega arith) (all-range (suc lo) n))

-- ---- selections

pub those-append : (p : ℕ → Bool) (l m : List ℕ) → those p (l ++ m) ≡ those p l ++ those p m
those-append p [] m = refl
those-append p (k ∷ l) m =
    rw (those-append p l m)
    (sym (choose-ap (λ x. x ++ those p m) (p k) (k ∷ those p l) (those p l)))

-- a test that every member passes, and one that none does
pub those-all : (p : ℕ → Bool) {l : List ℕ} → All (λ k. p k ≡ true) l → those p l ≡ l
those-all p empty = refl
those-all p (more {k = k} h a) = choose-true (p k) _ _ h ∙ ap (λ (x : List ℕ). k ∷ x) (those-all p a)

pub those-none : (p : ℕ → Bool) {l : List ℕ} → All (λ k. p k ≡ false) l → those p l ≡ []
those-none p empty = refl
those-none p (more {k = k} h a) = choose-false (p k) _ _ h ∙ those-none p a

pub range-add : (lo m n : ℕ) → range lo (m + n) ≡ range lo m ++ range (lo + m) n
range-add lo zero n = rw (zero-add n, add-zero lo)
range-add lo (suc m) n = rw (suc-add m n, add-suc lo m, ← suc-add lo m) (ap (λ (x : List ℕ). lo ∷ x) (range-add (suc lo) m n))

module _ (p : ℕ → Bool) (k hi : ℕ) where
  sel-next : k < hi → sel p k hi ≡ choose (p k) (k ∷ sel p (k + 1) hi) (sel p (k + 1) hi)
  sel-next h =
      ap (λ (m : ℕ). those p (range k m)) (let e : hi - k ≡ suc (hi - (k + 1)) = omega arith in e)
      ∙ ap (λ (j : ℕ). choose (p k) (k ∷ those p (range j (hi - (k + 1)))) (those p (range j (hi - (k + 1))))) (sym (add-one k))

  pub sel-take : k < hi → p k ≡ true → sel p k hi ≡ k ∷ sel p (k + 1) hi
  sel-take h e = sel-next h ∙ choose-true (p k) _ _ e

-- no position passes, and the first that does
module _ (p : ℕ → Bool) (lo hi : ℕ) where
  pub sel_none : ((k : ℕ) → lo ≤ k → k < hi → p k ≡ false) → sel p lo hi ≡ []
  sel_none f = those-none p (all_map (λ k h. f k h.0 (omega arith)) (all-range lo (hi - lo)))

  pub sel_first : (r : ℕ) → lo ≤ r → r < hi → p r ≡ true → ((k : ℕ) → lo ≤ k → k < r → p k ≡ false) → sel p lo hi ≡ r ∷ sel p (r + 1) hi
  sel_first r l h e f =
      ap (λ (m : ℕ). those p (range lo m)) (let q : hi - lo ≡ (r - lo) + (hi - r) = omega arith in q)
      ∙ ap (those p) (range-add lo (r - lo) (hi - r))
      ∙ those-append p (range lo (r - lo)) (range (lo + (r - lo)) (hi - r))
      ∙ ap₂ (λ (x : List ℕ) (m : ℕ). x ++ those p (range m (hi - r)))
      (those-none p (all_map (λ k g. f k g.0 (omega arith)) (all-range lo (r - lo))))
      (let q : lo + (r - lo) ≡ r = omega arith in q)
      ∙ sel-take p r hi h e

-- ---- counts

pub count-append : (k : ℕ) (l m : List ℕ) → count k (l ++ m) ≡ count k l + count k m
count-append k l m = rw (those-append (λ j. eqb j k) l m) (length-append (those (λ j. eqb j k) l) (those (λ j. eqb j k) m))

pub count-here : (j k : ℕ) (l : List ℕ) → j ≡ k → count k (j ∷ l) ≡ suc (count k l)
count-here j k l e = ap length (choose-true (eqb j k) (j ∷ those (λ i. eqb i k) l) (those (λ i. eqb i k) l) (eq-eqb j k e))

pub count-there : (j k : ℕ) (l : List ℕ) → j ≢ k → count k (j ∷ l) ≡ count k l
count-there j k l ne = ap length (choose-false (eqb j k) (j ∷ those (λ i. eqb i k) l) (those (λ i. eqb i k) l) (ne_eqb j k ne))

pub count-more : (j k : ℕ) (l : List ℕ) → count k l ≤ count k (j ∷ l)
count-more j k l = same_or j k (λ e. omega (arith, count-here j k l e)) (λ ne. omega (arith, count-there j k l ne))

-- what holds of every member holds of what stands in the list, and the other way round
pub all-count : {P : ℕ → Type 0} {l : List ℕ} → All P l → (k : ℕ) → 0 < count k l → P k
all-count empty k h = absurd (omega arith)
all-count {P} (more {k = j} {l = l} g a) k h = same_or j k (λ e. subst P e g) (λ ne. all-count a k (omega (arith, count-there j k l ne)))

pub count-all : {P : ℕ → Type 0} (l : List ℕ) → ((k : ℕ) → 0 < count k l → P k) → All P l
count-all [] f = empty
count-all (j ∷ l) f = more (f j (omega (arith, count-here j j l refl))) (count-all l (λ k h. f k (omega (arith, count-more j k l))))

pub count_none : (k : ℕ) {l : List ℕ} → All (λ j. j ≢ k) l → count k l ≡ 0
count_none k a = ap length (those-none (λ j. eqb j k) (all_map (λ j ne. ne_eqb j k ne) a))

pub count-range : (lo n k : ℕ) → lo ≤ k → k < lo + n → count k (range lo n) ≡ 1
count-range lo zero k h g = absurd (omega arith)
count-range lo (suc n) k h g =
    same_or lo k
    (λ e. count-here lo k (range (suc lo) n) e ∙ ap suc (count_none k (all_map (λ j r. omega arith) (all-range (suc lo) n))))
    (λ ne. count-there lo k (range (suc lo) n) ne ∙ count-range (suc lo) n k (omega arith) (omega arith))

-- a selection has all positions of what passes
pub count-those-in : (p : ℕ → Bool) (k : ℕ) (l : List ℕ) → p k ≡ true → count k (those p l) ≡ count k l
count-those-in p k [] h = refl
count-those-in p k (j ∷ l) h =
    same_or j k
    (λ e. ap (count k) (choose-true (p j) (j ∷ those p l) (those p l) (subst (λ (i : ℕ). p i ≡ true) (sym e) h))
    ∙ count-here j k (those p l) e ∙ ap suc (count-those-in p k l h) ∙ sym (count-here j k l e))
    (λ ne. split (λ x. count k x ≡ count k l) (p j) (j ∷ those p l) (those p l) (λ _. count-there j k (those p l) ne ∙ count-those-in p k l h)
    (λ _. count-those-in p k l h) ∙ sym (count-there j k l ne))

pub once-inside : (n : ℕ) (l : List ℕ) → Once n l → All (λ k. k < n) l
once-inside n l o = count-all l (λ k h. less-or k n (λ g. g) (λ g. absurd (omega (arith, o.none k g))))

pub once-count : (n : ℕ) (l m : List ℕ) → Once n l → Once n m → (k : ℕ) → count k l ≡ count k m
once-count n l m p q k =
    less-or k n (λ h. omega (arith, p.each k h, q.each k h)) (λ h. omega (arith, p.none k h, q.none k h))

pub once-of : (n : ℕ) (l : List ℕ) → All (λ k. k < n) l → ((k : ℕ) → k < n → count k l ≡ 1) → Once n l
once-of n l a h = record { each = h; none = λ k g. count_none k (all_map (λ j q e. omega arith) a) }

pub once-range : (n : ℕ) → Once n (range 0 n)
once-range n = once-of n (range 0 n) (all_map (λ k h. omega arith) (all-range 0 n)) (λ k h. count-range 0 n k (omega arith) (omega arith))

-- the positions of k in a list are so many copies of k
those-same : (k : ℕ) (l : List ℕ) → those (λ j. eqb j k) l ≡ replicate (count k l) k
those-same k [] = refl
those-same k (j ∷ l) =
    same_or j k
    (λ e.
    choose-true (eqb j k) _ _ (eq-eqb j k e)
    ∙ ap₂ (λ (i : ℕ) (x : List ℕ). i ∷ x) e (those-same k l)
    ∙ ap (λ (c : ℕ). replicate c k) (sym (count-here j k l e)))
    (λ ne. choose-false (eqb j k) _ _ (ne_eqb j k ne) ∙ those-same k l ∙ ap (λ (c : ℕ). replicate c k) (sym (count-there j k l ne)))

pub once-same : (n : ℕ) (l m : List ℕ) → Once n l → Once n m → (k : ℕ) → of_obj (λ j. j) k l ≡ of_obj (λ j. j) k m
once-same n l m p q k = those-same k l ∙ ap (λ (c : ℕ). replicate c k) (once-count n l m p q k) ∙ sym (those-same k m)
