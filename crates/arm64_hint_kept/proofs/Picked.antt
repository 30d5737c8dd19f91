-- The positions of a list that a rising function hits, in the list's order: of the run's order of work they are the order of work of their own.
-- Carried by the order's law that no other list with each hint once is so rising.
use mathlib.Core.Path.{◌≡◌, refl, sym, ap, ◌∙◌}
use mathlib.Core.Logic.{◌≢◌, ◌⊎◌, inl, inr, ⊎_elim}
use mathlib.Core.Bool.{Bool}
use mathlib.Core.List.{List, [], ◌∷◌}
use Prim.Native.Nat.{ℕ, zero, suc, ◌<◌}
use native.Mathlib.Omega.{arith}
use Rattle.util.specs.All.{All, empty, more}
use Rattle.util.proofs.All.{all_map}
use Rattle.util.proofs.Cases.{same_or, less-or}
use Rattle.arm64_hint_order.specs.Lists.{count, own_list}
use Rattle.arm64_hint_order.specs.Rising.{Before, by-object, by-pass, by-position, Rising, last, first}
use Rattle.arm64_hint_order.proofs.Lists.{count-here, count-there, once-of, once-inside}
use Rattle.arm64_hint_order.proofs.Own.{own-once, own-rising, own-only}

-- m has, in the order of l, the positions j below n whose `at j` stands in l
pub data Picked (at : ℕ → ℕ) (n : ℕ) : List ℕ → List ℕ → Type 0 where
  none : Picked at n [] []
  mine : {l m : List ℕ} (j : ℕ) → j < n → Picked at n l m → Picked at n (at j ∷ l) (j ∷ m)
  other : {l m : List ℕ} (k : ℕ) → ((j : ℕ) → j < n → at j ≢ k) → Picked at n l m → Picked at n (k ∷ l) m

module _ (at : ℕ → ℕ) where
  -- a number is hit, or it is not
  hit : (n k : ℕ) → ((j : ℕ) × (j < n) × (at j ≡ k)) ⊎ ((j : ℕ) → j < n → at j ≢ k)
  hit zero k = inr (λ j h. absurd (omega arith))
  hit (suc n) k =
      ⊎_elim (λ (j, h, e). inl (j, omega arith, e))
      (λ away. same_or (at n) k
      (λ e. inl (n, omega arith, e))
      (λ ne. inr (λ j h. same_or j n (λ q e. ne (sym (ap at q) ∙ e)) (λ q. away j (omega arith)))))
      (hit n k)

  pub pick : (n : ℕ) (l : List ℕ) → (m : List ℕ) × Picked at n l m
  pick n [] = ([], none)
  pick n (k ∷ l) =
      let t = pick n l in
      ⊎_elim (λ (j, h, e). (j ∷ t.0, rw (← e) (mine j h t.1))) (λ away. (t.0, other k away t.1)) (hit n k)

-- nothing of nothing
pub picked_none : {at : ℕ → ℕ} {n : ℕ} {m : List ℕ} → Picked at n [] m → m ≡ []
picked_none none = refl

-- what is picked of the first position, and of the others
pub picked-one : {at : ℕ → ℕ} {n k : ℕ} {l m : List ℕ} → Picked at n (k ∷ l) m
    → (r : List ℕ) × (Picked at n l r) × (((j : ℕ) × (j < n) × (at j ≡ k) × (m ≡ j ∷ r)) ⊎ (((j : ℕ) → j < n → at j ≢ k) × (m ≡ r)))
picked-one (mine {m = r} j h p) = (r, p, inl (j, h, refl, refl))
picked-one (other {m = r} k away p) = (r, p, inr (away, refl))

-- what each member of l has, each picked one has
pub picked_all : {at : ℕ → ℕ} {n : ℕ} {P : ℕ → Type 0} {l m : List ℕ} → Picked at n l m → All P l → All (λ j. (j < n) × P (at j)) m
picked_all none a = empty
picked_all (mine j h p) (more q a) = more (h, q) (picked_all p a)
picked_all (other k away p) (more q a) = picked_all p a

module _ (at : ℕ → ℕ) (n : ℕ) (rises : (i j : ℕ) → i < j → j < n → at i < at j) where
  back : (i j : ℕ) → i < n → at i < at j → i < j
  back i j h e = less-or i j (λ l. l) (λ l. absurd (same_or i j (λ q. omega (arith, ap at q)) (λ ne. omega (arith, rises j i (omega arith) h))))

  one-to-one : (i j : ℕ) → i < n → j < n → at i ≡ at j → i ≡ j
  one-to-one i j hi hj e =
      less-or i j (λ l. absurd (omega (arith, rises i j l hj))) (λ l. same_or i j (λ q. q) (λ ne. absurd (omega (arith, rises j i (omega arith) hi))))

  picked-count : {l m : List ℕ} → Picked at n l m → (j : ℕ) → j < n → count j m ≡ count (at j) l
  picked-count none j h = refl
  picked-count (mine {l = l} {m = m} i hi p) j h =
      same_or i j
      (λ e. count-here i j m e ∙ ap suc (picked-count p j h) ∙ sym (count-here (at i) (at j) l (ap at e)))
      (λ ne. count-there i j m ne ∙ picked-count p j h ∙ sym (count-there (at i) (at j) l (λ e. ne (one-to-one i j hi h e))))
  picked-count (other {l = l} k away p) j h = picked-count p j h ∙ sym (count-there k (at j) l (λ e. away j h (sym e)))

  module _ (obj obj' : ℕ → ℕ) (late late' : ℕ → Bool) (rise : (i j : ℕ) → i < n → j < n → obj (at i) < obj (at j) → obj' i < obj' j)
      (same_object : (i j : ℕ) → i < n → j < n → obj (at i) ≡ obj (at j) → obj' i ≡ obj' j)
      (same-pass : (j : ℕ) → j < n → late (at j) ≡ late' j) where
    before_back : (i j : ℕ) → i < n → j < n → Before obj late (at i) (at j) → Before obj' late' i j
    before_back i j hi hj (by-object a) = by-object (rise i j hi hj a)
    before_back i j hi hj (by-pass e f g) = by-pass (same_object i j hi hj e) (sym (same-pass i hi) ∙ f) (sym (same-pass j hj) ∙ g)
    before_back i j hi hj (by-position e f g) =
        by-position (same_object i j hi hj e) (sym (same-pass i hi) ∙ f ∙ same-pass j hj) (back i j hi g)

    picked-rising : {l m : List ℕ} → Picked at n l m → Rising obj late l → Rising obj' late' m
    picked-rising none r = last
    picked-rising (mine i hi p) (first a r) = first (all_map (λ j (hj, b). before_back i j hi hj b) (picked_all p a)) (picked-rising p r)
    picked-rising (other k away p) (first a r) = picked-rising p r

    -- THE LAW
    pub own-pick : (whole : ℕ) → ((j : ℕ) → j < n → at j < whole) → (pick at n (own_list obj late whole)).0 ≡ own_list obj' late' n
    own-pick whole inside =
        let t = pick at n (own_list obj late whole) in
        own-only obj' late' n t.0
        (once-of n t.0
        (all_map (λ j (h, _). h) (picked_all t.1 (once-inside whole (own_list obj late whole) (own-once obj late whole))))
        (λ j h. picked-count t.1 j h ∙ (own-once obj late whole).each (at j) (inside j h)))
        (picked-rising t.1 (own-rising obj late whole))
