-- The run's own list: each hint once, strictly rising, and no other list is so. Carried by what the members of each pass have in common.
use mathlib.Core.Path.{◌≡◌, refl, sym, ap, ap₂, ◌∙◌, subst}
use mathlib.Core.Logic.{◌≢◌}
use mathlib.Core.Bool.{Bool, true, false, ◌&&◌, beq, true≢false}
use mathlib.Core.List.{List, [], ◌∷◌, ◌++◌, append-nil}
use Prim.Native.Nat.{ℕ, zero, suc, ◌+◌, ◌-◌, ◌≤◌, ◌<◌}
use native.Mathlib.Omega.{arith}
use borrow.Author.Tests.{eq-eqb, ne_eqb, eqb-true}
use lib.Dec.{eqb}
use Rattle.util.specs.All.{All, empty, more}
use Rattle.util.proofs.Choice.{split, both}
use Rattle.util.proofs.All.{all_append, all_map, all-empty}
use Rattle.util.proofs.Cases.{same_or, less-or}
use Rattle.arm64_hint_order.specs.Lists.{range, those, count, of_obj, Once, sel, in_pass, passes, order, bound, own_from, own_list}
use Rattle.arm64_hint_order.specs.Rising.{Before, by-object, by-pass, by-position, Rising, last, first}
use Rattle.arm64_hint_order.specs.Runs.{Kept}
use Rattle.arm64_hint_order.proofs.Lists.{all-those, all-range, those-append, those-all, those-none}
use Rattle.arm64_hint_order.proofs.Lists.{count-append, count-here, count-there, all-count, count_none, count-range, count-those-in}
use Rattle.arm64_hint_order.proofs.Lists.{once-inside, once-count}

-- ---- what the members have in common

beq-true : (a b : Bool) → beq a b ≡ true → a ≡ b
beq-true true true e = refl
beq-true true false e = absurd (true≢false (sym e))
beq-true false true e = absurd (true≢false (sym e))
beq-true false false e = refl

module _ (obj : ℕ → ℕ) (late : ℕ → Bool) where
  pub pass-true : (o : ℕ) (b : Bool) (k : ℕ) → in_pass obj late o b k ≡ true → (obj k ≡ o) × (late k ≡ b)
  pass-true o b k e =
      let t = both (eqb (obj k) o) (beq (late k) b) e in
      (eqb-true (obj k) o t.0, beq-true (late k) b t.1)

  pub pass-in : (k : ℕ) → in_pass obj late (obj k) (late k) k ≡ true
  pass-in k = ap₂ (λ (a b : Bool). a && b) (eq-eqb (obj k) (obj k) refl) (same (late k))
    where
      same : (a : Bool) → beq a a ≡ true
      same true = refl
      same false = refl

  sel-members : (o : ℕ) (b : Bool) (lo hi : ℕ) → All (λ k. (k < hi) × (obj k ≡ o) × (late k ≡ b)) (sel (in_pass obj late o b) lo hi)
  sel-members o b lo hi =
      all_map (λ k h. (omega arith, (pass-true o b k h.1).0, (pass-true o b k h.1).1)) (all-those (in_pass obj late o b) (all-range lo (hi - lo)))

  -- ---- strictly rising

  rising-append : {P Q : ℕ → Type 0} → ((i j : ℕ) → P i → Q j → Before obj late i j) → {l m : List ℕ} → All P l → All Q m
      → Rising obj late l → Rising obj late m → Rising obj late (l ++ m)
  rising-append f empty b last s = s
  rising-append f (more {k = k} h a) b (first g r) s = first (all_append g (all_map (λ j q. f k j h q) b)) (rising-append f a b r s)

  rising-range : (p : ℕ → Bool) (lo m : ℕ) → ((i j : ℕ) → i < j → p i ≡ true → p j ≡ true → Before obj late i j)
      → Rising obj late (those p (range lo m))
  rising-range p lo zero f = last
  rising-range p lo (suc m) f =
      split (Rising obj late) (p lo) (lo ∷ those p (range (suc lo) m)) (those p (range (suc lo) m))
      (λ e. first (all_map (λ j h. f lo j h.0.0 e h.1) (all-those p (all-range (suc lo) m))) (rising-range p (suc lo) m f))
      (λ e. rising-range p (suc lo) m f)

  module _ (n : ℕ) where
    sel-rising : (o : ℕ) (b : Bool) → Rising obj late (sel (in_pass obj late o b) 0 n)
    sel-rising o b =
        rising-range (in_pass obj late o b) 0 (n - 0) (λ i j lt s t.
        let x = pass-true o b i s in
        let y = pass-true o b j t in
        by-position (x.0 ∙ sym y.0) (x.1 ∙ sym y.1) lt)

    passes-rising : (o : ℕ) → Rising obj late (passes obj late n o)
    passes-rising o =
        rising-append (λ i j x y. by-pass (x.1 ∙ sym y.1) x.2 y.2) (sel-members o false 0 n) (sel-members o true 0 n)
        (sel-rising o false) (sel-rising o true)

    passes-members : (o : ℕ) → All (λ k. (k < n) × (obj k ≡ o)) (passes obj late n o)
    passes-members o =
        all_append (all_map (λ k h. (h.0, h.1)) (sel-members o false 0 n)) (all_map (λ k h. (h.0, h.1)) (sel-members o true 0 n))

    order-members : (o d : ℕ) → All (λ k. (k < n) × (o ≤ obj k)) (order obj late n o d)
    order-members o zero = empty
    order-members o (suc d) =
        all_append (all_map (λ k h. omega arith) (passes-members o)) (all_map (λ k h. omega arith) (order-members (suc o) d))

    order-rising : (o d : ℕ) → Rising obj late (order obj late n o d)
    order-rising o zero = last
    order-rising o (suc d) =
        rising-append (λ i j x y. by-object (omega arith)) (passes-members o) (order-members (suc o) d) (passes-rising o) (order-rising (suc o) d)

    -- ---- each hint once

    sel-count : (p : ℕ → Bool) (k : ℕ) → k < n → p k ≡ true → count k (sel p 0 n) ≡ 1
    sel-count p k h e = count-those-in p k (range 0 (n - 0)) e ∙ count-range 0 (n - 0) k (omega arith) (omega arith)

    pub passes_count : (k : ℕ) → k < n → count k (passes obj late n (obj k)) ≡ 1
    passes_count k h = count-append k (sel (in_pass obj late (obj k) false) 0 n) (sel (in_pass obj late (obj k) true) 0 n) ∙ go (late k) refl
      where
        mine : (b : Bool) → late k ≡ b → count k (sel (in_pass obj late (obj k) b) 0 n) ≡ 1
        mine b e = sel-count (in_pass obj late (obj k) b) k h (subst (λ (c : Bool). in_pass obj late (obj k) c k ≡ true) e (pass-in k))

        other : (b : Bool) → late k ≢ b → count k (sel (in_pass obj late (obj k) b) 0 n) ≡ 0
        other b ne = count_none k (all_map (λ j g e. ne (ap late (sym e) ∙ g.2)) (sel-members (obj k) b 0 n))

        go : (b : Bool) → late k ≡ b
            → count k (sel (in_pass obj late (obj k) false) 0 n) + count k (sel (in_pass obj late (obj k) true) 0 n) ≡ 1
        go true e = ap₂ (λ (x y : ℕ). x + y) (other false (λ f. true≢false (sym e ∙ f))) (mine true e)
        go false e = ap₂ (λ (x y : ℕ). x + y) (mine false e) (other true (λ f. true≢false (sym f ∙ e)))

    order-count : (o d k : ℕ) → k < n → o ≤ obj k → obj k < o + d → count k (order obj late n o d) ≡ 1
    order-count o zero k h g l = absurd (omega arith)
    order-count o (suc d) k h g l =
        count-append k (passes obj late n o) (order obj late n (suc o) d)
        ∙ same_or (obj k) o
        (λ e. ap₂ (λ (x y : ℕ). x + y) (subst (λ (i : ℕ). count k (passes obj late n i) ≡ 1) e (passes_count k h))
        (count_none k (all_map (λ j q r. let z : obj j ≡ obj k = ap obj r in omega arith) (order-members (suc o) d))))
        (λ ne. ap₂ (λ (x y : ℕ). x + y) (count_none k (all_map (λ j q r. ne (ap obj (sym r) ∙ q.1)) (passes-members o)))
        (order-count (suc o) d k h (omega arith) (omega arith)))

-- the bound is above every object number, and no more than that
pub bound-above : (obj : ℕ → ℕ) (n k : ℕ) → k < n → obj k < bound obj n
bound-above obj zero k h = absurd (omega arith)
bound-above obj (suc n) k h =
    same_or k n (λ e. let z : obj k ≡ obj n = ap obj e in omega arith) (λ ne. omega (arith, bound-above obj n k (omega arith)))

pub bound-least : (obj : ℕ → ℕ) (n o : ℕ) → ((k : ℕ) → k < n → obj k < o) → bound obj n ≤ o
bound-least obj zero o h = omega arith
bound-least obj (suc n) o h = omega (arith, bound-least obj n o (λ k g. h k (omega arith)), h n (omega arith))

module _ (obj : ℕ → ℕ) (late : ℕ → Bool) (n : ℕ) where
  pub own-once : Once n (own_list obj late n)
  own-once = record {
    each = λ k h. omega (arith, order-count obj late n 0 (bound obj n - 0) k h (omega arith) (omega (arith, bound-above obj n k h)));
    none = λ k h. count_none k (all_map (λ j g e. omega arith) (order-members obj late n 0 (bound obj n - 0)));
  }

  pub own-rising : Rising obj late (own_list obj late n)
  own-rising = order-rising obj late n 0 (bound obj n - 0)

  -- ---- the hints of one object, in the run's order, are its two passes

  own_of : (o d i : ℕ) → i < o → of_obj obj i (order obj late n o d) ≡ []
  own_of o d i h = those-none (λ k. eqb (obj k) i) (all_map (λ k g. ne_eqb (obj k) i (λ e. omega arith)) (order-members obj late n o d))

  own_in : (o d i : ℕ) → o ≤ i → i < o + d → of_obj obj i (order obj late n o d) ≡ passes obj late n i
  own_in o zero i h g = absurd (omega arith)
  own_in o (suc d) i h g =
      those-append (λ k. eqb (obj k) i) (passes obj late n o) (order obj late n (suc o) d)
      ∙ same_or o i
      (λ e. ap₂ (λ (x y : List ℕ). x ++ y) (those-all (λ k. eqb (obj k) i) (all_map (λ k q. eq-eqb (obj k) i (q.1 ∙ e)) (passes-members obj late n o)))
      (own_of (suc o) d i (omega arith)) ∙ append-nil (passes obj late n o) ∙ ap (passes obj late n) e)
      (λ ne. ap₂ (λ (x y : List ℕ). x ++ y)
      (those-none (λ k. eqb (obj k) i) (all_map (λ k q. ne_eqb (obj k) i (λ e. ne (sym q.1 ∙ e))) (passes-members obj late n o)))
      (own_in (suc o) d i (omega arith) (omega arith)))

  passes_none : (o : ℕ) → ((k : ℕ) → k < n → obj k ≢ o) → passes obj late n o ≡ []
  passes_none o h = all-empty (λ k g. h k g.0 g.1) (passes-members obj late n o)

  -- from the bound on there is none
  of-past : (o : ℕ) → bound obj n ≤ o → {l : List ℕ} → All (λ k. k < n) l → of_obj obj o l ≡ passes obj late n o
  of-past o h a = those-none (λ k. eqb (obj k) o) (all_map (λ k g. ne_eqb (obj k) o (past k g)) a) ∙ sym (passes_none o past)
    where
      past : (k : ℕ) → k < n → obj k ≢ o
      past k g e = omega (arith, bound-above obj n k g)

  pub own-passes : (o : ℕ) → of_obj obj o (own_list obj late n) ≡ passes obj late n o
  own-passes o =
      less-or o (bound obj n) (λ h. own_in 0 (bound obj n - 0) o (omega arith) (omega arith))
      (λ h. of-past o h (once-inside n (own_list obj late n) own-once))

  -- own order need be looked at below the bound alone
  pub kept_of : (l : List ℕ) → Once n l → ((o : ℕ) → o < bound obj n → of_obj obj o l ≡ passes obj late n o) → Kept obj late n l
  kept_of l once h o = less-or o (bound obj n) (h o) (λ g. of-past o g (once-inside n l once)) ∙ sym (own-passes o)

  -- ---- the work of the objects from o on

  from_first : (o : ℕ) → o < bound obj n → own_from obj late n o ≡ passes obj late n o ++ own_from obj late n (suc o)
  from_first o h = ap (order obj late n o) (let e : bound obj n - o ≡ suc (bound obj n - suc o) = omega arith in e)

  pub from_end : (o : ℕ) → ((k : ℕ) → k < n → obj k < o) → own_from obj late n o ≡ []
  from_end o h = ap (order obj late n o) (let e : bound obj n - o ≡ 0 = omega (arith, bound-least obj n o h) in e)

  pub from-object : (k : ℕ) → k < n → own_from obj late n (obj k) ≡ passes obj late n (obj k) ++ own_from obj late n (suc (obj k))
  from-object k h = from_first (obj k) (bound-above obj n k h)

  -- objects that no hint has add nothing
  from-skip : (o d : ℕ) → ((k : ℕ) → k < n → o ≤ obj k → o + d ≤ obj k) → own_from obj late n o ≡ own_from obj late n (o + d)
  from-skip o zero h = ap (own_from obj late n) (let e : o ≡ o + 0 = omega arith in e)
  from-skip o (suc d) h =
      less-or o (bound obj n)
      (λ l. from_first o l ∙ ap (λ (x : List ℕ). x ++ own_from obj late n (suc o)) (passes_none o (λ k g e. omega (arith, h k g (omega arith)))))
      (λ l. from_end o (far l) ∙ sym (from_end (suc o) (λ k g. omega (arith, far l k g))))
      ∙ from-skip (suc o) d (λ k g l. omega (arith, h k g (omega arith)))
      ∙ ap (own_from obj late n) (let e : suc o + d ≡ o + suc d = omega arith in e)
    where
      far : bound obj n ≤ o → (k : ℕ) → k < n → obj k < o
      far l k g = omega (arith, bound-above obj n k g)

  pub from-jump : (o q : ℕ) → o ≤ q → ((k : ℕ) → k < n → o ≤ obj k → q ≤ obj k) → own_from obj late n o ≡ own_from obj late n q
  from-jump o q l h =
      let e : o + (q - o) ≡ q = omega arith in
      subst (λ (x : ℕ). own_from obj late n o ≡ own_from obj late n x) e (from-skip o (q - o) (λ k g r. omega (arith, h k g r)))

-- ---- no other list is so

module _ (obj : ℕ → ℕ) (late : ℕ → Bool) where
  never : (i j : ℕ) → Before obj late i j → Before obj late j i → ⊥
  never i j (by-object a) (by-object b) = omega arith
  never i j (by-object a) (by-pass e f g) = omega arith
  never i j (by-object a) (by-position e f g) = omega arith
  never i j (by-pass e f g) (by-object b) = omega arith
  never i j (by-pass e f g) (by-pass e' f' g') = true≢false (sym g ∙ f')
  never i j (by-pass e f g) (by-position e' f' g') = true≢false (sym g ∙ f' ∙ f)
  never i j (by-position e f g) (by-object b) = omega arith
  never i j (by-position e f g) (by-pass e' f' g') = true≢false (sym g' ∙ f ∙ f')
  never i j (by-position e f g) (by-position e' f' g') = omega arith

  pub rising-only : {l m : List ℕ} → Rising obj late l → Rising obj late m → ((k : ℕ) → count k l ≡ count k m) → l ≡ m
  rising-only last last e = refl
  rising-only last (first {k = k} {l = m} g r) e = absurd (omega (arith, e k, count-here k k m refl))
  rising-only (first {k = k} {l = l} g r) last e = absurd (omega (arith, e k, count-here k k l refl))
  rising-only (first {k = i} {l = l} g r) (first {k = j} {l = m} g' r') e =
      same_or i j
      (λ q. ap₂ (λ (x : ℕ) (y : List ℕ). x ∷ y) q (rising-only r r' (λ k. tails k q (e k))))
      (λ ne. absurd (never i j (all-count g j (omega (arith, e j, count-there i j l ne, count-here j j m refl)))
      (all-count g' i (omega (arith, e i, count-here i i l refl, count-there j i m (λ q. ne (sym q)))))))
    where
      tails : (k : ℕ) → i ≡ j → count k (i ∷ l) ≡ count k (j ∷ m) → count k l ≡ count k m
      tails k q h =
          same_or i k
          (λ p. omega (arith, count-here i k l p, count-here j k m (sym q ∙ p)))
          (λ p. omega (arith, count-there i k l p, count-there j k m (λ s. p (q ∙ s))))

  -- the run's list is the only one that has each hint once and is strictly rising
  pub own-only : (n : ℕ) (l : List ℕ) → Once n l → Rising obj late l → l ≡ own_list obj late n
  own-only n l o r = rising-only r (own-rising obj late n) (once-count n l (own_list obj late n) o (own-once obj late n))
