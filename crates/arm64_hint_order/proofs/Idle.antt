-- Two runs over lists of hints that differ in idle hints alone, hints whose step may be made at any time: both leave the same state, wherever an idle hint's
-- object number and kind put it in the order of work. Carried by the order of the others, which is the only one that rises, and by moving idle steps.
use mathlib.Core.Path.{◌≡◌, refl, sym, ap, ap₂, ◌∙◌}
use mathlib.Core.Logic.{◌≢◌}
use mathlib.Core.Bool.{Bool, true, false, true≢false, false≢true}
use mathlib.Core.List.{List, [], ◌∷◌}
use Prim.Native.Nat.{ℕ, zero, suc, ◌<◌}
use native.Mathlib.Omega.{arith}
use borrow.Author.Tests.{eq-eqb, ne_eqb}
use lib.Dec.{eqb}
use Rattle.util.specs.Choice.{choose}
use Rattle.util.specs.All.{All, empty, more}
use Rattle.util.proofs.All.{all_map}
use Rattle.util.proofs.Choice.{split}
use Rattle.util.proofs.Cases.{same_or}
use Rattle.arm64_hint_order.specs.Lists.{run_list, those, count, of_obj, Once, own_list}
use Rattle.arm64_hint_order.specs.Rising.{Before, by-object, by-pass, by-position, Rising, last, first}
use Rattle.arm64_hint_order.proofs.Lists.{all-those, those-none, count_none, count-those-in, once-inside, once-count, once-same}
use Rattle.arm64_hint_order.proofs.Own.{own-once, own-rising, rising-only}
use Rattle.arm64_hint_order.proofs.Commute.{same-run}

-- equal tests choose equal members
those-ext : (p q : ℕ → Bool) → ((k : ℕ) → p k ≡ q k) → (l : List ℕ) → those p l ≡ those q l
those-ext p q e [] = refl
those-ext p q e (k ∷ l) = ap₂ (λ (b : Bool) (m : List ℕ). choose b (k ∷ m) m) (e k) (those-ext p q e l)

-- a part of a rising list rises
rising-those : (obj : ℕ → ℕ) (late : ℕ → Bool) (p : ℕ → Bool) {l : List ℕ} → Rising obj late l → Rising obj late (those p l)
rising-those obj late p last = last
rising-those obj late p (first {k = k} {l = l} a r) =
    split (Rising obj late) (p k) (k ∷ those p l) (those p l)
    (λ _. first (all_map (λ j h. h.0) (all-those p a)) (rising-those obj late p r))
    (λ _. rising-those obj late p r)

module _ (obj obj' : ℕ → ℕ) (late late' : ℕ → Bool) where
  -- two hints agree in what the order takes of them
  abbrev Agrees : ℕ → Type 0
  Agrees k = (obj k ≡ obj' k) × (late k ≡ late' k)

  before-as : (i j : ℕ) → Agrees i → Agrees j → Before obj' late' i j → Before obj late i j
  before-as i j (a, b) (c, d) (by-object h) = by-object (omega arith)
  before-as i j (a, b) (c, d) (by-pass e f g) = by-pass (a ∙ e ∙ sym c) (b ∙ f) (d ∙ g)
  before-as i j (a, b) (c, d) (by-position e f g) = by-position (a ∙ e ∙ sym c) (b ∙ f ∙ sym d) g

  all-before : (i : ℕ) → Agrees i → {l : List ℕ} → All Agrees l → All (Before obj' late' i) l → All (Before obj late i) l
  all-before i a empty empty = empty
  all-before i a (more {k = j} c cs) (more h hs) = more (before-as i j a c h) (all-before i a cs hs)

  rising-as : {l : List ℕ} → All Agrees l → Rising obj' late' l → Rising obj late l
  rising-as empty last = last
  rising-as (more {k = k} a b) (first h r) = first (all-before k a b h) (rising-as b r)

  module _ (n : ℕ) (busy : ℕ → Bool) (agrees : (k : ℕ) → k < n → busy k ≡ true → Agrees k) where
    abbrev own : List ℕ
    own = own_list obj late n

    abbrev own' : List ℕ
    own' = own_list obj' late' n

    once : Once n own
    once = own-once obj late n

    once' : Once n own'
    once' = own-once obj' late' n

    -- the busy hints come in the same order
    same-busy : those busy own ≡ those busy own'
    same-busy =
        rising-only obj late (rising-those obj late busy (own-rising obj late n))
        (rising-as (all_map (λ k h. agrees k h.0 h.1) (all-those busy (once-inside n own' once')))
        (rising-those obj' late' busy (own-rising obj' late' n)))
        (λ k. go k (busy k) refl)
      where
        none : (k : ℕ) → busy k ≡ false → (l : List ℕ) → All (λ j. j < n) l → count k (those busy l) ≡ 0
        none k e l a = count_none k (all_map (λ j h q. false≢true (sym e ∙ ap busy (sym q) ∙ h.1)) (all-those busy a))

        go : (k : ℕ) (b : Bool) → busy k ≡ b → count k (those busy own) ≡ count k (those busy own')
        go k true e = count-those-in busy k own e ∙ once-count n own own' once once' k ∙ sym (count-those-in busy k own' e)
        go k false e = none k e own (once-inside n own once) ∙ sym (none k e own' (once-inside n own' once'))

    -- the busy hints as one class, each idle one as its own
    abbrev class_by : Bool → ℕ → ℕ
    class_by true k = 0
    class_by false k = suc k

    abbrev class : ℕ → ℕ
    class k = class_by (busy k) k

    same_class : (o : ℕ) → of_obj class o own ≡ of_obj class o own'
    same_class zero = those-ext _ busy (λ k. at (busy k) k) own ∙ same-busy ∙ sym (those-ext _ busy (λ k. at (busy k) k) own')
      where
        at : (b : Bool) (k : ℕ) → eqb (class_by b k) 0 ≡ b
        at true k = refl
        at false k = ne_eqb (suc k) 0 (λ q. omega arith)
    same_class (suc j) = go (busy j) refl
      where
        idle : (b : Bool) (k : ℕ) → busy k ≡ b → busy j ≡ false → eqb (class_by b k) (suc j) ≡ eqb k j
        idle true k e f = ne_eqb 0 (suc j) (λ q. omega arith) ∙ sym (ne_eqb k j (λ q. true≢false (sym e ∙ ap busy q ∙ f)))
        idle false k e f =
            same_or k j (λ q. eq-eqb (suc k) (suc j) (ap suc q) ∙ sym (eq-eqb k j q))
            (λ q. ne_eqb (suc k) (suc j) (λ h. q (omega arith)) ∙ sym (ne_eqb k j q))

        none : (b : Bool) (k : ℕ) → busy k ≡ b → busy j ≡ true → eqb (class_by b k) (suc j) ≡ false
        none true k e f = ne_eqb 0 (suc j) (λ q. omega arith)
        none false k e f =
            ne_eqb (suc k) (suc j) (λ q. let h : k ≡ j = omega arith in true≢false (sym f ∙ ap busy (sym h) ∙ e))

        go : (b : Bool) → busy j ≡ b → of_obj class (suc j) own ≡ of_obj class (suc j) own'
        go false f =
            those-ext _ (λ k. eqb k j) (λ k. idle (busy k) k refl f) own
            ∙ once-same n own own' once once' j
            ∙ sym (those-ext _ (λ k. eqb k j) (λ k. idle (busy k) k refl f) own')
        go true f = empty-in own (once-inside n own once) ∙ sym (empty-in own' (once-inside n own' once'))
          where
            empty-in : (l : List ℕ) → All (λ k. k < n) l → of_obj class (suc j) l ≡ []
            empty-in l a = those-none _ (all_map (λ k _. none (busy k) k refl f) a)

    -- the same state, where the step of an idle hint may be exchanged with any other
    pub idle-run : {S : Type 0} (step : ℕ → S → S)
        → ((i j : ℕ) → i < n → j < n → busy i ≡ false → (s : S) → step i (step j s) ≡ step j (step i s))
        → (s : S) → run_list step own s ≡ run_list step own' s
    idle-run {S} step comm =
        same-run n class step (λ i j h g ne s. go i j h g ne s (busy i) refl (busy j) refl) own own' (once-inside n own once) (once-inside n own' once')
        same_class
      where
        go : (i j : ℕ) → i < n → j < n → class i ≢ class j → (s : S) (b : Bool) → busy i ≡ b → (c : Bool) → busy j ≡ c
            → step i (step j s) ≡ step j (step i s)
        go i j h g ne s false e c f = comm i j h g e s
        go i j h g ne s true e false f = sym (comm j i g h f s)
        go i j h g ne s true e true f = absurd (ne (ap (λ (b : Bool). class_by b i) e ∙ sym (ap (λ (b : Bool). class_by b j) f)))
