-- Values one after another, each in its shortest spelling.
use mathlib.Core.Path.{◌≡◌, refl, sym, ap, ap₂, ◌∙◌}
use mathlib.Core.Bool.{Bool, true, false, ◌&&◌, false≢true}
use mathlib.Core.List.{List, [], ◌∷◌, ◌++◌, append-nil}
use Prim.Native.Nat.{ℕ, zero, suc, ◌+◌, ◌*◌, ◌/◌, ◌%◌, ◌^◌, ◌≤◌, ◌<◌}
use native.Mathlib.Omega.{arith}
use borrow.Author.Tests.{ltb-true, ltb-false, eqb-false, lt-ltb, le-ltb, ne_eqb}
use lib.Dec.{eqb, ltb}
use lib.ListN.{length, length-append}
use Rattle.util.specs.All.{All, more}
use Rattle.util.proofs.Choice.{split, choose-true, choose-false}
use Rattle.uleb.specs.Values.{Values, ended, next, values_of}
use Rattle.uleb.specs.Shortest.{uleb_within, uleb_of, ulebs_of, short_after, are_short}
use Rattle.uleb.specs.Spelling.{Spells, none, one}
use Rattle.uleb.proofs.Spelled.{each-value, append-one, after-all, value-back, ten-bytes, shortest, left_lt}

-- ---- values that are written

-- the shortest spellings spell their values
pub written-spell : (vs : List ℕ) → All (λ v. v < 2 ^ 64) vs → Spells (ulebs_of vs) vs
unfolding ulebs_of values_of
written-spell [] a = none
written-spell (v ∷ vs) (more h a) =
    one (uleb_of v) (ulebs_of vs) v vs (ap values_of (sym (append-nil (uleb_of v))) ∙ value-back v [] h) (written-spell vs a)

-- no other bytes that spell them are fewer
pub written-shortest : (p vs : List ℕ) → Spells p vs → length (ulebs_of vs) ≤ length p
unfolding ulebs_of
written-shortest p vs none = omega arith
written-shortest p vs (one s q v ws h r) = simp length-append (omega (arith, shortest s v [] ended h, written-shortest q ws r))

-- ten bytes for each value are enough
pub written-most : (vs : List ℕ) → length (ulebs_of vs) ≤ 10 * length vs
unfolding ulebs_of
written-most [] = omega arith
written-most (v ∷ vs) = simp length-append (omega (arith, ten-bytes v, written-most vs))

-- ---- bytes without a spelling that is longer than it need be

-- the test at a byte
short-at : (m : Bool) (b : ℕ) (bs : List ℕ) → short_after m (b ∷ bs) ≡ true → ((m && eqb b 0) ≡ false) × (short_after (ltb 127 b) bs ≡ true)
short-at m b bs h =
    split (λ (t : Bool). t ≡ true → ((m && eqb b 0) ≡ false) × (short_after (ltb 127 b) bs ≡ true)) (m && eqb b 0) false _
    (λ _ q. absurd (false≢true q))
    (λ e q. (e, q))
    h

-- such a spelling is the shortest, if it has room, and the test goes on after it
abbrev Short : List ℕ → ℕ → List ℕ → Type 0
Short bs v after = (m : Bool) → short_after m bs ≡ true → All (λ b. b < 256) bs
    → (m ≡ true → 0 < v) × (are_short after ≡ true) × ((n : ℕ) → v < 2 ^ (7 * suc n) → bs ≡ uleb_within (suc n) v ++ after)

short-last : (b : ℕ) (bs : List ℕ) → b < 128 → Short (b ∷ bs) b bs
unfolding uleb_within
short-last b bs h m s a =
    let t : ((m && eqb b 0) ≡ false) × (short_after (ltb 127 b) bs ≡ true) = short-at m b bs s in (
      λ e. let z : b ≡ 0 → ⊥ = eqb-false b 0 (rw e at t.0) in omega arith,
      rw (le-ltb 127 b (omega arith)) at t.1,
      λ n l. rw (choose-true (ltb b 128) (b ∷ []) ((b % 128 + 128) ∷ uleb_within n (b / 128)) (lt-ltb b 128 h)),
    )

short-more : (b : ℕ) (bs : List ℕ) (v : ℕ) (after : List ℕ) (rest : Values) → 128 ≤ b → values_of bs ≡ next v after rest → Short bs v after
    → Short (b ∷ bs) (b % 128 + 128 * v) after
unfolding uleb_within
short-more b bs v after rest h e p m s (more q a) = (λ _. omega (arith, r.0 refl), r.1, go)
  where
    r : (true ≡ true → 0 < v) × (are_short after ≡ true) × ((n : ℕ) → v < 2 ^ (7 * suc n) → bs ≡ uleb_within (suc n) v ++ after)
    r = p true (rw (lt-ltb 127 b h) at (short-at m b bs s).1) a

    go : (n : ℕ) → b % 128 + 128 * v < 2 ^ (7 * suc n) → b ∷ bs ≡ uleb_within (suc n) (b % 128 + 128 * v) ++ after
    go zero l = absurd (omega (arith, r.0 refl))
    go (suc n) l =
        let w : ℕ = b % 128 + 128 * v in
        let low : b ≡ w % 128 + 128 = omega arith in
        let left : w / 128 ≡ v = omega arith in
        let room : v < 2 ^ (7 * suc n) = rw left at (left_lt n w l) in
        let long : 128 ≤ w = omega (arith, r.0 refl) in
        rw (choose-false (ltb w 128) (w ∷ []) ((w % 128 + 128) ∷ uleb_within (suc n) (w / 128)) (le-ltb w 128 long))
        (ap₂ {C = List ℕ} (λ (x : ℕ) (l : List ℕ). x ∷ l) low (r.2 n room ∙ ap (λ (x : ℕ). uleb_within (suc n) x ++ after) (sym left)))

short-each : (bs : List ℕ) (v : ℕ) (after : List ℕ) (rest : Values) → values_of bs ≡ next v after rest → Short bs v after
short-each = each-value (λ bs v after rest. Short bs v after) short-last short-more

-- one value
pub short-is : (s : List ℕ) (v : ℕ) → values_of s ≡ next v [] ended → v < 2 ^ 64 → All (λ b. b < 256) s → are_short s ≡ true → s ≡ uleb_of v
short-is s v h l a t = (short-each s v [] ended h false t a).2 9 (omega arith) ∙ append-nil (uleb_of v)

-- values one after another
pub shorts-are : (p vs : List ℕ) → Spells p vs → All (λ v. v < 2 ^ 64) vs → All (λ b. b < 256) p → are_short p ≡ true → ulebs_of vs ≡ p
unfolding ulebs_of
shorts-are p vs none l a t = refl
shorts-are p vs (one s q v ws h r) (more m l) a t =
    let e : values_of (s ++ q) ≡ next v q (values_of q) = append-one s q v h in
    let k = short-each (s ++ q) v q (values_of q) e false t a in
    ap (λ (x : List ℕ). uleb_of v ++ x) (shorts-are q ws r l (after-all (λ b. b < 256) (s ++ q) v q (values_of q) e a) k.1)
    ∙ sym (k.2 9 (omega arith))

-- ---- the shortest spellings pass the test

-- a byte before what passes it
short_on : (m : Bool) (b : ℕ) (bs : List ℕ) → (m ≡ true → 0 < b) → short_after (ltb 127 b) bs ≡ true → short_after m (b ∷ bs) ≡ true
short_on m b bs z h = choose-false (m && eqb b 0) false (short_after (ltb 127 b) bs) (test m z) ∙ h
  where
    test : (m : Bool) → (m ≡ true → 0 < b) → (m && eqb b 0) ≡ false
    test true z = ne_eqb b 0 (λ e. omega (arith, z refl))
    test false z = refl

short-one : (m : Bool) (v : ℕ) (p : List ℕ) → v < 128 → (m ≡ true → 0 < v) → are_short p ≡ true → short_after m (v ∷ p) ≡ true
short-one m v p l z t = short_on m v p z (rw (le-ltb 127 v (omega arith)) t)

within-short : (n v : ℕ) (p : List ℕ) (m : Bool) → v < 2 ^ (7 * suc n) → (m ≡ true → 0 < v) → are_short p ≡ true
    → short_after m (uleb_within (suc n) v ++ p) ≡ true
unfolding uleb_within
within-short zero v p m l z t = rw (choose-true (ltb v 128) (v ∷ []) ((v % 128 + 128) ∷ []) (lt-ltb v 128 l)) (short-one m v p l z t)
within-short (suc n) v p m l z t =
    split (λ (s : List ℕ). short_after m (s ++ p) ≡ true) (ltb v 128) (v ∷ []) ((v % 128 + 128) ∷ uleb_within (suc n) (v / 128))
    (λ e. short-one m v p (ltb-true v 128 e) z t)
    (λ e.
    let h : 128 ≤ v = ltb-false v 128 e in
    short_on m (v % 128 + 128) (uleb_within (suc n) (v / 128) ++ p) (λ _. omega arith)
    (rw (lt-ltb 127 (v % 128 + 128) (omega arith)) (within-short n (v / 128) p true (left_lt n v l) (λ _. omega arith) t)))

pub written-short : (vs : List ℕ) → All (λ v. v < 2 ^ 64) vs → are_short (ulebs_of vs) ≡ true
unfolding ulebs_of
written-short [] a = refl
written-short (v ∷ vs) (more h a) = within-short 9 v (ulebs_of vs) false (omega arith) (λ e. absurd (false≢true e)) (written-short vs a)
