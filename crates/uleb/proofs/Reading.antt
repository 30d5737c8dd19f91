-- The value at a place, from its last byte down: each byte before it that says that more follow puts seven bits below.
use Rattle.std.specs.Prelude.{Some, None}
use mathlib.Core.Path.{◌≡◌, refl, sym, ap, ◌∙◌, subst}
use mathlib.Core.Bool.{Bool, true, false}
use mathlib.Core.List.{List, [], ◌∷◌}
use Prim.Native.Nat.{ℕ, zero, suc, ◌+◌, ◌-◌, ◌*◌, ◌%◌, ◌^◌, ◌≤◌, ◌<◌}
use native.Mathlib.Omega.{arith}
use native.Mathlib.Numerals.{add-one}
use native.Mathlib.Nat.{not-suc-le-zero}
use borrow.Author.Tests.{ltb-true, ltb-false, lt-ltb, le-ltb}
use lib.Dec.{ltb}
use lib.ListN.{length, get_or, drop, length-drop}
use lib.Seq.{drop-cons, drop-drop, drop-length, get_or-drop}
use Rattle.util.specs.Choice.{choose}
use Rattle.util.proofs.Choice.{split}
use Rattle.uleb.specs.Values.{Values, ended, cut, next, below, values_of, unended, first_of, uleb_at}
use Rattle.uleb.proofs.Spelled.{final-byte, more_bytes}

-- ---- the bytes that say that more follow

-- one of them before others
pub unended-more : (b : ℕ) (l : List ℕ) → 128 ≤ b → unended (b ∷ l) ≡ suc (unended l)
unfolding unended choose
unended-more b l h = rw (le-ltb b 128 h)

pub unended-last : (b : ℕ) (l : List ℕ) → b < 128 → unended (b ∷ l) ≡ 0
unfolding unended choose
unended-last b l h = rw (lt-ltb b 128 h)

-- the same at a place
pub more-at : (l : List ℕ) (i : ℕ) → i < length l → 128 ≤ get_or l i 0 → unended (drop i l) ≡ suc (unended (drop (i + 1) l))
more-at l i h m = rw (drop-cons l i 0 h, add-one i) (unended-more (get_or l i 0) (drop (suc i) l) m)

pub last-at : (l : List ℕ) (i : ℕ) → i < length l → get_or l i 0 < 128 → unended (drop i l) ≡ 0
last-at l i h m = rw (drop-cons l i 0 h) (unended-last (get_or l i 0) (drop (suc i) l) m)

pub none-at : (l : List ℕ) (i : ℕ) → i ≡ length l → unended (drop i l) ≡ 0
unfolding unended
none-at l i e = rw (e, drop-length l)

-- each of them does
pub is-more : (l : List ℕ) (k : ℕ) → k < unended l → 128 ≤ get_or l k 0
unfolding unended
is-more [] k h = absurd (not-suc-le-zero h)
is-more (b ∷ l) zero h =
    split (λ (n : ℕ). 0 < n → 128 ≤ b) (ltb b 128) 0 (suc (unended l)) (λ e w. absurd (not-suc-le-zero w)) (λ e w. ltb-false b 128 e) h
is-more (b ∷ l) (suc k) h =
    split (λ (n : ℕ). suc k < n → 128 ≤ get_or l k 0) (ltb b 128) 0 (suc (unended l))
    (λ e w. absurd (not-suc-le-zero w))
    (λ e w. is-more l k (omega arith))
    h

-- and the byte after them does not
pub is_last : (l : List ℕ) → unended l < length l → get_or l (unended l) 0 < 128
unfolding unended
is_last [] h = absurd (not-suc-le-zero h)
is_last (b ∷ l) h =
    split (λ (n : ℕ). n < suc (length l) → get_or (b ∷ l) n 0 < 128) (ltb b 128) 0 (suc (unended l))
    (λ e w. ltb-true b 128 e)
    (λ e w. is_last l (omega arith))
    h

-- ---- the value

-- where no byte is the last one, nothing is spelt
cut_below : (l : List ℕ) → unended l ≡ length l → (x : ℕ) → below x (values_of l) ≡ cut
unfolding values_of unended choose
cut_below [] e x = refl
cut_below (b ∷ l) e x = go (ltb b 128) refl (λ h. cut_below l h (b % 128)) e
  where
    go : (t : Bool) → ltb b 128 ≡ t → (unended l ≡ length l → below (b % 128) (values_of l) ≡ cut) → choose t 0 (suc (unended l)) ≡ suc (length l)
        → below x (choose t (next b l (values_of l)) (below (b % 128) (values_of l))) ≡ cut
    go true f k w = absurd (omega arith)
    go false f k w = ap (below x) (k (omega arith))

first-cut : (n x : ℕ) (ns : Values) → below x ns ≡ cut → first_of n ns ≡ None
first-cut n x ended e = refl
first-cut n x cut e = refl
first-cut n x (next v a r) e = let z : ◌≡◌ {A = ℕ} 0 1 = cc in absurd (omega arith)

pub read-cut : (l : List ℕ) (at : ℕ) → at ≤ length l → at + unended (drop at l) ≡ length l → None ≡ uleb_at l at
unfolding uleb_at
read-cut l at h e =
    let w : unended (drop at l) ≡ length (drop at l) = rw (length-drop at l) (omega arith) in
    sym (first-cut (length l) 0 (values_of (drop at l)) (cut_below (drop at l) w 0))

-- what stands at a place: a value, with the bytes from `end` on after it
abbrev pub Stands : List ℕ → ℕ → ℕ → ℕ → Type 0
Stands l i v end = values_of (drop i l) ≡ next v (drop end l) (values_of (drop end l))

-- a byte after which none follow is a value
pub last-stands : (l : List ℕ) (i : ℕ) → i < length l → get_or l i 0 < 128 → Stands l i (get_or l i 0) (i + 1)
last-stands l i h b = rw (drop-cons l i 0 h, add-one i) (final-byte (get_or l i 0) (drop (suc i) l) b)

-- one after which more follow is below the value that they have
pub more-stands : (l : List ℕ) (i v end : ℕ) → i < length l → 128 ≤ get_or l i 0 → Stands l (suc i) v end
    → Stands l i (get_or l i 0 % 128 + 128 * v) end
more-stands l i v end h b s =
    rw (drop-cons l i 0 h) (more_bytes (get_or l i 0) (drop (suc i) l) b ∙ ap (below (get_or l i 0 % 128)) s)

-- at its last byte
pub read-last : (l : List ℕ) (at last : ℕ) → at ≤ length l → last ≡ at + unended (drop at l) → last < length l
    → (get_or l last 0 < 128) × Stands l last (get_or l last 0) (last + 1)
read-last l at last h e w =
    let u : unended (drop at l) < length (drop at l) = rw (length-drop at l) (omega arith) in
    let b : get_or l last 0 < 128 = rw (e, ← get_or-drop at l (unended (drop at l)) 0) (is_last (drop at l) u) in
    (b, last-stands l last w b)

-- one byte further down
pub read_down : (l : List ℕ) (at last i v end : ℕ) → at ≤ length l → last ≡ at + unended (drop at l) → at < i → i ≤ last → last ≤ length l
    → Stands l i v end → Stands l (i - 1) (128 * v + get_or l (i - 1) 0 % 128) end
read_down l at last i v end h e a b c s =
    let place : at + (i - 1 - at) ≡ i - 1 = omega arith in
    let byte : 128 ≤ get_or l (i - 1) 0 =
    rw (← place, ← get_or-drop at l (i - 1 - at) 0) (is-more (drop at l) (i - 1 - at) (omega arith)) in
    let after : suc (i - 1) ≡ i = omega arith in
    let value : get_or l (i - 1) 0 % 128 + 128 * v ≡ 128 * v + get_or l (i - 1) 0 % 128 = omega arith in
    subst (λ (x : ℕ). Stands l (i - 1) x end) value
    (more-stands l (i - 1) v end (omega arith) byte (rw after s))

-- bytes before a value only make it larger
grown : (l : List ℕ) (j v : ℕ) (a : List ℕ) (r : Values) → j ≤ unended l → values_of (drop j l) ≡ next v a r
    → (w : ℕ) × ((values_of l ≡ next w a r) × (v ≤ w))
unfolding unended
grown l zero v a r h e = (v, (e, omega arith))
grown [] (suc j) v a r h e = absurd (not-suc-le-zero h)
grown (b ∷ l) (suc j) v a r h e =
    split (λ (n : ℕ). suc j ≤ n → (w : ℕ) × ((values_of (b ∷ l) ≡ next w a r) × (v ≤ w))) (ltb b 128) 0 (suc (unended l))
    (λ f w. absurd (not-suc-le-zero w))
    (λ f w.
    let k = grown l j v a r (omega arith) e in
    (b % 128 + 128 * k.0, (more_bytes b l (ltb-false b 128 f) ∙ ap (below (b % 128)) k.1.0, omega (arith, k.1.1))))
    h

-- so one that no longer fits stays so
pub read-large : (l : List ℕ) (at last i v end : ℕ) → at ≤ length l → last ≡ at + unended (drop at l) → at < i → i ≤ last → last ≤ length l
    → 2 ^ 57 ≤ v → Stands l i v end → None ≡ uleb_at l at
unfolding uleb_at choose
read-large l at last i v end h e a b c w s =
    let place : at + (i - 1 - at) ≡ i - 1 = omega arith in
    let here : values_of (drop (i - 1 - at) (drop at l)) ≡ next (128 * v + get_or l (i - 1) 0 % 128) (drop end l) (values_of (drop end l)) =
    rw (drop-drop (i - 1 - at) at l, place) (read_down l at last i v end h e a b c s) in
    let k = grown (drop at l) (i - 1 - at) (128 * v + get_or l (i - 1) 0 % 128) (drop end l) (values_of (drop end l)) (omega arith) here in
    let big : 2 ^ 64 ≤ k.0 = omega (arith, k.1.1) in
    rw (k.1.0, le-ltb k.0 (2 ^ 64) big)

-- and one that was put together whole is what stands there
pub read_whole : (l : List ℕ) (at v end : ℕ) → end ≤ length l → v < 2 ^ 64 → Stands l at v end → Some (v, end) ≡ uleb_at l at
unfolding uleb_at choose
read_whole l at v end h w s =
    let n : length l - length (drop end l) ≡ end = rw (length-drop end l) (omega arith) in
    rw (s, lt-ltb v (2 ^ 64) w, n)
