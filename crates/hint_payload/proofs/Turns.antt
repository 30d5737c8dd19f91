-- The walks over a payload and a row, value by value: what is left gives what the whole gives.
use Rattle.std.specs.Prelude.{Ok, Option, Some, None, MatchBool}
use Rattle.std.specs.List.{AllWithin, HoldsAt}
use mathlib.Core.Path.{◌≡◌, refl, sym, ap, ◌∙◌}
use mathlib.Core.Bool.{Bool, true, false}
use mathlib.Core.List.{List, [], ◌∷◌, ◌++◌, append-nil, append_assoc}
use Prim.Native.Nat.{ℕ, zero, suc, ◌+◌, ◌-◌, ◌^◌, ◌<◌}
use native.Mathlib.Omega.{arith}
use native.Mathlib.Numerals.{add-one}
use native.Mathlib.Nat.{not-suc-le-zero}
use borrow.Author.Tests.{eq-eqb, ne_eqb, lt-ltb}
use lib.Dec.{eqb, ltb}
use lib.ListN.{length, get_or, set, take, drop, length-drop}
use lib.Seq.{sets, drop-cons, drop-length, take-suc}
use Rattle.util.specs.Choice.{choose}
use Rattle.util.proofs.Choice.{split}
use Rattle.macho.specs.declared.refusal.Refusal.TheVariants.{Malformed}
use Rattle.uleb.specs.Values.{Values, ended, cut, next, values_of, first_of, uleb_at}
use Rattle.uleb.specs.Shortest.{uleb_of, ulebs_of}
use Rattle.uleb.proofs.Placed.{Read, read-refused}
use Rattle.uleb.proofs.Spelled.{no_bytes}
use Rattle.hint_payload.specs.Row.{expected_after, expected_in}
use Rattle.hint_payload.specs.Payload.{Payload, holds, fails, all_zero, after_close, ends_in, onto, goes_on, payload_from, payload_of, first_values}
use Rattle.hint_payload.specs.Answer.{count_in, count_after}
use Rattle.hint_payload.specs.declared.expected.Expected.{Expected}
use Rattle.hint_payload.specs.declared.expected.Expected.TheVariants.{Kind, Zeros}
use Rattle.hint_payload.proofs.Walk.{goes_before}

-- ---- bytes that are all zero

all-zeros : (l : List ℕ) → ((k : ℕ) → k < length l → get_or l k 0 ≡ 0) → all_zero l ≡ true
unfolding all_zero choose
all-zeros [] f = refl
all-zeros (x ∷ l) f = rw (eq-eqb x 0 (f 0 (omega arith))) (all-zeros l (λ k w. f (suc k) (omega arith)))

not-zeros : (l : List ℕ) (k : ℕ) → k < length l → (get_or l k 0 ≡ 0 → ⊥) → all_zero l ≡ false
unfolding all_zero choose
not-zeros [] k h n = absurd (not-suc-le-zero h)
not-zeros (x ∷ l) zero h n = rw (ne_eqb x 0 n)
not-zeros (x ∷ l) (suc k) h n = split (λ (b : Bool). b ≡ false) (eqb x 0) (all_zero l) false (λ e. not-zeros l k (omega arith) n) (λ e. refl)

-- the answer of a walk over them
pub zeros-by-cases : (l : List ℕ) (b : Bool) → MatchBool b (AllWithin (λ x. x ≡ 0) l 0 (length l)) ((k : ℕ) × (k < length l) × HoldsAt (λ x. x ≡ 0 → ⊥) l k) → b ≡ all_zero l
zeros-by-cases l true h = sym (all-zeros l (λ k w. h k 0 (omega arith) w))
zeros-by-cases l false h = sym (not-zeros l h.0 h.1 (h.2 0))

-- ---- the walk that checks

-- what is left of a payload from a place on, where e comes next
abbrev pub Rest : List ℕ → Expected → ℕ → Payload
Rest l e at = payload_from e (values_of (drop at l))

-- so many values counted, and what is left counts as the whole does
pub check-start : (l : List ℕ) → count_after 0 (Rest l Kind 0) ≡ count_in (payload_of l)
unfolding payload_of
check-start l = go (payload_from Kind (values_of l))
  where
    go : (p : Payload) → count_after 0 p ≡ count_in p
    go (holds row) = ap Ok (omega arith)
    go (fails x) = refl

-- a value that was read
pub check-value : (l : List ℕ) (e : Expected) (at v end : ℕ) → Read l at v end
    → Rest l e at ≡ goes_on (expected_after e v) v (drop end l) (Rest l (expected_after e v) end)
unfolding payload_from choose
check-value l e at v end r = rw (r.stands, lt-ltb v (2 ^ 64) r.small)

-- none was read
pub check-refused : (l : List ℕ) (e : Expected) (at : ℕ) (u : Option (ℕ × ℕ)) → at < length l → u ≡ None → u ≡ uleb_at l at → Rest l e at ≡ fails Malformed
unfolding payload_from choose
check-refused l e at u h p q = go (values_of (drop at l)) refl (read-refused l at u p q)
  where
    known : (t : Bool) (v n : ℕ) (x y : Payload) → choose {A = Option (ℕ × ℕ)} t (Some (v, n)) None ≡ None → choose t x y ≡ y
    known true v n x y f = let z : ◌≡◌ {A = ℕ} 0 1 = cc in absurd (omega arith)
    known false v n x y f = refl

    go : (ns : Values) → values_of (drop at l) ≡ ns → first_of (length l) ns ≡ None → payload_from e ns ≡ fails Malformed
    go ended f r =
        let k : length (drop at l) ≡ 0 = ap length (no_bytes (drop at l) f) in
        absurd (omega (arith, k, length-drop at l))
    go cut f r = refl
    go (next v after rest) f r = known (ltb v (2 ^ 64)) v (length l - length after) _ (fails Malformed) r

-- the close
pub check-closed : (l : List ℕ) (c : ℕ) (e : Expected) (at v end : ℕ) → expected_after e v ≡ Zeros → Read l at v end
    → count_after c (Rest l e at) ≡ count_after c (after_close (drop end l))
check-closed l c e at v end z r =
    ap (count_after c) (check-value l e at v end r ∙ ap (λ (x : Expected). goes_on x v (drop end l) (Rest l (expected_after e v) end)) z)

-- one value more
counted-before : (c v : ℕ) (p : Payload) → count_after (c + 1) p ≡ count_after c (onto v p)
counted-before c v (holds row) = ap Ok (omega arith)
counted-before c v (fails x) = refl

pub check-more : (l : List ℕ) (c : ℕ) (e : Expected) (at v end : ℕ) → (expected_after e v ≡ Zeros → ⊥) → Read l at v end
    → count_after (c + 1) (Rest l (expected_after e v) end) ≡ count_after c (Rest l e at)
check-more l c e at v end z r =
    counted-before c v (Rest l (expected_after e v) end)
    ∙ ap (count_after c) (sym (check-value l e at v end r ∙ goes_before (expected_after e v) v (drop end l) (Rest l (expected_after e v) end) z))

-- the payload's end
pub check-end : (l : List ℕ) (c : ℕ) (e : Expected) (at : ℕ) → at ≡ length l → count_after c (Rest l e at) ≡ count_after c (ends_in e)
unfolding payload_from values_of
check-end l c e at h = rw (h, drop-length l)

-- ---- the walk that fills

-- the first values from a place on
abbrev pub FirstFrom : List ℕ → ℕ → ℕ → List ℕ
FirstFrom l n at = first_values n (values_of (drop at l))

pub fill-value : (l : List ℕ) (slots : List ℕ) (i n m at v end : ℕ) → n ≡ suc m → Read l at v end
    → sets (set slots i v) (i + 1) (FirstFrom l m end) ≡ sets slots i (FirstFrom l n at)
unfolding first_values choose
fill-value l slots i n m at v end e r = rw (e, r.stands, lt-ltb v (2 ^ 64) r.small, add-one i)

pub fill-refused : (l : List ℕ) (slots : List ℕ) (i n at : ℕ) (u : Option (ℕ × ℕ)) → u ≡ None → u ≡ uleb_at l at → slots ≡ sets slots i (FirstFrom l n at)
unfolding first_values choose
fill-refused l slots i n at u p q = ap (sets slots i) (sym (go n (values_of (drop at l)) (read-refused l at u p q)))
  where
    known : (t : Bool) (v k : ℕ) (x : List ℕ) → choose {A = Option (ℕ × ℕ)} t (Some (v, k)) None ≡ None → choose t x [] ≡ []
    known true v k x f = let z : ◌≡◌ {A = ℕ} 0 1 = cc in absurd (omega arith)
    known false v k x f = refl

    go : (m : ℕ) (ns : Values) → first_of (length l) ns ≡ None → first_values m ns ≡ []
    go zero ns r = refl
    go (suc m) ended r = refl
    go (suc m) cut r = refl
    go (suc m) (next v after rest) r = known (ltb v (2 ^ 64)) v (length l - length after) _ r

pub fill_done : (l : List ℕ) (slots : List ℕ) (i n at : ℕ) → n ≡ 0 → slots ≡ sets slots i (FirstFrom l n at)
unfolding first_values
fill_done l slots i n at e = rw e

-- ---- the walks over a row

pub row_more : (row : List ℕ) (e : Expected) (i : ℕ) → i < length row
    → expected_in (expected_after e (get_or row i 0)) (drop (i + 1) row) ≡ expected_in e (drop i row)
unfolding expected_in
row_more row e i h = rw (drop-cons row i 0 h, add-one i)

pub row-end : (row : List ℕ) (e : Expected) (i : ℕ) → i ≡ length row → expected_in e (drop i row) ≡ e
unfolding expected_in
row-end row e i h = rw (h, drop-length row)

-- the spellings of values, one after another
ulebs-append : (xs ys : List ℕ) → ulebs_of (xs ++ ys) ≡ ulebs_of xs ++ ulebs_of ys
unfolding ulebs_of
ulebs-append [] ys = refl
ulebs-append (x ∷ xs) ys = ap (λ (l : List ℕ). uleb_of x ++ l) (ulebs-append xs ys) ∙ sym (append_assoc (uleb_of x) (ulebs_of xs) (ulebs_of ys))

pub ulebs-next : (row : List ℕ) (i : ℕ) → i < length row → ulebs_of (take i row) ++ uleb_of (get_or row i 0) ≡ ulebs_of (take (i + 1) row)
unfolding ulebs_of
ulebs-next row i h =
    rw (add-one i, take-suc row i 0 h, ulebs-append (take i row) (get_or row i 0 ∷ []))
    (ap (λ (l : List ℕ). ulebs_of (take i row) ++ l) (sym (append-nil (uleb_of (get_or row i 0)))))
