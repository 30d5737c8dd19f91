-- Exactly when a payload holds a row, and when it fails.
use mathlib.Core.Path.{◌≡◌, refl, sym, ap, ◌∙◌, subst}
use mathlib.Core.Bool.{true, false, true≢false}
use mathlib.Core.Logic.{◌⊎◌, ⊎_elim, inl, inr}
use mathlib.Core.List.{List, [], ◌∷◌, ◌++◌, append-nil, append_assoc}
use Prim.Native.Nat.{ℕ, ◌^◌, ◌<◌}
use native.Mathlib.Omega.{arith}
use borrow.Author.Tests.{lt-ltb, le-ltb}
use lib.Dec.{ltb}
use Rattle.util.specs.All.{All, empty, more}
use Rattle.util.specs.Choice.{choose}
use Rattle.util.proofs.Choice.{choose-true, choose-false}
use Rattle.macho.specs.declared.refusal.Refusal.{Refusal}
use Rattle.macho.specs.declared.refusal.Refusal.TheVariants.{Malformed, Trailing}
use Rattle.macho.specs.Refusal.{number_of}
use Rattle.uleb.specs.Values.{Values, ended, next, values_of}
use Rattle.uleb.specs.Spelling.{Spells, none, one}
use Rattle.uleb.proofs.Spelled.{Begins, append-one, begins, rest-is, no_bytes}
use Rattle.hint_payload.specs.Row.{expected_after, expected_in, is_kind, is_whole}
use Rattle.hint_payload.specs.Payload.{Payload, holds, fails, all_zero, after_close, ends_in, onto, payload_from, payload_of}
use Rattle.hint_payload.specs.Exact.{Closed, ClosedByKind, HasTrailing, Stops, in-hint, in-value, too_large, IsBroken}
use Rattle.hint_payload.specs.declared.expected.Expected.{Expected}
use Rattle.hint_payload.specs.declared.expected.Expected.TheVariants.{Kind, Count, Address, Zeros}
use Rattle.hint_payload.proofs.Walk.{held, failed, goes_before, not_zeros}
use Rattle.hint_payload.proofs.Whole.{kind-is, close-is, zeros-stay}

-- ---- the walk over values that no kind 0 closes

-- values before what the rest holds
abbrev all_before : List ℕ → Payload → Payload
all_before [] p = p
all_before (v ∷ vs) p = onto v (all_before vs p)

all-holds : (vs : List ℕ) → all_before vs (holds []) ≡ holds vs
all-holds [] = refl
all-holds (v ∷ vs) = ap (onto v) (all-holds vs)

all-fails : (vs : List ℕ) (x : Refusal) → all_before vs (fails x) ≡ fails x
all-fails [] x = refl
all-fails (v ∷ vs) x = ap (onto v) (all-fails vs x)

value_before : (e : Expected) (v : ℕ) (after : List ℕ) (rest : Values) → v < 2 ^ 64 → (expected_after e v ≡ Zeros → ⊥)
    → payload_from e (next v after rest) ≡ onto v (payload_from (expected_after e v) rest)
unfolding payload_from
value_before e v after rest l h = choose-true (ltb v (2 ^ 64)) _ (fails Malformed) (lt-ltb v (2 ^ 64) l) ∙ goes_before (expected_after e v) v after _ h

values-before : (a xs b : List ℕ) → Spells a xs → (e : Expected) → All (λ v. v < 2 ^ 64) xs → (expected_in e xs ≡ Zeros → ⊥)
    → payload_from e (values_of (a ++ b)) ≡ all_before xs (payload_from (expected_in e xs) (values_of b))
unfolding expected_in
values-before a xs b none e l h = refl
values-before a xs b (one s q v vs n r) e (more m l) h =
    let open-still : expected_after e v ≡ Zeros → ⊥ = λ z. h (ap (λ (x : Expected). expected_in x vs) z ∙ zeros-stay vs) in
    ap (payload_from e) (ap values_of (append_assoc s q b) ∙ append-one s (q ++ b) v n)
    ∙ value_before e v (q ++ b) (values_of (q ++ b)) m open-still
    ∙ ap (onto v) (values-before q vs b r (expected_after e v) l h)

-- whole hints are closed by no kind 0
whole-kind : (xs : List ℕ) → is_whole xs ≡ true → expected_in Kind xs ≡ Kind
whole-kind xs h = kind-is (expected_in Kind xs) h

-- what follows whole hints
hints-before : (a xs b : List ℕ) → Spells a xs → is_whole xs ≡ true → All (λ v. v < 2 ^ 64) xs
    → payload_of (a ++ b) ≡ all_before xs (payload_from Kind (values_of b))
unfolding payload_of
hints-before a xs b s w l =
    values-before a xs b s Kind l (λ z. not_zeros Kind refl (sym (whole-kind xs w) ∙ z))
    ∙ ap (λ (e : Expected). all_before xs (payload_from e (values_of b))) (whole-kind xs w)

-- ---- payloads that hold a row

pub ends : (p xs : List ℕ) → Spells p xs → is_whole xs ≡ true → All (λ v. v < 2 ^ 64) xs → payload_of p ≡ holds xs
unfolding values_of payload_from
ends p xs s w l = ap payload_of (sym (append-nil p)) ∙ hints-before p xs [] s w l ∙ all-holds xs

-- the close
kind-zero : (z t : List ℕ) → values_of z ≡ next 0 [] ended → payload_from Kind (values_of (z ++ t)) ≡ after_close t
unfolding payload_from choose
kind-zero z t h = ap (payload_from Kind) (append-one z t 0 h)

closed-by : (p xs t : List ℕ) → Closed p xs t → is_whole xs ≡ true → All (λ v. v < 2 ^ 64) xs → payload_of p ≡ all_before xs (after_close t)
closed-by p xs t c w l =
    ap payload_of c.joined ∙ hints-before c.front xs (c.close ++ t) c.spells w l ∙ ap (all_before xs) (kind-zero c.close t c.kind)

pub closes : (p xs t : List ℕ) → Closed p xs t → is_whole xs ≡ true → All (λ v. v < 2 ^ 64) xs → all_zero t ≡ true → payload_of p ≡ holds xs
closes p xs t c w l z = closed-by p xs t c w l ∙ ap (all_before xs) (choose-true (all_zero t) (holds []) (fails Trailing) z) ∙ all-holds xs

-- a value more at the front of what kind 0 closes
closed-more : (p after : List ℕ) (v : ℕ) (xs t : List ℕ) → Begins p v after → Closed after xs t → Closed p (v ∷ xs) t
closed-more p after v xs t b c =
    record {
      front = b.front ++ c.front;
      close = c.close;
      joined = b.joined ∙ ap (λ (q : List ℕ). b.front ++ q) c.joined ∙ sym (append_assoc b.front c.front (c.close ++ t));
      spells = one b.front c.front v xs b.spells c.spells;
      kind = c.kind;
    }

-- the close at once
closed-now : (p : List ℕ) (v : ℕ) (after : List ℕ) (rest : Values) → values_of p ≡ next v after rest → v ≡ 0 → Closed p [] after
closed-now p v after rest n z =
    let b : Begins p v after = begins p v after rest n in
    record { front = []; close = b.front; joined = b.joined; spells = none; kind = b.spells ∙ ap (λ (x : ℕ). next x [] ended) z }

-- no others hold one
abbrev Held : Expected → Values → List ℕ → Type 0
Held e ns xs = (e ≡ Zeros → ⊥) → (p : List ℕ) → values_of p ≡ ns → Spells p xs ⊎ ClosedByKind p xs

held_more : (e : Expected) (v : ℕ) (after : List ℕ) (rest : Values) (xs : List ℕ) → v < 2 ^ 64 → (expected_after e v ≡ Zeros → ⊥)
    → Held (expected_after e v) rest xs
    → Held e (next v after rest) (v ∷ xs)
held_more e v after rest xs l z r o p n =
    let b : Begins p v after = begins p v after rest n in
    ⊎_elim
    (λ (s : Spells after xs). inl (subst (λ (q : List ℕ). Spells q (v ∷ xs)) (sym b.joined) (one b.front after v xs b.spells s)))
    (λ (c : ClosedByKind after xs). inr (record { after = c.after; closed = closed-more p after v xs c.after b c.closed; zeros = c.zeros }))
    (r z after (sym (rest-is p v after rest n)))

held_by : (e : Expected) (ns : Values) (xs : List ℕ) → payload_from e ns ≡ holds xs → Held e ns xs
held_by =
    held Held
    (λ o p n. inl (subst (λ (q : List ℕ). Spells q []) (sym (no_bytes p n)) none))
    (λ e v after rest l z a o p n. inr (record { after = after; closed = closed-now p v after rest n (close-is e v o z).1; zeros = a }))
    held_more

pub only-holds : (p xs : List ℕ) → payload_of p ≡ holds xs → Spells p xs ⊎ ClosedByKind p xs
unfolding payload_of
only-holds p xs h = held_by Kind (values_of p) xs h (not_zeros Kind refl) p refl

-- ---- payloads that fail

pub trailing : (p : List ℕ) → HasTrailing p → payload_of p ≡ fails Trailing
trailing p h =
    closed-by p h.row h.after h.closed h.whole h.fits
    ∙ ap (all_before h.row) (choose-false (all_zero h.after) (holds []) (fails Trailing) h.trailing)
    ∙ all-fails h.row Trailing

-- an end within a hint
ends-malformed : (e : Expected) → is_kind e ≡ false → ends_in e ≡ fails Malformed
ends-malformed Kind h = absurd (true≢false h)
ends-malformed Count h = refl
ends-malformed (Address n) h = refl
ends-malformed Zeros h = refl

stops-malformed : (e : Expected) (b : List ℕ) → Stops e b → payload_from e (values_of b) ≡ fails Malformed
unfolding payload_from values_of
stops-malformed e b (in-hint h) = ends-malformed e h
stops-malformed e b (in-value c h) = ap (payload_from e) h
stops-malformed e b (too_large c v after rest h l) =
    ap (payload_from e) h ∙ choose-false (ltb v (2 ^ 64)) _ (fails Malformed) (le-ltb v (2 ^ 64) l)

pub malformed : (p : List ℕ) → IsBroken p → payload_of p ≡ fails Malformed
unfolding payload_of
malformed p h =
    ap payload_of h.joined
    ∙ values-before h.front h.row h.back h.spells Kind h.fits h.unclosed
    ∙ ap (all_before h.row) (stops-malformed (expected_in Kind h.row) h.back h.stops)
    ∙ all-fails h.row Malformed

-- the same where e comes first, for the walk
record TrailingFrom (e : Expected) (p : List ℕ) : Type 0 where
  row : List ℕ
  after : List ℕ
  whole : is_kind (expected_in e row) ≡ true
  fits : All (λ v. v < 2 ^ 64) row
  closed : Closed p row after
  trailing : all_zero after ≡ false

record BrokenFrom (e : Expected) (p : List ℕ) : Type 0 where
  row : List ℕ
  front : List ℕ
  back : List ℕ
  joined : p ≡ front ++ back
  spells : Spells front row
  fits : All (λ v. v < 2 ^ 64) row
  unclosed : expected_in e row ≡ Zeros → ⊥
  stops : Stops (expected_in e row) back

-- no others fail
abbrev Failed : Expected → Values → Refusal → Type 0
Failed e ns x = (e ≡ Zeros → ⊥) → (p : List ℕ) → values_of p ≡ ns → ((x ≡ Trailing) × TrailingFrom e p) ⊎ ((x ≡ Malformed) × BrokenFrom e p)

-- at once
broken-now : (e : Expected) (p : List ℕ) → (e ≡ Zeros → ⊥) → Stops e p → BrokenFrom e p
unfolding expected_in
broken-now e p o s = record { row = []; front = []; back = p; joined = refl; spells = none; fits = empty; unclosed = o; stops = s }

trailing-now : (e : Expected) (p : List ℕ) (v : ℕ) (after : List ℕ) (rest : Values) → values_of p ≡ next v after rest → (e ≡ Kind) × (v ≡ 0)
    → all_zero after ≡ false
    → TrailingFrom e p
unfolding expected_in
trailing-now e p v after rest n k t =
    record { row = []; after = after; whole = ap is_kind k.0; fits = empty; closed = closed-now p v after rest n k.1; trailing = t }

-- after a value
broken-more : (e : Expected) (v : ℕ) (p after : List ℕ) → v < 2 ^ 64 → Begins p v after → BrokenFrom (expected_after e v) after → BrokenFrom e p
unfolding expected_in
broken-more e v p after l b c =
    record {
      row = v ∷ c.row;
      front = b.front ++ c.front;
      back = c.back;
      joined = b.joined ∙ ap (λ (q : List ℕ). b.front ++ q) c.joined ∙ sym (append_assoc b.front c.front c.back);
      spells = one b.front c.front v c.row b.spells c.spells;
      fits = more l c.fits;
      unclosed = c.unclosed;
      stops = c.stops;
    }

trailing-more : (e : Expected) (v : ℕ) (p after : List ℕ) → v < 2 ^ 64 → Begins p v after → TrailingFrom (expected_after e v) after → TrailingFrom e p
unfolding expected_in
trailing-more e v p after l b c =
    record {
      row = v ∷ c.row;
      after = c.after;
      whole = c.whole;
      fits = more l c.fits;
      closed = closed-more p after v c.row c.after b c.closed;
      trailing = c.trailing;
    }

failed-more : (e : Expected) (v : ℕ) (after : List ℕ) (rest : Values) (x : Refusal) → v < 2 ^ 64 → (expected_after e v ≡ Zeros → ⊥)
    → Failed (expected_after e v) rest x
    → Failed e (next v after rest) x
failed-more e v after rest x l z r o p n =
    let b : Begins p v after = begins p v after rest n in
    ⊎_elim
    (λ (t : (x ≡ Trailing) × TrailingFrom (expected_after e v) after). inl (t.0, trailing-more e v p after l b t.1))
    (λ (t : (x ≡ Malformed) × BrokenFrom (expected_after e v) after). inr (t.0, broken-more e v p after l b t.1))
    (r z after (sym (rest-is p v after rest n)))

failed-by : (e : Expected) (ns : Values) (x : Refusal) → payload_from e ns ≡ fails x → Failed e ns x
failed-by =
    failed Failed
    (λ e k o p n. inr (refl, broken-now e p o (subst (Stops e) (sym (no_bytes p n)) (in-hint k))))
    (λ e o p n. inr (refl, broken-now e p o (in-value p n)))
    (λ e v after rest l o p n. inr (refl, broken-now e p o (too_large p v after rest n l)))
    (λ e v after rest l z t o p n. inl (refl, trailing-now e p v after rest n (close-is e v o z) t))
    failed-more

trailing-first : (p : List ℕ) → TrailingFrom Kind p → HasTrailing p
trailing-first p t =
    record { row = t.row; after = t.after; whole = t.whole; fits = t.fits; closed = t.closed; trailing = t.trailing }

broken-first : (p : List ℕ) → BrokenFrom Kind p → IsBroken p
broken-first p t =
    record {
      row = t.row;
      front = t.front;
      back = t.back;
      joined = t.joined;
      spells = t.spells;
      fits = t.fits;
      unclosed = t.unclosed;
      stops = t.stops;
    }

pub only-fails : (p : List ℕ) (x : Refusal) → payload_of p ≡ fails x → ((x ≡ Trailing) × HasTrailing p) ⊎ ((x ≡ Malformed) × IsBroken p)
unfolding payload_of
only-fails p x h =
    ⊎_elim (λ (t : (x ≡ Trailing) × TrailingFrom Kind p). inl (t.0, trailing-first p t.1))
    (λ (t : (x ≡ Malformed) × BrokenFrom Kind p). inr (t.0, broken-first p t.1))
    (failed-by Kind (values_of p) x h (not_zeros Kind refl) p refl)

pub only-trailing : (p : List ℕ) → payload_of p ≡ fails Trailing → HasTrailing p
only-trailing p h =
    ⊎_elim (λ (t : (Trailing ≡ Trailing) × HasTrailing p). t.1)
    (λ (t : (Trailing ≡ Malformed) × IsBroken p). let z : 14 ≡ 13 = ap number_of t.0 in absurd (omega arith))
    (only-fails p Trailing h)

pub only-malformed : (p : List ℕ) → payload_of p ≡ fails Malformed → IsBroken p
only-malformed p h =
    ⊎_elim (λ (t : (Malformed ≡ Trailing) × HasTrailing p). let z : 13 ≡ 14 = ap number_of t.0 in absurd (omega arith))
    (λ (t : (Malformed ≡ Malformed) × IsBroken p). t.1)
    (only-fails p Malformed h)
