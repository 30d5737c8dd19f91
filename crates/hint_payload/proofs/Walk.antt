-- Payloads by the walk over their values: what is true of each end, and of a value before the rest, is true of each payload.
use mathlib.Core.Path.{◌≡◌, refl, sym, ap, ◌∙◌, subst}
use mathlib.Core.Bool.{Bool, true, false, true≢false}
use mathlib.Core.List.{List, [], ◌∷◌}
use Prim.Native.Nat.{ℕ, ◌^◌, ◌≤◌, ◌<◌}
use borrow.Author.Tests.{ltb-true, ltb-false}
use lib.Dec.{ltb}
use Rattle.util.proofs.Choice.{split}
use Rattle.macho.specs.declared.refusal.Refusal.{Refusal}
use Rattle.macho.specs.declared.refusal.Refusal.TheVariants.{Malformed, Trailing}
use Rattle.uleb.specs.Values.{Values, ended, cut, next}
use Rattle.hint_payload.specs.Row.{expected_after, is_kind}
use Rattle.hint_payload.specs.Payload.{Payload, holds, fails, all_zero, after_close, ends_in, onto, goes_on, payload_from}
use Rattle.hint_payload.specs.declared.expected.Expected.{Expected}
use Rattle.hint_payload.specs.declared.expected.Expected.TheVariants.{Kind, Count, Address, Zeros}

-- whether nothing but zeros comes next
abbrev pub is_zeros : Expected → Bool
is_zeros Kind = false
is_zeros Count = false
is_zeros (Address n) = false
is_zeros Zeros = true

pub not_zeros : (e : Expected) → is_zeros e ≡ false → e ≡ Zeros → ⊥
not_zeros e h z = true≢false (sym (ap is_zeros z) ∙ h)

-- a value after which no close comes goes onto what the rest holds
pub goes_before : (e : Expected) (v : ℕ) (after : List ℕ) (p : Payload) → (e ≡ Zeros → ⊥) → goes_on e v after p ≡ onto v p
goes_before Kind v after p h = refl
goes_before Count v after p h = refl
goes_before (Address n) v after p h = refl
goes_before Zeros v after p h = absurd (h refl)

-- ---- the walk

module _ (P : Expected → Values → Payload → Type 0)
    (ends : (e : Expected) → P e ended (ends_in e))
    (cuts : (e : Expected) → P e cut (fails Malformed))
    (large : (e : Expected) (v : ℕ) (after : List ℕ) (rest : Values) → 2 ^ 64 ≤ v → P e (next v after rest) (fails Malformed))
    (closes : (e : Expected) (v : ℕ) (after : List ℕ) (rest : Values) → v < 2 ^ 64 → expected_after e v ≡ Zeros → P e (next v after rest) (after_close after))
    (goes : (e : Expected) (v : ℕ) (after : List ℕ) (rest : Values) (p : Payload) → v < 2 ^ 64 → (expected_after e v ≡ Zeros → ⊥)
    → P (expected_after e v) rest p
    → P e (next v after rest) (onto v p))
  where
    pub walk : (e : Expected) (ns : Values) → P e ns (payload_from e ns)
    unfolding payload_from
    walk e ended = ends e
    walk e cut = cuts e
    walk e (next v after rest) =
        split (P e (next v after rest)) (ltb v (2 ^ 64)) _ (fails Malformed)
        (λ l. go (ltb-true v (2 ^ 64) l) (expected_after e v) refl (walk (expected_after e v) rest))
        (λ l. large e v after rest (ltb-false v (2 ^ 64) l))
      where
        go : v < 2 ^ 64 → (x : Expected) → expected_after e v ≡ x → P (expected_after e v) rest (payload_from (expected_after e v) rest)
            → P e (next v after rest) (goes_on x v after (payload_from (expected_after e v) rest))
        go l Kind q r = goes e v after rest _ l (λ z. not_zeros Kind refl (sym q ∙ z)) r
        go l Count q r = goes e v after rest _ l (λ z. not_zeros Count refl (sym q ∙ z)) r
        go l (Address n) q r = goes e v after rest _ l (λ z. not_zeros (Address n) refl (sym q ∙ z)) r
        go l Zeros q r = closes e v after rest l q

-- ---- payloads that hold a row

module _ (P : Expected → Values → List ℕ → Type 0)
    (ends : P Kind ended [])
    (closes : (e : Expected) (v : ℕ) (after : List ℕ) (rest : Values) → v < 2 ^ 64 → expected_after e v ≡ Zeros → all_zero after ≡ true
    → P e (next v after rest) [])
    (goes : (e : Expected) (v : ℕ) (after : List ℕ) (rest : Values) (xs : List ℕ) → v < 2 ^ 64 → (expected_after e v ≡ Zeros → ⊥)
    → P (expected_after e v) rest xs
    → P e (next v after rest) (v ∷ xs))
  where
    abbrev IfHeld : Expected → Values → Payload → Type 0
    IfHeld e ns (holds xs) = P e ns xs
    IfHeld e ns (fails x) = Unit {0}

    held-ends : (e : Expected) → IfHeld e ended (ends_in e)
    held-ends Kind = ends
    held-ends Count = tt
    held-ends (Address n) = tt
    held-ends Zeros = tt

    held-goes : (e : Expected) (v : ℕ) (after : List ℕ) (rest : Values) (p : Payload) → v < 2 ^ 64 → (expected_after e v ≡ Zeros → ⊥)
        → IfHeld (expected_after e v) rest p
        → IfHeld e (next v after rest) (onto v p)
    held-goes e v after rest (holds xs) l z r = goes e v after rest xs l z r
    held-goes e v after rest (fails x) l z r = tt

    pub held : (e : Expected) (ns : Values) (xs : List ℕ) → payload_from e ns ≡ holds xs → P e ns xs
    held e ns xs h =
        subst (IfHeld e ns) h
        (walk IfHeld held-ends (λ e. tt) (λ e v after rest l. tt)
        (λ e v after rest l z. split (IfHeld e (next v after rest)) (all_zero after) (holds []) (fails Trailing) (closes e v after rest l z) (λ _. tt))
        held-goes e ns)

-- ---- payloads that fail

module _ (P : Expected → Values → Refusal → Type 0)
    (ends : (e : Expected) → is_kind e ≡ false → P e ended Malformed)
    (cuts : (e : Expected) → P e cut Malformed)
    (large : (e : Expected) (v : ℕ) (after : List ℕ) (rest : Values) → 2 ^ 64 ≤ v → P e (next v after rest) Malformed)
    (closes : (e : Expected) (v : ℕ) (after : List ℕ) (rest : Values) → v < 2 ^ 64 → expected_after e v ≡ Zeros → all_zero after ≡ false
    → P e (next v after rest) Trailing)
    (goes : (e : Expected) (v : ℕ) (after : List ℕ) (rest : Values) (x : Refusal) → v < 2 ^ 64 → (expected_after e v ≡ Zeros → ⊥)
    → P (expected_after e v) rest x
    → P e (next v after rest) x)
  where
    abbrev IfFailed : Expected → Values → Payload → Type 0
    IfFailed e ns (holds xs) = Unit {0}
    IfFailed e ns (fails x) = P e ns x

    failed_ends : (e : Expected) → IfFailed e ended (ends_in e)
    failed_ends Kind = tt
    failed_ends Count = ends Count refl
    failed_ends (Address n) = ends (Address n) refl
    failed_ends Zeros = ends Zeros refl

    failed-goes : (e : Expected) (v : ℕ) (after : List ℕ) (rest : Values) (p : Payload) → v < 2 ^ 64 → (expected_after e v ≡ Zeros → ⊥)
        → IfFailed (expected_after e v) rest p
        → IfFailed e (next v after rest) (onto v p)
    failed-goes e v after rest (holds xs) l z r = tt
    failed-goes e v after rest (fails x) l z r = goes e v after rest x l z r

    pub failed : (e : Expected) (ns : Values) (x : Refusal) → payload_from e ns ≡ fails x → P e ns x
    failed e ns x h =
        subst (IfFailed e ns) h
        (walk IfFailed failed_ends cuts large
        (λ e v after rest l z. split (IfFailed e (next v after rest)) (all_zero after) (holds []) (fails Trailing) (λ _. tt) (closes e v after rest l z))
        failed-goes e ns)
