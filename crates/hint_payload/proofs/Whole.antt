-- Rows of whole hints: what comes next in a row, and the hints of one.
use mathlib.Core.Path.{◌≡◌, refl, sym, ap, ap₂, ◌∙◌, subst}
use mathlib.Core.Bool.{Bool, true, false, false≢true}
use mathlib.Core.List.{List, [], ◌∷◌, ◌++◌}
use Prim.Native.Nat.{ℕ, zero, suc, ◌-◌}
use native.Mathlib.Omega.{arith}
use borrow.Author.Tests.{eqb-true, eqb-false, ne_eqb}
use lib.Dec.{eqb}
use lib.ListN.{length}
use Rattle.util.specs.Choice.{choose}
use Rattle.util.proofs.Choice.{split, choose-false}
use Rattle.hint_payload.specs.Row.{addresses_left, expected_after, expected_in, is_kind, is_whole}
use Rattle.hint_payload.specs.Hints.{hint_row, NoKindZero, HasHints}
use Rattle.hint_payload.specs.declared.expected.Expected.{Expected}
use Rattle.hint_payload.specs.declared.expected.Expected.TheVariants.{Kind, Count, Address, Zeros}
use Rattle.hint_payload.proofs.Walk.{is_zeros, not_zeros}

-- ---- what comes next

pub kind-is : (e : Expected) → is_kind e ≡ true → e ≡ Kind
kind-is Kind h = refl
kind-is Count h = absurd (false≢true h)
kind-is (Address n) h = absurd (false≢true h)
kind-is Zeros h = absurd (false≢true h)

-- an address, where one is left
left-some : (n : ℕ) → addresses_left (suc n) ≡ Address n
unfolding addresses_left
left-some n =
    choose-false (eqb (suc n) 0) Kind (Address (suc n - 1)) (ne_eqb (suc n) 0 (λ e. omega arith))
    ∙ ap Address {x = suc n - 1} {y = n} (omega arith)

-- never zeros alone
left-zeros : (n : ℕ) → addresses_left n ≡ Zeros → ⊥
unfolding addresses_left
left-zeros n = not_zeros (addresses_left n) (split (λ (e : Expected). is_zeros e ≡ false) (eqb n 0) Kind (Address (n - 1)) (λ _. refl) (λ _. refl))

-- zeros alone come after kind 0 alone
pub close-is : (e : Expected) (v : ℕ) → (e ≡ Zeros → ⊥) → expected_after e v ≡ Zeros → (e ≡ Kind) × (v ≡ 0)
close-is Kind v h z =
    (refl, split (λ (e : Expected). e ≡ Zeros → v ≡ 0) (eqb v 0) Zeros Count (λ t _. eqb-true v 0 t) (λ _ q. absurd (not_zeros Count refl q)) z)
close-is Count v h z = absurd (left-zeros v z)
close-is (Address n) v h z = absurd (left-zeros n z)
close-is Zeros v h z = absurd (h refl)

-- nothing comes after them
pub zeros-stay : (row : List ℕ) → expected_in Zeros row ≡ Zeros
unfolding expected_in
zeros-stay [] = refl
zeros-stay (v ∷ row) = zeros-stay row

-- ---- rows of hints are whole

addresses-pass : (addresses row : List ℕ) → expected_in (addresses_left (length addresses)) (addresses ++ row) ≡ expected_in Kind row
unfolding expected_in addresses_left choose
addresses-pass [] row = refl
addresses-pass (a ∷ addresses) row =
    ap (λ (e : Expected). expected_in e (a ∷ (addresses ++ row))) (left-some (length addresses)) ∙ addresses-pass addresses row

pub hints-whole : (hs : List (ℕ × List ℕ)) → NoKindZero hs → is_whole (hint_row hs) ≡ true
unfolding expected_in hint_row
hints-whole [] z = refl
hints-whole (h ∷ hs) z =
    ap (λ (e : Expected). is_kind (expected_in e (length h.1 ∷ (h.1 ++ hint_row hs)))) (choose-false (eqb h.0 0) Zeros Count (ne_eqb h.0 0 z.0))
    ∙ ap is_kind (addresses-pass h.1 (hint_row hs))
    ∙ hints-whole hs z.1

-- ---- whole rows are rows of hints

-- n addresses, and then hints
record Left (n : ℕ) (row : List ℕ) : Type 0 where
  addresses : List ℕ
  hints : List (ℕ × List ℕ)
  many : length addresses ≡ n
  same : row ≡ addresses ++ hint_row hints
  kinds : NoKindZero hints

-- a count, so many addresses, and then hints
record Counted (row : List ℕ) : Type 0 where
  count : ℕ
  rest : List ℕ
  same : row ≡ count ∷ rest
  left : Left count rest

abbrev Parts : Expected → List ℕ → Type 0
Parts Kind row = HasHints row
Parts Count row = Counted row
Parts (Address n) row = Left (suc n) row
Parts Zeros row = ⊥

left-of : (n : ℕ) (row : List ℕ) → Parts (addresses_left n) row → Left n row
unfolding addresses_left choose
left-of zero row h = record { addresses = []; hints = h.hints; many = refl; same = h.same; kinds = h.kinds }
left-of (suc n) row h = subst (λ (e : Expected). Parts e row) (left-some n) h

-- a kind, where it is not 0, before what its hint has left
kind-before : (v : ℕ) (row : List ℕ) (t : Bool) → eqb v 0 ≡ t → Parts (choose t Zeros Count) row → HasHints (v ∷ row)
unfolding choose hint_row
kind-before v row true e p = absurd p
kind-before v row false e p =
    record {
      hints = (v, p.left.addresses) ∷ p.left.hints;
      same = ap {B = List ℕ} (λ r. v ∷ r) (p.same ∙ ap₂ {C = List ℕ} (λ (n : ℕ) (r : List ℕ). n ∷ r) (sym p.left.many) p.left.same);
      kinds = (eqb-false v 0 e, p.left.kinds);
    }

parts-of : (row : List ℕ) (e : Expected) → is_kind (expected_in e row) ≡ true → Parts e row
unfolding expected_in hint_row
parts-of [] Kind h = record { hints = []; same = refl; kinds = tt }
parts-of [] Count h = absurd (false≢true h)
parts-of [] (Address n) h = absurd (false≢true h)
parts-of [] Zeros h = false≢true h
parts-of (v ∷ row) Kind h = kind-before v row (eqb v 0) refl (parts-of row (expected_after Kind v) h)
parts-of (v ∷ row) Count h = record { count = v; rest = row; same = refl; left = left-of v row (parts-of row (addresses_left v) h) }
parts-of (v ∷ row) (Address n) h =
    let l : Left n row = left-of n row (parts-of row (addresses_left n) h) in
    record {
      addresses = v ∷ l.addresses;
      hints = l.hints;
      many = ap suc l.many;
      same = ap {B = List ℕ} (λ r. v ∷ r) l.same;
      kinds = l.kinds;
    }
parts-of (v ∷ row) Zeros h = parts-of row Zeros h

pub whole-hints : (row : List ℕ) → is_whole row ≡ true → HasHints row
whole-hints row h = parts-of row Kind h
