-- The first n of a hint's places, one by one. Carried along the list.
use mathlib.Core.Path.{◌≡◌, refl, ap, ◌∙◌}
use mathlib.Core.List.{List, [], ◌∷◌, map}
use Prim.Native.Nat.{ℕ, zero, suc, ◌≤◌, ◌<◌}
use native.Mathlib.Nat.{not-suc-le-zero, le_of_suc-le-suc}
use native.Mathlib.Omega.{arith}
use lib.ListN.{length, get_or, take}
use Rattle.util.specs.Word.{le}
use Rattle.util.specs.All.{All, more}
use Rattle.macho.specs.declared.hint.HintInsn.{HintInsn}
use Rattle.image.specs.Words.{words_at}
use Rattle.arm64_hint_words.specs.Place.{place_at, offsets, word_in, InBytes, Fits}

module _ (f : HintInsn → ℕ) where
  -- below the count it is the place's
  pub first-at : (z : ℕ) (insns : List HintInsn) (n i : ℕ) → i < n → i < length insns → get_or (map f (take n insns)) i z ≡ f (place_at insns i)
  first-at z [] n i h l = absurd (not-suc-le-zero l)
  first-at z (x ∷ xs) zero i h l = absurd (not-suc-le-zero h)
  first-at z (x ∷ xs) (suc n) zero h l = refl
  first-at z (x ∷ xs) (suc n) (suc i) h l = first-at z xs n i (le_of_suc-le-suc h) (le_of_suc-le-suc l)

  -- past it there is none
  pub first_past : (z : ℕ) (insns : List HintInsn) (n i : ℕ) → n ≤ i → get_or (map f (take n insns)) i z ≡ z
  first_past z insns zero i h = refl
  first_past z [] (suc n) i h = refl
  first_past z (x ∷ xs) (suc n) zero h = absurd (not-suc-le-zero h)
  first_past z (x ∷ xs) (suc n) (suc i) h = first_past z xs n i (le_of_suc-le-suc h)

  -- what holds of each holds of one
  pub first-all : {P : ℕ → Type 0} (insns : List HintInsn) (n i : ℕ) → All P (map f (take n insns)) → i < n → i < length insns → P (f (place_at insns i))
  first-all [] n i all h l = absurd (not-suc-le-zero l)
  first-all (x ∷ xs) zero i all h l = absurd (not-suc-le-zero h)
  first-all (x ∷ xs) (suc n) zero (more p rest) h l = p
  first-all (x ∷ xs) (suc n) (suc i) (more p rest) h l = first-all xs n i rest (le_of_suc-le-suc h) (le_of_suc-le-suc l)

-- the words, each at its own place
words-each : (insns : List HintInsn) (bytes : List ℕ) → words_at (offsets insns) bytes ≡ map (λ i. le 4 bytes i.off) insns
words-each [] bytes = refl
words-each (x ∷ xs) bytes = ap (λ (ws : List ℕ). le 4 bytes x.off ∷ ws) (words-each xs bytes)

module _ (bytes : List ℕ) (insns : List HintInsn) (n i : ℕ) where
  each : word_in bytes insns n i ≡ get_or (map (λ i. le 4 bytes i.off) (take n insns)) i 0
  each = ap (λ (ws : List ℕ). get_or ws i 0) (words-each (take n insns) bytes)

  pub word_at : i < n → i < length insns → word_in bytes insns n i ≡ le 4 bytes (place_at insns i).off
  word_at h l = each ∙ first-at (λ i. le 4 bytes i.off) 0 insns n i h l

  pub word-past : n ≤ i → word_in bytes insns n i ≡ 0
  word-past h = each ∙ first_past (λ i. le 4 bytes i.off) 0 insns n i h

-- words that lie in the bytes, place by place
pub fits_each : (bytes : List ℕ) (insns : List HintInsn) (n : ℕ) → length insns ≡ 3 → InBytes (length bytes) (take n insns)
    → (i : ℕ) → i < 3 → Fits bytes insns n i
fits_each bytes insns n three inside i h = record { one = h; within = λ lt. first-all (λ i. i.off) insns n i inside lt (omega arith) }
