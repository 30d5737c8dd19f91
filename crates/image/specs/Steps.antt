-- Steps on an image and a tally: each reads the words at its places, answers them, and its answer says which of the places get a new word
-- (RULES 8.11, 8.30, 9.22).
use Rattle.std.specs.Prelude.{Bool, List, ℕ, Option}
use Rattle.image.specs.Words.{in_words, words_at, put_words}

-- what a step works on
pub record Work (T : Type 0) : Type 0 where
  pub image : List ℕ
  pub tally : T

-- a step from its parts: `write` gives the image after step k, `out` its answer, `add` the tally with one answer more
abbrev pub step_by : {A T : Type 0} → (ℕ → List ℕ → List ℕ) → (ℕ → List ℕ → A) → (A → T → T) → ℕ → Work T → Work T
step_by write out add k w = record { image = write k w.image; tally = add (out k w.image) w.tally }

-- the steps of a run: where the words of step k stand in the image, what it answers to them, the new words of an answer, place by place,
-- and the tally with one answer more
pub record Steps (A T : Type 0) : Type 0 where
  pub places : ℕ → List ℕ
  pub answer : ℕ → List ℕ → A
  pub news : A → List (Option ℕ)
  pub add : A → T → T

-- the footprint of step k: the bytes of its words
abbrev pub foot_of : {A T : Type 0} → Steps A T → ℕ → ℕ → Bool
foot_of s k = in_words (s.places k)

-- step k's answer on an image
abbrev pub answered : {A T : Type 0} → Steps A T → ℕ → List ℕ → A
answered s k x = s.answer k (words_at (s.places k) x)

-- the image that step k makes
abbrev pub written : {A T : Type 0} → Steps A T → ℕ → List ℕ → List ℕ
written s k x = put_words (s.places k) (s.news (answered s k x)) x

-- step k
abbrev pub step_of : {A T : Type 0} → Steps A T → ℕ → Work T → Work T
step_of s = step_by (written s) (answered s) s.add
