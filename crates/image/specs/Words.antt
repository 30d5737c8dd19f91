-- Words of 4 bytes at places of an image: which bytes are theirs, what stands there, and new words put there.
use Rattle.std.specs.Prelude.{Bool, false, ◌&&◌, ◌||◌, List, [], ◌∷◌, ℕ, ◌+◌, leb, ltb, Option, Some, None}
use Rattle.util.specs.Word.{le, put}

-- whether b is one of the m bytes from a on
abbrev pub span : ℕ → ℕ → ℕ → Bool
span a m b = leb a b && ltb b (a + m)

-- whether b is a byte of one of the words at the places
abbrev pub in_words : List ℕ → ℕ → Bool
in_words [] b = false
in_words (at ∷ places) b = span at 4 b || in_words places b

-- the words at the places of an image
abbrev pub words_at : List ℕ → List ℕ → List ℕ
words_at [] x = []
words_at (at ∷ places) x = le 4 x at ∷ words_at places x

-- the image with new words at those places that get one, written in the order of the places
abbrev pub put_words : List ℕ → List (Option ℕ) → List ℕ → List ℕ
put_words [] news x = x
put_words (at ∷ places) [] x = x
put_words (at ∷ places) (None ∷ news) x = put_words places news x
put_words (at ∷ places) (Some w ∷ news) x = put_words places news (put 4 x at w)
