-- An encoding diagram: the fields of a word from bit 0 upwards, each with its number of bits (RULES 7.2, 7.3).
use Rattle.std.specs.Prelude.{ℕ, ◌+◌, ◌-◌, ◌*◌, ◌/◌, ◌%◌, ◌^◌, Bool, true, ◌&&◌, List, [], ◌∷◌, ◌==◌, nat_lt}

-- a field that may hold anything, and one that holds v
pub data Part : Type 0 where
  free : ℕ → Part
  fixed : ℕ → ℕ → Part

-- whether x has what the fixed fields hold
abbrev pub matches : List Part → ℕ → Bool
matches [] x = true
matches (free n ∷ ps) x = matches ps (x / 2 ^ n)
matches (fixed n v ∷ ps) x = x % 2 ^ n == v && matches ps (x / 2 ^ n)

-- the word with ones in the fixed fields
abbrev pub mask_of : List Part → ℕ
mask_of [] = 0
mask_of (free n ∷ ps) = mask_of ps * 2 ^ n + 0
mask_of (fixed n v ∷ ps) = mask_of ps * 2 ^ n + (2 ^ n - 1)

-- the word with what the fixed fields hold, and zeros elsewhere
abbrev pub value_of : List Part → ℕ
value_of [] = 0
value_of (free n ∷ ps) = value_of ps * 2 ^ n + 0
value_of (fixed n v ∷ ps) = value_of ps * 2 ^ n + v

-- whether each fixed field has room for what it holds
abbrev pub sound : List Part → Bool
sound [] = true
sound (free n ∷ ps) = sound ps
sound (fixed n v ∷ ps) = nat_lt v (2 ^ n) && sound ps

-- what x has in the fixed fields of a diagram that starts at bit lo, each in its place
abbrev pub kept_at : List Part → ℕ → ℕ → ℕ
kept_at [] lo x = 0
kept_at (free n ∷ ps) lo x = kept_at ps (lo + n) x
kept_at (fixed n v ∷ ps) lo x = kept_at ps (lo + n) x + x / 2 ^ lo % 2 ^ n * 2 ^ lo

-- the word with vs in the free fields, from the lowest up, and what the fixed fields hold
abbrev pub fill : List Part → List ℕ → ℕ
fill [] vs = 0
fill (fixed n v ∷ ps) vs = fill ps vs * 2 ^ n + v
fill (free n ∷ ps) [] = fill ps [] * 2 ^ n
fill (free n ∷ ps) (v ∷ vs) = fill ps vs * 2 ^ n + v
