-- The values that bytes spell (RULES 14.2): a natural number for each spelling, however long. Only what is read of them is below 2^64 (RULES 14.6).
use Rattle.std.specs.Prelude.{ℕ, suc, ◌+◌, ◌-◌, ◌*◌, ◌%◌, ◌^◌, List, [], ◌∷◌, ltb, length, drop, Option, Some, None}
use Rattle.util.specs.Choice.{choose}

-- values one after another: none, as no byte is left; none, as every byte that is left says that more follow; or a value, the bytes after its last
-- one, and the values that those spell
pub data Values : Type 0 where
  ended : Values
  cut : Values
  next : (value : ℕ) (after : List ℕ) (rest : Values) → Values

-- the values with a byte of seven bits, after which more follow, before the first of them
abbrev pub below : ℕ → Values → Values
below low ended = cut
below low cut = cut
below low (next value after rest) = next (low + 128 * value) after rest

-- the values that bytes spell
unfoldable pub values_of : List ℕ → Values
values_of [] = ended
values_of (b ∷ bs) = choose (ltb b 128) (next b bs (values_of bs)) (below (b % 128) (values_of bs))

-- how many bytes at the front say that more follow
unfoldable pub unended : List ℕ → ℕ
unended [] = 0
unended (b ∷ bs) = choose (ltb b 128) 0 (suc (unended bs))

-- the first of the values that the end of a list of n bytes spells, with the place after it in the list; none where there is none, or it is 2^64 or more
abbrev pub first_of : ℕ → Values → Option (ℕ × ℕ)
first_of n ended = None
first_of n cut = None
first_of n (next value after rest) = choose (ltb value (2 ^ 64)) (Some (value, n - length after)) None

-- the value at a place
unfoldable pub uleb_at : List ℕ → ℕ → Option (ℕ × ℕ)
uleb_at bytes at = first_of (length bytes) (values_of (drop at bytes))
