-- What spellings are (RULES 14.2): of one value in so many bytes, and of values one after another.
use Rattle.std.specs.Prelude.{◌≡◌, List, [], ◌∷◌, ◌++◌, ℕ, zero, suc, ◌+◌, ◌*◌, ◌/◌, ◌%◌, ◌^◌, ◌<◌}
use Rattle.uleb.specs.Values.{ended, next, values_of}

-- a value in n + 1 bytes: its low seven bits with bit 7 set n times, then what is left
unfoldable pub spelling : ℕ → ℕ → List ℕ
spelling zero v = v ∷ []
spelling (suc n) v = (v % 128 + 128) ∷ spelling n (v / 128)

-- bytes are a spelling of a value in n + 1 bytes, and then other bytes
pub record SpelledIn (bytes : List ℕ) (v : ℕ) (after : List ℕ) : Type 0 where
  pub n : ℕ
  pub fits : v < 2 ^ (7 * suc n)
  pub joined : bytes ≡ spelling n v ++ after

-- bytes spell values one after another, and end with the last of them
pub data Spells : List ℕ → List ℕ → Type 0 where
  none : Spells [] []
  one : (s p : List ℕ) (v : ℕ) (vs : List ℕ) → values_of s ≡ next v [] ended → Spells p vs → Spells (s ++ p) (v ∷ vs)
