-- What every member of a list of numbers has.
use Rattle.std.specs.Prelude.{ℕ, List, [], ◌∷◌}

-- every member has P
pub data All (P : ℕ → Type 0) : List ℕ → Type 0 where
  empty : All P []
  more : {k : ℕ} {l : List ℕ} → P k → All P l → All P (k ∷ l)
