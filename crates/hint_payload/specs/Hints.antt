-- Hints, each a kind and its addresses, and the row that they stand in (RULES 14.1).
use Rattle.std.specs.Prelude.{◌≡◌, List, [], ◌∷◌, ◌++◌, ℕ, length}

-- the row of hints: for each its kind, how many addresses it has, and those
unfoldable pub hint_row : List (ℕ × List ℕ) → List ℕ
hint_row [] = []
hint_row (h ∷ hs) = h.0 ∷ length h.1 ∷ (h.1 ++ hint_row hs)

-- no kind is 0
abbrev pub NoKindZero : List (ℕ × List ℕ) → Type 0
NoKindZero [] = Unit {0}
NoKindZero (h ∷ hs) = (h.0 ≡ 0 → ⊥) × NoKindZero hs

-- a row is that of hints of which no kind is 0
pub record HasHints (row : List ℕ) : Type 0 where
  pub hints : List (ℕ × List ℕ)
  pub same : row ≡ hint_row hints
  pub kinds : NoKindZero hints
