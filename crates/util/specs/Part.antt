-- A part of a list, and the list with another part in its place (RULES 8.5).
use Rattle.std.specs.Prelude.{ℕ, List, ◌++◌, take, drop}

-- the k elements of xs from a on
abbrev pub part : List ℕ → ℕ → ℕ → List ℕ
part xs a k = take k (drop a xs)

-- xs with ys in the place of the k elements from a on
abbrev pub splice : List ℕ → ℕ → ℕ → List ℕ → List ℕ
splice xs a k ys = take a xs ++ (ys ++ drop k (drop a xs))
