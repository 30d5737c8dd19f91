-- What is said of each word of a list, of each and the next, and of each and the later ones (Premises) as tests, which closed words compute.
use Rattle.std.specs.Prelude.{Bool, true, ◌&&◌, List, [], ◌∷◌, ℕ}
use Rattle.arm64_machine.specs.Machine.{Placed}

-- the test of Each
abbrev pub each : {A : Type 0} → (A → Bool) → List A → Bool
each t [] = true
each t (a ∷ l) = t a && each t l

-- of Next
abbrev pub next : (ℕ → ℕ → Bool) → List Placed → Bool
next t [] = true
next t (w ∷ []) = true
next t (w ∷ u ∷ ws) = t w.word u.word && next t (u ∷ ws)

-- of Later
abbrev pub later : (ℕ → ℕ → Bool) → List Placed → Bool
later t [] = true
later t (w ∷ ws) = each (λ u. t w.word u.word) ws && later t ws
