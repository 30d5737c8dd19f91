-- A list that has a function's values in order: one comparison of the whole list gives each of them.
use Rattle.std.proofs.Common.{◌≡◌, ℕ, zero, suc, ◌+◌, ◌<◌, List, [], ◌∷◌, get_or, ap, ◌∙◌, le_of_suc-le-suc, not-suc-le-zero, arith}

-- the values of f at i and the n - 1 numbers after it
abbrev pub values_from : (ℕ → ℕ) → ℕ → ℕ → List ℕ
values_from f i zero = []
values_from f i (suc n) = f i ∷ values_from f (suc i) n

value-from : (f : ℕ → ℕ) (n i k : ℕ) → k < n → get_or (values_from f i n) k 0 ≡ f (i + k)
value-from f zero i k h = absurd (not-suc-le-zero h)
value-from f (suc n) i zero h = ap f {x = i} {y = i + 0} (omega arith)
value-from f (suc n) i (suc k) h = value-from f n (suc i) k (le_of_suc-le-suc h) ∙ ap f {x = suc i + k} {y = i + suc k} (omega arith)

-- entry k of a list that is the values of f from 0 on
pub listed : (f : ℕ → ℕ) (n : ℕ) (xs : List ℕ) → xs ≡ values_from f 0 n → (k : ℕ) → k < n → get_or xs k 0 ≡ f k
listed f n xs e k h = ap (λ (l : List ℕ). get_or l k 0) e ∙ value-from f n 0 k h ∙ ap f {x = 0 + k} {y = k} (omega arith)
