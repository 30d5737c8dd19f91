-- A test that holds at each number below n: computed once, and read at any of them.
use Rattle.std.proofs.Common.{◌≡◌, ℕ, zero, suc, ◌<◌, Bool, true, false, ⊎_elim, le_of_suc-le-suc, not-suc-le-zero, eq-or-lt_of_le, arith}
use Rattle.util.specs.Choice.{choose}
use Rattle.util.proofs.Choice.{split}

-- whether f holds at each number below n
unfoldable pub every : (ℕ → Bool) → ℕ → Bool
every f zero = true
every f (suc n) = choose (f n) (every f n) false

pub every-at : (f : ℕ → Bool) (n : ℕ) → every f n ≡ true → (k : ℕ) → k < n → f k ≡ true
unfolding every
every-at f zero e k h = absurd (not-suc-le-zero h)
every-at f (suc n) e k h =
    split (λ (t : Bool). t ≡ true → f k ≡ true) (f n) (every f n) false
    (λ p q. ⊎_elim (λ (w : k ≡ n). rw w p) (λ (w : k < n). every-at f n q k w) (eq-or-lt_of_le (le_of_suc-le-suc h)))
    (λ p q. let z : ◌≡◌ {A = ℕ} 0 1 = cc in absurd (omega arith))
    e
