-- Sums and differences modulo 2^64 undo each other. All by arithmetic.
use Rattle.std.proofs.Common.{◌≡◌, ℕ, ◌^◌, ◌<◌, arith}
use Rattle.util.specs.Wrap.{sum, diff}

-- a sum has 64 bits
pub sum_lt : (x y : ℕ) → sum x y < 2 ^ 64
sum_lt x y = omega arith

-- what is added to a number that it was taken off gives it back
pub sum-diff : (x y : ℕ) → x < 2 ^ 64 → y < 2 ^ 64 → sum y (diff x y) ≡ x
sum-diff x y hx hy = omega arith

-- and the other way round
pub diff-sum : (x y : ℕ) → x < 2 ^ 64 → y < 2 ^ 64 → diff (sum x y) x ≡ y
diff-sum x y hx hy = omega arith
