-- A number below 10 has one decimal digit; any other counts with its last two.
use mathlib.Core.Path.{◌≡◌}
use mathlib.Core.List.{List, [], ◌∷◌}
use Prim.Native.Nat.{ℕ, ◌/◌, ◌%◌, ◌<◌, ◌≤◌}
use native.Mathlib.Nat.{div-one}
use borrow.Author.Tests.{lt-ltb, le-ltb}
use lib.Dec.{ltb, lit≤}
use lib.ListN.{length}
use Rattle.util.specs.Choice.{choose}
use Rattle.util.proofs.Choice.{chosen}
use Rattle.text.specs.Digits.{digit_of, digits, decimal}

pub one_digit : (x a : ℕ) → a ≡ digit_of (x % 10) → x < 10 → a ∷ [] ≡ decimal x
unfolding choose
one_digit x a e h = rw (e, lt-ltb x 10 h, div-one)

pub two_digits : (x a b : ℕ) → a ≡ digit_of (x / 10 % 10) → b ≡ digit_of (x % 10) → 10 ≤ x → a ∷ b ∷ [] ≡ decimal x
unfolding choose
two_digits x a b e f h = rw (e, f, le-ltb x 10 h, div-one)

pub decimal_length : (x : ℕ) → length (decimal x) ≤ 2
decimal_length x = chosen (λ (l : List ℕ). length l ≤ 2) (ltb x 10) (digits 10 1 x) (digits 10 2 x) (lit≤ tt) (lit≤ tt)
