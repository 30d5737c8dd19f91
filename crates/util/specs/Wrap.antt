-- Sums and differences modulo 2^64, and what they are as signed numbers (RULES 2.5, 2.6).
use Rattle.std.specs.Prelude.{ℕ, ◌+◌, ◌-◌, ◌%◌, ◌^◌, Bool, ◌&&◌, ℤ, pos, negsuc, neg_ℤ, int_le, int_lt, nat_lt}
use Rattle.util.specs.Choice.{choose}

-- a + b modulo 2^64
abbrev pub sum : ℕ → ℕ → ℕ
sum a b = (a + b) % 2 ^ 64

-- a - b modulo 2^64, for b up to 2^64
abbrev pub diff : ℕ → ℕ → ℕ
diff a b = (a + (2 ^ 64 - b)) % 2 ^ 64

-- the signed number that 64 bits hold
abbrev pub signed : ℕ → ℤ
signed d = choose (nat_lt d (2 ^ 63)) (pos d) (negsuc (2 ^ 64 - 1 - d))

-- -a ≤ d < b, of d as a signed number
unfoldable pub in_range : ℕ → ℕ → ℕ → Bool
in_range d a b = int_le (neg_ℤ (pos a)) (signed d) && int_lt (signed d) (pos b)
