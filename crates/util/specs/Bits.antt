-- Fields of a number's bits (macho/util/mod.rs, `bits` and `sign_extend`; RULES 2.3, 2.4).
use Rattle.std.specs.Prelude.{ℕ, ◌+◌, ◌-◌, ◌/◌, ◌%◌, ◌^◌, Bool, ◌==◌, nat_lt}
use Rattle.util.specs.Choice.{choose}

-- the n bits of x from bit lo on
abbrev pub field : ℕ → ℕ → ℕ → ℕ
field x lo n = x / 2 ^ lo % 2 ^ n

-- whether bit n of x is set
abbrev pub has_bit : ℕ → ℕ → Bool
has_bit x n = field x n 1 == 1

-- the n low bits of x as a signed number, as the 64 bits that hold it
abbrev pub extend : ℕ → ℕ → ℕ
extend x n = choose (nat_lt (x % 2 ^ n) (2 ^ (n - 1))) (x % 2 ^ n) (x % 2 ^ n + (2 ^ 64 - 2 ^ n))
