-- Texts and numbers as ASCII codes.
use Rattle.std.specs.Prelude.{ℕ, zero, suc, ◌+◌, ◌/◌, ◌%◌, ◌^◌, List, [], ◌∷◌, ltb}
use Prim.Native.Char.{code}
use Prim.Native.String.{String, [] as []ˢ, ◌∷◌ as ◌∷ˢ◌}
use Rattle.util.specs.Choice.{choose}

-- the ASCII codes of a text
abbrev pub ascii : String → List ℕ
ascii []ˢ = []
ascii (c ∷ˢ s) = code c ∷ ascii s

-- a digit below 16: `0` to `9`, then `a` to `f`
abbrev pub digit_of : ℕ → ℕ
digit_of d = choose (ltb d 10) (48 + d) (87 + d)

-- the last n digits of x in base b, the most significant first
abbrev pub digits : ℕ → ℕ → ℕ → List ℕ
digits b zero x = []
digits b (suc n) x = digit_of (x / b ^ n % b) ∷ digits b n x

-- a number below 100 in decimal, without leading zero
abbrev pub decimal : ℕ → List ℕ
decimal x = choose (ltb x 10) (digits 10 1 x) (digits 10 2 x)
