-- Hexadecimal numbers in a row of text.
use Rattle.std.specs.Prelude.{ℕ, ◌+◌, ◌-◌, ◌*◌, Bool, ◌&&◌, List, get_or, leb, if◌then◌else◌}

-- the value of a hexadecimal digit; any other byte counts as 0
unfoldable pub value_of : ℕ → ℕ
value_of b = if leb 48 b && leb b 57 then b - 48 else if leb 97 b && leb b 102 then b - 87 else 0

-- the number of the two digits at a place
abbrev pub byte_at : List ℕ → ℕ → ℕ
byte_at row at = value_of (get_or row at 0) * 16 + value_of (get_or row (at + 1) 0)

-- the number of the eight digits at a place
abbrev pub number_at : List ℕ → ℕ → ℕ
number_at row at = byte_at row at * 0x1000000 + byte_at row (at + 2) * 0x10000 + byte_at row (at + 4) * 0x100 + byte_at row (at + 6)
