-- The text that the lister prints (RULES 10.1 to 10.4), as ASCII codes.
use Rattle.std.specs.Prelude.{ℕ, zero, suc, ◌+◌, ◌*◌, ◌/◌, ◌%◌, List, [], ◌∷◌, ◌++◌, ltb, eqb, length}
use Rattle.util.specs.Choice.{choose}
use Rattle.util.specs.Word.{le}
use Rattle.text.specs.Digits.{digits, decimal}
use Rattle.lister_text.specs.Class.{class_of}
use Rattle.lister_text.specs.declared.class.Class.{Class}
use Rattle.lister_text.specs.declared.class.Class.TheVariants.{Adrp, Add, Load, Store, Other}

-- 8 hexadecimal digits and a space
unfoldable pub hex_of : ℕ → List ℕ
hex_of x = digits 16 8 x ++ (32 ∷ [])

-- `adrp`, `add`, `load N`, `store N`, `other`
unfoldable pub class_name : Class → List ℕ
class_name Adrp = 97 ∷ 100 ∷ 114 ∷ 112 ∷ []
class_name Add = 97 ∷ 100 ∷ 100 ∷ []
class_name (Load n) = (108 ∷ 111 ∷ 97 ∷ 100 ∷ 32 ∷ []) ++ decimal n
class_name (Store n) = (115 ∷ 116 ∷ 111 ∷ 114 ∷ 101 ∷ 32 ∷ []) ++ decimal n
class_name Other = 111 ∷ 116 ∷ 104 ∷ 101 ∷ 114 ∷ []

-- a line: offset, word and class, and a newline
unfoldable pub line_of : ℕ → ℕ → List ℕ
line_of offset word = hex_of offset ++ (hex_of word ++ (class_name (class_of word) ++ (10 ∷ [])))

-- the lines of the first n words
unfoldable pub lines_of : List ℕ → ℕ → List ℕ
lines_of s zero = []
lines_of s (suc n) = lines_of s n ++ line_of (4 * n) (le 4 s (4 * n))

-- `refused N` and a newline
abbrev pub refused : ℕ → List ℕ
refused n = 114 ∷ 101 ∷ 102 ∷ 117 ∷ 115 ∷ 101 ∷ 100 ∷ 32 ∷ (48 + n) ∷ 10 ∷ []

-- what is printed of an input: `refused 2` above 16,384 bytes, else `refused 1` where they are no whole words, else a line for each word
unfoldable pub text_of : List ℕ → List ℕ
text_of s = choose (ltb 16384 (length s)) (refused 2) (choose (eqb (length s % 4) 0) (lines_of s (length s / 4)) (refused 1))
