-- What a disassembler prints of the words of the load and store classes, with imm12 1, Rn 1 and Rt 2 (RULES 11.14), and what it should print by the
-- tables of loads and stores.
use Rattle.std.specs.Prelude.{Bool, true, false, List, [], ◌∷◌, ℕ, eqb}
use Prim.Native.String.{String}
use Rattle.util.specs.Choice.{choose}
use Rattle.arm64_insn.specs.LoadStoreTable.{STRB, LDRB, LDRSB, STRH, LDRH, LDRSH, STR, LDR, LDRSW, PRFM, Mnemonic}
use Rattle.arm64_insn.specs.LoadStoreTable.{Registers, general, vector, Widening, zeros, sign32, sign64}
use Rattle.arm64_insn.specs.LoadStoreTable.{Row, load, store, prefetch, unallocated}

-- a printed line: mnemonic, letter of register 2 and offset from x1 of an access; mnemonic and letter of a literal load; the mnemonic of
-- a prefetch; or no instruction
pub data Line : Type 0 where
  access : String → String → ℕ → Line
  literal : String → String → Line
  hint : String → Line
  unknown : Line

-- what llvm-objdump prints, by size, V and opc (made by tools/make-words, which runs llvm-objdump on each word)
abbrev pub lines : List Line
lines =
    access "strb" "w" 1 ∷ access "ldrb" "w" 1 ∷ access "ldrsb" "x" 1 ∷ access "ldrsb" "w" 1
    ∷ access "str" "b" 1 ∷ access "ldr" "b" 1 ∷ access "str" "q" 16 ∷ access "ldr" "q" 16
    ∷ access "strh" "w" 2 ∷ access "ldrh" "w" 2 ∷ access "ldrsh" "x" 2 ∷ access "ldrsh" "w" 2
    ∷ access "str" "h" 2 ∷ access "ldr" "h" 2 ∷ unknown ∷ unknown
    ∷ access "str" "w" 4 ∷ access "ldr" "w" 4 ∷ access "ldrsw" "x" 4 ∷ unknown
    ∷ access "str" "s" 4 ∷ access "ldr" "s" 4 ∷ unknown ∷ unknown
    ∷ access "str" "x" 8 ∷ access "ldr" "x" 8 ∷ hint "prfm" ∷ unknown
    ∷ access "str" "d" 8 ∷ access "ldr" "d" 8 ∷ unknown ∷ unknown
    ∷ []

-- of literal loads, by V and opc (made in the same way)
abbrev pub literal_lines : List Line
literal_lines =
    literal "ldr" "w" ∷ literal "ldr" "x" ∷ literal "ldrsw" "x" ∷ hint "prfm"
    ∷ literal "ldr" "s" ∷ literal "ldr" "d" ∷ literal "ldr" "q" ∷ unknown
    ∷ []

-- the mnemonic as it is printed
abbrev pub text_of : Mnemonic → String
text_of STRB = "strb"
text_of LDRB = "ldrb"
text_of LDRSB = "ldrsb"
text_of STRH = "strh"
text_of LDRH = "ldrh"
text_of LDRSH = "ldrsh"
text_of STR = "str"
text_of LDR = "ldr"
text_of LDRSW = "ldrsw"
text_of PRFM = "prfm"

-- the letter of a register that holds n bytes
abbrev pub letter_of : Registers → ℕ → String
letter_of general n = choose (eqb n 8) "x" "w"
letter_of vector n = choose (eqb n 1) "b" (choose (eqb n 2) "h" (choose (eqb n 4) "s" (choose (eqb n 8) "d" "q")))

-- the bytes of the register that a load of n bytes fills with what it read and copies of the sign
abbrev pub filled : Widening → ℕ → ℕ
filled zeros n = n
filled sign32 n = 4
filled sign64 n = 8

-- the line of a row: imm12 1 is one access
abbrev pub line_of : Row → Line
line_of (load m r n g) = access (text_of m) (letter_of r (filled g n)) n
line_of (store m r n) = access (text_of m) (letter_of r n) n
line_of (prefetch m) = hint (text_of m)
line_of unallocated = unknown

-- the line of a literal row
abbrev pub literal_line_of : Row → Line
literal_line_of (load m r n g) = literal (text_of m) (letter_of r (filled g n))
literal_line_of (store m r n) = unknown
literal_line_of (prefetch m) = hint (text_of m)
literal_line_of unallocated = unknown

-- the mnemonics of loads that copy the sign upwards
abbrev pub names_sign : Mnemonic → Bool
names_sign LDRSB = true
names_sign LDRSH = true
names_sign LDRSW = true
names_sign STRB = false
names_sign LDRB = false
names_sign STRH = false
names_sign LDRH = false
names_sign STR = false
names_sign LDR = false
names_sign PRFM = false

-- whether a widening copies the sign upwards
abbrev pub copies_sign : Widening → Bool
copies_sign zeros = false
copies_sign sign32 = true
copies_sign sign64 = true

-- whether a row is a load with such a mnemonic
abbrev pub named_signed : Row → Bool
named_signed (load m r n g) = names_sign m
named_signed (store m r n) = false
named_signed (prefetch m) = false
named_signed unallocated = false

-- whether a row is a load with such a widening
abbrev pub widened_signed : Row → Bool
widened_signed (load m r n g) = copies_sign g
widened_signed (store m r n) = false
widened_signed (prefetch m) = false
widened_signed unallocated = false
