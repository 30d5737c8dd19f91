-- The source file of the table of classes (RULES 7.33) as ASCII codes: what stands before the entries, a line for each, and what closes them.
use Rattle.std.specs.Prelude.{ℕ, zero, suc, Bool, List, [], ◌++◌, ltb, Option, Some, None}
use Rattle.util.specs.Choice.{choose}
use Rattle.text.specs.Digits.{ascii, digits, decimal}
use Rattle.arm64_ldst_class.specs.Entry.{entry_of}
use Rattle.arm64_ldst_class.specs.Row.{class_of_index}
use Rattle.arm64_ldst_class.specs.declared.LoadStoreClass.{LoadStoreClass}
use Rattle.ldst_table_rows.specs.Names.{name_at}

-- whether a class stores or loads
abbrev pub moved_text : Bool → List ℕ
moved_text stores = choose stores (ascii "store ") (ascii "load ")

-- which registers it has
abbrev pub registers_text : Bool → List ℕ
registers_text is_vector = choose is_vector (ascii " vector") (ascii " general")

-- `load N` or `store N`, and the registers
unfoldable pub class_text : Option LoadStoreClass → List ℕ
class_text (Some c) = moved_text c.stores ++ (decimal c.bytes ++ registers_text c.vector)
class_text None = ascii "no load or store"

-- a number below 1,000 in decimal, without leading zero
abbrev pub number : ℕ → List ℕ
number x = choose (ltb x 100) (decimal x) (digits 10 3 x)

-- the comment of an index and its class: the index in hexadecimal, the manual's name and the class
unfoldable pub comment_of : ℕ → Option LoadStoreClass → List ℕ
comment_of k c = ascii ", // " ++ (digits 16 3 k ++ (ascii " " ++ (name_at k ++ (class_text c ++ ascii "\n"))))

-- the line of an index: its entry and the comment
unfoldable pub entry_line : ℕ → List ℕ
entry_line k = ascii "    " ++ (number (entry_of (class_of_index k)) ++ comment_of k (class_of_index k))

-- the lines of the first n indices
unfoldable pub entry_lines : ℕ → List ℕ
entry_lines zero = []
entry_lines (suc n) = entry_lines n ++ entry_line n

-- what stands before the first line
unfoldable pub opening : List ℕ
opening =
    ascii "// The class of a load or store by bits 31 to 22 of its word (RULES 7.32), as the program ldst_table_print prints it.\n"
    ++ (ascii "// An entry is 8 times the bytes, and 4 for a store, 2 for a vector register, 1 for LDRSW; 0 is no load or store.\n"
    ++ ascii "pub const CLASSES: [u8; 1024] = [\n")

-- the whole file
unfoldable pub table_text : List ℕ
table_text = opening ++ (entry_lines 1024 ++ ascii "];\n")
