-- The A64 instructions in scope, how one is encoded, and which one a word is (Arm Architecture Reference Manual, C4.1, C6.2, C7.2; RULES 7.8, 7.9).
-- A word that is none of these may be any other instruction; of those nothing is said, but for the unallocated words of the classes in scope.
use Rattle.std.specs.Prelude.{ℕ, zero, suc, ◌+◌, ◌*◌, ◌/◌, ◌%◌, ◌^◌, ◌<◌, ◌≡◌, Bool, true, false, ◌||◌, not, List, [], ◌∷◌, eqb, ltb}
use Rattle.util.specs.Choice.{choose}
use Rattle.util.specs.Bits.{field}
use Rattle.util.specs.Diagram.{Part, matches, fill}
use Rattle.arm64_insn.specs.Encoding.{adr, adrp, add_immediate, load_store, load_literal, branch, br, nop, movz}
use Rattle.arm64_insn.specs.LoadStoreTable.{Row, load, store, prefetch, unallocated, row_of, literal_row_of, moves, is_allocated}

-- an instruction with what its fields hold; the immediates of ADR and ADRP are immhi:immlo. LDST is a load or store register
-- (unsigned immediate), PRFM the prefetch of that table, LDR-literal a load register (literal); PRFM (literal) is not in scope
pub data Insn : Type 0 where
  ADR : (rd imm21 : ℕ) → Insn
  ADRP : (rd imm21 : ℕ) → Insn
  ADD : (sf sh rd rn imm12 : ℕ) → Insn
  LDST : (size v opc rt rn imm12 : ℕ) → Insn
  PRFM : (rt rn imm12 : ℕ) → Insn
  LDR-literal : (opc v rt imm19 : ℕ) → Insn
  B : (imm26 : ℕ) → Insn
  BL : (imm26 : ℕ) → Insn
  BR : (rn : ℕ) → Insn
  NOP : Insn
  MOVZ : (sf hw rd imm16 : ℕ) → Insn

-- the encoding diagram of an instruction
abbrev pub diagram_of : Insn → List Part
diagram_of (ADR rd imm21) = adr
diagram_of (ADRP rd imm21) = adrp
diagram_of (ADD sf sh rd rn imm12) = add_immediate
diagram_of (LDST size v opc rt rn imm12) = load_store
diagram_of (PRFM rt rn imm12) = load_store
diagram_of (LDR-literal opc v rt imm19) = load_literal
diagram_of (B imm26) = branch
diagram_of (BL imm26) = branch
diagram_of (BR rn) = br
diagram_of NOP = nop
diagram_of (MOVZ sf hw rd imm16) = movz

-- what the free fields of its diagram hold, from bit 0 upwards
abbrev pub fields_of : Insn → List ℕ
fields_of (ADR rd imm21) = rd ∷ imm21 / 2 ^ 2 ∷ imm21 % 2 ^ 2 ∷ []
fields_of (ADRP rd imm21) = rd ∷ imm21 / 2 ^ 2 ∷ imm21 % 2 ^ 2 ∷ []
fields_of (ADD sf sh rd rn imm12) = rd ∷ rn ∷ imm12 ∷ sh ∷ sf ∷ []
fields_of (LDST size v opc rt rn imm12) = rt ∷ rn ∷ imm12 ∷ opc ∷ v ∷ size ∷ []
fields_of (PRFM rt rn imm12) = rt ∷ rn ∷ imm12 ∷ 0b10 ∷ 0 ∷ 0b11 ∷ []
fields_of (LDR-literal opc v rt imm19) = rt ∷ imm19 ∷ v ∷ opc ∷ []
fields_of (B imm26) = imm26 ∷ 0 ∷ []
fields_of (BL imm26) = imm26 ∷ 1 ∷ []
fields_of (BR rn) = rn ∷ []
fields_of NOP = []
fields_of (MOVZ sf hw rd imm16) = rd ∷ imm16 ∷ hw ∷ sf ∷ []

-- the word of an instruction
abbrev pub encode : Insn → ℕ
encode i = fill (diagram_of i) (fields_of i)

-- whether MOVZ has that hw: Wd has two halves, Xd four
abbrev pub has_half : ℕ → ℕ → Bool
has_half sf hw = eqb sf 1 || ltb hw 2

-- each field has room for what it holds, and the manual has the instruction
abbrev pub InRange : Insn → Type 0
InRange (ADR rd imm21) = (rd < 2 ^ 5) × (imm21 < 2 ^ 21)
InRange (ADRP rd imm21) = (rd < 2 ^ 5) × (imm21 < 2 ^ 21)
InRange (ADD sf sh rd rn imm12) = (sf < 2) × (sh < 2) × (rd < 2 ^ 5) × (rn < 2 ^ 5) × (imm12 < 2 ^ 12)
InRange (LDST size v opc rt rn imm12) =
    (size < 2 ^ 2) × (v < 2) × (opc < 2 ^ 2) × (rt < 2 ^ 5) × (rn < 2 ^ 5) × (imm12 < 2 ^ 12) × (moves (row_of size v opc) ≡ true)
InRange (PRFM rt rn imm12) = (rt < 2 ^ 5) × (rn < 2 ^ 5) × (imm12 < 2 ^ 12)
InRange (LDR-literal opc v rt imm19) = (opc < 2 ^ 2) × (v < 2) × (rt < 2 ^ 5) × (imm19 < 2 ^ 19) × (moves (literal_row_of opc v) ≡ true)
InRange (B imm26) = imm26 < 2 ^ 26
InRange (BL imm26) = imm26 < 2 ^ 26
InRange (BR rn) = rn < 2 ^ 5
InRange NOP = Unit {0}
InRange (MOVZ sf hw rd imm16) = (sf < 2) × (hw < 2 ^ 2) × (rd < 2 ^ 5) × (imm16 < 2 ^ 16) × (has_half sf hw ≡ true)

-- a word's instruction, if it has one in scope
pub data Decoded : Type 0 where
  instruction : Insn → Decoded
  none : Decoded

-- Rd of a word, or Rt
abbrev pub rd_in : ℕ → ℕ
rd_in w = field w 0 5

-- Rn
abbrev pub rn_in : ℕ → ℕ
rn_in w = field w 5 5

-- imm12
abbrev pub imm12_in : ℕ → ℕ
imm12_in w = field w 10 12

-- imm16
abbrev pub imm16_in : ℕ → ℕ
imm16_in w = field w 5 16

-- imm19, or immhi
abbrev pub imm19_in : ℕ → ℕ
imm19_in w = field w 5 19

-- immhi:immlo
abbrev pub imm21_in : ℕ → ℕ
imm21_in w = imm19_in w * 2 ^ 2 + field w 29 2

-- imm26
abbrev pub imm26_in : ℕ → ℕ
imm26_in w = field w 0 26

-- hw
abbrev pub hw_in : ℕ → ℕ
hw_in w = field w 21 2

-- sh
abbrev pub sh_in : ℕ → ℕ
sh_in w = field w 22 1

-- opc of a load or store
abbrev pub opc_in : ℕ → ℕ
opc_in w = field w 22 2

-- V
abbrev pub v_in : ℕ → ℕ
v_in w = field w 26 1

-- size of a load or store, or opc of a literal load
abbrev pub size_in : ℕ → ℕ
size_in w = field w 30 2

-- sf, or op of B and BL
abbrev pub sf_in : ℕ → ℕ
sf_in w = field w 31 1

-- the row of a word of the load/store class
abbrev pub row_in : ℕ → Row
row_in w = row_of (size_in w) (v_in w) (opc_in w)

-- the instruction of a word of that class by its row
abbrev pub load_store_form : Row → ℕ → Decoded
load_store_form (load m r n g) w = instruction (LDST (size_in w) (v_in w) (opc_in w) (rd_in w) (rn_in w) (imm12_in w))
load_store_form (store m r n) w = instruction (LDST (size_in w) (v_in w) (opc_in w) (rd_in w) (rn_in w) (imm12_in w))
load_store_form (prefetch m) w = instruction (PRFM (rd_in w) (rn_in w) (imm12_in w))
load_store_form unallocated w = none

-- B or BL by op
abbrev pub branch_form : ℕ → ℕ → Insn
branch_form zero imm26 = B imm26
branch_form (suc op) imm26 = BL imm26

-- a class of words: a diagram, and the instruction of a word that matches it
pub record Class : Type 0 where
  pub diagram : List Part
  pub form_of : ℕ → Decoded

-- the class of a diagram and instructions
abbrev pub class : List Part → (ℕ → Decoded) → Class
class d f = record { diagram = d; form_of = f }

-- the classes in scope; no word matches two of them
abbrev pub classes : List Class
classes =
    class adr (λ w. instruction (ADR (rd_in w) (imm21_in w)))
    ∷ class adrp (λ w. instruction (ADRP (rd_in w) (imm21_in w)))
    ∷ class add_immediate (λ w. instruction (ADD (sf_in w) (sh_in w) (rd_in w) (rn_in w) (imm12_in w)))
    ∷ class load_store (λ w. load_store_form (row_in w) w)
    ∷ class load_literal
    (λ w. choose (moves (literal_row_of (size_in w) (v_in w))) (instruction (LDR-literal (size_in w) (v_in w) (rd_in w) (imm19_in w))) none)
    ∷ class branch (λ w. instruction (branch_form (sf_in w) (imm26_in w)))
    ∷ class br (λ w. instruction (BR (rn_in w)))
    ∷ class nop (λ w. instruction NOP)
    ∷ class movz (λ w. choose (has_half (sf_in w) (hw_in w)) (instruction (MOVZ (sf_in w) (hw_in w) (rd_in w) (imm16_in w))) none)
    ∷ []

-- the instruction of a word by the first class that it matches
abbrev pub form_by : List Class → ℕ → Decoded
form_by [] w = none
form_by (c ∷ cs) w = choose (matches c.diagram w) (c.form_of w) (form_by cs w)

-- the instruction of a word
unfoldable pub decode : ℕ → Decoded
decode w = form_by classes w

-- false for the words of the load/store, literal load and MOVZ classes that the manual leaves unallocated; true for every other word, of which
-- nothing is claimed
unfoldable pub allocated : ℕ → Bool
allocated w =
    choose (matches load_store w) (is_allocated (row_in w))
    (choose (matches load_literal w) (is_allocated (literal_row_of (size_in w) (v_in w)))
    (choose (matches movz w) (has_half (sf_in w) (hw_in w)) true))

-- whether one of some words is not
abbrev pub any_unallocated : List ℕ → Bool
any_unallocated [] = false
any_unallocated (w ∷ ws) = not (allocated w) || any_unallocated ws
