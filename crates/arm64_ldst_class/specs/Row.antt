-- The class by the manual's rows (RULES 7.5, 7.18 to 7.20, 7.32): of a row, of an instruction, and of an index, bits 31 to 22 of a word.
use Rattle.std.specs.Prelude.{ℕ, Bool, true, false, Option, Some, None}
use Rattle.util.specs.Choice.{choose}
use Rattle.util.specs.Bits.{field}
use Rattle.util.specs.Diagram.{matches}
use Rattle.arm64_insn.specs.Encoding.{load_store_high}
use Rattle.arm64_insn.specs.LoadStoreTable.{Row, load, store, prefetch, unallocated, Registers, general, vector, row_of}
use Rattle.arm64_insn.specs.LoadStore.{is_ldrsw}
use Rattle.arm64_insn.specs.Manual as M
use Rattle.arm64_ldst_class.specs.Entry.{moves}
use Rattle.arm64_ldst_class.specs.declared.LoadStoreClass.{LoadStoreClass}

-- whether registers are vector ones
abbrev pub is_vector : Registers → Bool
is_vector general = false
is_vector vector = true

-- what a row moves
abbrev pub class_of_row : Row → Option LoadStoreClass
class_of_row (load m r n w) = Some (moves n false (is_vector r) (is_ldrsw (load m r n w)))
class_of_row (store m r n) = Some (moves n true (is_vector r) false)
class_of_row (prefetch m) = None
class_of_row unallocated = None

-- what an instruction moves by a register and an unsigned immediate
abbrev pub class_of_insn : M.Decoded → Option LoadStoreClass
class_of_insn M.none = None
class_of_insn (M.instruction (M.ADR rd imm21)) = None
class_of_insn (M.instruction (M.ADRP rd imm21)) = None
class_of_insn (M.instruction (M.ADD sf sh rd rn imm12)) = None
class_of_insn (M.instruction (M.LDST size v opc rt rn imm12)) = class_of_row (row_of size v opc)
class_of_insn (M.instruction (M.PRFM rt rn imm12)) = None
class_of_insn (M.instruction (M.LDR-literal opc v rt imm19)) = None
class_of_insn (M.instruction (M.B imm26)) = None
class_of_insn (M.instruction (M.BL imm26)) = None
class_of_insn (M.instruction (M.BR rn)) = None
class_of_insn (M.instruction M.NOP) = None
class_of_insn (M.instruction (M.MOVZ sf hw rd imm16)) = None

-- size of an index
abbrev pub size_at : ℕ → ℕ
size_at k = field k 8 2

-- V
abbrev pub v_at : ℕ → ℕ
v_at k = field k 4 1

-- opc
abbrev pub opc_at : ℕ → ℕ
opc_at k = field k 0 2

-- its row
abbrev pub row_at : ℕ → Row
row_at k = row_of (size_at k) (v_at k) (opc_at k)

-- the class of an index: of one that has not the fixed fields none
unfoldable pub class_of_index : ℕ → Option LoadStoreClass
class_of_index k = choose (matches load_store_high k) (class_of_row (row_at k)) None

-- whether a class is that of a load or store
abbrev pub is_access : Option LoadStoreClass → Bool
is_access (Some c) = true
is_access None = false

-- whether a class is that of LDRSW
abbrev pub marks_ldrsw : Option LoadStoreClass → Bool
marks_ldrsw (Some c) = c.ldrsw
marks_ldrsw None = false
