-- The words that a page offset may stand on, as instructions of the Arm manual (C6.2; RULES 4.8).
use Rattle.std.specs.Prelude.{ℕ, Bool, false, eqb}
use Rattle.util.specs.Choice.{choose}
use Rattle.arm64_insn.specs.LoadStoreTable.{row_of, moved_by, is_store}
use Rattle.arm64_insn.specs.Manual as M

-- whether an instruction is ADD (immediate), of either width, whose immediate is not shifted
abbrev pub is_unshifted_add : M.Decoded → Bool
is_unshifted_add M.none = false
is_unshifted_add (M.instruction (M.ADR rd imm21)) = false
is_unshifted_add (M.instruction (M.ADRP rd imm21)) = false
is_unshifted_add (M.instruction (M.ADD sf sh rd rn imm12)) = eqb sh 0
is_unshifted_add (M.instruction (M.LDST size v opc rt rn imm12)) = false
is_unshifted_add (M.instruction (M.PRFM rt rn imm12)) = false
is_unshifted_add (M.instruction (M.LDR-literal opc v rt imm19)) = false
is_unshifted_add (M.instruction (M.B imm26)) = false
is_unshifted_add (M.instruction (M.BL imm26)) = false
is_unshifted_add (M.instruction (M.BR rn)) = false
is_unshifted_add (M.instruction M.NOP) = false
is_unshifted_add (M.instruction (M.MOVZ sf hw rd imm16)) = false

-- the bytes that an instruction loads by a register and an unsigned immediate, 0 where it is no such load
abbrev pub loaded_by : M.Decoded → ℕ
loaded_by M.none = 0
loaded_by (M.instruction (M.ADR rd imm21)) = 0
loaded_by (M.instruction (M.ADRP rd imm21)) = 0
loaded_by (M.instruction (M.ADD sf sh rd rn imm12)) = 0
loaded_by (M.instruction (M.LDST size v opc rt rn imm12)) = choose (is_store (row_of size v opc)) 0 (moved_by (row_of size v opc))
loaded_by (M.instruction (M.PRFM rt rn imm12)) = 0
loaded_by (M.instruction (M.LDR-literal opc v rt imm19)) = 0
loaded_by (M.instruction (M.B imm26)) = 0
loaded_by (M.instruction (M.BL imm26)) = 0
loaded_by (M.instruction (M.BR rn)) = 0
loaded_by (M.instruction M.NOP) = 0
loaded_by (M.instruction (M.MOVZ sf hw rd imm16)) = 0
