-- Load or store register (unsigned immediate), taken apart by the manual's table (RULES 7.18 to 7.20).
use Rattle.std.specs.Prelude.{ℕ, ◌*◌, Bool, false, eqb, Option, Some, None}
use Rattle.util.specs.Choice.{choose}
use Rattle.util.specs.Diagram.{matches}
use Rattle.arm64_insn.specs.Encoding.{load_store}
use Rattle.arm64_insn.specs.LoadStoreTable.{Row, load, store, prefetch, unallocated, zeros, sign32, sign64, row_of, moved_by, moves, is_store}
use Rattle.arm64_insn.specs.Manual as M
use Rattle.arm64_insn.specs.Manual.{rd_in, rn_in, imm12_in, v_in, row_in}
use Rattle.arm64_insn.specs.declared.ldst.LoadStore as L
use Rattle.arm64_insn.specs.declared.ldst.LoadStore.{LoadStore}

-- a load of 4 bytes that copies its sign up to bit 63: LDRSW
abbrev pub is_ldrsw : Row → Bool
is_ldrsw (load m r n zeros) = false
is_ldrsw (load m r n sign32) = false
is_ldrsw (load m r n sign64) = eqb n 4
is_ldrsw (store m r n) = false
is_ldrsw (prefetch m) = false
is_ldrsw unallocated = false

-- what the fields of a load or store say, with its row
abbrev pub load_store_from : ℕ → ℕ → ℕ → ℕ → ℕ → Row → L.LoadStore
load_store_from w v rt rn imm12 row =
    record {
      insn = w;
      reg = rt;
      base = rn;
      offset = imm12 * moved_by row;
      size = moved_by row;
      is_store = is_store row;
      is_float = eqb v 1;
      is_ldrsw = is_ldrsw row;
    }

-- a word of the class by its row: a load or store where the row moves something
abbrev pub load_store_by : Row → ℕ → Option LoadStore
load_store_by row w = choose (moves row) (Some (load_store_from w (v_in w) (rd_in w) (rn_in w) (imm12_in w) row)) None

-- a word as a load or store
unfoldable pub load_store_of : ℕ → Option LoadStore
load_store_of w = choose (matches load_store w) (load_store_by (row_in w) w) None

-- the manual's instruction of a word as a load or store: any but LDST is none
abbrev pub load_store_in : ℕ → M.Decoded → Option LoadStore
load_store_in w M.none = None
load_store_in w (M.instruction (M.ADR rd imm21)) = None
load_store_in w (M.instruction (M.ADRP rd imm21)) = None
load_store_in w (M.instruction (M.ADD sf sh rd rn imm12)) = None
load_store_in w (M.instruction (M.LDST size v opc rt rn imm12)) = Some (load_store_from w v rt rn imm12 (row_of size v opc))
load_store_in w (M.instruction (M.PRFM rt rn imm12)) = None
load_store_in w (M.instruction (M.LDR-literal opc v rt imm19)) = None
load_store_in w (M.instruction (M.B imm26)) = None
load_store_in w (M.instruction (M.BL imm26)) = None
load_store_in w (M.instruction (M.BR rn)) = None
load_store_in w (M.instruction M.NOP) = None
load_store_in w (M.instruction (M.MOVZ sf hw rd imm16)) = None
