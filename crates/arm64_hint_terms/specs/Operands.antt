-- What decoding tells of an ADD and an access (arm64_insn, `add_of` and `load_store_of`), as the callers of a rewrite know it.
use Rattle.std.specs.Prelude.{◌^◌, ◌<◌}
use Rattle.arm64_insn.specs.declared.add.Add.{Add}
use Rattle.arm64_insn.specs.declared.ldst.LoadStore.{LoadStore}

-- registers, some bytes moved, a 12-bit immediate, and an offset of 12 bits times at most 16 bytes
pub record Operands (d : Add) (ls : LoadStore) : Type 0 where
  pub source : d.rn < 32
  pub imm : d.imm < 4096
  pub register : ls.reg < 32
  pub base : ls.base < 32
  pub some : 0 < ls.size
  pub offset : ls.offset < 2 ^ 16
