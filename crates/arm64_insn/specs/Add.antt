-- ADD (immediate) of 64 bits, unshifted, taken apart (Arm manual, C6.2, ADD (immediate); arch/arm64.rs, `parse_add`; RULES 7.17).
use Rattle.std.specs.Prelude.{ℕ, Option, Some, None}
use Rattle.util.specs.Choice.{choose}
use Rattle.util.specs.Diagram.{matches}
use Rattle.arm64_insn.specs.Encoding.{add}
use Rattle.arm64_insn.specs.Manual.{rd_in, rn_in, imm12_in}
use Rattle.arm64_insn.specs.declared.add.Add.{Add}

-- Rd, Rn and imm12
unfoldable pub add_of : ℕ → Option Add
add_of x = choose (matches add x) (Some (record { rd = rd_in x; rn = rn_in x; imm = imm12_in x })) None
