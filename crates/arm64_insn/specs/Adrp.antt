-- ADRP taken apart, and ADR made (Arm manual, C6.2, ADR and ADRP; arch/arm64.rs, `is_adrp`, `adrp_page` and `adr`; RULES 7.16, 7.22).
use Rattle.std.specs.Prelude.{ℕ, Option, Some, None}
use Rattle.util.specs.Choice.{choose}
use Rattle.util.specs.Bits.{field}
use Rattle.util.specs.Diagram.{matches}
use Rattle.util.specs.Wrap.{diff}
use Rattle.arm64_insn.specs.Encoding.{adrp}
use Rattle.arm64_insn.specs.Manual.{ADR, encode, rd_in, imm21_in}
use Rattle.arm64_insn.specs.declared.adrp.Adrp.{Adrp}

-- Rd, and immhi:immlo
unfoldable pub adrp_of : ℕ → Option Adrp
adrp_of x = choose (matches adrp x) (Some (record { rd = rd_in x; imm = imm21_in x })) None

-- "adr Xrd, target": the 21 low bits of the displacement
unfoldable pub adr_word : ℕ → ℕ → ℕ → ℕ
adr_word rd target pc = encode (ADR rd (field (diff target pc) 0 21))
