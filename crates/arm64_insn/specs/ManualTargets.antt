-- What the immediates of the instructions in scope mean (Arm Architecture Reference Manual, C6.2, the operations of ADR, LDR (literal), B, BL,
-- ADD (immediate), MOVZ, and of loads and stores with an unsigned offset, of vector registers in C7.2; that of ADRP is `adrp_page`; RULES 7.12).
use Rattle.std.specs.Prelude.{ℕ, ◌+◌, ◌*◌, ◌%◌, ◌^◌, eqb}
use Rattle.util.specs.Choice.{choose}
use Rattle.util.specs.Bits.{extend}
use Rattle.util.specs.Wrap.{sum}
use Rattle.arm64_insn.specs.LoadStoreTable.{Row, moved_by}

-- what an ADR at p makes: p plus the signed immediate
unfoldable pub adr_target : ℕ → ℕ → ℕ
adr_target imm21 p = sum p (extend imm21 21)

-- where a literal load at p loads from: p plus the signed immediate in words
unfoldable pub literal_target : ℕ → ℕ → ℕ
literal_target imm19 p = sum p (extend (imm19 * 2 ^ 2) 21)

-- where a B or BL at p goes: p plus the signed immediate in words
unfoldable pub branch_target : ℕ → ℕ → ℕ
branch_target imm26 p = sum p (extend (imm26 * 2 ^ 2) 28)

-- where a load or store with that base accesses: imm12 counts accesses
unfoldable pub access_address : Row → ℕ → ℕ → ℕ
access_address row base imm12 = sum base (imm12 * moved_by row)

-- what an ADD makes of the source: sh shifts imm12 up by 12 bits, and without sf the sum has 32 bits
unfoldable pub add_value : ℕ → ℕ → ℕ → ℕ → ℕ
add_value sf sh source imm12 =
    choose (eqb sf 1) (sum source (imm12 * 2 ^ (12 * sh))) ((source + imm12 * 2 ^ (12 * sh)) % 2 ^ 32)

-- what a MOVZ makes: hw counts the 16 bits that imm16 is shifted up by
unfoldable pub movz_value : ℕ → ℕ → ℕ
movz_value hw imm16 = imm16 * 2 ^ (16 * hw)
