-- Pages of 4,096 bytes (Arm Architecture Reference Manual, C6.2, ADRP; arch/arm64.rs, `page` and `adrp_page`; RULES 7.10, 7.11).
use Rattle.std.specs.Prelude.{ℕ, ◌*◌, ◌/◌, ◌^◌}
use Rattle.util.specs.Bits.{extend}
use Rattle.util.specs.Wrap.{sum}

-- the first address of the page of x
unfoldable pub page_of : ℕ → ℕ
page_of x = x / 2 ^ 12 * 2 ^ 12

-- what an ADRP at pc with the 21-bit immediate makes: the page of pc, and as many pages further as the signed immediate says, modulo 2^64
unfoldable pub adrp_page : ℕ → ℕ → ℕ
adrp_page imm pc = sum (page_of pc) (extend imm 21 * 2 ^ 12)
