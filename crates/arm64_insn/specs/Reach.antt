-- What ADRP, ADR and literal loads reach (arch/arm64.rs, `page_offset`, `adrp_reaches` and `within_1mb`; RULES 7.13 to 7.15).
use Rattle.std.specs.Prelude.{ℕ, ◌+◌, ◌-◌, ◌*◌, ◌/◌, ◌%◌, ◌^◌, Bool}
use Rattle.util.specs.Bits.{field}
use Rattle.util.specs.Wrap.{diff, in_range}
use Rattle.arm64_insn.specs.Page.{page_of}

-- the immediate of the ADRP at lo that reaches hi's page: 21 bits of the page difference, in pages
unfoldable pub page_imm : ℕ → ℕ → ℕ
page_imm hi lo = field (diff (page_of hi) (page_of lo)) 12 21

-- that immediate in its places in the word: immlo in bits 30..29, immhi in bits 23..5
unfoldable pub page_offset : ℕ → ℕ → ℕ
page_offset hi lo = page_imm hi lo % 2 ^ 2 * 2 ^ 29 + page_imm hi lo / 2 ^ 2 * 2 ^ 5

-- a page difference of -2^32 to 2^32 - 1
unfoldable pub adrp_reaches : ℕ → ℕ → Bool
adrp_reaches hi lo = in_range (diff (page_of hi) (page_of lo)) (2 ^ 32) (2 ^ 32)

-- a displacement above -2^20 and below 2^20
unfoldable pub within1mb : ℕ → ℕ → Bool
within1mb from to = in_range (diff to from) (2 ^ 20 - 1) (2 ^ 20)
