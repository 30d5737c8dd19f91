-- Words with another page or page offset (arch/arm64.rs, `write_adrp`, `write_add_ldst` and the relaxed GOT load; RULES 7.26 to 7.29).
use Rattle.std.specs.Prelude.{ℕ, ◌+◌, ◌*◌, ◌/◌, ◌%◌, ◌^◌, List, [], ◌∷◌, eqb, Result, Ok, Err}
use Rattle.util.specs.Choice.{choose}
use Rattle.util.specs.Bits.{field}
use Rattle.util.specs.Diagram.{Part, free, fixed, matches}
use Rattle.arm64_insn.specs.Encoding.{load_store}
use Rattle.arm64_insn.specs.Manual.{ADD, NOP, MOVZ, encode, rd_in, rn_in}
use Rattle.arm64_insn.specs.Reach.{page_offset}

-- NOP
abbrev pub nop_word : ℕ
nop_word = encode NOP

-- "movz x0, #0": sf 1, hw 0
abbrev pub is_enabled_word : ℕ
is_enabled_word = encode (MOVZ 1 0 0 0)

-- the word with the ADRP immediate that reaches hi's page from lo's; bit 31, bits 28..24 and bits 4..0 stay
unfoldable pub adrp_with : ℕ → ℕ → ℕ → ℕ
adrp_with x hi lo = field x 31 1 * 2 ^ 31 + field x 24 5 * 2 ^ 24 + field x 0 5 + page_offset hi lo

-- a 16-byte access of a vector register, among loads and stores: size 00, V 1, opc 1x
abbrev pub quad : List Part
quad = free 23 ∷ fixed 1 1 ∷ free 2 ∷ fixed 1 1 ∷ free 3 ∷ fixed 2 0 ∷ []

-- log2 of the bytes that imm12 counts: of the words of loads and stores the size field, but 4 for 16 bytes. So it is for unallocated ones, and for PRFM
-- (size 11, V 0, opc 10), which moves nothing and counts 8. Of any other word 0
unfoldable pub scale_of : ℕ → ℕ
scale_of x = choose (matches load_store x) (choose (matches quad x) 4 (field x 30 2)) 0

-- the word with the page offset of val in imm12, or the access size that does not divide val
unfoldable pub offset_with : ℕ → ℕ → Result ℕ ℕ
offset_with x val =
    choose (eqb (val % 2 ^ scale_of x) 0)
    (Ok (field x 22 10 * 2 ^ 22 + val % 2 ^ 12 / 2 ^ scale_of x * 2 ^ 10 + field x 0 10))
    (Err (2 ^ scale_of x))

-- "add Xd, Xn, #pageoff" with the word's Rd and Rn: sf 1, sh 0
unfoldable pub relaxed_word : ℕ → ℕ → ℕ
relaxed_word x target = encode (ADD 1 0 (rd_in x) (rn_in x) (field target 0 12))
