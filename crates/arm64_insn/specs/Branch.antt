-- B and BL (Arm manual, C6.2, B and BL; arch/arm64.rs, BRANCH26 and the helper of GOT_LOAD_PAGE21; RULES 5.13, 7.30, 7.31).
use Rattle.std.specs.Prelude.{ℕ, ◌+◌, ◌*◌, ◌^◌, Bool}
use Rattle.util.specs.Choice.{choose}
use Rattle.util.specs.Bits.{field}
use Rattle.util.specs.Wrap.{diff, in_range}
use Rattle.arm64_insn.specs.Manual.{B, BL, encode}

-- a displacement of -2^27 to 2^27 - 1
unfoldable pub branch_reaches : ℕ → ℕ → Bool
branch_reaches t p = in_range (diff t p) (2 ^ 27) (2 ^ 27)

-- bits 31..26 of the word, and the displacement in words in imm26
unfoldable pub branch_word : ℕ → ℕ → ℕ
branch_word x d = field x 26 6 * 2 ^ 26 + field d 2 26

-- B to a helper of the site's own, BL to a shared one
unfoldable pub helper_word : Bool → ℕ → ℕ
helper_word own d = choose own (encode (B (field d 2 26))) (encode (BL (field d 2 26)))
