-- The words of a stub and of a thunk (arch/arm64.rs, `write_stubs` and `write_thunk`; RULES 6.2, 6.3).
use Rattle.std.specs.Prelude.{ℕ}
use Rattle.util.specs.Bits.{field}
use Rattle.arm64_insn.specs.Manual.{ADRP, ADD, LDST, BR, encode}
use Rattle.arm64_insn.specs.Reach.{page_imm}
use Rattle.arm64_insn.specs.declared.stub.Words3.{Words3}

-- "adrp x16, pointer@PAGE; ldr x16, [x16, pointer@PAGEOFF]; br x16"; the 8-byte load has size 11, V 0, opc 01 and counts eights
unfoldable pub stub_words : ℕ → ℕ → Words3
stub_words addr pointer =
    record {
      first = encode (ADRP 16 (page_imm pointer addr));
      second = encode (LDST 0b11 0 0b01 16 16 (field pointer 3 9));
      third = encode (BR 16);
    }

-- "adrp x16, target@PAGE; add x16, x16, target@PAGEOFF; br x16"; the ADD has sf 1, sh 0
unfoldable pub thunk_words : ℕ → ℕ → Words3
thunk_words addr target =
    record {
      first = encode (ADRP 16 (page_imm target addr));
      second = encode (ADD 1 0 16 16 (field target 0 12));
      third = encode (BR 16);
    }
