-- A decoded load or store as a literal load, and through another base (arch/arm64.rs, `has_literal_form`, `to_literal` and `with_base`; RULES 7.23 to 7.25).
use Rattle.std.specs.Prelude.{ℕ, ◌+◌, ◌*◌, ◌/◌, ◌^◌, ◌<◌, Bool, ◌&&◌, not, eqb, leb}
use Rattle.util.specs.Choice.{choose}
use Rattle.util.specs.Bits.{field}
use Rattle.util.specs.Wrap.{diff}
use Rattle.arm64_insn.specs.Manual.{LDR-literal, encode}
use Rattle.arm64_insn.specs.declared.ldst.LoadStore.{LoadStore}

-- a load of 4, 8 or 16 bytes
unfoldable pub has_literal_form : LoadStore → Bool
has_literal_form l = leb 4 l.size && not l.is_store

-- opc of a literal load: 00 for LDR W and S, 01 for LDR X and D, 10 for LDRSW and LDR Q
unfoldable pub literal_opc : ℕ → Bool → Bool → ℕ
literal_opc size v sw = choose (eqb size 4) (choose v 0b00 (choose sw 0b10 0b00)) (choose (eqb size 8) 0b01 0b10)

-- V of a literal load: 1 for LDR S, D and Q
unfoldable pub literal_v : ℕ → Bool → ℕ
literal_v size v = choose (eqb size 4) (choose v 1 0) (choose (eqb size 8) (choose v 1 0) 1)

-- the load register (literal) of the same bytes into the same register, with the displacement in words
unfoldable pub literal_word : LoadStore → ℕ → ℕ → ℕ
literal_word l target pc =
    encode
    (LDR-literal (literal_opc l.size l.is_float l.is_ldrsw) (literal_v l.size l.is_float) l.reg (field (diff target pc) 2 19))

-- base is a register, and imm12 has room for the offset, counted in accesses
pub record Rebased (l : LoadStore) (base offset : ℕ) : Type 0 where
  pub some : 0 < l.size
  pub register : base < 32
  pub room : offset / l.size < 4096

-- size, 111, V, 01 and opc of the word, then imm12, Rn, and Rt of the word
unfoldable pub base_word : LoadStore → ℕ → ℕ → ℕ
base_word l base offset = field l.insn 22 10 * 2 ^ 22 + offset / l.size * 2 ^ 10 + base * 2 ^ 5 + field l.insn 0 5
