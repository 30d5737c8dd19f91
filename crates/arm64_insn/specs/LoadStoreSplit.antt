-- Load or store register (unsigned immediate), split by one field after the other: bit 26, then the size, then bit 23, then bit 22 (RULES 7.34). It is
-- written without the manual's table; that the two say the same of every word is `Words.load-store-split`.
use Rattle.std.specs.Prelude.{ℕ, ◌*◌, ◌^◌, Bool, true, false, not, eqb, Option, Some, None}
use Rattle.util.specs.Choice.{choose}
use Rattle.util.specs.Bits.{has_bit}
use Rattle.util.specs.Diagram.{matches}
use Rattle.arm64_insn.specs.Encoding.{load_store}
use Rattle.arm64_insn.specs.Manual.{rd_in, rn_in, imm12_in, size_in}
use Rattle.arm64_insn.specs.declared.ldst.Access.{Access}
use Rattle.arm64_insn.specs.declared.ldst.LoadStore.{LoadStore}

-- an access of so many bytes: whether it stores them, and whether it is LDRSW
abbrev pub access : ℕ → Bool → Bool → Access
access bytes stores ldrsw = record { bytes = bytes; is_store = stores; is_ldrsw = ldrsw }

-- a vector register. Size 00: 16 bytes where bit 23 is set, else 1. Every other size: nothing where bit 23 is set, else 2^size bytes. Bit 22 is clear in
-- a store
unfoldable pub vector_access : ℕ → Bool → Bool → Option Access
vector_access size b23 b22 =
    choose (eqb size 0)
    (choose b23 (Some (access 16 (not b22) false)) (Some (access 1 (not b22) false)))
    (choose b23 None (Some (access (2 ^ size) (not b22) false)))

-- a general register. Size 11: nothing where bit 23 is set. Size 10: where it is set, nothing if bit 22 is set, else LDRSW. Sizes 01 and 00: where it is
-- set, a load of 2^size bytes. Every size: where bit 23 is clear, 2^size bytes, and bit 22 is clear in a store
unfoldable pub general_access : ℕ → Bool → Bool → Option Access
general_access size b23 b22 =
    choose (eqb size 3)
    (choose b23 None (Some (access 8 (not b22) false)))
    (choose (eqb size 2)
    (choose b23 (choose b22 None (Some (access 4 false true))) (Some (access 4 (not b22) false)))
    (choose b23 (Some (access (2 ^ size) false false)) (Some (access (2 ^ size) (not b22) false))))

-- bit 26, the size, bit 23, bit 22
unfoldable pub access_by_split : Bool → ℕ → Bool → Bool → Option Access
access_by_split v size b23 b22 = choose v (vector_access size b23 b22) (general_access size b23 b22)

-- a word of the class that moves so
abbrev pub word_moving : Option Access → ℕ → Option LoadStore
word_moving (Some a) w =
    Some (record {
      insn = w;
      reg = rd_in w;
      base = rn_in w;
      offset = imm12_in w * a.bytes;
      size = a.bytes;
      is_store = a.is_store;
      is_float = has_bit w 26;
      is_ldrsw = a.is_ldrsw;
    })
word_moving None w = None

-- a word as a load or store: the class first, since outside it bit 26 need not tell a register file; then the split
unfoldable pub load_store_by_split : ℕ → Option LoadStore
load_store_by_split w =
    choose (matches load_store w) (word_moving (access_by_split (has_bit w 26) (size_in w) (has_bit w 23) (has_bit w 22)) w) None
