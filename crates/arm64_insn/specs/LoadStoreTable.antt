-- The tables "Load/store register (unsigned immediate)" and "Load register (literal)" (Arm Architecture Reference Manual, C4.1, Loads and Stores, with the
-- operations of C6.2 and, for vector registers, C7.2; RULES 7.5 to 7.7).
use Rattle.std.specs.Prelude.{ℕ, ◌+◌, ◌*◌, ◌%◌, ◌^◌, Bool, true, false, List, [], ◌∷◌, get_or}
use Rattle.util.specs.Bits.{extend}

-- the mnemonics of the tables
pub data Mnemonic : Type 0 where
  STRB : Mnemonic
  LDRB : Mnemonic
  LDRSB : Mnemonic
  STRH : Mnemonic
  LDRH : Mnemonic
  LDRSH : Mnemonic
  STR : Mnemonic
  LDR : Mnemonic
  LDRSW : Mnemonic
  PRFM : Mnemonic

-- the registers that Rt names: general ones, or vector ones
pub data Registers : Type 0 where
  general : Registers
  vector : Registers

-- what a load puts above the bits that it read: zeros to the register's top, 128 bits for a vector register; or copies of
-- the sign up to bit 31 with zeros above it; or copies of the sign up to bit 63
pub data Widening : Type 0 where
  zeros : Widening
  sign32 : Widening
  sign64 : Widening

-- a row: a load or a store of that many bytes, a prefetch, which moves none, or an unallocated encoding
pub data Row : Type 0 where
  load : Mnemonic → Registers → ℕ → Widening → Row
  store : Mnemonic → Registers → ℕ → Row
  prefetch : Mnemonic → Row
  unallocated : Row

-- the 32 rows of unsigned immediates, in the order of size, V, opc
abbrev pub unsigned_immediate : List Row
unsigned_immediate =
    store STRB general 1 ∷ load LDRB general 1 zeros ∷ load LDRSB general 1 sign64 ∷ load LDRSB general 1 sign32
    ∷ store STR vector 1 ∷ load LDR vector 1 zeros ∷ store STR vector 16 ∷ load LDR vector 16 zeros
    ∷ store STRH general 2 ∷ load LDRH general 2 zeros ∷ load LDRSH general 2 sign64 ∷ load LDRSH general 2 sign32
    ∷ store STR vector 2 ∷ load LDR vector 2 zeros ∷ unallocated ∷ unallocated
    ∷ store STR general 4 ∷ load LDR general 4 zeros ∷ load LDRSW general 4 sign64 ∷ unallocated
    ∷ store STR vector 4 ∷ load LDR vector 4 zeros ∷ unallocated ∷ unallocated
    ∷ store STR general 8 ∷ load LDR general 8 zeros ∷ prefetch PRFM ∷ unallocated
    ∷ store STR vector 8 ∷ load LDR vector 8 zeros ∷ unallocated ∷ unallocated
    ∷ []

-- the 8 rows of literals, in the order of V, opc
abbrev pub literal : List Row
literal =
    load LDR general 4 zeros ∷ load LDR general 8 zeros ∷ load LDRSW general 4 sign64 ∷ prefetch PRFM
    ∷ load LDR vector 4 zeros ∷ load LDR vector 8 zeros ∷ load LDR vector 16 zeros ∷ unallocated
    ∷ []

-- the row of size, V and opc
unfoldable pub row_of : ℕ → ℕ → ℕ → Row
row_of size v opc = get_or unsigned_immediate (size * 8 + v * 4 + opc) unallocated

-- the literal row of opc and V
unfoldable pub literal_row_of : ℕ → ℕ → Row
literal_row_of opc v = get_or literal (v * 4 + opc) unallocated

-- the bytes that a row moves
abbrev pub moved_by : Row → ℕ
moved_by (load _ _ n _) = n
moved_by (store _ _ n) = n
moved_by (prefetch _) = 0
moved_by unallocated = 0

-- whether a row is a load or a store
abbrev pub moves : Row → Bool
moves (load _ _ _ _) = true
moves (store _ _ _) = true
moves (prefetch _) = false
moves unallocated = false

-- whether a row is a store
abbrev pub is_store : Row → Bool
is_store (load _ _ _ _) = false
is_store (store _ _ _) = true
is_store (prefetch _) = false
is_store unallocated = false

-- whether a row is allocated
abbrev pub is_allocated : Row → Bool
is_allocated (load _ _ _ _) = true
is_allocated (store _ _ _) = true
is_allocated (prefetch _) = true
is_allocated unallocated = false

-- what a load of n bytes that hold x leaves in its register
abbrev pub widened : Widening → ℕ → ℕ → ℕ
widened zeros n x = x
widened sign32 n x = extend x (8 * n) % 2 ^ 32
widened sign64 n x = extend x (8 * n)
