-- The class of a load or store as a number (RULES 7.32): an entry of the table, and back; and the class that the decoder sees.
use Rattle.std.specs.Prelude.{ℕ, Bool, ◌+◌, ◌*◌, ◌/◌, ◌%◌, eqb, Option, Some, None}
use Rattle.util.specs.Choice.{choose, flag}
use Rattle.arm64_insn.specs.declared.ldst.LoadStore.{LoadStore}
use Rattle.arm64_ldst_class.specs.declared.LoadStoreClass.{LoadStoreClass}

-- a class by its fields: how many bytes, whether they are stored, whether the register is a vector one, whether it is LDRSW
abbrev pub moves : ℕ → Bool → Bool → Bool → LoadStoreClass
moves bytes stores vector ldrsw = record { bytes = bytes; stores = stores; vector = vector; ldrsw = ldrsw }

-- 8 times the bytes, 4 for a store, 2 for a vector register, 1 for LDRSW; 0 for what is no load or store
abbrev pub entry_of : Option LoadStoreClass → ℕ
entry_of (Some c) = c.bytes * 8 + flag c.stores * 4 + flag c.vector * 2 + flag c.ldrsw
entry_of None = 0

-- the class of an entry
abbrev pub class_in : ℕ → Option LoadStoreClass
class_in e = choose (eqb e 0) None (Some (moves (e / 8) (eqb (e / 4 % 2) 1) (eqb (e / 2 % 2) 1) (eqb (e % 2) 1)))

-- what the decoder's answer moves
abbrev pub class_seen : Option LoadStore → Option LoadStoreClass
class_seen (Some l) = Some (moves l.size l.is_store l.is_float l.is_ldrsw)
class_seen None = None
