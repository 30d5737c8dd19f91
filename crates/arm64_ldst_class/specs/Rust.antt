-- The class of an index as the Rust has it (arch/arm64.rs, `parse_ldst`), and the words that it takes as loads although the manual leaves them unallocated,
-- which docs/DIFFERENCES lists (RULES 7.19).
use Rattle.std.specs.Prelude.{ℕ, ◌+◌, ◌*◌, Bool, true, false, ◌||◌, List, [], ◌∷◌, eqb, get_or, Option, Some, None}
use Rattle.util.specs.Choice.{choose}
use Rattle.util.specs.Diagram.{matches}
use Rattle.arm64_insn.specs.Encoding.{load_store_high}
use Rattle.arm64_ldst_class.specs.Entry.{moves}
use Rattle.arm64_ldst_class.specs.Row.{size_at, v_at, opc_at}
use Rattle.arm64_ldst_class.specs.declared.LoadStoreClass.{LoadStoreClass}

-- the arms of its match on size and opc, by their number; `moved` is told the bytes, and whether they are stored
abbrev pub arms_of : (ℕ → Bool → Option LoadStoreClass) → Bool → List (Option LoadStoreClass)
arms_of moved is_float =
    moved 1 true ∷ moved 1 false ∷ choose is_float (moved 16 true) (moved 1 false) ∷ choose is_float (moved 16 false) (moved 1 false)
    ∷ moved 2 true ∷ moved 2 false ∷ moved 2 false ∷ moved 2 false
    ∷ moved 4 true ∷ moved 4 false ∷ moved 4 false ∷ None
    ∷ moved 8 true ∷ moved 8 false ∷ None ∷ None
    ∷ []

-- what size, V and opc move in the Rust; it marks LDRSW by size and opc alone
abbrev pub fields_in_rust : ℕ → ℕ → ℕ → Option LoadStoreClass
fields_in_rust size v opc =
    get_or (arms_of (λ bytes stores. Some (moves bytes stores (eqb v 1) (eqb (size * 4 + opc) 0b10_10))) (eqb v 1)) (size * 4 + opc) None

-- the class of an index in the Rust
unfoldable pub class_in_rust : ℕ → Option LoadStoreClass
class_in_rust k = choose (matches load_store_high k) (fields_in_rust (size_at k) (v_at k) (opc_at k)) None

-- the indices of the words that are loads in the Rust alone: vector registers, 2 bytes with bit 23 set and 4 bytes with bits 23 and 22 = 10
abbrev pub only_in_rust : ℕ → Bool
only_in_rust k = eqb k 0x1f6 || (eqb k 0x1f7 || eqb k 0x2f6)
