-- What the decoder sees of a load or store goes by bits 31 to 22, as the rows say: 32 cells by one computed test.
use Rattle.std.specs.Prelude.{Option, Some, None}
use mathlib.Core.Path.{◌≡◌, refl, sym, ap, ◌∙◌, subst⁻¹}
use Prim.Native.Nat.{ℕ, ◌/◌, ◌%◌, ◌^◌, ◌<◌}
use native.Mathlib.Nat.{div-one}
use native.Mathlib.Omega.{arith}
use lib.Dec.{eqb}
use lib.Pow.{shr-shr}
use Rattle.util.specs.Choice.{choose}
use Rattle.util.specs.Diagram.{matches}
use Rattle.util.proofs.Below.{every}
use Rattle.util.proofs.Choice.{choose-ap, chosen}
use Rattle.arm64_insn.specs.Encoding.{load_store, load_store_high}
use Rattle.arm64_insn.specs.LoadStoreTable.{Row, row_of, moved_by, moves, is_store}
use Rattle.arm64_insn.specs.LoadStore.{is_ldrsw, load_store_by, load_store_of}
use Rattle.arm64_insn.specs.Manual.{size_in, v_in, opc_in, row_in}
use Rattle.arm64_ldst_class.specs.declared.LoadStoreClass.{LoadStoreClass}
use Rattle.arm64_insn.proofs.Cells.{each-cell}
use Rattle.arm64_ldst_class.specs.Entry as C
use Rattle.arm64_ldst_class.specs.Entry.{entry_of, class_in, class_seen}
use Rattle.arm64_ldst_class.specs.Row.{class_of_row, size_at, v_at, opc_at, row_at, class_of_index}
use Rattle.arm64_ldst_class.proofs.Back.{same, same-is, neither-back}

-- the class by what the decoder takes out of a word
abbrev seen : ℕ → Row → Option LoadStoreClass
seen v r = choose (moves r) (Some (C.moves (moved_by r) (is_store r) (eqb v 1) (is_ldrsw r))) None

pub cell : (size v opc : ℕ) → size < 4 → v < 2 → opc < 4 → seen v (row_of size v opc) ≡ class_of_row (row_of size v opc)
unfolding row_of choose every
cell size v opc hs hv ho = same-is _ _ (each-cell (λ s v o. same (seen v (row_of s v o)) (class_of_row (row_of s v o))) refl size v opc hs hv ho)

back-cell : (size v opc : ℕ) → size < 4 → v < 2 → opc < 4 → class_in (entry_of (class_of_row (row_of size v opc))) ≡ class_of_row (row_of size v opc)
unfolding row_of choose every
back-cell size v opc hs hv ho =
    same-is _ _ (each-cell (λ s v o. same (class_in (entry_of (class_of_row (row_of s v o)))) (class_of_row (row_of s v o))) refl size v opc hs hv ho)

-- the diagram from bit 22 on
pub match-high : (w : ℕ) → matches load_store w ≡ matches load_store_high (w / 2 ^ 22)
match-high w = ap (matches load_store_high) (ap (λ (z : ℕ). z / 2 ^ 12) (shr-shr w 5 5) ∙ shr-shr w 10 12)

module _ (w : ℕ) where
  size-high : size_in w ≡ size_at (w / 2 ^ 22)
  size-high = ap (λ (z : ℕ). z % 4) (sym (shr-shr w 22 8))

  v_high : v_in w ≡ v_at (w / 2 ^ 22)
  v_high = ap (λ (z : ℕ). z % 2) (sym (shr-shr w 22 4))

  opc-high : opc_in w ≡ opc_at (w / 2 ^ 22)
  opc-high = ap (λ (z : ℕ). z % 4) (sym (div-one (w / 2 ^ 22)))

  -- the row of a word is that of its index
  pub row-high : row_in w ≡ row_at (w / 2 ^ 22)
  row-high = cc (size-high, v_high, opc-high)

  -- the class that the decoder sees in a word, by the word's own fields
  class-fields : class_seen (load_store_of w) ≡ choose (matches load_store w) (class_of_row (row_in w)) None
  unfolding load_store_of
  class-fields =
      choose-ap class_seen (matches load_store w) (load_store_by (row_in w) w) None
      ∙ ap (λ (c : Option LoadStoreClass). choose (matches load_store w) c None)
      (choose-ap class_seen (moves (row_in w)) _ None ∙ cell (size_in w) (v_in w) (opc_in w) (omega arith) (omega arith) (omega arith))

  -- an entry says all of it
  pub class_back : class_in (entry_of (class_seen (load_store_of w))) ≡ class_seen (load_store_of w)
  class_back =
      subst⁻¹ (λ (c : Option LoadStoreClass). class_in (entry_of c) ≡ c) class-fields
      (chosen (λ (c : Option LoadStoreClass). class_in (entry_of c) ≡ c) (matches load_store w) (class_of_row (row_in w)) None
      (back-cell (size_in w) (v_in w) (opc_in w) (omega arith) (omega arith) (omega arith)) neither-back)

  -- and by its index
  pub class-high : class_seen (load_store_of w) ≡ class_of_index (w / 2 ^ 22)
  unfolding class_of_index
  class-high = class-fields ∙ cc (match-high w, row-high)
