-- The class by a row's mnemonic is the class by the row: 32 cells by one computed test. The fixed fields of an index, by two tests.
use Rattle.std.specs.Prelude.{Option, Some, None}
use mathlib.Core.Path.{◌≡◌, refl, sym, ap, ◌∙◌}
use mathlib.Core.Bool.{Bool, true, false, ◌&&◌, and-true}
use Prim.Native.Nat.{ℕ, ◌/◌, ◌%◌, ◌<◌}
use lib.Dec.{eqb}
use lib.Pow.{shr-shr}
use Rattle.util.specs.Choice.{choose}
use Rattle.util.specs.Diagram.{matches}
use Rattle.util.proofs.Below.{every}
use Rattle.util.proofs.Choice.{agree, agree-is}
use Rattle.arm64_insn.specs.LoadStoreTable as T
use Rattle.arm64_insn.proofs.Cells.{each-cell}
use Rattle.arm64_insn.specs.Encoding.{load_store_high}
use Rattle.arm64_ldst_class.specs.Entry.{moves}
use Rattle.arm64_ldst_class.specs.Row.{is_vector, class_of_row, marks_ldrsw}
use Rattle.arm64_ldst_class.specs.declared.LoadStoreClass.{LoadStoreClass}
use Rattle.ldst_table_rows.specs.Rows.{row_from, is_ldrsw_name}
use denote.Enum.Bare.{sameb}
use Rattle.ldst_table_rows.specs.contracts.rows.Mnemonic.{the_type}
use Rattle.ldst_table_rows.specs.declared.rows.Mnemonic.{Mnemonic}
use Rattle.ldst_table_rows.specs.declared.rows.Mnemonic.TheVariants.{Strb, Ldrb, Ldrsb, Strh, Ldrh, Ldrsh, Str, Ldr, Ldrsw, Prfm}
use Rattle.ldst_table_rows.specs.declared.rows.Row.{Row}
use Rattle.ldst_table_rows.specs.declared.rows.Row.TheVariants.{Load, Store, Prefetch, Unallocated}

-- whether a mnemonic equals LDRSW
pub equals_ldrsw : (m : Mnemonic) → sameb the_type m Ldrsw ≡ is_ldrsw_name m
equals_ldrsw Strb = refl
equals_ldrsw Ldrb = refl
equals_ldrsw Ldrsb = refl
equals_ldrsw Strh = refl
equals_ldrsw Ldrh = refl
equals_ldrsw Ldrsh = refl
equals_ldrsw Str = refl
equals_ldrsw Ldr = refl
equals_ldrsw Ldrsw = refl
equals_ldrsw Prfm = refl

-- what a row moves, with LDRSW by its mnemonic
abbrev pub class_from : Row → Option LoadStoreClass
class_from (Load m v n) = Some (moves n false v (is_ldrsw_name m))
class_from (Store m v n) = Some (moves n true v false)
class_from (Prefetch m) = None
class_from Unallocated = None

-- a row whose mnemonic says LDRSW as its sign extension does
same-mark : (r : T.Row) → marks_ldrsw (class_from (row_from r)) ≡ marks_ldrsw (class_of_row r) → class_from (row_from r) ≡ class_of_row r
same-mark (T.load m g n w) e = ap (λ (b : Bool). Some (moves n false (is_vector g) b)) e
same-mark (T.store m g n) e = refl
same-mark (T.prefetch m) e = refl
same-mark T.unallocated e = refl

module _ (size v opc : ℕ) (h : (size < 4) × (v < 2) × (opc < 4)) where
  -- the class by the mnemonic
  class-by-name : class_from (row_from (T.row_of size v opc)) ≡ class_of_row (T.row_of size v opc)
  unfolding T.row_of every choose
  class-by-name =
      let r = T.row_of size v opc in
      same-mark r (agree-is (marks_ldrsw (class_from (row_from r))) (marks_ldrsw (class_of_row r))
      (each-cell (λ s v o. agree (marks_ldrsw (class_from (row_from (T.row_of s v o)))) (marks_ldrsw (class_of_row (T.row_of s v o)))) refl
      size v opc h.0 h.1 h.2))

  -- what a row says
  pub class_row : (a r : Row) → a ≡ row_from (T.row_of size v opc) → a ≡ r → class_from r ≡ class_of_row (T.row_of size v opc)
  class_row a r g k = ap class_from (sym k ∙ g) ∙ class-by-name

-- the fixed fields of an index
pub fixed_fields : (k : ℕ) → matches load_store_high k ≡ (eqb (k / 4 % 4) 1 && eqb (k / 32 % 8) 7)
fixed_fields k =
    let e : k / 4 / 4 / 2 ≡ k / 32 = ap (λ (n : ℕ). n / 2) (shr-shr k 2 2) ∙ shr-shr k 4 1 in
    rw (e, and-true (eqb (k / 32 % 8) 7))
