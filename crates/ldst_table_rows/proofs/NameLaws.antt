-- How long the names of rows are at most.
use mathlib.Core.List.{List}
use Prim.Native.Nat.{ℕ, ◌≤◌}
use native.Mathlib.Omega.{arith}
use lib.Dec.{lit≤}
use lib.ListN.{length, length-append}
use Rattle.util.specs.Diagram.{matches}
use Rattle.util.proofs.Choice.{chosen}
use Rattle.arm64_insn.specs.Encoding.{load_store_high}
use Rattle.arm64_insn.specs.LoadStoreTable.{row_of}
use Rattle.arm64_ldst_class.specs.Row.{size_at, v_at, opc_at}
use Rattle.ldst_table_rows.specs.Rows.{row_from}
use Rattle.ldst_table_rows.specs.Names.{mnemonic_name, row_name, name_at}
use Rattle.ldst_table_rows.specs.declared.rows.Mnemonic.{Mnemonic}
use Rattle.ldst_table_rows.specs.declared.rows.Mnemonic.TheVariants.{Strb, Ldrb, Ldrsb, Strh, Ldrh, Ldrsh, Str, Ldr, Ldrsw, Prfm}
use Rattle.ldst_table_rows.specs.declared.rows.Row.{Row}
use Rattle.ldst_table_rows.specs.declared.rows.Row.TheVariants.{Load, Store, Prefetch, Unallocated}

mnemonic-length : (m : Mnemonic) → length (mnemonic_name m) ≤ 5
mnemonic-length Strb = lit≤ tt
mnemonic-length Ldrb = lit≤ tt
mnemonic-length Ldrsb = lit≤ tt
mnemonic-length Strh = lit≤ tt
mnemonic-length Ldrh = lit≤ tt
mnemonic-length Ldrsh = lit≤ tt
mnemonic-length Str = lit≤ tt
mnemonic-length Ldr = lit≤ tt
mnemonic-length Ldrsw = lit≤ tt
mnemonic-length Prfm = lit≤ tt

pub row_length : (r : Row) → length (row_name r) ≤ 11
row_length (Load m v n) = omega (arith, mnemonic-length m)
row_length (Store m v n) = omega (arith, mnemonic-length m)
row_length (Prefetch m) = omega (arith, mnemonic-length m)
row_length Unallocated = lit≤ tt

pub name_length : (k : ℕ) → length (name_at k) ≤ 13
unfolding name_at
name_length k =
    let r = row_from (row_of (size_at k) (v_at k) (opc_at k)) in
    chosen (λ (l : List ℕ). length l ≤ 13) (matches load_store_high k) _ _ (simp length-append (omega (arith, row_length r))) (lit≤ tt)
