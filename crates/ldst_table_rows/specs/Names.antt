-- The names of the rows in the comments of the table (RULES 7.33), as ASCII codes.
use Rattle.std.specs.Prelude.{ℕ, List, [], ◌++◌}
use Rattle.util.specs.Choice.{choose}
use Rattle.util.specs.Diagram.{matches}
use Rattle.text.specs.Digits.{ascii}
use Rattle.arm64_insn.specs.Encoding.{load_store_high}
use Rattle.arm64_insn.specs.LoadStoreTable.{row_of}
use Rattle.arm64_ldst_class.specs.Row.{size_at, v_at, opc_at}
use Rattle.ldst_table_rows.specs.Rows.{row_from}
use Rattle.ldst_table_rows.specs.declared.rows.Mnemonic.{Mnemonic}
use Rattle.ldst_table_rows.specs.declared.rows.Mnemonic.TheVariants.{Strb, Ldrb, Ldrsb, Strh, Ldrh, Ldrsh, Str, Ldr, Ldrsw, Prfm}
use Rattle.ldst_table_rows.specs.declared.rows.Row.{Row}
use Rattle.ldst_table_rows.specs.declared.rows.Row.TheVariants.{Load, Store, Prefetch, Unallocated}

-- the manual's spelling of a mnemonic
abbrev pub mnemonic_name : Mnemonic → List ℕ
mnemonic_name Strb = ascii "STRB"
mnemonic_name Ldrb = ascii "LDRB"
mnemonic_name Ldrsb = ascii "LDRSB"
mnemonic_name Strh = ascii "STRH"
mnemonic_name Ldrh = ascii "LDRH"
mnemonic_name Ldrsh = ascii "LDRSH"
mnemonic_name Str = ascii "STR"
mnemonic_name Ldr = ascii "LDR"
mnemonic_name Ldrsw = ascii "LDRSW"
mnemonic_name Prfm = ascii "PRFM"

-- the name of a row
abbrev pub row_name : Row → List ℕ
row_name (Load m v n) = mnemonic_name m
row_name (Store m v n) = mnemonic_name m
row_name (Prefetch m) = mnemonic_name m
row_name Unallocated = ascii "unallocated"

-- `STRB: ` and so on for an index that has the fixed fields of a load or store, and nothing for any other
unfoldable pub name_at : ℕ → List ℕ
name_at k = choose (matches load_store_high k) (row_name (row_from (row_of (size_at k) (v_at k) (opc_at k))) ++ ascii ": ") []
