-- The manual's rows (RULES 7.5) as the generator has them (RULES 7.33): without what a load puts above the bits that it read.
use Rattle.std.specs.Prelude.{Bool, true, false}
use Rattle.arm64_insn.specs.LoadStoreTable as T
use Rattle.arm64_ldst_class.specs.Row.{is_vector}
use Rattle.ldst_table_rows.specs.declared.rows.Mnemonic.{Mnemonic}
use Rattle.ldst_table_rows.specs.declared.rows.Mnemonic.TheVariants.{Strb, Ldrb, Ldrsb, Strh, Ldrh, Ldrsh, Str, Ldr, Ldrsw, Prfm}
use Rattle.ldst_table_rows.specs.declared.rows.Row.{Row}
use Rattle.ldst_table_rows.specs.declared.rows.Row.TheVariants.{Load, Store, Prefetch, Unallocated}

-- a mnemonic of the manual
abbrev pub mnemonic_of : T.Mnemonic → Mnemonic
mnemonic_of T.STRB = Strb
mnemonic_of T.LDRB = Ldrb
mnemonic_of T.LDRSB = Ldrsb
mnemonic_of T.STRH = Strh
mnemonic_of T.LDRH = Ldrh
mnemonic_of T.LDRSH = Ldrsh
mnemonic_of T.STR = Str
mnemonic_of T.LDR = Ldr
mnemonic_of T.LDRSW = Ldrsw
mnemonic_of T.PRFM = Prfm

-- a row of the manual
abbrev pub row_from : T.Row → Row
row_from (T.load m r n w) = Load (mnemonic_of m) (is_vector r) n
row_from (T.store m r n) = Store (mnemonic_of m) (is_vector r) n
row_from (T.prefetch m) = Prefetch (mnemonic_of m)
row_from T.unallocated = Unallocated

-- whether a mnemonic is LDRSW
abbrev pub is_ldrsw_name : Mnemonic → Bool
is_ldrsw_name Ldrsw = true
is_ldrsw_name _ = false
