-- Lengths that are enough, and empty lists: the laws of `arch`, of what this table reads to.
use mathlib.Core.Path.{◌≡◌, refl}
use mathlib.Core.List.{List, []}
use Prim.Native.Nat.{ℕ, zero-le, ◌*◌, ◌/◌, ◌%◌, ◌^◌, ◌<◌, ◌≤◌}
use native.Mathlib.Omega.{arith}
use lib.ListN.{length}
use Rattle.macho.specs.declared.reloc.Reloc.{Reloc}
use Rattle.arch.specs.Table.{records_from, records_of}
use Rattle.arch.specs.Walk.{entries, read_from, read_all}
use Rattle.arch.proofs.Lengths as Lent
use Rattle.arm64_reader.specs.Read.{read_records, read_table, read_relocs}

module _ (contents records sections slots : List ℕ) where
  -- where the lengths are right, what the table reads to
  pub enough : length records % 8 ≡ 0 → length records / 8 < 2 ^ 32 → length sections < 2 ^ 32 → 24 * (length records / 8) ≤ length slots
      → read_relocs contents records sections slots ≡ read_table contents records sections
  unfolding read_relocs
  enough w n m h = Lent.enough _ _ _ _ w n m h

  -- a call that fills gives what the table reads to
  pub filled : {es : List Reloc} → read_relocs contents records sections slots ≡ entries es → read_table contents records sections ≡ entries es
  unfolding read_relocs
  filled e = Lent.filled _ _ _ _ e

-- an empty list of records succeeds with no entry, whatever the contents and slots, empty ones too
pub empty : (contents sections slots : List ℕ) → length sections < 2 ^ 32 → read_relocs contents [] sections slots ≡ entries []
unfolding read_records records_of records_from read_all read_from
empty contents sections slots h = enough contents [] sections slots refl (omega arith) h zero-le
