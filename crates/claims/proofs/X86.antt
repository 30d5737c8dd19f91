-- The reader of x86_64: the laws of its crate, and those of `arch` of its lengths.
use mathlib.Core.Path.{refl}
use mathlib.Core.List.{[]}
use Prim.Native.Nat.{zero-le}
use native.Mathlib.Omega.{arith}
use lib.ListN.{length}
use Rattle.util.specs.Choice.{choose}
use Rattle.arch.specs.Table.{records_from, records_of}
use Rattle.arch.specs.Walk.{read_from, read_all}
use Rattle.arch.proofs.Lengths as Lengths
use Rattle.x86_64_reader.specs.Read.{read_records, read_table, read_relocs}
use Rattle.x86_64_reader.proofs.Steps as Steps
use Rattle.x86_64_reader.proofs.Tables as Tables
use Rattle.x86_64_reader.proofs.Fields as Fields
use Rattle.x86_64_reader.proofs.Ignored as Ignored
use Rattle.x86_64_reader.proofs.Means as Means
use Rattle.x86_64_reader.proofs.Worked as Worked
use Rattle.x86_64_reader.proofs.Examples as Examples
use Rattle.claims.specs.X86.{X86}
use Rattle.claims.proofs.Numbers.{numbered}

pub x86 : X86
unfolding read_relocs read_records records_of records_from read_all read_from choose
x86 =
    record {
      applied = refl;
      width = Means.width_is;
      step = Steps.step-targeted;
      biased = Means.biased;
      unbiased = Means.unbiased;
      records-not-whole = λ contents records sections address slots h.
          numbered (Lengths.not-whole (length records) (length sections) (length slots) (read_table contents records sections address) h);
      many-records = λ contents records sections address slots h.
          numbered (Lengths.many-records (length records) (length sections) (length slots) (read_table contents records sections address) h);
      many-sections = λ contents records sections address slots h.
          numbered (Lengths.many-sections (length records) (length sections) (length slots) (read_table contents records sections address) h);
      few-slots = λ contents records sections address slots w n m h.
          numbered (Lengths.few-slots (length records) (length sections) (length slots) (read_table contents records sections address) w n m h);
      enough = λ contents records sections address slots w n m h.
          Lengths.enough (length records) (length sections) (length slots) (read_table contents records sections address) w n m h;
      reads = Fields.reads;
      reads_only = Fields.reads_only;
      first-refused = Fields.first-refused;
      by_lengths = Fields.by_lengths;
      count = λ contents records sections address slots es e.
          Fields.table-count contents sections address records es
          (Lengths.filled (length records) (length sections) (length slots) (read_table contents records sections address) e);
      append = Tables.read-append;
      append-bytes = Tables.table-append;
      no-records = λ contents sections address slots h.
          Lengths.enough 0 (length sections) (length slots) (read_table contents [] sections address) refl (omega arith) h zero-le;
      slots-ignored = Ignored.slots-ignored;
      contents-ignored = λ contents others sections addresses address elsewhere first rs size ordinals same.
          Ignored.contents-ignored contents others sections addresses address elsewhere first rs size ordinals same;
      displacement-kept = Means.displacement-kept;
      turned_down = Examples.turned_down;
      fit = Examples.fit;
      first-number = Examples.first-number;
      worked-text = Worked.text;
      worked-far = Worked.far;
      worked-table = Worked.table;
    }
