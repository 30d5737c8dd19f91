-- Relocation records: the round trips of macho, and the tables of the reader.
use mathlib.Core.Path.{refl}
use mathlib.Core.List.{List}
use Prim.Native.Nat.{ℕ}
use Rattle.macho.specs.Record.{Field}
use Rattle.macho.proofs.RoundTrip as Records
use Rattle.macho.proofs.RoundTrip.{Layout, value-of-bytes, bytes-of-value}
use Rattle.macho.proofs.Packed as Packed
use Rattle.arm64_reader.proofs.HeaderForms as Forms
use Rattle.arm64_reader.proofs.HeaderTables as Meaning
use Rattle.arm64_reader.proofs.Tables as Tables
use Rattle.arm64_reader.proofs.Joins as Joins
use Rattle.arm64_reader.proofs.Fields as Fields
use Rattle.arm64_reader.proofs.Examples as Examples
use Rattle.claims.specs.Header.{RoundTrip, Header}

-- a layout's record goes both ways
both : {A : Type 0} {n : ℕ} {value : List ℕ → ℕ → A} {fields : A → List Field} {image : A → List ℕ} → Layout n value fields image
    → RoundTrip n value fields image
both l = (λ a xs ys fits. value-of-bytes l a xs ys _ refl fits, bytes-of-value l)

pub header : Header
header =
    record {
      relocation-record = both Records.mach_rel;
      entry = both Records.reloc;
      resolved-target = both Records.resolved;
      report = both Records.report;
      hint = both Records.hint;
      rule-record = both Records.rule_record;
      packed = Packed.packed;
      unpacked = Packed.unpacked;
      form-fields = Packed.form-fields;
      report-ignores = Records.report-ignores;
      hint-ignores = Records.hint-ignores;
      entry-signing = Records.reloc-signing;
      applied = Forms.applied;
      applied-in-header = Forms.applied-in-header;
      same-meaning = Meaning.same-meaning;
      refused-only = Meaning.refused-only;
      call-refused-only = Meaning.call-refused-only;
      tolerated-only = Meaning.tolerated-only;
      tolerated = Examples.undefined-read;
      not-tolerated = Examples.undefined-refused;
      defined-refused = Examples.defined-refused;
      fields = Fields.fields;
      count = Fields.count;
      append = Tables.read-append;
      append-bytes = Tables.table-append;
      join = Joins.join-reads;
      moved_twice = Joins.later-twice;
    }
