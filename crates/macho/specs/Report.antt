-- A report, 24 bytes (RULES 2.20, 2.21).
use Rattle.std.specs.Prelude.{ℕ, ◌+◌, List, [], ◌∷◌}
use Rattle.util.specs.Word.{le}
use Rattle.macho.specs.Record.{Field, ◌of◌, unused, bytes_of}
use Rattle.macho.specs.declared.report.Report.{Report}
use Rattle.macho.specs.declared.report.Kind.{Kind}
use Rattle.macho.specs.declared.report.Kind.TheVariants.{AdrpReach, BranchReach, Alignment, NonLdr}

-- its size in bytes
abbrev pub report_size : ℕ
report_size = 24

-- the report from byte `at` on
unfoldable pub report_at : List ℕ → ℕ → Report
report_at s at =
    record {
      entry = le 4 s at;
      kind = le 1 s (at + 4);
      size = le 1 s (at + 5);
      place = le 8 s (at + 8);
      target = le 8 s (at + 16);
    }

-- its fields in order
abbrev pub report_fields : Report → List Field
report_fields r = 4 of r.entry ∷ 1 of r.kind ∷ 1 of r.size ∷ unused ∷ unused ∷ 8 of r.place ∷ 8 of r.target ∷ []

-- its bytes
unfoldable pub report_bytes : Report → List ℕ
report_bytes r = bytes_of (report_fields r)

-- kind 1: ADRP reach
abbrev pub adrp_reach : ℕ
adrp_reach = 1

-- kind 2: branch reach
abbrev pub branch_reach : ℕ
branch_reach = 2

-- kind 3: alignment
abbrev pub alignment : ℕ
alignment = 3

-- kind 4: non-LDR
abbrev pub non_ldr : ℕ
non_ldr = 4

-- the number of each kind
abbrev pub kind_number : Kind → ℕ
kind_number AdrpReach = adrp_reach
kind_number BranchReach = branch_reach
kind_number Alignment = alignment
kind_number NonLdr = non_ldr
