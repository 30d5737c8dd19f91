-- Relocation records into entries (arch/x86_64.rs, `read_relocs`; RULES 15.1, 15.2).
use Rattle.std.specs.Prelude.{Bool, false, List, ℕ, length, Result}
use Rattle.macho.specs.declared.mach_rel.MachRel.{MachRel}
use Rattle.macho.specs.declared.refusal.Refusal.{Refusal}
use Rattle.arch.specs.Table.{records_of, lengths_of}
use Rattle.arch.specs.Walk.{Reading, read_all, checked, answer_of, slots_after}
use Rattle.x86_64_reader.specs.Record.{step_at}

-- what a list of records reads to, in a section with these contents at an address; `before` says whether the record before the list is SUBTRACTOR
unfoldable pub read_records : List ℕ → List ℕ → ℕ → Bool → List MachRel → Reading
read_records contents sections address before rs = read_all (step_at contents sections address before rs) (length rs)

-- what the bytes of a table of records read to
abbrev pub read_table : List ℕ → List ℕ → List ℕ → ℕ → Reading
read_table contents records sections address = read_records contents sections address false (records_of records)

-- what a call reads: numbers 1 and 2 by the lengths that it is lent, then what the table reads to
unfoldable pub read_relocs : List ℕ → List ℕ → List ℕ → ℕ → List ℕ → Reading
read_relocs contents records sections address slots =
    checked (lengths_of (length records) (length sections) (length slots)) (read_table contents records sections address)

-- what it answers to what was lent
abbrev pub answer_to : List ℕ → List ℕ → List ℕ → ℕ → List ℕ → Result ℕ Refusal
answer_to contents records sections address slots = answer_of (read_relocs contents records sections address slots)

-- the slots after it
abbrev pub slots_to : List ℕ → List ℕ → List ℕ → ℕ → List ℕ → List ℕ
slots_to contents records sections address slots = slots_after (read_relocs contents records sections address slots) slots
