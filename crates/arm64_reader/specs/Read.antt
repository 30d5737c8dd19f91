-- Relocation records into entries (arch/arm64.rs, `read_relocs`; RULES 3.4, 4.2), and what a list of records leaves to those after it (RULES 4.15).
use Rattle.std.specs.Prelude.{◌≡◌, Bool, false, List, ℕ, ◌-◌, length, Result}
use Rattle.macho.specs.MachRel.{type_of}
use Rattle.macho.specs.Types.{ARM64_RELOC_SUBTRACTOR, ARM64_RELOC_ADDEND}
use Rattle.macho.specs.declared.mach_rel.MachRel.{MachRel}
use Rattle.macho.specs.declared.refusal.Refusal.{Refusal}
use Rattle.arch.specs.Table as Table
use Rattle.arch.specs.Table.{records_of, record_at, lengths_of}
use Rattle.arch.specs.Walk.{Reading, read_all, checked, answer_of, slots_after}
use Rattle.arm64_reader.specs.Record.{step_at}

-- what a list of records reads to; `before` says whether the record before the list is SUBTRACTOR
unfoldable pub read_records : List ℕ → List ℕ → Bool → List MachRel → Reading
read_records contents sections before rs = read_all (step_at contents sections before rs) (length rs)

-- whether the record before what follows a list is SUBTRACTOR: the list's last one, or the one before the list
abbrev pub ends_in : Bool → List MachRel → Bool
ends_in before rs = Table.ends_in ARM64_RELOC_SUBTRACTOR before rs

-- the last record of a list is no ADDEND
abbrev pub NoLastAddend : List MachRel → Type 0
NoLastAddend rs = type_of (record_at rs (length rs - 1)).bits ≡ ARM64_RELOC_ADDEND → ⊥

-- what the bytes of a table of records read to
abbrev pub read_table : List ℕ → List ℕ → List ℕ → Reading
read_table contents records sections = read_records contents sections false (records_of records)

-- what a call reads: numbers 1 and 2 by the lengths that it is lent, then what the table reads to
unfoldable pub read_relocs : List ℕ → List ℕ → List ℕ → List ℕ → Reading
read_relocs contents records sections slots = checked (lengths_of (length records) (length sections) (length slots)) (read_table contents records sections)

-- what it answers to what was lent
abbrev pub answer_to : List ℕ → List ℕ → List ℕ → List ℕ → Result ℕ Refusal
answer_to contents records sections slots = answer_of (read_relocs contents records sections slots)

-- the slots after it
abbrev pub slots_to : List ℕ → List ℕ → List ℕ → List ℕ → List ℕ
slots_to contents records sections slots = slots_after (read_relocs contents records sections slots) slots
