-- What a reader gives for what it is lent, whatever the machine's step.
use Rattle.std.specs.Prelude.{ℕ, List, length, Result}
use Rattle.macho.specs.declared.refusal.Refusal.{Refusal}
use Rattle.macho.specs.declared.reloc.Reloc.{Reloc}
use Rattle.arch.specs.Table.{record_count, lengths_of}
use Rattle.arch.specs.Walk.{Reading, read_all, checked}
use Rattle.arch.specs.declared.lent.Lent.{Lent}

-- what the table of records reads to
abbrev pub read_table : (ℕ → Result (Reloc × ℕ) Refusal) → Lent → Reading
read_table step lent = read_all step (record_count lent.records.now)

-- what a call with these slots reads: numbers 1 and 2 by the lengths that it is lent, then what the table reads to
abbrev pub read_call : (ℕ → Result (Reloc × ℕ) Refusal) → Lent → List ℕ → Reading
read_call step lent slots = checked (lengths_of (length lent.records.now) (length lent.sections.now) (length slots)) (read_table step lent)
