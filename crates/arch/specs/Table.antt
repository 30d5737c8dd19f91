-- A table of relocation records (RULES 2.10, 4.12) and the numbers of its lengths (RULES 3.9, 3.10).
use Rattle.std.specs.Prelude.{ℕ, zero, suc, ◌+◌, ◌-◌, ◌*◌, ◌/◌, ◌%◌, Bool, List, [], ◌∷◌, length, get_or, eqb, ltb, Result, Ok, Err, ⊤}
use Rattle.util.specs.Choice.{choose}
use Rattle.macho.specs.Record.{most_records}
use Rattle.macho.specs.MachRel.{mach_rel_size, mach_rel_at, type_of}
use Rattle.macho.specs.Reloc.{reloc_size}
use Rattle.macho.specs.declared.mach_rel.MachRel.{MachRel}
use Rattle.macho.specs.declared.refusal.Refusal.TheVariants.{Lengths, Slots}
use Rattle.macho.specs.declared.refusal.Refusal.{Refusal}

-- the n records from `at` on
unfoldable pub records_from : List ℕ → ℕ → ℕ → List MachRel
records_from s zero at = []
records_from s (suc n) at = mach_rel_at s at ∷ records_from s n (at + mach_rel_size)

-- how many records a list of bytes has
abbrev pub record_count : List ℕ → ℕ
record_count s = length s / mach_rel_size

-- the records of a list of bytes
unfoldable pub records_of : List ℕ → List MachRel
records_of s = records_from s (record_count s) 0

-- record i of a list
abbrev pub record_at : List MachRel → ℕ → MachRel
record_at rs i = get_or rs i (record { offset = 0; bits = 0 })

-- whether the record directly before record i is of the type SUBTRACTOR; `before` says it of the record before the list
unfoldable pub subtracted_at : ℕ → Bool → List MachRel → ℕ → Bool
subtracted_at subtractor before rs i = choose (eqb i 0) before (eqb (type_of (record_at rs (i - 1)).bits) subtractor)

-- whether the record before what follows a list is SUBTRACTOR: the list's last one, or the one before the list
abbrev pub ends_in : ℕ → Bool → List MachRel → Bool
ends_in subtractor before rs = subtracted_at subtractor before rs (length rs)

-- numbers 1 and 2, of the lengths that a reader is lent
unfoldable pub lengths_of : ℕ → ℕ → ℕ → Result ⊤ Refusal
lengths_of records sections slots =
    choose (eqb (records % mach_rel_size) 0)
    (choose (ltb most_records (records / mach_rel_size))
    (Err Lengths)
    (choose (ltb most_records sections) (Err Lengths) (choose (ltb slots (reloc_size * (records / mach_rel_size))) (Err Slots) (Ok tt))))
    (Err Lengths)
