-- What stands at one relocation record (arch/x86_64.rs, a turn of `read_relocs`; RULES 15.2 to 15.8).
use Rattle.std.specs.Prelude.{ℕ, ◌+◌, Bool, List, length, ltb, Result, Ok, Err, ⊤}
use Rattle.util.specs.Choice.{choose}
use Rattle.macho.specs.MachRel.{p2size_of}
use Rattle.macho.specs.Types.{X86_64_RELOC_SUBTRACTOR}
use Rattle.macho.specs.declared.mach_rel.MachRel.{MachRel}
use Rattle.macho.specs.declared.reloc.Reloc.{Reloc}
use Rattle.macho.specs.declared.refusal.Refusal.TheVariants.{Bounds, Unsupported, NoSection}
use Rattle.macho.specs.declared.refusal.Refusal.{Refusal}
use Rattle.arch.specs.Entry.{entry_of}
use Rattle.arch.specs.Table.{record_at, subtracted_at}
use Rattle.arch.specs.Target.{is_there, target_in, addend_in}
use Rattle.arch.specs.Walk.{passing}
use Rattle.x86_64_reader.specs.Support.{supported_of}
use Rattle.x86_64_reader.specs.Addend.{width_of, added_by}

-- the numbers of a record, by the size of its section and the number of sections: 5, 3, 7
unfoldable pub check_reloc : ℕ → ℕ → MachRel → Result ⊤ Refusal
check_reloc size count r =
    choose (supported_of r)
    (choose (ltb size (r.offset + width_of (p2size_of r.bits))) (Err Bounds) (choose (is_there count r) (Ok tt) (Err NoSection)))
    (Err Unsupported)

-- the entry of a record in a section at an address
abbrev pub entry_in : List ℕ → List ℕ → ℕ → MachRel → Bool → Reloc
entry_in contents sections address r subtracted =
    entry_of r subtracted r.offset (target_in r) (addend_in sections r (added_by contents address r))

-- the entry of record i of a list; `before` says whether the record before the list is SUBTRACTOR
unfoldable pub entry_at : List ℕ → List ℕ → ℕ → Bool → List MachRel → ℕ → Reloc
entry_at contents sections address before rs i =
    entry_in contents sections address (record_at rs i) (subtracted_at X86_64_RELOC_SUBTRACTOR before rs i)

-- what stands at record i: a refusal, or its entry, and the walk goes on at the next record
unfoldable pub step_at : List ℕ → List ℕ → ℕ → Bool → List MachRel → ℕ → Result (Reloc × ℕ) Refusal
step_at contents sections address before rs i =
    passing (check_reloc (length contents) (length sections) (record_at rs i)) (Ok (entry_at contents sections address before rs i, i + 1))
