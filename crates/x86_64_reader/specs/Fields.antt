-- What the entries of a table hold, record by record (RULES 15.2 to 15.9), and what a record looks at (RULES 15.11).
use Rattle.std.specs.Prelude.{◌≡◌, Bool, true, false, List, [], ◌∷◌, ℕ, ◌-◌, eqb, get_or, Ok}
use Rattle.util.specs.Word.{le}
use Rattle.macho.specs.MachRel.{idx_of, pcrel_of, p2size_of, extern_of, type_of}
use Rattle.macho.specs.Types.{X86_64_RELOC_SUBTRACTOR}
use Rattle.macho.specs.declared.mach_rel.MachRel.{MachRel}
use Rattle.macho.specs.declared.reloc.Reloc.{Reloc}
use Rattle.x86_64_reader.specs.Addend.{width_of}
use Rattle.x86_64_reader.specs.Record.{check_reloc, entry_in}

-- whether a record is SUBTRACTOR
abbrev pub is_subtractor : MachRel → Bool
is_subtractor r = eqb (type_of r.bits) X86_64_RELOC_SUBTRACTOR

-- an entry for each record, subtracted where the record directly before is SUBTRACTOR; `before` says it of the first
abbrev pub entries_of : List ℕ → List ℕ → ℕ → Bool → List MachRel → List Reloc
entries_of contents sections address before [] = []
entries_of contents sections address before (r ∷ rs) =
    entry_in contents sections address r before ∷ entries_of contents sections address (is_subtractor r) rs

-- no record has a number
abbrev pub AllFit : ℕ → ℕ → List MachRel → Type 0
AllFit size count [] = Unit {0}
AllFit size count (r ∷ rs) = (check_reloc size count r ≡ Ok tt) × AllFit size count rs

-- two contents, two section lists and two addresses that a record does not tell apart: the bytes that it reads, the address of the section that it names, and
-- where it is a pc-relative one of a section the section's own
abbrev pub Alike : List ℕ → List ℕ → List ℕ → List ℕ → ℕ → ℕ → MachRel → Type 0
Alike contents others sections addresses address elsewhere r =
    (le (width_of (p2size_of r.bits)) contents r.offset ≡ le (width_of (p2size_of r.bits)) others r.offset)
    × (eqb (extern_of r.bits) 1 ≡ false → get_or sections (idx_of r.bits - 1) 0 ≡ get_or addresses (idx_of r.bits - 1) 0)
    × (eqb (extern_of r.bits) 1 ≡ false → eqb (pcrel_of r.bits) 1 ≡ true → address ≡ elsewhere)
