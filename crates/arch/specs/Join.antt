-- What two tables, one after the other, read to (RULES 4.15, 15.10), and sections with their tables (RULES 4.23).
use Rattle.std.specs.Prelude.{ℕ, ◌+◌, ◌%◌, ◌^◌, ◌++◌, map, Result, Ok, Err}
use Rattle.macho.specs.declared.mach_rel.MachRel.{MachRel}
use Rattle.macho.specs.declared.reloc.Reloc.{Reloc}
use Rattle.macho.specs.declared.refusal.Refusal.{Refusal}
use Rattle.arch.specs.Walk.{Reading, refused, entries}

-- the entries of the first, then those of the second, or the first refusal
abbrev pub joined : Reading → Reading → Reading
joined (refused x) b = refused x
joined (entries es) (refused x) = refused x
joined (entries es) (entries fs) = entries (es ++ fs)

-- an answer with each entry changed
abbrev pub mapped : (Reloc → Reloc) → Reading → Reading
mapped f (refused x) = refused x
mapped f (entries es) = entries (map f es)

-- a step of a table that stands d records further on, with its entry changed
abbrev pub moved : ℕ → (Reloc → Reloc) → Result (Reloc × ℕ) Refusal → Result (Reloc × ℕ) Refusal
moved d f (Err x) = Err x
moved d f (Ok (e, next)) = Ok (f e, d + next)

-- a record of a section that stands d bytes further on: its offset has 32 bits
abbrev pub record_later : ℕ → MachRel → MachRel
record_later d r = record { offset = (r.offset + d) % 2 ^ 32; bits = r.bits }

-- an entry of such a section
abbrev pub entry_later : ℕ → Reloc → Reloc
entry_later d e =
    record {
      offset = e.offset + d;
      ty = e.ty;
      size = e.size;
      is_pcrel = e.is_pcrel;
      is_subtracted = e.is_subtracted;
      target = e.target;
      signing = e.signing;
      addend = e.addend;
    }
