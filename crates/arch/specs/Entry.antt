-- The entry of a record (RULES 4.11, 15.8, 2.15; input_sections.rs, `Reloc`).
use Rattle.std.specs.Prelude.{ℕ, ◌^◌, Bool, List, Result, Ok, Err}
use Rattle.util.specs.Choice.{flag}
use Rattle.macho.specs.MachRel.{pcrel_of, p2size_of, type_of}
use Rattle.macho.specs.declared.mach_rel.MachRel.{MachRel}
use Rattle.macho.specs.declared.reloc.Reloc.{Reloc}
use Rattle.macho.specs.declared.refusal.Refusal.{Refusal}
use Rattle.arch.specs.Target.{target_of}

-- the entry of a record, at an offset, with a target and an addend
abbrev pub entry_of : MachRel → Bool → ℕ → ℕ → ℕ → Reloc
entry_of r subtracted offset target addend =
    record {
      offset = offset;
      ty = type_of r.bits;
      size = 2 ^ p2size_of r.bits;
      is_pcrel = pcrel_of r.bits;
      is_subtracted = flag subtracted;
      target = target;
      signing = 0;
      addend = addend;
    }

-- the step that reads the entry with a target, and goes on at record `next`
abbrev pub enter : MachRel → Bool → ℕ → ℕ → Result (ℕ × ℕ) Refusal → Result (Reloc × ℕ) Refusal
enter r subtracted offset next (Ok (target, addend)) = Ok (entry_of r subtracted offset target addend, next)
enter r subtracted offset next (Err x) = Err x

-- the same with the record's own target
unfoldable pub targeted : List ℕ → MachRel → Bool → ℕ → ℕ → ℕ → Result (Reloc × ℕ) Refusal
targeted sections r subtracted offset addend next = enter r subtracted offset next (target_of sections r addend)
