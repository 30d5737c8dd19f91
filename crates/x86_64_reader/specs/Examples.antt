-- Entries of the examples.
use Rattle.std.specs.Prelude.{ℕ, ◌+◌}
use Rattle.macho.specs.Reloc.{target_section}
use Rattle.macho.specs.declared.reloc.Reloc.{Reloc}

-- an entry: offset, type, size, whether pc-relative and subtracted, target, addend
abbrev pub entry : ℕ → ℕ → ℕ → ℕ → ℕ → ℕ → ℕ → Reloc
entry offset ty size pcrel subtracted target addend =
    record {
      offset = offset;
      ty = ty;
      size = size;
      is_pcrel = pcrel;
      is_subtracted = subtracted;
      target = target;
      signing = 0;
      addend = addend;
    }

-- the target of a symbol, and of a section counted from 0
abbrev pub symbol : ℕ → ℕ
symbol n = n

abbrev pub section : ℕ → ℕ
section n = target_section + n
