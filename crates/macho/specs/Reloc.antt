-- An entry, 24 bytes (RULES 2.15, 2.16).
use Rattle.std.specs.Prelude.{ℕ, ◌+◌, ◌^◌, Bool, List, [], ◌∷◌}
use Rattle.util.specs.Word.{le}
use Rattle.util.specs.Bits.{has_bit}
use Rattle.macho.specs.Record.{Field, ◌of◌, bytes_of}
use Rattle.macho.specs.declared.reloc.Reloc.{Reloc}

-- its size in bytes
abbrev pub reloc_size : ℕ
reloc_size = 24

-- the entry from byte `at` on
unfoldable pub reloc_at : List ℕ → ℕ → Reloc
reloc_at s at =
    record {
      offset = le 4 s at;
      ty = le 1 s (at + 4);
      size = le 1 s (at + 5);
      is_pcrel = le 1 s (at + 6);
      is_subtracted = le 1 s (at + 7);
      target = le 4 s (at + 8);
      signing = le 4 s (at + 12);
      addend = le 8 s (at + 16);
    }

-- its fields in order
abbrev pub reloc_fields : Reloc → List Field
reloc_fields r =
    4 of r.offset ∷ 1 of r.ty ∷ 1 of r.size ∷ 1 of r.is_pcrel ∷ 1 of r.is_subtracted ∷ 4 of r.target ∷ 4 of r.signing ∷ 8 of r.addend ∷ []

-- its bytes
unfoldable pub reloc_bytes : Reloc → List ℕ
reloc_bytes r = bytes_of (reloc_fields r)

-- an entry with another word for how its pointer is signed
abbrev pub with_signing : Reloc → ℕ → Reloc
with_signing r x =
    record {
      offset = r.offset;
      ty = r.ty;
      size = r.size;
      is_pcrel = r.is_pcrel;
      is_subtracted = r.is_subtracted;
      target = r.target;
      signing = x;
      addend = r.addend;
    }

-- the bit of a target that names a section
abbrev pub target_section : ℕ
target_section = 2 ^ 31

-- whether a target has it: bit 31
abbrev pub is_section : ℕ → Bool
is_section target = has_bit target 31
