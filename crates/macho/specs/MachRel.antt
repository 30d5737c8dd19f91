-- A relocation record of an object file: Apple's `struct relocation_info` (mach-o/reloc.h; RULES 2.10 to 2.12).
use Rattle.std.specs.Prelude.{ℕ, ◌+◌, ◌*◌, ◌^◌, List, [], ◌∷◌}
use Rattle.util.specs.Word.{le}
use Rattle.util.specs.Bits.{field}
use Rattle.macho.specs.Record.{Field, ◌of◌, bytes_of}
use Rattle.macho.specs.declared.mach_rel.MachRel.{MachRel}

-- its size in bytes
abbrev pub mach_rel_size : ℕ
mach_rel_size = 8

-- the record from byte `at` on: r_address, then the packed fields
unfoldable pub mach_rel_at : List ℕ → ℕ → MachRel
mach_rel_at s at = record { offset = le 4 s at; bits = le 4 s (at + 4) }

-- its fields in order
abbrev pub mach_rel_fields : MachRel → List Field
mach_rel_fields r = 4 of r.offset ∷ 4 of r.bits ∷ []

-- its bytes
unfoldable pub mach_rel_bytes : MachRel → List ℕ
mach_rel_bytes r = bytes_of (mach_rel_fields r)

-- r_symbolnum: a symbol's number, or a section's ordinal from 1
abbrev pub idx_of : ℕ → ℕ
idx_of bits = field bits 0 24

-- r_pcrel: 1 where the place's own address is taken off
abbrev pub pcrel_of : ℕ → ℕ
pcrel_of bits = field bits 24 1

-- r_length: the power of two that is the size in bytes
abbrev pub p2size_of : ℕ → ℕ
p2size_of bits = field bits 25 2

-- r_extern: 1 where r_symbolnum is a symbol's number
abbrev pub extern_of : ℕ → ℕ
extern_of bits = field bits 27 1

-- r_type
abbrev pub type_of : ℕ → ℕ
type_of bits = field bits 28 4

-- the form: r_pcrel, r_length and r_extern as one number
abbrev pub form_of : ℕ → ℕ
form_of bits = field bits 24 4

-- the packed fields of an index, r_pcrel, r_length, r_extern and a type
abbrev pub bits_of : ℕ → ℕ → ℕ → ℕ → ℕ → ℕ
bits_of idx pcrel p2size ext ty = idx + 2 ^ 24 * pcrel + 2 ^ 25 * p2size + 2 ^ 27 * ext + 2 ^ 28 * ty
