-- What a relocation record adds (arch/x86_64.rs, `read_relocs` and `reloc_bias`; RULES 15.5 to 15.7).
use Rattle.std.specs.Prelude.{ℕ, ◌+◌, List, eqb}
use Rattle.util.specs.Bits.{extend}
use Rattle.util.specs.Choice.{choose}
use Rattle.util.specs.Word.{le}
use Rattle.util.specs.Wrap.{sum, diff}
use Rattle.macho.specs.MachRel.{pcrel_of, p2size_of, extern_of, type_of}
use Rattle.macho.specs.Types.{X86_64_RELOC_SIGNED_1, X86_64_RELOC_SIGNED_2, X86_64_RELOC_SIGNED_4}
use Rattle.macho.specs.declared.mach_rel.MachRel.{MachRel}

-- how many bytes are read for r_length 0, 2 and 3, which are all that a supported record has
unfoldable pub width_of : ℕ → ℕ
width_of p2size = choose (eqb p2size 0) 1 (choose (eqb p2size 2) 4 8)

-- the bytes of the instruction after the field, which the type tells: a displacement counts from the instruction's end
unfoldable pub bias_of : ℕ → ℕ
bias_of ty = choose (eqb ty X86_64_RELOC_SIGNED_1) 1 (choose (eqb ty X86_64_RELOC_SIGNED_2) 2 (choose (eqb ty X86_64_RELOC_SIGNED_4) 4 0))

-- the signed number that stands in so many bytes, as the 64 bits that hold it
unfoldable pub embedded_at : List ℕ → ℕ → ℕ → ℕ
embedded_at contents at p2size =
    choose (eqb p2size 0) (extend (le 1 contents at) 8) (choose (eqb p2size 2) (extend (le 4 contents at) 32) (le 8 contents at))

-- the number in a record's own bytes, plus the bias
abbrev pub own_in : List ℕ → MachRel → ℕ
own_in contents r = sum (embedded_at contents r.offset (p2size_of r.bits)) (bias_of (type_of r.bits))

-- what a record adds: for a symbol that number; for a section the address that is meant, which is the number itself, or where the field is pc-relative
-- counts from its end: the section's own address, the offset and 4
unfoldable pub added_by : List ℕ → ℕ → MachRel → ℕ
added_by contents address r =
    choose (eqb (extern_of r.bits) 1) (own_in contents r)
    (choose (eqb (pcrel_of r.bits) 1) (sum (sum address (r.offset + 4)) (own_in contents r)) (own_in contents r))

-- the displacement that a linker writes for a type at a place, to reach a target: it counts from the end of the instruction, which is 4 bytes and the bias
-- further on (arch/x86_64.rs, `rip32_displacement`)
abbrev pub displacement : ℕ → ℕ → ℕ → ℕ
displacement ty place target = diff (diff target (sum place 4)) (bias_of ty)
