-- What a relocation record refers to (RULES 4.10, 15.3, 15.7; Apple's reloc.h, r_symbolnum).
use Rattle.std.specs.Prelude.{ℕ, zero, suc, ◌+◌, ◌-◌, Bool, not, ◌&&◌, ◌||◌, List, length, get_or, eqb, ltb, leb, Result, Ok, Err}
use Rattle.util.specs.Choice.{choose}
use Rattle.util.specs.Wrap.{diff}
use Rattle.macho.specs.MachRel.{idx_of, extern_of}
use Rattle.macho.specs.Reloc.{target_section}
use Rattle.macho.specs.declared.mach_rel.MachRel.{MachRel}
use Rattle.macho.specs.declared.refusal.Refusal.TheVariants.{NoSection}
use Rattle.macho.specs.declared.refusal.Refusal.{Refusal}

-- the section of an ordinal that counts from 1, and an address less that section's
unfoldable pub section_target : List ℕ → ℕ → ℕ → Result (ℕ × ℕ) Refusal
section_target sections zero addend = Err NoSection
section_target sections (suc i) addend = choose (ltb i (length sections)) (Ok (target_section + i, diff addend (get_or sections i 0))) (Err NoSection)

-- a symbol where the record is extern, else a section
unfoldable pub target_of : List ℕ → MachRel → ℕ → Result (ℕ × ℕ) Refusal
target_of sections r addend = choose (eqb (extern_of r.bits) 1) (Ok (idx_of r.bits, addend)) (section_target sections (idx_of r.bits) addend)

-- ---- the same by fields

-- whether what a record names is there, of so many sections: a symbol, or a section by its ordinal
abbrev pub is_there : ℕ → MachRel → Bool
is_there count r = eqb (extern_of r.bits) 1 || (not (eqb (idx_of r.bits) 0) && leb (idx_of r.bits) count)

-- what it names: a symbol, or with bit 31 a section
abbrev pub target_in : MachRel → ℕ
target_in r = choose (eqb (extern_of r.bits) 1) (idx_of r.bits) (target_section + (idx_of r.bits - 1))

-- the addend: of a section less that section's address
abbrev pub addend_in : List ℕ → MachRel → ℕ → ℕ
addend_in sections r held = choose (eqb (extern_of r.bits) 1) held (diff held (get_or sections (idx_of r.bits - 1) 0))
