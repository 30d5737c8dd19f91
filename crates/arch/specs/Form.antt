-- Forms of a relocation record, sets of them, and a machine's table of them (Apple's relocation_info; macho/arch/mod.rs, `reloc_form` and `has_reloc_form`;
-- RULES 2.11, 4.6, 15.4).
use Rattle.std.specs.Prelude.{ℕ, zero, suc, ◌+◌, ◌*◌, ◌^◌, Bool, true, false, ◌&&◌, ◌||◌, List, [], ◌∷◌, ◌++◌, eqb, ltb, get_or}
use Rattle.std.specs.Int.Bits.{bit_or}
use Rattle.util.specs.Choice.{choose}
use Rattle.macho.specs.MachRel.{pcrel_of, p2size_of, extern_of, type_of}
use Rattle.macho.specs.declared.mach_rel.MachRel.{MachRel}

-- a form: the r_pcrel, r_length and r_extern fields of a record
pub record Form : Type 0 where
  pub pcrel : ℕ
  pub p2size : ℕ
  pub ext : ℕ

-- the form with these fields
abbrev pub form : ℕ → ℕ → ℕ → Form
form pcrel p2size ext = record { pcrel = pcrel; p2size = p2size; ext = ext }

-- the form of a record
abbrev pub form_in : MachRel → Form
form_in r = form (pcrel_of r.bits) (p2size_of r.bits) (extern_of r.bits)

-- whether two forms are the same
abbrev pub same_form : Form → Form → Bool
same_form f g = eqb f.pcrel g.pcrel && (eqb f.p2size g.p2size && eqb f.ext g.ext)

-- whether a form is one of a set, which is a list of forms
abbrev pub member : Form → List Form → Bool
member f [] = false
member f (g ∷ gs) = same_form f g || member f gs

-- a form as a number: what its fields make in bits 24 to 27 of a record
abbrev pub form_number : Form → ℕ
form_number f = f.pcrel + 2 * f.p2size + 8 * f.ext

-- a form as a bit
abbrev pub bit_of : Form → ℕ
bit_of f = 2 ^ form_number f

-- a set as bits
abbrev pub bits_of : List Form → ℕ
bits_of [] = 0
bits_of (f ∷ fs) = bit_or (bit_of f) (bits_of fs)

-- whether the fields of a set's forms are such as a record can have: one, two and one bits
abbrev pub fields_fit : List Form → Bool
fields_fit [] = true
fields_fit (f ∷ fs) = ltb f.pcrel 2 && (ltb f.p2size 4 && (ltb f.ext 2 && fields_fit fs))

-- ---- a machine's table, which has for each type the forms that it takes

-- the forms of a type: none past the table's end
abbrev pub forms_in : List (List Form) → ℕ → List Form
forms_in table ty = get_or table ty []

-- whether a record has a form that its type takes
abbrev pub supported_in : List (List Form) → MachRel → Bool
supported_in table r = member (form_in r) (forms_in table (type_of r.bits))

-- whether every form of a table has fields such as a record can have
abbrev pub table_fits : List (List Form) → Bool
table_fits [] = true
table_fits (fs ∷ table) = fields_fit fs && table_fits table

-- the numbers below n, in bits 24 to 31 of a record its type and form, that a table has
abbrev pub applied_below : List (List Form) → ℕ → List ℕ
applied_below table zero = []
applied_below table (suc n) = applied_below table n ++ choose (supported_in table (record { offset = 0; bits = n * 2 ^ 24 })) (n ∷ []) []
