-- Forms of relocation records, of either machine (RULES 4.6, 15.4, 15.13): each fact is about a machine's table, whichever it is.
use Rattle.std.specs.Prelude.{◌≡◌, true, false, ◌⊎◌, List, ℕ, ◌≤◌, length}
use Rattle.util.specs.Bits.{has_bit}
use Rattle.macho.specs.MachRel.{pcrel_of, p2size_of, extern_of, type_of, form_of}
use Rattle.macho.specs.Types.{ARM64_RELOC_UNSIGNED, ARM64_RELOC_SUBTRACTOR, X86_64_RELOC_UNSIGNED, X86_64_RELOC_SUBTRACTOR}
use Rattle.macho.specs.declared.mach_rel.MachRel.{MachRel}
use Rattle.arch.specs.Form.{Form, bits_of, forms_in, supported_in, table_fits}
use Rattle.arm64_reader.specs.Support as Arm64
use Rattle.x86_64_reader.specs.Support as X86

-- the machines whose records are read
pub data Machine : Type 0 where
  arm64 x86-64 : Machine

-- the table of each: for each type the forms that it takes
abbrev pub table_of : Machine → List (List Form)
table_of arm64 = Arm64.forms
table_of x86-64 = X86.forms

-- the number of UNSIGNED, and of SUBTRACTOR
abbrev pub unsigned_of : Machine → ℕ
unsigned_of arm64 = ARM64_RELOC_UNSIGNED
unsigned_of x86-64 = X86_64_RELOC_UNSIGNED

abbrev pub subtractor_of : Machine → ℕ
subtractor_of arm64 = ARM64_RELOC_SUBTRACTOR
subtractor_of x86-64 = X86_64_RELOC_SUBTRACTOR

-- forms of either machine
pub record Forms : Type 0 where
  -- a reader asks this table
  pub arm64-by-table : (r : MachRel) → Arm64.supported_of r ≡ supported_in (table_of arm64) r
  pub x86-by-table : (r : MachRel) → X86.supported_of r ≡ supported_in (table_of x86-64) r
  -- the forms of a table are such as a record can have, and then a type's forms as a set of bits have a record's form where the table has it
  pub fits : (m : Machine) → table_fits (table_of m) ≡ true
  pub supported-bits : (table : List (List Form)) (r : MachRel) → table_fits table ≡ true
      → has_bit (bits_of (forms_in table (type_of r.bits))) (form_of r.bits) ≡ supported_in table r
  -- a type past the table's end takes no form
  pub past-table : (table : List (List Form)) (r : MachRel) → length table ≤ type_of r.bits → supported_in table r ≡ false
  -- a record is about 1, 4 or 8 bytes; 8 only where it is not pc-relative, 1 only where it is and names a symbol
  pub sizes : (m : Machine) (r : MachRel) → supported_in (table_of m) r ≡ true
      → (p2size_of r.bits ≡ 0) ⊎ ((p2size_of r.bits ≡ 2) ⊎ (p2size_of r.bits ≡ 3))
  pub eight-bytes : (m : Machine) (r : MachRel) → supported_in (table_of m) r ≡ true → p2size_of r.bits ≡ 3 → pcrel_of r.bits ≡ 0
  pub one_byte : (m : Machine) (r : MachRel) → supported_in (table_of m) r ≡ true → p2size_of r.bits ≡ 0
      → (pcrel_of r.bits ≡ 1) × (extern_of r.bits ≡ 1)
  -- UNSIGNED takes the same forms on both, and so does SUBTRACTOR, which names a symbol
  pub unsigned-alike : (m n : Machine) → forms_in (table_of m) (unsigned_of m) ≡ forms_in (table_of n) (unsigned_of n)
  pub subtractor-alike : (m n : Machine) → forms_in (table_of m) (subtractor_of m) ≡ forms_in (table_of n) (subtractor_of n)
  pub subtractor-symbol : (m : Machine) (r : MachRel) → supported_in (table_of m) r ≡ true → type_of r.bits ≡ subtractor_of m → extern_of r.bits ≡ 1
