-- The records that read whatever stands at their place (RULES 4.5 to 4.11): of a symbol, with no addend stored there and no word to be checked.
use Rattle.std.specs.Prelude.{ℕ, Bool, List, [], ◌∷◌, eqb}
use Rattle.util.specs.Choice.{choose}
use Rattle.macho.specs.MachRel.{type_of}
use Rattle.macho.specs.Types.{ARM64_RELOC_SUBTRACTOR, ARM64_RELOC_BRANCH26, ARM64_RELOC_PAGE21, ARM64_RELOC_PAGEOFF12}
use Rattle.macho.specs.Types.{ARM64_RELOC_GOT_LOAD_PAGE21, ARM64_RELOC_POINTER_TO_GOT, ARM64_RELOC_TLVP_LOAD_PAGE21}
use Rattle.macho.specs.declared.mach_rel.MachRel.{MachRel}
use Rattle.arch.specs.Form.{Form, form, form_in, member}

-- the forms in which a type reads so: r_pcrel, r_length, r_extern
unfoldable pub plain_forms : ℕ → List Form
plain_forms ty =
    choose (eqb ty ARM64_RELOC_SUBTRACTOR) (form 0 2 1 ∷ form 0 3 1 ∷ [])
    (choose (eqb ty ARM64_RELOC_BRANCH26) (form 1 2 1 ∷ [])
    (choose (eqb ty ARM64_RELOC_PAGE21) (form 1 2 1 ∷ [])
    (choose (eqb ty ARM64_RELOC_PAGEOFF12) (form 0 2 1 ∷ [])
    (choose (eqb ty ARM64_RELOC_GOT_LOAD_PAGE21) (form 1 2 1 ∷ [])
    (choose (eqb ty ARM64_RELOC_POINTER_TO_GOT) (form 1 2 1 ∷ [])
    (choose (eqb ty ARM64_RELOC_TLVP_LOAD_PAGE21) (form 1 2 1 ∷ [])
    []))))))

-- whether a record is one of them
unfoldable pub plain_of : MachRel → Bool
plain_of r = member (form_in r) (plain_forms (type_of r.bits))
