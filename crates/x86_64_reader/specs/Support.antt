-- Which relocation records the linker applies (arch/x86_64.rs, `is_supported`; RULES 15.4).
use Rattle.std.specs.Prelude.{Bool, List, [], ◌∷◌}
use Rattle.macho.specs.declared.mach_rel.MachRel.{MachRel}
use Rattle.arch.specs.Form.{Form, form, supported_in}

-- for each type the forms that it takes: UNSIGNED, SIGNED, BRANCH, GOT_LOAD, GOT, SUBTRACTOR, SIGNED_1, SIGNED_2, SIGNED_4, TLV
abbrev pub forms : List (List Form)
forms =
    (form 0 2 1 ∷ form 0 3 1 ∷ form 0 2 0 ∷ form 0 3 0 ∷ [])
    ∷ (form 1 2 1 ∷ form 1 2 0 ∷ [])
    ∷ (form 1 2 1 ∷ form 1 2 0 ∷ form 1 0 1 ∷ [])
    ∷ (form 1 2 1 ∷ [])
    ∷ (form 1 2 1 ∷ [])
    ∷ (form 0 2 1 ∷ form 0 3 1 ∷ [])
    ∷ (form 1 2 1 ∷ form 1 2 0 ∷ [])
    ∷ (form 1 2 1 ∷ form 1 2 0 ∷ [])
    ∷ (form 1 2 1 ∷ form 1 2 0 ∷ [])
    ∷ (form 1 2 1 ∷ [])
    ∷ []

-- whether a record has a form that its type takes
unfoldable pub supported_of : MachRel → Bool
supported_of r = supported_in forms r
