-- Which relocation records the linker applies (arch/arm64.rs, `is_supported`; RULES 4.6).
use Rattle.std.specs.Prelude.{ℕ, Bool, List, [], ◌∷◌}
use Rattle.macho.specs.declared.mach_rel.MachRel.{MachRel}
use Rattle.arch.specs.Form.{Form, form, forms_in, supported_in}

-- for each type the forms that it takes: UNSIGNED, SUBTRACTOR, BRANCH26, PAGE21, PAGEOFF12, GOT_LOAD_PAGE21, GOT_LOAD_PAGEOFF12,
-- POINTER_TO_GOT, TLVP_LOAD_PAGE21, TLVP_LOAD_PAGEOFF12, ADDEND; and AUTHENTICATED_POINTER, which the Rust turns down
abbrev pub forms : List (List Form)
forms =
    (form 0 2 1 ∷ form 0 3 1 ∷ form 0 2 0 ∷ form 0 3 0 ∷ [])
    ∷ (form 0 2 1 ∷ form 0 3 1 ∷ [])
    ∷ (form 1 2 1 ∷ [])
    ∷ (form 1 2 1 ∷ [])
    ∷ (form 0 2 1 ∷ [])
    ∷ (form 1 2 1 ∷ [])
    ∷ (form 0 2 1 ∷ [])
    ∷ (form 1 2 1 ∷ [])
    ∷ (form 1 2 1 ∷ [])
    ∷ (form 0 2 1 ∷ [])
    ∷ (form 0 2 0 ∷ [])
    ∷ (form 0 3 1 ∷ [])
    ∷ []

-- the forms of a type
unfoldable pub forms_of : ℕ → List Form
forms_of ty = forms_in forms ty

-- whether a record has a form that its type takes
unfoldable pub supported_of : MachRel → Bool
supported_of r = supported_in forms r
