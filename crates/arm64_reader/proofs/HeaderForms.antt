-- What the headers have against the forms that the linker applies: tests computed over all types and forms.
use mathlib.Core.Path.{◌≡◌, refl, sym, ◌∙◌}
use mathlib.Core.Bool.{Bool, true, false, not, ◌&&◌, ◌||◌}
use mathlib.Core.List.{[], ◌∷◌}
use Prim.Native.Nat.{◌≤◌}
use borrow.Author.Tests.{ne_eqb, leb-true}
use lib.Dec.{eqb, leb}
use Rattle.util.specs.Choice.{choose}
use Rattle.util.proofs.Below.{every}
use Rattle.macho.specs.MachRel.{p2size_of, extern_of, type_of}
use Rattle.macho.specs.Types.{ARM64_RELOC_UNSIGNED, ARM64_RELOC_ADDEND, ARM64_RELOC_AUTHENTICATED_POINTER}
use Rattle.macho.specs.declared.mach_rel.MachRel.{MachRel}
use Rattle.arch.specs.Form.{form, member, applied_below}
use Rattle.arch.proofs.Forms.{each-form, implied}
use Rattle.arm64_reader.specs.Support.{forms, forms_of, supported_of}
use Rattle.arm64_reader.specs.Header.{is_page_distance, in_header, is_defined}

-- the records that it applies, by type and form
pub applied : applied_below forms 256
    ≡ 0x04 ∷ 0x06 ∷ 0x0c ∷ 0x0e ∷ 0x1c ∷ 0x1e ∷ 0x2d ∷ 0x3d ∷ 0x4c ∷ 0x5d ∷ 0x6c ∷ 0x7d ∷ 0x8d ∷ 0x9c ∷ 0xa4 ∷ 0xbe ∷ []
unfolding choose
applied = refl

-- the headers have every record that the linker applies
pub applied-in-header : (r : MachRel) → supported_of r ≡ true → in_header r ≡ true
unfolding supported_of forms_of every choose
applied-in-header r h =
    implied _ _
    (each-form
    (λ ty p s e. not (member (form p s e) (forms_of ty)) || (leb ty ARM64_RELOC_AUTHENTICATED_POINTER && (not (is_page_distance ty) || eqb p 1))) refl r) h

-- so the defined records are those that the linker applies
pub supported-is : (r : MachRel) → supported_of r ≡ is_defined r
unfolding is_defined
supported-is r = go (in_header r) refl (supported_of r) refl
  where
    go : (a : Bool) → in_header r ≡ a → (b : Bool) → supported_of r ≡ b → b ≡ (a && b)
    go true e b f = refl
    go false e true f = sym (applied-in-header r f) ∙ e
    go false e false f = refl

-- each has 4 bytes at least
pub size-at-least : (r : MachRel) → is_defined r ≡ true → 2 ≤ p2size_of r.bits
unfolding supported_of forms_of every choose
size-at-least r h =
    leb-true 2 (p2size_of r.bits)
    (implied _ _ (each-form (λ ty p s e. not (member (form p s e) (forms_of ty)) || leb 2 s) refl r) (supported-is r ∙ h))

-- only a pointer names a section
pub names-symbol : (r : MachRel) → is_defined r ≡ true → (type_of r.bits ≡ ARM64_RELOC_UNSIGNED → ⊥) → (type_of r.bits ≡ ARM64_RELOC_ADDEND → ⊥)
    → eqb (extern_of r.bits) 1 ≡ true
unfolding supported_of forms_of every choose
names-symbol r h u a =
    rw (ne_eqb (type_of r.bits) ARM64_RELOC_UNSIGNED u, ne_eqb (type_of r.bits) ARM64_RELOC_ADDEND a)
    at (implied _ _
    (each-form (λ ty p s e. not (member (form p s e) (forms_of ty)) || (eqb ty ARM64_RELOC_UNSIGNED || (eqb ty ARM64_RELOC_ADDEND || eqb e 1))) refl r)
    (supported-is r ∙ h))
