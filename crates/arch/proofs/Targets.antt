-- The target of a record as one choice between its fields and a refusal.
use Rattle.std.specs.Prelude.{Ok, Err}
use mathlib.Core.Path.{◌≡◌, refl, ap, ◌∙◌}
use mathlib.Core.Bool.{Bool, true, false, not, ◌&&◌}
use mathlib.Core.List.{List}
use Prim.Native.Nat.{ℕ, zero, suc, ◌+◌, ◌-◌, ◌<◌, ◌≤◌}
use native.Mathlib.Omega.{arith}
use lib.ListN.{length, get_or}
use borrow.Author.Tests.{ne_eqb, le-leb, lt-leb}
use lib.Dec.{eqb, leb}
use Rattle.util.specs.Choice.{choose}
use Rattle.util.proofs.Choice.{choose-ap}
use Rattle.util.specs.Wrap.{diff}
use Rattle.macho.specs.declared.refusal.Refusal.TheVariants.{NoSection}
use Rattle.macho.specs.MachRel.{idx_of, extern_of}
use Rattle.macho.specs.Reloc.{target_section}
use Rattle.macho.specs.declared.mach_rel.MachRel.{MachRel}
use Rattle.arch.specs.Entry.{entry_of, enter, targeted}
use Rattle.arch.specs.Target.{section_target, target_of, is_there, target_in, addend_in}

-- the section of an ordinal, where it is one
pub section-is : (sections : List ℕ) (k addend : ℕ)
    → section_target sections k addend
    ≡ choose (not (eqb k 0) && leb k (length sections)) (Ok (target_section + (k - 1), diff addend (get_or sections (k - 1) 0))) (Err NoSection)
unfolding section_target choose
section-is sections zero addend = refl
section-is sections (suc i) addend =
    let z : suc i - 1 ≡ i = omega arith in
    rw (ne_eqb (suc i) 0 (λ e. omega arith), z)

-- an ordinal that is one of so many, and one that is none
pub in_list : (k n : ℕ) → (k ≡ 0 → ⊥) → k - 1 < n → (not (eqb k 0) && leb k n) ≡ true
in_list k n z h = rw (ne_eqb k 0 z, le-leb k n (omega arith))

pub past-list : (k n : ℕ) → (k ≡ 0 → ⊥) → n ≤ k - 1 → (not (eqb k 0) && leb k n) ≡ false
past-list k n z h = rw (ne_eqb k 0 z, lt-leb k n (omega arith))

-- the target that the fields give where it is there, else 7
pub target_is : (sections : List ℕ) (r : MachRel) (addend : ℕ)
    → target_of sections r addend ≡ choose (is_there (length sections) r) (Ok (target_in r, addend_in sections r addend)) (Err NoSection)
unfolding target_of choose
target_is sections r addend = go (eqb (extern_of r.bits) 1) refl
  where
    go : (x : Bool) → eqb (extern_of r.bits) 1 ≡ x
        → target_of sections r addend ≡ choose (is_there (length sections) r) (Ok (target_in r, addend_in sections r addend)) (Err NoSection)
    go true e = rw e
    go false e = rw e (section-is sections (idx_of r.bits) addend)

-- and the step that goes with it
pub targeted-is : (sections : List ℕ) (r : MachRel) (subtracted : Bool) (offset addend next : ℕ)
    → targeted sections r subtracted offset addend next
    ≡ choose (is_there (length sections) r) (Ok (entry_of r subtracted offset (target_in r) (addend_in sections r addend), next)) (Err NoSection)
unfolding targeted
targeted-is sections r subtracted offset addend next =
    ap (enter r subtracted offset next) (target_is sections r addend) ∙ choose-ap (enter r subtracted offset next) (is_there (length sections) r) _ _
