-- Where a step ends, and the law of the machine's steps: each goes on to a later record. A proof: it stands here since an `impl` in src/ cites it.
use Rattle.std.specs.Prelude.{Result, Ok, Err, ℕ, ◌+◌, Bool, List}
use mathlib.Core.Path.{refl}
use native.Mathlib.Omega.{arith}
use Rattle.util.proofs.Choice.{chosen}
use Rattle.macho.specs.declared.mach_rel.MachRel.{MachRel}
use Rattle.macho.specs.declared.refusal.Refusal.{Refusal}
use Rattle.macho.specs.declared.refusal.Refusal.TheVariants.{Bounds, LoneAddend}
use Rattle.arch.specs.Walk.{Later, Onward}
use Rattle.arch.proofs.Walk.{Ends, refused-later, ends-later, targeted-ends, passing-ends}
use Rattle.arm64_reader.specs.Check.{check_reloc}
use Rattle.arm64_reader.specs.Record.{addend_of, adding, authenticated_record, record_of, step_at}

adding-ends : (sections : List ℕ) (r : MachRel) (subtracted : Bool) (offset next : ℕ) (a : Result ℕ Refusal) → Ends next (adding sections r subtracted offset next a)
unfolding Ends
adding-ends sections r subtracted offset next (Ok addend) = targeted-ends sections r subtracted offset addend next
adding-ends sections r subtracted offset next (Err x) = tt

authenticated-ends : (loc : List ℕ) (r : MachRel) (subtracted : Bool) (offset next : ℕ) → Ends next (authenticated_record loc r subtracted offset next)
unfolding authenticated_record Ends
authenticated-ends loc r subtracted offset next = chosen (Ends next) _ _ _ tt (chosen (Ends next) _ _ _ refl tt)

pub record-ends : (loc sections : List ℕ) (r : MachRel) (subtracted : Bool) (offset addend next : ℕ)
    → Ends next (record_of loc sections r subtracted offset addend next)
unfolding record_of
record-ends loc sections r subtracted offset addend next =
    passing-ends next (check_reloc r subtracted loc) _
    (chosen (Ends next) _ _ _ (authenticated-ends loc r subtracted offset next) (adding-ends sections r subtracted offset next (addend_of r loc addend)))

-- each step goes on
pub step-onward : (contents sections : List ℕ) (before : Bool) (rs : List MachRel) → Onward (step_at contents sections before rs)
unfolding step_at
step-onward contents sections before rs i =
    chosen (Later i) _ _ _ (refused-later i Bounds)
    (chosen (Later i) _ _ _
    (chosen (Later i) _ _ _ (ends-later i (i + 1 + 1) (omega arith) _ (record-ends _ _ _ _ _ _ (i + 1 + 1))) (refused-later i LoneAddend))
    (ends-later i (i + 1) (omega arith) _ (record-ends _ _ _ _ _ _ (i + 1))))
