-- `change_at` meets its contract: type and width decide the choices; the check that the entry passed gives the room.
use native.Mathlib.Omega.{arith}
use mathlib.Core.Path.{◌≡◌, sym, ◌∙◌, ap}
use mathlib.Core.Bool.{false}
use Prim.Native.Nat.{ℕ}
use lib.Dec.{eqb}
use Rattle.arm64_fixup_entry.specs.Target.{width_of}
use Rattle.arm64_fixup_entry.proofs.ByType.{authenticated-is}
use Rattle.arm64_fixup_entry.proofs.Sound.{sound, followed}
use Rattle.arm64_fixup_entry.proofs.Width.{wide}
use borrow.Author.Tests.{ne_eqb}
use Rattle.arm64_fixup.proofs.walk.change_at.Goals as goal

pub returns-then-e-eq-ARM64_RELOC_AUTHENTICATED_POINTER : goal.returns-then-e-eq-ARM64_RELOC_AUTHENTICATED_POINTER
returns-then-e-eq-ARM64_RELOC_AUTHENTICATED_POINTER c =
    c.authenticated_change.ensures ∙ sym (authenticated-is _ _ _ _ _ _ _ c.if-e-eq-ARM64_RELOC_AUTHENTICATED_POINTER.true)

pub read-next-requires : goal.read-next-requires
read-next-requires c =
    omega (arith, followed _ _ _ _ _ _ c.requires.entries_value (sym c.subtracts.ensures ∙ c.if-subtracts.true) c.requires.i_bound.0)

pub read-next_target-requires : goal.read-next_target-requires
read-next_target-requires c =
    omega (arith, followed _ _ _ _ _ _ c.requires.entries_value (sym c.subtracts.ensures ∙ c.if-subtracts.true) c.requires.i_bound.0)

pub overflow_add-s : goal.overflow_add-s
overflow_add-s c =
    let s = sound _ _ _ _ _ c.requires.entries_value in
    omega arith

pub read32-requires : goal.read32-requires
read32-requires c =
    let s = sound _ _ _ _ _ c.requires.entries_value in
    let z : eqb (width_of c.args.e c.args.t) 0 ≡ false =
    ap (λ (n : ℕ). eqb n 0) (sym c.width_of.ensures) ∙ ne_eqb _ _ c.if-width_of-eq0.false in
    omega (arith, wide _ _ z)
