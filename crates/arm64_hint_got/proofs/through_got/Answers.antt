-- `through_got`: what the GOT load and the third word tell bounds the operands.
use Rattle.std.specs.Prelude.{Ok}
use mathlib.Core.Path.{refl, sym, ap, ◌∙◌}
use Rattle.arm64_hint_got.proofs.Loads.{slot-register, relaxed-operands}
use Rattle.arm64_hint_got.proofs.through_got.Goals as goal

pub got_literal-requires : goal.got_literal-requires
got_literal-requires g c =
    slot-register _ _ _ _ _ c.got_load.ensures (c.in_ok-slot.was ∙ ap Ok c.in-Slot.is)

pub invariant_of-relaxed : goal.invariant_of-relaxed
invariant_of-relaxed g c =
    record { decoded = relaxed-operands _ _ _ _ _ c.got_load.ensures (c.in_ok-slot.was ∙ ap Ok c.in-Relaxed.is) _ _ c.requires.decoded }

pub returns-in-Relaxed : goal.returns-in-Relaxed
returns-in-Relaxed g c =
    let e = sym c.got_load.ensures ∙ (c.in_ok-slot.was ∙ ap Ok c.in-Relaxed.is) in
    rw e ((λ n. absurd (n c.if-d-ls.true)), (λ _. (_, refl, refl, c.relaxed.ensures)))
