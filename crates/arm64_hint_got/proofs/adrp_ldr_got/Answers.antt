-- `adrp_ldr_got`: what the GOT load tells bounds the register.
use Rattle.std.specs.Prelude.{Ok}
use mathlib.Core.Path.{ap, ◌∙◌}
use Rattle.arm64_hint_got.proofs.Loads.{slot-register, relaxed-add}
use Rattle.arm64_hint_got.proofs.adrp_ldr_got.Goals as goal

pub literal_second-requires : goal.literal_second-requires
literal_second-requires c =
    slot-register _ _ _ _ _ c.got_load.ensures (c.in_ok-slot.was ∙ ap Ok c.in-Slot.is)

pub adr_to-requires : goal.adr_to-requires
adr_to-requires c =
    (relaxed-add _ _ _ _ _ c.got_load.ensures (c.in_ok-slot.was ∙ ap Ok c.in-Relaxed.is)).register
