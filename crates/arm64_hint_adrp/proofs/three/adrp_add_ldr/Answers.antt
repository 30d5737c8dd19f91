-- `adrp_add_ldr`: a decoded ADD and a decoded access bound the operands.
use Rattle.arm64_hint_adrp.proofs.Adds.{adds-operands}
use Rattle.arm64_hint_adrp.proofs.three.adrp_add_ldr.Goals as goal

pub invariant_of-fold_or_adr : goal.invariant_of-fold_or_adr
invariant_of-fold_or_adr c =
    record { decoded = adds-operands _ _ _ _ _ _ c.adrp_add_ldst.ensures c.in_ok-addr.was }

pub literal_third-requires : goal.literal_third-requires
literal_third-requires c =
    (adds-operands _ _ _ _ _ _ c.adrp_add_ldst.ensures c.in_ok-addr.was).register
