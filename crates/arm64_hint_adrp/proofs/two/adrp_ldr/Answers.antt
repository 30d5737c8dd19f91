-- `adrp_ldr`: a decoded access has register numbers.
use Rattle.std.specs.Prelude.{◌≡◌, Some}
use native.Mathlib.Omega.{arith}
use Rattle.arm64_insn.specs.LoadStore.{load_store_of}
use Rattle.arm64_insn.proofs.Decoded.{decoded-load-store}
use Rattle.arm64_hint_adrp.proofs.two.adrp_ldr.Goals as goal

pub ldr_at_page-requires : goal.ldr_at_page-requires
ldr_at_page-requires c =
    let e : load_store_of c.args.s.w1 ≡ Some c.in_ok-ld.ld = grind arith in
    (decoded-load-store _ _ e).register
