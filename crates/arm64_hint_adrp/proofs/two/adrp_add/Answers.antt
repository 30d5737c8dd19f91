-- `adrp_add`: a decoded ADD has register numbers.
use Rattle.std.specs.Prelude.{◌≡◌, Some}
use native.Mathlib.Omega.{arith}
use Rattle.arm64_insn.specs.Add.{add_of}
use Rattle.arm64_insn.proofs.Decoded.{decoded-add}
use Rattle.arm64_hint_adrp.proofs.two.adrp_add.Goals as goal

pub add_at_page-requires : goal.add_at_page-requires
add_at_page-requires c =
    let e : add_of c.args.s.w1 ≡ Some c.in_ok-d.d = grind arith in
    (decoded-add _ _ e).register
