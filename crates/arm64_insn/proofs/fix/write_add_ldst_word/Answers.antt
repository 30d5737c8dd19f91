-- `write_add_ldst_word` meets its contract: the mask keeps the fields beside imm12, and the page offset has room there. Assumes nothing.
use Rattle.std.specs.Prelude.{Ok}
use mathlib.Core.Path.{ap}
use Prim.Native.Nat.{◌%◌, ◌^◌}
use native.Mathlib.Omega.{arith}
use native.Mathlib.Nat.{div-le_self}
use borrow.Author.Tests.{eq-eqb, ne_eqb}
use lib.Pow.{pow_pos, pow_mono}
use Rattle.util.specs.Choice.{choose}
use Rattle.util.proofs.Diagram.{kept}
use Rattle.arm64_insn.specs.Fix.{scale_of, offset_with}
use Rattle.arm64_insn.proofs.Scale.{scale-le, scaled}
use Rattle.arm64_insn.proofs.Kept.{beside_imm12}
use Rattle.arm64_insn.proofs.fix.write_add_ldst_word.Goals as goal

pub overflow_shl-size : goal.overflow_shl-size
overflow_shl-size c =
    omega (arith, scale-le c.args.insn)

pub nonzero_rem-val : goal.nonzero_rem-val
nonzero_rem-val c =
    rw (scaled c.args.insn c.scale_of.result c.scale_of.ensures) (pow_pos _)

pub overflow_cast-result : goal.overflow_cast-result
overflow_cast-result c =
    rw (scaled c.args.insn c.scale_of.result c.scale_of.ensures) (omega (arith, pow_mono {i = scale_of c.args.insn} {j = 4} (scale-le c.args.insn)))

pub returns-then-val-size-ne0 : goal.returns-then-val-size-ne0
unfolding offset_with choose
returns-then-val-size-ne0 c =
    let e = scaled c.args.insn c.scale_of.result c.scale_of.ensures in
    rw (e, ne_eqb _ _ (rw e at c.if-val-size-ne0.true))

pub nonzero_div-imm : goal.nonzero_div-imm
nonzero_div-imm c =
    rw (scaled c.args.insn c.scale_of.result c.scale_of.ensures) (pow_pos _)

pub overflow_cast-imm : goal.overflow_cast-imm
overflow_cast-imm c =
    let e = scaled c.args.insn c.scale_of.result c.scale_of.ensures in
    rw e (omega (arith, div-le_self (c.args.val % 4096) (2 ^ scale_of c.args.insn)))

pub overflow_mul-result : goal.overflow_mul-result
overflow_mul-result c =
    let e = scaled c.args.insn c.scale_of.result c.scale_of.ensures in
    rw e (omega (arith, div-le_self (c.args.val % 4096) (2 ^ scale_of c.args.insn)))

pub overflow_add-result : goal.overflow_add-result
overflow_add-result c =
    let e = scaled c.args.insn c.scale_of.result c.scale_of.ensures in
    rw (e, kept beside_imm12 c.args.insn) (omega (arith, div-le_self (c.args.val % 4096) (2 ^ scale_of c.args.insn)))

pub returns : goal.returns
unfolding offset_with choose
returns c =
    let e = scaled c.args.insn c.scale_of.result c.scale_of.ensures in
    rw (e, eq-eqb _ _ (rw e at c.if-val-size-ne0.false), kept beside_imm12 c.args.insn) (ap Ok (omega arith))
