-- From value to value: what comes after what is left is what comes after the row.
use mathlib.Core.Path.{◌≡◌, refl, sym, ap, ◌∙◌}
use Prim.Native.Nat.{◌+◌}
use native.Mathlib.Omega.{arith}
use lib.ListN.{length, drop}
use Rattle.hint_payload.specs.Row.{expected_in, is_kind}
use Rattle.hint_payload.specs.declared.expected.Expected.{Expected}
use Rattle.hint_payload.proofs.Turns.{row_more, row-end}
use Rattle.hint_payload.proofs.write.is_whole.Goals as goal

pub loop-value-init : goal.loop-value-init
loop-value-init c = refl

pub loop-value-preserved : goal.loop-value-preserved
loop-value-preserved c =
    ap (λ (e : Expected). expected_in e (drop (c.loop-value.value-index + 1) c.args.row.now)) c.after-expected.ensures
    ∙ row_more c.args.row.now c.loop-value.expected c.loop-value.value-index c.loop-value-test.true
    ∙ c.loop-value.invariant

pub returns : goal.returns
returns c =
    let e : c.loop-value.value-index ≡ length c.args.row.now = omega arith in
    c.is_kind.ensures ∙ ap is_kind (sym (row-end c.args.row.now c.loop-value.expected c.loop-value.value-index e) ∙ c.loop-value.invariant)
