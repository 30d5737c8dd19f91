-- `check_hints`: the hints before position k are fit, with whether their object numbers never fall; the first that is not fit ends the walk.
use mathlib.Core.Path.{◌≡◌, refl, sym, ap, ◌∙◌}
use native.Mathlib.Omega.{arith}
use Rattle.std.proofs.lemmas.Result.{err_from_is_err_and}
use Rattle.macho.specs.declared.hint.HintRecord.{HintRecord}
use Rattle.macho.specs.Hint.{hint_count}
use Rattle.arm64_hint_order.specs.Cursor.{object_at}
use Rattle.arm64_hint_order.specs.Walk.{grouped}
use Rattle.arm64_hint_check.specs.Check.{check_hint, check_to}
use Rattle.arm64_hint_check.proofs.Checks.{check-more, check-stop, grouped-more, object-is, says-refused, says-fit}
use Rattle.arm64_hint_check.proofs.check_hints.Goals as goal

pub loop-k-init : goal.loop-k-init
unfolding check_to
loop-k-init c = (refl, refl, refl)

pub returns-in_err-check_hint : goal.returns-in_err-check_hint
returns-in_err-check_hint c =
    let p = err_from_is_err_and c.from_residual.result c.from_residual.ensures.1 in
    rw (p.1, p.2)
    (says-refused _
    (check-stop c.args.len c.args.count c.args.hints.now _ c.loop-k.k _ c.loop-k-test.true c.loop-k.invariant.0
    (ap (λ (h : HintRecord). check_hint c.args.len c.args.count h) (sym c.read-h.ensures) ∙ sym c.check_hint.ensures ∙ c.in_err-check_hint.was)))

pub loop-k-preserved : goal.loop-k-preserved
loop-k-preserved c =
    let obj = object_at c.args.hints.now in
    let t = grouped-more obj c.loop-k.k c.loop-k.invariant.1 c.loop-k.invariant.2 (object-is c.args.hints.now c.loop-k.k c.read-h.ensures) refl in (
      check-more c.args.len c.args.count c.args.hints.now c.loop-k.k c.loop-k.invariant.0
          (ap (λ (h : HintRecord). check_hint c.args.len c.args.count h) (sym c.read-h.ensures)
          ∙ sym c.check_hint.ensures
          ∙ c.in_ok-check_hint.was),
      t.0,
      t.1,
    )

pub returns : goal.returns
returns c =
    let e : c.loop-k.k ≡ hint_count c.args.hints.now = omega arith in
    says-fit _ (sym (ap (check_to c.args.len c.args.count c.args.hints.now) e) ∙ c.loop-k.invariant.0) (c.loop-k.invariant.1 ∙ ap (grouped (object_at c.args.hints.now)) e)
