-- `Cursor::next` meets its contract: where the object has no step left, the first one in the next object, or the end.
use Rattle.arm64_hint_order.proofs.Walk.{next-object, next-none}
use Rattle.arm64_hint_order.proofs.Cursor.next.Goals as goal

pub returns-in_err-p-clause-step : goal.returns-in_err-p-clause-step
returns-in_err-p-clause-step c =
    rw c.from_residual.ensures
    (next-none c.args.hints.now c.args.self c.in_default.ensures.step (rw c.in_err-p.was at c.position_from.ensures.found))

pub returns-clause-step : goal.returns-clause-step
returns-clause-step c =
    next-object c.args.hints.now c.args.self c.enter.result c.in_ok-p.p c.step_in-2.result c.in_default.ensures.step
    (rw c.in_ok-p.was at c.position_from.ensures.found) c.enter.ensures c.step_in-2.ensures.step
