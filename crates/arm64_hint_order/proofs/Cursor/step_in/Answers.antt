-- `Cursor::step_in` meets its contract: the first of the second pass, or the end of the object's hints.
use Rattle.arm64_hint_order.proofs.Walk.{take_second, ended-late, ended-both}
use Rattle.arm64_hint_order.proofs.Cursor.step_in.Goals as goal

pub returns-then-self-clause-step : goal.returns-then-self-clause-step
returns-then-self-clause-step c =
    ended-late _ c.args.self c.in_default.ensures c.if-self.true

pub returns-in_err-k-clause-step : goal.returns-in_err-k-clause-step
returns-in_err-k-clause-step c =
    rw c.from_residual.ensures (ended-both _ c.args.self c.in_default.ensures c.if-self.false (rw c.in_err-k.was at c.find-2.ensures))

pub returns-clause-step : goal.returns-clause-step
returns-clause-step c =
    take_second _ c.args.self c.in_ok-k.k c.in_default.ensures c.if-self.false (rw c.in_ok-k.was at c.find-2.ensures)
