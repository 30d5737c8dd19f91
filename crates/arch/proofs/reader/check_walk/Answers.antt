-- `check_walk` meets its contract: what is left to read, counted on from here, is the answer; a turn is `check-next` or `check-stopped` of Walk.
use mathlib.Core.Path.{sym, ◌∙◌}
use Prim.Native.Nat.{zero-le}
use native.Mathlib.Omega.{arith}
use Rattle.std.proofs.lemmas.Result.{err_from_is_err_and}
use Rattle.arch.proofs.Walk.{check-start, check-next, check-stopped, check_done, next-onward}
use Rattle.arch.proofs.reader.check_walk.Goals as goal

pub loop-i-init : goal.loop-i-init
loop-i-init g c =
    (zero-le, check-start _ _)

pub returns-in_err-i : goal.returns-in_err-i
returns-in_err-i g c =
    let p = err_from_is_err_and c.from_residual.result c.from_residual.ensures.1 in
    rw (p.1, p.2)
    (check-stopped _ _ c.loop-i.count c.loop-i.i c.loop-i.invariant.0 c.loop-i-test.true (sym c.check.ensures ∙ c.in_err-i.was) ∙ c.loop-i.invariant.1)

pub loop-i-smaller : goal.loop-i-smaller
loop-i-smaller g c =
    let on = g.met.M.Machine.onward c.args.machine.now c.args.lent.now in
    omega (arith, next-onward _ on c.loop-i.i (sym c.check.ensures ∙ c.in_ok-i.was))

pub loop-i-preserved : goal.loop-i-preserved
loop-i-preserved g c =
    let on = g.met.M.Machine.onward c.args.machine.now c.args.lent.now in
    let p = sym c.check.ensures ∙ c.in_ok-i.was in (
      omega (arith, next-onward _ on c.loop-i.i p),
      check-next _ _ c.loop-i.count c.loop-i.i c.loop-i.invariant.0 c.loop-i-test.true p ∙ c.loop-i.invariant.1,
    )

pub returns : goal.returns
returns g c =
    check_done _ _ c.loop-i.count c.loop-i.i c.loop-i-test.false ∙ c.loop-i.invariant.1
