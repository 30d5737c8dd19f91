-- `fill_walk` meets its contract: what is left to read, stored on from here, makes the slots after; a turn is `fill-read` and `fill-stored` of Walk.
use mathlib.Core.Path.{refl, sym, ◌∙◌}
use Prim.Native.Nat.{zero-le}
use native.Mathlib.Omega.{arith}
use Rattle.arch.proofs.Walk.{fill_start, fill-fills, fill-read, fill-stored, fill-refused, fill-reads, fill_done, onward}
use Rattle.arch.proofs.reader.fill_walk.Goals as goal

pub loop-i-init : goal.loop-i-init
loop-i-init g c =
    (zero-le, fill-fills _ _ c.requires.0, fill_start _ _ c.args.slots.now c.requires.1, refl)

pub enter-requires : goal.enter-requires
enter-requires g c =
    (c.loop-i-test.true, fill-reads _ _ c.loop-i.count c.loop-i.i c.loop-i.invariant.0 c.loop-i-test.true c.loop-i.invariant.1)

pub returns-in_default : goal.returns-in_default
returns-in_default g c =
    absurd (fill-refused _ _ c.loop-i.count c.loop-i.i c.loop-i.invariant.0 c.loop-i-test.true c.in_default.is c.enter.ensures c.loop-i.invariant.1)

pub loop-i-smaller : goal.loop-i-smaller
loop-i-smaller g c =
    let on = g.met.M.Machine.onward c.args.machine.now c.args.lent.now in
    omega (arith, onward _ on c.loop-i.i c.in-Ok.is c.enter.ensures)

pub loop-i-preserved : goal.loop-i-preserved
loop-i-preserved g c =
    let on = g.met.M.Machine.onward c.args.machine.now c.args.lent.now in (
      omega (arith, onward _ on c.loop-i.i c.in-Ok.is c.enter.ensures),
      fill-read _ _ c.loop-i.count c.loop-i.i c.loop-i.invariant.0 c.loop-i-test.true c.in-Ok.is c.enter.ensures c.loop-i.invariant.1,
      rw c.write.ensures (fill-stored _ _ c.loop-i.count c.loop-i.i c.loop-i.slots c.loop-i.invariant.0 c.loop-i-test.true c.in-Ok.is c.enter.ensures c.loop-i.invariant.1 ∙ c.loop-i.invariant.2),
      omega arith,
    )

pub returns : goal.returns
returns g c =
    sym (fill_done _ _ c.loop-i.count c.loop-i.i c.loop-i.slots c.loop-i-test.false) ∙ c.loop-i.invariant.2
