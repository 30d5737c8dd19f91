-- `check_all` meets its contract: the entries before i pass, and entry i is one that is worked; a turn is `check-again` or `check-refused` of Turns.
use Rattle.std.specs.Prelude.{Ok}
use Rattle.std.proofs.lemmas.Result.{err_from_is_err_and}
use Rattle.arm64_fixup.proofs.Turns.{check-refused, check-again, ended, takes}
use mathlib.Core.Path.{◌≡◌, refl, sym}
use Prim.Native.Nat.{ℕ, zero-le}
use native.Mathlib.Omega.{arith}
use Rattle.arm64_fixup.specs.Walk.{consumed, check_to}
use Rattle.arm64_fixup.proofs.walk.check_all.Goals as goal

pub loop-i-init : goal.loop-i-init
unfolding consumed check_to
loop-i-init c =
    (zero-le, refl, refl)

pub returns-in_err-check_entry : goal.returns-in_err-check_entry
returns-in_err-check_entry c =
    let p = err_from_is_err_and c.from_residual.result c.from_residual.ensures.1 in
    rw (p.1, p.2)
    (check-refused _ _ _ _ c.loop-i.i c.loop-i.invariant.1 c.loop-i-test.true c.loop-i.invariant.2 c.read-e.ensures c.read-t.ensures
    c.check_entry.ensures c.in_err-check_entry.was)

pub overflow_add-i-in-loop-i : goal.overflow_add-i-in-loop-i
overflow_add-i-in-loop-i c =
    let t = takes c.read-e.result.ty c.taken-i.ensures in
    omega (arith, c.well_formed.1.1.0)

pub loop-i-smaller : goal.loop-i-smaller
loop-i-smaller c =
    let t = takes c.read-e.result.ty c.taken-i.ensures in
    omega arith

pub loop-i-preserved : goal.loop-i-preserved
loop-i-preserved c =
    check-again _ _ _ _ c.loop-i.i c.loop-i.invariant.1 c.loop-i-test.true c.loop-i.invariant.2 c.read-e.ensures c.read-t.ensures
    c.check_entry.ensures c.in_ok-check_entry.was c.taken-i.ensures

pub returns : goal.returns
returns c =
    ended (λ (k : ℕ). Ok tt ≡ check_to c.args.len c.args.bases c.args.entries.now c.args.targets.now k) c.loop-i.invariant.0 c.loop-i-test.false (sym c.loop-i.invariant.2)
