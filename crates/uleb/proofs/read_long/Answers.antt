-- From the last byte down: what stands at i is the value put together so far.
use mathlib.Core.Path.{◌≡◌, subst}
use Prim.Native.Nat.{ℕ, ◌+◌, ◌*◌, ◌^◌, ◌≤◌}
use native.Mathlib.Omega.{arith}
use Rattle.uleb.proofs.Reading.{Stands, read-cut, read-last, read_down, read-large, read_whole}
use Rattle.uleb.proofs.read_long.Goals as goal

pub returns-in_err-last : goal.returns-in_err-last
returns-in_err-last c =
    rw c.from_residual.ensures (read-cut c.args.bytes.now c.args.at c.requires c.in_err-last.ensures)

pub loop-i-init : goal.loop-i-init
loop-i-init c =
    let e = c.in_ok-last.ensures in
    let k = read-last c.args.bytes.now c.args.at c.in_ok-last.last c.requires e.0 e.1 in
    (omega (arith, e.0), omega arith, omega arith, rw c.from-value.ensures k.1)

pub returns-in_err-value : goal.returns-in_err-value
returns-in_err-value c =
    let e = c.in_ok-last.ensures in
    let large : 2 ^ 57 ≤ c.loop-i.value = omega (arith, c.in_err-value.ensures) in
    rw c.from_residual-in_err-value.ensures
    (read-large c.args.bytes.now c.args.at c.in_ok-last.last c.loop-i.i c.loop-i.value (c.in_ok-last.last + 1) c.requires e.0 c.loop-i-test.true
    c.loop-i.invariant.1 (omega (arith, e.1)) large c.loop-i.invariant.3)

pub loop-i-preserved : goal.loop-i-preserved
loop-i-preserved c =
    let e = c.in_ok-last.ensures in
    let value : c.in_ok-value.field-0 ≡ 128 * c.loop-i.value = omega (arith, c.in_ok-value.ensures.1) in (
      omega arith,
      omega arith,
      omega (arith, value),
      rw (value, c.from.ensures)
          (read_down c.args.bytes.now c.args.at c.in_ok-last.last c.loop-i.i c.loop-i.value (c.in_ok-last.last + 1) c.requires e.0 c.loop-i-test.true
          c.loop-i.invariant.1 (omega (arith, e.1)) c.loop-i.invariant.3),
    )

pub overflow_add-value : goal.overflow_add-value
overflow_add-value c =
    omega (arith, c.in_ok-value.ensures, c.from.ensures)

pub returns : goal.returns
returns c =
    let e : c.loop-i.i ≡ c.args.at = omega arith in
    read_whole c.args.bytes.now c.args.at c.loop-i.value (c.in_ok-last.last + 1) (omega (arith, c.in_ok-last.ensures.1)) c.loop-i.invariant.2
    (subst (λ (i : ℕ). Stands c.args.bytes.now i c.loop-i.value (c.in_ok-last.last + 1)) e c.loop-i.invariant.3)
