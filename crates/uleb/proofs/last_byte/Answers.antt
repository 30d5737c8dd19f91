-- From byte to byte: how many are left that say that more follow is one fewer, until one does not.
use mathlib.Core.Path.{refl}
use native.Mathlib.Omega.{arith}
use Rattle.uleb.proofs.Reading.{more-at, last-at, none-at}
use Rattle.uleb.proofs.last_byte.Goals as goal

pub loop-i-init : goal.loop-i-init
loop-i-init c = refl

pub loop-i-preserved : goal.loop-i-preserved
loop-i-preserved c =
    omega (arith, c.loop-i.invariant, more-at c.args.bytes.now c.loop-i.i c.loop-i-test.true c.if-bytes-i-lt128.false)

pub returns-then-bytes-i-lt128 : goal.returns-then-bytes-i-lt128
returns-then-bytes-i-lt128 c =
    (omega (arith, c.loop-i.invariant, last-at c.args.bytes.now c.loop-i.i c.loop-i-test.true c.if-bytes-i-lt128.true), c.loop-i-test.true)

pub returns : goal.returns
returns c =
    omega (arith, c.loop-i.invariant, none-at c.args.bytes.now c.loop-i.i (omega arith))
