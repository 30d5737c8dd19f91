-- From the first byte up: what stands at i, scaled and with the value so far below it, stands at `at`.
use Prim.Native.Nat.{◌+◌, ◌*◌, ◌%◌}
use mathlib.Core.Path.{refl}
use native.Mathlib.Omega.{arith}
use native.Mathlib.Nat.{mul_comm}
use lib.ListN.{get_or}
use Rattle.uleb.proofs.Reading.{more-at, none-at, read-cut, read_whole}
use Rattle.uleb.proofs.Upward.{has_room, above-first, above_more, above-last}
use Rattle.uleb.proofs.read_uleb.Goals as goal

pub loop-i-init : goal.loop-i-init
loop-i-init c =
    (refl, omega arith, omega arith, above-first c.args.bytes.now c.args.at)

pub overflow_mul-result : goal.overflow_mul-result
overflow_mul-result c =
    omega (arith, c.loop-i.invariant.2, c.from.ensures, has_room c.loop-i.value c.loop-i.scale c.from.result c.loop-i.invariant.1 (omega arith))

pub overflow_add-result : goal.overflow_add-result
overflow_add-result c =
    omega (arith, c.loop-i.invariant.2, c.from.ensures, has_room c.loop-i.value c.loop-i.scale c.from.result c.loop-i.invariant.1 (omega arith))

pub returns-then-byte-lt128 : goal.returns-then-byte-lt128
returns-then-byte-lt128 c =
    let small = has_room c.loop-i.value c.loop-i.scale (get_or c.args.bytes.now c.loop-i.i 0) c.loop-i.invariant.1 c.if-byte-lt128.true in
    rw c.from.ensures
    (read_whole c.args.bytes.now c.args.at (c.loop-i.value + c.loop-i.scale * get_or c.args.bytes.now c.loop-i.i 0) (c.loop-i.i + 1) (omega arith) (omega (arith, c.loop-i.invariant.2, small))
    (above-last c.args.bytes.now c.args.at c.loop-i.value c.loop-i.scale c.loop-i.i c.loop-i-test.true c.if-byte-lt128.true c.loop-i.invariant.3))

pub overflow_mul-value : goal.overflow_mul-value
overflow_mul-value c =
    omega (arith, c.loop-i.invariant.2, has_room c.loop-i.value c.loop-i.scale c.from-in-loop-i.result c.loop-i.invariant.1 (omega arith))

pub overflow_add-value : goal.overflow_add-value
overflow_add-value c =
    omega (arith, c.loop-i.invariant.2, has_room c.loop-i.value c.loop-i.scale c.from-in-loop-i.result c.loop-i.invariant.1 (omega arith))

pub loop-i-preserved : goal.loop-i-preserved
loop-i-preserved c =
    let room = has_room c.loop-i.value c.loop-i.scale (get_or c.args.bytes.now c.loop-i.i 0 % 128) c.loop-i.invariant.1 (omega arith) in
    rw (c.from-in-loop-i.ensures, mul_comm c.loop-i.scale 128) (
      omega (arith, c.loop-i.invariant.0, more-at c.args.bytes.now c.loop-i.i c.loop-i-test.true c.if-byte-lt128.false),
      room,
      omega arith,
      above_more c.args.bytes.now c.args.at c.loop-i.value c.loop-i.scale c.loop-i.i c.loop-i-test.true c.if-byte-lt128.false c.loop-i.invariant.3,
    )

pub returns : goal.returns
returns c =
    read-cut c.args.bytes.now c.args.at c.requires (omega (arith, c.loop-i.invariant.0, none-at c.args.bytes.now c.loop-i.i (omega arith)))
