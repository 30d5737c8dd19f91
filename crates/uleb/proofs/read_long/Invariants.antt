-- From the last byte down: what stands at i is the value put together so far.
use Prim.Native.Nat.{◌+◌, ◌^◌, ◌≤◌, ◌<◌}
use Rattle.uleb.proofs.Reading.{Stands}
use Rattle.uleb.proofs.read_long.Given as goal

abbrev pub invariant-loop-i : goal.invariant-loop-i
invariant-loop-i l = (l.at ≤ l.i) × (l.i ≤ l.last) × (l.value < 2 ^ 64) × Stands l.bytes l.i l.value (l.last + 1)
