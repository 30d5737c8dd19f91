-- From the first byte up: what stands at i, scaled and with the value so far below it, stands at `at`.
use Prim.Native.Nat.{◌+◌, ◌^◌, ◌≤◌, ◌<◌}
use mathlib.Core.Path.{◌≡◌}
use lib.ListN.{drop}
use Rattle.uleb.specs.Values.{unended}
use Rattle.uleb.proofs.Upward.{Above}
use Rattle.uleb.proofs.read_uleb.Given as goal

abbrev pub invariant-loop-i : goal.invariant-loop-i
invariant-loop-i l = (l.i + unended (drop l.i l.bytes) ≡ l.at + unended (drop l.at l.bytes))
    × (l.value < l.scale)
    × (l.scale ≤ 2 ^ 56)
    × Above l.bytes l.at l.value l.scale l.i
