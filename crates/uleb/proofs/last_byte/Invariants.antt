-- From byte to byte: how many are left that say that more follow is one fewer, until one does not.
use mathlib.Core.Path.{◌≡◌}
use Prim.Native.Nat.{◌+◌}
use lib.ListN.{drop}
use Rattle.uleb.specs.Values.{unended}
use Rattle.uleb.proofs.last_byte.Given as goal

abbrev pub invariant-loop-i : goal.invariant-loop-i
invariant-loop-i l = l.i + unended (drop l.i l.bytes) ≡ l.at + unended (drop l.at l.bytes)
