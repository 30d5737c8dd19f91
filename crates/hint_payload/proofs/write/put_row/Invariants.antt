-- After i turns the spellings of the first i values are stored.
use mathlib.Core.Path.{◌≡◌}
use Prim.Native.Nat.{◌*◌, ◌≤◌}
use lib.ListN.{length, take}
use Rattle.util.specs.Puts.{Puts}
use Rattle.uleb.specs.Shortest.{ulebs_of}
use Rattle.hint_payload.proofs.write.put_row.Given as goal

abbrev pub invariant-loop-value : goal.invariant-loop-value
invariant-loop-value l = (l.at ≤ 10 * l.value-index) × (length l.out ≡ length l.initial.out) × Puts l.initial.out 0 (ulebs_of (take l.value-index l.row)) l.at l.out
