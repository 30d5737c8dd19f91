-- From value to value: what is left of the first values, stored from i on, leaves the slots that all of them do.
use mathlib.Core.Path.{◌≡◌}
use Prim.Native.Nat.{◌-◌, ◌≤◌}
use lib.ListN.{length}
use lib.Seq.{sets}
use Rattle.uleb.specs.Values.{values_of}
use Rattle.hint_payload.specs.Payload.{first_values}
use Rattle.hint_payload.proofs.Turns.{FirstFrom}
use Rattle.hint_payload.proofs.read.fill.Given as goal

abbrev pub invariant-loop-i : goal.invariant-loop-i
invariant-loop-i l = (l.at ≤ length l.payload)
    × (length l.slots ≡ length l.initial.slots)
    × (sets l.slots l.i (FirstFrom l.payload (l.count - l.i) l.at) ≡ sets l.initial.slots 0 (first_values l.count (values_of l.payload)))
