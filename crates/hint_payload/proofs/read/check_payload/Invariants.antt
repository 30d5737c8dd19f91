-- From value to value: those so far and those of what is left count as the whole does.
use mathlib.Core.Path.{◌≡◌}
use Prim.Native.Nat.{◌-◌, ◌≤◌}
use lib.ListN.{length}
use Rattle.hint_payload.specs.Payload.{payload_of}
use Rattle.hint_payload.specs.Answer.{count_in, count_after}
use Rattle.hint_payload.proofs.Turns.{Rest}
use Rattle.hint_payload.proofs.read.check_payload.Given as goal

abbrev pub invariant-loop-at : goal.invariant-loop-at
invariant-loop-at l = (l.at ≤ length l.payload) × (l.count ≤ l.at) × (count_after l.count (Rest l.payload l.expected l.at) ≡ count_in (payload_of l.payload))

abbrev pub decreases-loop-at : goal.decreases-loop-at
decreases-loop-at l = length l.payload - l.at
