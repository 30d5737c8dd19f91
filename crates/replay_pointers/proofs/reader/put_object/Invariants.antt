-- Section and records keep their lengths.
use Rattle.std.proofs.Common.{◌≡◌, length}
use Rattle.replay_pointers.proofs.reader.put_object.Given as goal

abbrev pub invariant-loop-k : goal.invariant-loop-k
invariant-loop-k l = (length l.records ≡ length l.initial.records) × (length l.contents ≡ length l.initial.contents)
