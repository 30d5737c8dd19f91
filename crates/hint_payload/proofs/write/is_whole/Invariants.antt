-- From value to value: what comes after what is left is what comes after the row.
use mathlib.Core.Path.{◌≡◌}
use lib.ListN.{drop}
use Rattle.hint_payload.specs.Row.{expected_in}
use Rattle.hint_payload.specs.declared.expected.Expected.TheVariants.{Kind}
use Rattle.hint_payload.proofs.write.is_whole.Given as goal

abbrev pub invariant-loop-value : goal.invariant-loop-value
invariant-loop-value l = expected_in l.expected (drop l.value-index l.row) ≡ expected_in Kind l.row
