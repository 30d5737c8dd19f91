-- A row of hints (RULES 14.1): for each its kind, its count, then that many addresses. No kind is 0: in a payload kind 0 closes the list (RULES 14.5), and
-- the writer refuses it (14.10).
use Rattle.std.specs.Prelude.{ℕ, ◌-◌, Bool, true, false, List, [], ◌∷◌, eqb}
use Rattle.util.specs.Choice.{choose}
use Rattle.hint_payload.specs.declared.expected.Expected.{Expected}
use Rattle.hint_payload.specs.declared.expected.Expected.TheVariants.{Kind, Count, Address, Zeros}

-- what comes next where n addresses are left: the next hint's kind, or one of them with n - 1 after it
unfoldable pub addresses_left : ℕ → Expected
addresses_left n = choose (eqb n 0) Kind (Address (n - 1))

-- what comes after a value: kind 0 closes the list
abbrev pub expected_after : Expected → ℕ → Expected
expected_after Kind value = choose (eqb value 0) Zeros Count
expected_after Count value = addresses_left value
expected_after (Address n) value = addresses_left n
expected_after Zeros value = Zeros

-- what comes next after a row
unfoldable pub expected_in : Expected → List ℕ → Expected
expected_in e [] = e
expected_in e (v ∷ row) = expected_in (expected_after e v) row

-- whether a hint's kind comes next
abbrev pub is_kind : Expected → Bool
is_kind Kind = true
is_kind Count = false
is_kind (Address n) = false
is_kind Zeros = false

-- whether a row is whole hints, none of kind 0: after it a kind comes next
abbrev pub is_whole : List ℕ → Bool
is_whole row = is_kind (expected_in Kind row)
