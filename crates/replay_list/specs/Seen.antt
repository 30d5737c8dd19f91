-- How far a list was replayed.
use Rattle.std.specs.Prelude.{ℕ, ◌+◌, ◌-◌, ◌≤◌, Bool, true, false, eqb, List, [], ◌∷◌, ◌++◌, codes}
use Rattle.std.specs.Fmt.{decimal}
use Rattle.util.specs.Choice.{choose}
use Rattle.replay_list.specs.declared.seen.Seen.{Seen}

-- before the first record of a list, which has at most a million
abbrev pub none : Seen
none = record { left = 1000000; row = 0; held = 0; is_whole = false }

-- after a record: the end closes a list, a title a row; an answer counts if it holds, and else closes the list, which is then not whole
unfoldable pub after : Seen → ℕ → Bool → Seen
after s what holds =
    choose (eqb what 0xfe) (record { left = 0; row = s.row; held = s.held; is_whole = true })
    (choose (eqb what 0) (record { left = s.left - 1; row = 0; held = s.held; is_whole = false })
    (choose holds (record { left = s.left - 1; row = s.row + 1; held = s.held + 1; is_whole = false })
    (record { left = 0; row = s.row; held = s.held; is_whole = false })))

-- the counts stay within the records that may be read
abbrev pub Bounded : Seen → Type 0
Bounded s = (s.held + s.left ≤ 1000000) × (s.row ≤ s.held)

-- what is written of a row's count
abbrev pub count_text : ℕ → List ℕ
count_text n = codes ": " ++ (decimal n ++ (10 ∷ []))

-- what is written of a list at its end
abbrev pub last_text : Seen → List ℕ
last_text s = decimal s.held ++ (codes " answers, " ++ (decimal (choose s.is_whole 0 1) ++ (codes " differences" ++ (10 ∷ []))))

-- what is written after a record: the row's count after a title, and a difference
unfoldable pub after_text : Seen → ℕ → Bool → List ℕ
after_text s what holds =
    choose (eqb what 0xfe) []
    (choose (eqb what 0) (count_text s.row) (choose holds [] (codes " DIFFERENCE")))
