-- A listing of words in lent bytes: the word lister as a call, with its numbers (RULES 10.6).
use Rattle.std.specs.Prelude.{ℕ, ◌*◌, ◌/◌, ◌%◌, List, ltb, eqb, length, Result, Ok, Err}
use Rattle.util.specs.Choice.{choose}
use Rattle.macho.specs.Refusal.{out_by}
use Rattle.macho.specs.declared.refusal.Refusal.TheVariants.{Lengths, Slots}
use Rattle.macho.specs.declared.refusal.Refusal.{Refusal}
use Rattle.lister_text.specs.Text.{lines_of}

-- a line for each word
abbrev pub lines : List ℕ → List ℕ
lines s = lines_of s (length s / 4)

-- the answer of a listing into so much room: 2 above 16,384 bytes and with fewer than 27 bytes of room for a word, then 1 where they are no whole
-- words, else the bytes of the lines
unfoldable pub list_of : List ℕ → ℕ → Result ℕ Refusal
list_of s room =
    choose (ltb 16384 (length s)) (Err Slots)
    (choose (ltb room (27 * (length s / 4))) (Err Slots)
    (choose (eqb (length s % 4) 0) (Ok (length (lines s))) (Err Lengths)))

-- the lent bytes after a listing
abbrev pub out_after : List ℕ → List ℕ → List ℕ
out_after s out = out_by (list_of s (length out)) (lines s) out
