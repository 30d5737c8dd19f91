-- What the reader and the writer answer, and what they leave in what they are lent (RULES 3.18, 14.9, 14.10).
use Rattle.std.specs.Prelude.{ℕ, ◌+◌, ◌*◌, List, [], ltb, length, Result, Ok, Err, ⊤}
use Rattle.util.specs.Choice.{choose}
use Rattle.macho.specs.Record.{most_records}
use Rattle.macho.specs.Refusal.{out_by}
use Rattle.macho.specs.declared.refusal.Refusal.TheVariants.{Lengths, Slots}
use Rattle.macho.specs.declared.refusal.Refusal.{Refusal}
use Rattle.uleb.specs.Shortest.{ulebs_of}
use Rattle.hint_payload.specs.Row.{is_whole}
use Rattle.hint_payload.specs.Payload.{Payload, holds, fails, payload_of}

-- the row of a payload; none where it is refused
abbrev pub row_in : Payload → List ℕ
row_in (holds row) = row
row_in (fails x) = []

-- how many values a payload has, or why it is refused
abbrev pub count_in : Payload → Result ℕ Refusal
count_in (holds row) = Ok (length row)
count_in (fails x) = Err x

-- the same of what is left of a payload, after so many values
abbrev pub count_after : ℕ → Payload → Result ℕ Refusal
count_after count (holds row) = Ok (count + length row)
count_after count (fails x) = Err x

-- the reader's answer, lent n slots: 1 above 2^32 - 1 bytes, 2 where there are fewer slots than bytes, then what the payload says
unfoldable pub read_to : List ℕ → ℕ → Result ℕ Refusal
read_to payload n =
    choose (ltb most_records (length payload)) (Err Lengths)
    (choose (ltb n (length payload)) (Err Slots) (count_in (payload_of payload)))

-- the slots after the reader
abbrev pub row_to : List ℕ → List ℕ → List ℕ
row_to payload slots = out_by (read_to payload (length slots)) (row_in (payload_of payload)) slots

-- the writer's 1: above 2^32 - 1 values, or no row of whole hints
unfoldable pub row_check : List ℕ → Result ⊤ Refusal
row_check row = choose (ltb most_records (length row)) (Err Lengths) (choose (is_whole row) (Ok tt) (Err Lengths))

-- the writer's answer to a row that was checked, lent n bytes: 2 where there are fewer than ten for a value, else how many it writes
abbrev pub written_by : Result ⊤ Refusal → List ℕ → ℕ → Result ℕ Refusal
written_by (Err x) row n = Err x
written_by (Ok tt) row n = choose (ltb n (10 * length row)) (Err Slots) (Ok (length (ulebs_of row)))

-- the writer's answer: 1, then 2
unfoldable pub write_to : List ℕ → ℕ → Result ℕ Refusal
write_to row n = written_by (row_check row) row n

-- the bytes after the writer
abbrev pub bytes_to : List ℕ → List ℕ → List ℕ
bytes_to row out = out_by (write_to row (length out)) (ulebs_of row) out
