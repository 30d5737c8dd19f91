-- What the calls for hint payloads (RULES 14.9, 14.10) return and count, by what they are lent (hint_payload/specs/Answer.antt has their answers, slots
-- and bytes).
use Rattle.std.specs.Prelude.{ℕ, List, length}
use Rattle.macho.specs.Refusal.{answer_number}
use Rattle.hint_payload.specs.Answer.{read_to, write_to}
use Rattle.hauklivo.specs.Lent.{lent_count}

-- the reader's number: 0, or the refusal's
abbrev pub read_number_to : List ℕ → List ℕ → ℕ
read_number_to payload slots = answer_number (read_to payload (length slots))

-- the reader's count: how many values were filled; a refusal leaves the old one
abbrev pub read_count_to : List ℕ → List ℕ → ℕ → ℕ
read_count_to payload slots count = lent_count (read_to payload (length slots)) count

-- the writer's number: 0, or the refusal's
abbrev pub write_number_to : List ℕ → List ℕ → ℕ
write_number_to row out = answer_number (write_to row (length out))

-- the writer's count: how many bytes were filled; a refusal leaves the old one
abbrev pub write_count_to : List ℕ → List ℕ → ℕ → ℕ
write_count_to row out count = lent_count (write_to row (length out)) count
