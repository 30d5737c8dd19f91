-- What the reader's call returns and counts, by what it is lent (arm64_reader/specs/Read.antt has its answer and its slots).
use Rattle.std.specs.Prelude.{ℕ, List}
use Rattle.macho.specs.Refusal.{answer_number}
use Rattle.arm64_reader.specs.Read.{answer_to}
use Rattle.hauklivo.specs.Lent.{lent_count}

-- the number: 0, or the refusal's
abbrev pub number_to : List ℕ → List ℕ → List ℕ → List ℕ → ℕ
number_to contents records sections slots = answer_number (answer_to contents records sections slots)

-- the count: how many entries were filled; a refusal leaves the old one
abbrev pub count_to : List ℕ → List ℕ → List ℕ → List ℕ → ℕ → ℕ
count_to contents records sections slots count = lent_count (answer_to contents records sections slots) count
