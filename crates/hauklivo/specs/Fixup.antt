-- What the fix-up's call returns and counts, by what it is lent (arm64_fixup/specs/Answer.antt has its answer, its section and its slots).
use Rattle.std.specs.Prelude.{ℕ, List}
use Rattle.macho.specs.Refusal.{answer_number}
use Rattle.arm64_fixup.specs.Answer.{answer_to}
use Rattle.hauklivo.specs.Lent.{lent_count}

-- the number: 0, or the refusal's
abbrev pub number_to : List ℕ → ℕ → ℕ → ℕ → List ℕ → List ℕ → List ℕ → ℕ
number_to section base tls image entries targets slots = answer_number (answer_to section base tls image entries targets slots)

-- the count: how many reports were filled; a refusal leaves the old one
abbrev pub count_to : List ℕ → ℕ → ℕ → ℕ → List ℕ → List ℕ → List ℕ → ℕ → ℕ
count_to section base tls image entries targets slots count = lent_count (answer_to section base tls image entries targets slots) count
