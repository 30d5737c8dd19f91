-- What the lister's call returns and counts, by what it is lent (lister_text/specs/Listing.antt has its answer and its text).
use Rattle.std.specs.Prelude.{ℕ, List, length}
use Rattle.macho.specs.Refusal.{answer_number}
use Rattle.lister_text.specs.Listing.{list_of}
use Rattle.hauklivo.specs.Lent.{lent_count}

-- the number: 0, or the refusal's
abbrev pub number_to : List ℕ → List ℕ → ℕ
number_to words out = answer_number (list_of words (length out))

-- the count: how many bytes were filled; a refusal leaves the old one
abbrev pub count_to : List ℕ → List ℕ → ℕ → ℕ
count_to words out count = lent_count (list_of words (length out)) count
