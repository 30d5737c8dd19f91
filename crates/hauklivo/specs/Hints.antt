-- What the calls of the hint run and of the listed one return and leave, by what they are lent (arm64_hint_run/specs/Run.antt and
-- arm64_hint_listed/specs/Listed.antt have their answers, images and records).
use Rattle.std.specs.Prelude.{ℕ, List}
use Rattle.arm64_hint_work.specs.declared.tally.Tally.{Tally}
use Rattle.arm64_hint_run.specs.Run.{run_of, image_of, run_number, tally_after}
use Rattle.arm64_hint_listed.specs.Listed as Listed

-- the number: 0, or the refusal's
abbrev pub number_to : List ℕ → List ℕ → List ℕ → ℕ
number_to image hints entries = run_number (run_of image hints entries)

-- the tally: the four counts; a refusal leaves the old ones
abbrev pub tally_to : List ℕ → List ℕ → List ℕ → Tally → Tally
tally_to image hints entries tally = tally_after tally (run_of image hints entries)

-- the image: as the run leaves it; a refusal leaves the old one
abbrev pub image_to : List ℕ → List ℕ → List ℕ → List ℕ
image_to image hints entries = image_of image hints entries

-- the number of the listed run: 0, or the refusal's
abbrev pub listed_number_to : List ℕ → List ℕ → List ℕ → List ℕ → ℕ
listed_number_to image hints entries slots = run_number (Listed.listed_of image hints entries slots)

-- its tally: the four counts; a refusal leaves the old ones
abbrev pub listed_tally_to : List ℕ → List ℕ → List ℕ → List ℕ → Tally → Tally
listed_tally_to image hints entries slots tally = tally_after tally (Listed.listed_of image hints entries slots)

-- its image: as the run leaves it; a refusal leaves the old one
abbrev pub listed_image_to : List ℕ → List ℕ → List ℕ → List ℕ → List ℕ
listed_image_to image hints entries slots = Listed.image_of image hints entries slots

-- its records: what became of each hint, in the order of work; a refusal leaves the old ones
abbrev pub records_to : List ℕ → List ℕ → List ℕ → List ℕ → List ℕ
records_to image hints entries slots = Listed.slots_of image hints entries slots
