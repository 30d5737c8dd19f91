-- The listed hint run (RULES 16.1, 16.2, 16.5, 16.6): its answer, and the image and the slots that it leaves.
use Rattle.std.specs.Prelude.{ℕ, List, length, Result, ⊤}
use Rattle.macho.specs.declared.refusal.Refusal.{Refusal}
use Rattle.arm64_hint_work.specs.declared.tally.Tally.{Tally}
use Rattle.arm64_hint_order.specs.Cursor.{order_of}
use Rattle.arm64_hint_check.specs.Check.{check_listed}
use Rattle.arm64_hint_run.specs.Run.{worked, answer_by, image_by}
use Rattle.arm64_hint_run.specs.Records.{records_of, filled}

-- what is turned down of what a listed run is lent
abbrev pub listed_check : List ℕ → List ℕ → List ℕ → List ℕ → Result ⊤ Refusal
listed_check image hints entries slots = check_listed (length image) hints (length entries) (length slots)

-- what a listed run answers: the first refusal, or the counts of the steps in the order of work
unfoldable pub listed_of : List ℕ → List ℕ → List ℕ → List ℕ → Result Tally Refusal
listed_of image hints entries slots = answer_by (listed_check image hints entries slots) (worked image hints entries (order_of hints)).tally

-- the image that it leaves: unchanged where it is turned down
unfoldable pub image_of : List ℕ → List ℕ → List ℕ → List ℕ → List ℕ
image_of image hints entries slots = image_by (listed_check image hints entries slots) image (worked image hints entries (order_of hints)).image

-- and the slots: unchanged where it is turned down, else with the records of the order of work
unfoldable pub slots_of : List ℕ → List ℕ → List ℕ → List ℕ → List ℕ
slots_of image hints entries slots = image_by (listed_check image hints entries slots) slots (filled (records_of image hints entries (order_of hints)) slots)
