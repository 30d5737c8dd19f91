-- The hint run (RULES 8.26 to 8.32, 9.22; arch/arm64.rs, `apply_hints`): its answer, and the image that it leaves.
use Rattle.std.specs.Prelude.{ℕ, List, length, Result, Ok, Err, ⊤}
use Rattle.macho.specs.Refusal.{answer_number, left_in}
use Rattle.macho.specs.declared.refusal.Refusal.{Refusal}
use Rattle.image.specs.Steps.{Work, step_of}
use Rattle.arm64_hint_order.specs.Lists.{run_list}
use Rattle.arm64_hint_order.specs.Cursor.{order_of}
use Rattle.arm64_hint_check.specs.Check.{check_all}
use Rattle.arm64_hint_work.specs.Step.{steps_of}
use Rattle.arm64_hint_work.specs.declared.tally.Tally.{Tally}

-- four zeros
abbrev pub zeros : Tally
zeros = record { rewritten = 0; skipped = 0; declined = 0; turned_down = 0 }

-- what the first step works on: the lent image, and four zeros
abbrev pub start : List ℕ → Work Tally
start image = record { image = image; tally = zeros }

-- image and tally after the steps of a list of hint positions
unfoldable pub worked : List ℕ → List ℕ → List ℕ → List ℕ → Work Tally
worked image hints entries l = run_list (step_of (steps_of hints entries)) l (start image)

-- the counts, or the first refusal
abbrev pub answer_by : Result ⊤ Refusal → Tally → Result Tally Refusal
answer_by (Ok tt) t = Ok t
answer_by (Err x) t = Err x

-- what was lent as it was, or as the run leaves it
abbrev pub image_by : Result ⊤ Refusal → List ℕ → List ℕ → List ℕ
image_by (Ok tt) old new = new
image_by (Err x) old new = old

-- what a run answers: the first refusal, or the counts of the steps in the order of work
unfoldable pub run_of : List ℕ → List ℕ → List ℕ → Result Tally Refusal
run_of image hints entries = answer_by (check_all (length image) hints (length entries)) (worked image hints entries (order_of hints)).tally

-- the image that it leaves: unchanged where it is turned down
unfoldable pub image_of : List ℕ → List ℕ → List ℕ → List ℕ
image_of image hints entries = image_by (check_all (length image) hints (length entries)) image (worked image hints entries (order_of hints)).image

-- the number (RULES 3.1) of an answer: 0 where the run is done
abbrev pub run_number : Result Tally Refusal → ℕ
run_number a = answer_number a

-- a lent tally after an answer: the new counts, or the old ones
abbrev pub tally_after : Tally → Result Tally Refusal → Tally
tally_after old a = left_in a old
