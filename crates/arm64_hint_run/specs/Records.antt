-- The records of a run's hints, in the order of work, and slots filled with them (RULES 16.2, 16.3, 16.6).
use Rattle.std.specs.Prelude.{ℕ, ◌*◌, List, [], ◌∷◌, ◌++◌, length, drop, Result, Option}
use Rattle.macho.specs.Record.{list_bytes}
use Rattle.macho.specs.RuleRecord.{rule_record_size, rule_record_bytes}
use Rattle.macho.specs.declared.rule_record.RuleRecord.{RuleRecord}
use Rattle.image.specs.Steps.{answered, written}
use Rattle.arm64_hint_order.specs.Runs.{answers}
use Rattle.arm64_hint_order.specs.Cursor.{object_at}
use Rattle.arm64_hint_terms.specs.declared.answer.Plan.{Plan}
use Rattle.arm64_hint_terms.specs.declared.answer.NoRewrite.{NoRewrite}
use Rattle.arm64_hint_terms.specs.declared.answer.Insns.{Insns}
use Rattle.arm64_hint_work.specs.Step.{steps_of}
use Rattle.arm64_hint_work.specs.Acted.{rule_of, changed_of}

-- the record of hint k, by what came of it
abbrev pub record_of : List ℕ → ℕ → Option (Result Plan NoRewrite × Insns) → RuleRecord
record_of hints k o = record { position = k; object = object_at hints k; rule = rule_of o; changed = changed_of o }

-- the records of a list of hint positions, by what came of each
abbrev pub records_in : List ℕ → List ℕ → List (Option (Result Plan NoRewrite × Insns)) → List RuleRecord
records_in hints [] os = []
records_in hints (k ∷ l) [] = []
records_in hints (k ∷ l) (o ∷ os) = record_of hints k o ∷ records_in hints l os

-- what comes of the hints of a list, one after another from an image on
abbrev pub outcomes_of : List ℕ → List ℕ → List ℕ → List ℕ → List (Option (Result Plan NoRewrite × Insns))
outcomes_of image hints entries l = answers (written (steps_of hints entries)) (answered (steps_of hints entries)) l image

-- their records
unfoldable pub records_of : List ℕ → List ℕ → List ℕ → List ℕ → List RuleRecord
records_of image hints entries l = records_in hints l (outcomes_of image hints entries l)

-- the slots with records from the front on, and after them the old bytes
abbrev pub filled : List RuleRecord → List ℕ → List ℕ
filled rs slots = list_bytes rule_record_bytes rs ++ drop (rule_record_size * length rs) slots
