-- The step of one hint: where its words stand in the image, what comes of it, and how it is counted (RULES 8.5 to 8.11, 8.32;
-- arch/arm64.rs, `apply_hints`).
use Rattle.std.specs.Prelude.{ℕ, ◌+◌, List, map, Result, Ok, Err, Option, Some, None}
use Rattle.macho.specs.declared.hint.HintRecord.{HintRecord}
use Rattle.macho.specs.Hint.{hint_of}
use Rattle.image.specs.Steps.{Steps}
use Rattle.arm64_hint_terms.specs.declared.answer.Plan.{Plan}
use Rattle.arm64_hint_terms.specs.declared.answer.NoRewrite.{NoRewrite}
use Rattle.arm64_hint_terms.specs.declared.answer.Insns.{Insns}
use Rattle.arm64_hint_terms.specs.declared.answer.NoRewrite.TheVariants.{Declined, Nine}
use Rattle.arm64_hint_places.specs.Hint.{offs_of}
use Rattle.arm64_hint_rules.specs.Rule.{hint_outcome, news_of}
use Rattle.arm64_hint_work.specs.declared.tally.Tally.{Tally}

-- where a hint's words stand in the image
abbrev pub places_of : HintRecord → List ℕ
places_of h = map (λ at. h.start + at) (offs_of h)

-- the tally with one decision more
abbrev pub add_decision : Result Plan NoRewrite → Tally → Tally
add_decision (Err Declined) t = record { rewritten = t.rewritten; skipped = t.skipped; declined = t.declined + 1; turned_down = t.turned_down }
add_decision (Err Nine) t = record { rewritten = t.rewritten; skipped = t.skipped; declined = t.declined; turned_down = t.turned_down + 1 }
add_decision (Ok p) t = record { rewritten = t.rewritten + 1; skipped = t.skipped; declined = t.declined; turned_down = t.turned_down }

-- and with one outcome more
abbrev pub add_outcome : Option (Result Plan NoRewrite × Insns) → Tally → Tally
add_outcome None t = record { rewritten = t.rewritten; skipped = t.skipped + 1; declined = t.declined; turned_down = t.turned_down }
add_outcome (Some (d, s)) t = add_decision d t

-- how many hints a tally counts
abbrev pub total : Tally → ℕ
total t = t.rewritten + t.skipped + t.declined + t.turned_down

-- the steps of a run's hints: hint k reads the words at its places, and its outcome says which of them get new words
abbrev pub steps_of : List ℕ → List ℕ → Steps (Option (Result Plan NoRewrite × Insns)) Tally
steps_of hints entries = record {
  places = λ k. places_of (hint_of hints k);
  answer = λ k words. hint_outcome entries (hint_of hints k) words;
  news = news_of;
  add = add_outcome;
}
