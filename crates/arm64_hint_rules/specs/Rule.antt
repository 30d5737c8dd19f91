-- A rule at work: what is decided of a hint's words, and the section that it leaves (RULES 8.11, 8.16 to 8.25; arch/arm64.rs, `loh_*`).
use Rattle.std.specs.Prelude.{ℕ, List, [], ◌∷◌, Result, Ok, Err, Some, None, Option}
use Rattle.util.specs.Choice.{choose}
use Rattle.macho.specs.declared.hint.HintRecord.{HintRecord}
use Rattle.image.specs.Words.{words_at, put_words}
use Rattle.arm64_hint_terms.specs.Answer.{decision_number}
use Rattle.arm64_hint_terms.specs.declared.answer.Plan.{Plan}
use Rattle.arm64_hint_terms.specs.declared.answer.NoRewrite.{NoRewrite}
use Rattle.arm64_hint_terms.specs.declared.answer.Insns.{Insns}
use Rattle.arm64_hint_terms.specs.declared.rels.Rels.{Rels}
use Rattle.arm64_hint_laws.specs.Decide.{decide}
use Rattle.arm64_hint_places.specs.Hint.{is_skipped, offs_of, insns_of, rels_of}

-- what is decided (Decide) of a hint of a kind with its words
abbrev pub ruled : ℕ → HintRecord → Rels → List ℕ → Option (Result Plan NoRewrite × Insns)
ruled kind h r words = Some (decide kind (insns_of h words) r, insns_of h words)

-- a hint's outcome, by its own kind and the entries that it names
unfoldable pub hint_outcome : List ℕ → HintRecord → List ℕ → Option (Result Plan NoRewrite × Insns)
hint_outcome entries h words = choose (is_skipped h) None (ruled h.kind h (rels_of entries h) words)

-- the number of an outcome: its decision's, and 0 where the hint is skipped
abbrev pub outcome_number : Option (Result Plan NoRewrite × Insns) → ℕ
outcome_number None = 0
outcome_number (Some (d, s)) = decision_number d

-- the new words of a decision, place by place
abbrev pub news_in : Result Plan NoRewrite → List (Option ℕ)
news_in (Err x) = []
news_in (Ok p) = p.w0 ∷ p.w1 ∷ p.w2 ∷ []

-- and of an outcome
abbrev pub news_of : Option (Result Plan NoRewrite × Insns) → List (Option ℕ)
news_of None = []
news_of (Some (d, s)) = news_in d

-- what is decided in a hint's section
abbrev pub ruled_in : ℕ → HintRecord → Rels → List ℕ → Option (Result Plan NoRewrite × Insns)
ruled_in kind h r section = ruled kind h r (words_at (offs_of h) section)

-- and the section that it leaves
abbrev pub section_after : ℕ → HintRecord → Rels → List ℕ → List ℕ
section_after kind h r section = put_words (offs_of h) (news_of (ruled_in kind h r section)) section
