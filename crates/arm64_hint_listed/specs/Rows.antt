-- Which rules a hint of each kind meets that is not skipped, and how many words each changes (RULES 16.4).
use Rattle.std.specs.Prelude.{◌≡◌, List, [], ◌∷◌, ℕ, Option, Some, None}
use Rattle.macho.specs.Types.{MCLOH_AdrpAdrp, MCLOH_AdrpLdr, MCLOH_AdrpAddLdr, MCLOH_AdrpLdrGotLdr}
use Rattle.macho.specs.Types.{MCLOH_AdrpAddStr, MCLOH_AdrpLdrGotStr, MCLOH_AdrpAdd, MCLOH_AdrpLdrGot}
use Rattle.macho.specs.RuleRecord.{rule_declined, rule_second_adrp, rule_literal, rule_adr, rule_fold, rule_got_slot, rule_turned_down}
use Rattle.arm64_hint_terms.specs.declared.answer.Insns.{Insns}
use Rattle.arm64_hint_terms.specs.declared.rels.Rels.{Rels}
use Rattle.arm64_hint_laws.specs.Decide.{decide}
use Rattle.arm64_hint_work.specs.Acted.{decision_rule, changed_in}

-- kind, rule, words changed. A number that is no kind has the first row alone, and its hints are skipped
pub data Row : ℕ → ℕ → ℕ → Type 0 where
  declined : {kind : ℕ} → Row kind rule_declined 0
  turned-down-2 : Row MCLOH_AdrpLdr rule_turned_down 0
  turned-down-3 : Row MCLOH_AdrpAddLdr rule_turned_down 0
  turned-down-4 : Row MCLOH_AdrpLdrGotLdr rule_turned_down 0
  turned-down-5 : Row MCLOH_AdrpAddStr rule_turned_down 0
  turned-down-6 : Row MCLOH_AdrpLdrGotStr rule_turned_down 0
  turned-down-8 : Row MCLOH_AdrpLdrGot rule_turned_down 0
  second-adrp-1 : Row MCLOH_AdrpAdrp rule_second_adrp 1
  literal-2 : Row MCLOH_AdrpLdr rule_literal 2
  literal-3 : Row MCLOH_AdrpAddLdr rule_literal 3
  adr-3 : Row MCLOH_AdrpAddLdr rule_adr 3
  fold-3 : Row MCLOH_AdrpAddLdr rule_fold 2
  got-slot-4 : Row MCLOH_AdrpLdrGotLdr rule_got_slot 2
  literal-4 : Row MCLOH_AdrpLdrGotLdr rule_literal 3
  adr-4 : Row MCLOH_AdrpLdrGotLdr rule_adr 2
  fold-4 : Row MCLOH_AdrpLdrGotLdr rule_fold 2
  adr-5 : Row MCLOH_AdrpAddStr rule_adr 3
  fold-5 : Row MCLOH_AdrpAddStr rule_fold 2
  got-slot-6 : Row MCLOH_AdrpLdrGotStr rule_got_slot 2
  adr-6 : Row MCLOH_AdrpLdrGotStr rule_adr 2
  fold-6 : Row MCLOH_AdrpLdrGotStr rule_fold 2
  adr-7 : Row MCLOH_AdrpAdd rule_adr 2
  got-slot-8 : Row MCLOH_AdrpLdrGot rule_got_slot 2
  adr-8 : Row MCLOH_AdrpLdrGot rule_adr 2

-- words and entries of which a decision of a kind meets a rule that changes so many words
pub record Reached (kind rule changed : ℕ) : Type 0 where
  pub words : Insns
  pub entries : Rels
  pub by : decision_rule (decide kind words entries) ≡ rule
  pub writes : changed_in (decide kind words entries) ≡ changed

-- those of the places that get a new word
abbrev pub written_at : List ℕ → List (Option ℕ) → List ℕ
written_at [] news = []
written_at (at ∷ places) [] = []
written_at (at ∷ places) (None ∷ news) = written_at places news
written_at (at ∷ places) (Some w ∷ news) = at ∷ written_at places news
