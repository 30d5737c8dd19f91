-- Which rule rewrote a hint's words, and how many of them, by what came of the hint (RULES 16.3, 16.4).
use Rattle.std.specs.Prelude.{ℕ, ◌+◌, Result, Ok, Err, Option, Some, None}
use Rattle.macho.specs.RuleRecord.{rule_skipped, rule_declined, rule_second_adrp, rule_literal, rule_adr, rule_fold, rule_got_slot, rule_turned_down}
use Rattle.arm64_hint_terms.specs.declared.answer.Rewrite.{Rewrite}
use Rattle.arm64_hint_terms.specs.declared.answer.Rewrite.TheVariants.{Drop, Literal, Adr, Fold, Slot}
use Rattle.arm64_hint_terms.specs.declared.answer.NoRewrite.{NoRewrite}
use Rattle.arm64_hint_terms.specs.declared.answer.Insns.{Insns}
use Rattle.arm64_hint_terms.specs.declared.answer.NoRewrite.TheVariants.{Declined, Nine}
use Rattle.arm64_hint_terms.specs.declared.answer.Plan.{Plan}

-- the rule of a rewrite
abbrev pub rewrite_rule : Rewrite → ℕ
rewrite_rule Drop = rule_second_adrp
rewrite_rule Literal = rule_literal
rewrite_rule Adr = rule_adr
rewrite_rule Fold = rule_fold
rewrite_rule Slot = rule_got_slot

-- the rule of a decision
abbrev pub decision_rule : Result Plan NoRewrite → ℕ
decision_rule (Err Declined) = rule_declined
decision_rule (Err Nine) = rule_turned_down
decision_rule (Ok p) = rewrite_rule p.rewrite

-- the rule of an outcome
abbrev pub rule_of : Option (Result Plan NoRewrite × Insns) → ℕ
rule_of None = rule_skipped
rule_of (Some (d, s)) = decision_rule d

-- 1 where a place is written, also with the word that it holds, else 0
abbrev pub changed_at : Option ℕ → ℕ
changed_at None = 0
changed_at (Some w) = 1

-- how many places a rewrite writes
abbrev pub changed_by : Plan → ℕ
changed_by p = changed_at p.w0 + changed_at p.w1 + changed_at p.w2

-- how many places a decision writes
abbrev pub changed_in : Result Plan NoRewrite → ℕ
changed_in (Err Declined) = 0
changed_in (Err Nine) = 0
changed_in (Ok p) = changed_by p

-- how many places an outcome writes
abbrev pub changed_of : Option (Result Plan NoRewrite × Insns) → ℕ
changed_of None = 0
changed_of (Some (d, s)) = changed_in d
