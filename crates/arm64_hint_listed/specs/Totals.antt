-- What the records of a listed run add up to (RULES 16.8).
use Rattle.std.specs.Prelude.{Bool, ◌&&◌, List, [], ◌∷◌, ℕ, ◌+◌, eqb, leb}
use Rattle.util.specs.Choice.{choose}
use Rattle.macho.specs.RuleRecord.{rule_skipped, rule_declined, rule_second_adrp, rule_got_slot, rule_turned_down}
use Rattle.macho.specs.declared.rule_record.RuleRecord.{RuleRecord}
use Rattle.arm64_hint_work.specs.declared.tally.Tally.{Tally}

-- whether a rule is a rewrite: one of 2 to 6
abbrev pub is_rewrite : ℕ → Bool
is_rewrite rule = leb rule_second_adrp rule && leb rule rule_got_slot

-- how many records have a rule that passes a test
abbrev pub count_rules : (ℕ → Bool) → List RuleRecord → ℕ
count_rules test [] = 0
count_rules test (r ∷ rs) = choose (test r.rule) 1 0 + count_rules test rs

-- their counts as a tally
abbrev pub totals : List RuleRecord → Tally
totals rs = record {
  rewritten = count_rules is_rewrite rs;
  skipped = count_rules (λ n. eqb n rule_skipped) rs;
  declined = count_rules (λ n. eqb n rule_declined) rs;
  turned_down = count_rules (λ n. eqb n rule_turned_down) rs;
}
