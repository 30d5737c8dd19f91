-- `check_listed`: the lists first, then the slots, then the hints.
use Rattle.std.proofs.Common.{sym, ◌∙◌}
use Rattle.std.proofs.lemmas.Result.{err_from_is_err_and}
use Rattle.arm64_hint_check.proofs.Checks.{says-refused}
use Rattle.arm64_hint_check.proofs.Listed.{listed-lists, listed-slots, listed-hints}
use Rattle.arm64_hint_check.proofs.check_listed.Goals as goal

pub returns-in_err-check_lists : goal.returns-in_err-check_lists
returns-in_err-check_lists c =
    let p = err_from_is_err_and c.from_residual.result c.from_residual.ensures.1 in
    rw (p.1, p.2) (says-refused _ (listed-lists _ _ _ _ _ (sym c.check_lists.ensures ∙ c.in_err-check_lists.was)))

pub returns-in_err-check_slots : goal.returns-in_err-check_slots
returns-in_err-check_slots c =
    let lists = sym c.check_lists.ensures ∙ c.in_ok-check_lists.was in
    let p = err_from_is_err_and c.from_residual-in_err-check_slots.result c.from_residual-in_err-check_slots.ensures.1 in
    rw (p.1, p.2) (says-refused _ (listed-slots _ _ _ _ lists _ (sym c.check_slots.ensures ∙ c.in_err-check_slots.was)))

pub returns : goal.returns
returns c =
    let lists = sym c.check_lists.ensures ∙ c.in_ok-check_lists.was in
    c.check_hints.ensures ∙ listed-hints _ _ _ _ lists _ (sym c.check_slots.ensures ∙ c.in_ok-check_slots.was)
