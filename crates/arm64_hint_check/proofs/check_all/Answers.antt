-- `check_all`: the lists first, then the hints.
use Rattle.std.proofs.Common.{sym, ◌∙◌}
use Rattle.std.proofs.lemmas.Result.{err_from_is_err_and}
use Rattle.arm64_hint_check.proofs.Checks.{says-refused, all-refused, all-hints}
use Rattle.arm64_hint_check.proofs.check_all.Goals as goal

pub returns-in_err-check_lists : goal.returns-in_err-check_lists
returns-in_err-check_lists c =
    let p = err_from_is_err_and c.from_residual.result c.from_residual.ensures.1 in
    rw (p.1, p.2) (says-refused _ (all-refused _ _ _ _ (sym c.check_lists.ensures ∙ c.in_err-check_lists.was)))

pub returns : goal.returns
returns c =
    c.check_hints.ensures ∙ all-hints _ _ _ _ (sym c.check_lists.ensures ∙ c.in_ok-check_lists.was)
