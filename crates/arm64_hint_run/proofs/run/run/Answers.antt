-- `run`: the check decides.
use mathlib.Core.Path.{sym, ap, ◌∙◌}
use Rattle.std.specs.Prelude.{Err}
use Rattle.std.proofs.lemmas.Result.{err_from_is_err_and}
use Rattle.arm64_hint_check.proofs.Checks.{told_fit, told-refused}
use Rattle.arm64_hint_run.proofs.Loop.{run-refused, run-done}
use Rattle.arm64_hint_run.proofs.run.run.Goals as goal

pub work_all-requires : goal.work_all-requires
work_all-requires c =
    let fit = told_fit _ _ _ (sym c.check_all.ensures ∙ c.in_ok-rises.was) in
    record {
      entries_value = fit.0;
      rises_value = fit.1;
    }

pub returns-in_err-rises : goal.returns-in_err-rises
returns-in_err-rises c =
    let p = err_from_is_err_and c.from_residual.result c.from_residual.ensures.1 in
    let told = run-refused _ _ _ _ (told-refused _ _ _ (sym c.check_all.ensures ∙ c.in_err-rises.was)) in
    record {
      answer = p.1 ∙ ap Err p.2 ∙ told.0;
      image = told.1;
    }

pub returns : goal.returns
returns c =
    let done = run-done _ _ _ (told_fit _ _ _ (sym c.check_all.ensures ∙ c.in_ok-rises.was)).0 c.work_all.ensures.tally c.work_all.ensures.image in
    record {
      answer = done.0;
      image = done.1;
    }
