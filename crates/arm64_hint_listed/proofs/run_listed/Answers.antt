-- `run_listed`: the check decides.
use Rattle.std.specs.Prelude.{Err}
use mathlib.Core.Path.{sym, ap, ◌∙◌}
use Rattle.std.proofs.lemmas.Result.{err_from_is_err_and}
use Rattle.util.specs.Choice.{choose}
use Rattle.arm64_hint_check.proofs.Checks.{told_fit, told-refused}
use Rattle.arm64_hint_check.proofs.Listed.{listed-fit}
use Rattle.arm64_hint_listed.proofs.Run.{listed-refused, listed-done}
use Rattle.arm64_hint_listed.proofs.run_listed.Goals as goal

pub work_and_list-requires : goal.work_and_list-requires
work_and_list-requires c =
    let fit = told_fit _ _ _ (sym c.check_listed.ensures ∙ c.in_ok-rises.was) in
    let run = listed-fit _ _ _ _ fit.0 in
    record {
      entries_value = run.0;
      hints_in_bounds = (λ e. run.1);
      rises_value = fit.1;
    }

pub returns-in_err-rises : goal.returns-in_err-rises
returns-in_err-rises c =
    let p = err_from_is_err_and c.from_residual.result c.from_residual.ensures.1 in
    let told = listed-refused _ _ _ _ _ (told-refused _ _ _ (sym c.check_listed.ensures ∙ c.in_err-rises.was)) in
    record {
      answer = p.1 ∙ ap Err p.2 ∙ told.0;
      image = told.1.0;
      slots = told.1.1;
    }

pub returns : goal.returns
unfolding choose
returns c =
    let done = listed-done _ _ _ _ (told_fit _ _ _ (sym c.check_listed.ensures ∙ c.in_ok-rises.was)).0 c.work_and_list.ensures.tally c.work_and_list.ensures.image c.work_and_list.ensures.slots in
    record {
      answer = done.0;
      image = done.1.0;
      slots = done.1.1;
    }
