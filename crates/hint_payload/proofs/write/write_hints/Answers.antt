-- Each test that turns the row down is one of `write_to`; else the spellings that put_row promises.
use Rattle.std.specs.Prelude.{Ok}
use Rattle.std.proofs.lemmas.Result.{err_from_is_err_and}
use Prim.Native.Nat.{◌*◌, ◌≤◌}
use native.Mathlib.Omega.{arith}
use native.Mathlib.Nat.{zero-add}
use mathlib.Core.Path.{sym, ap, ◌∙◌}
use lib.ListN.{length}
use Rattle.hint_payload.proofs.Answers.{write-refused, fit-narrow, fit-else, writes}
use Rattle.hint_payload.proofs.write.write_hints.Goals as goal

pub returns-in_err-check_row : goal.returns-in_err-check_row
returns-in_err-check_row c =
    let p = err_from_is_err_and c.from_residual.result c.from_residual.ensures.1 in
    let r = writes _ _ _ (write-refused _ _ _ (sym c.in_err-check_row.ensures)) in
    record {
      answer = rw (p.1, p.2) r.0;
      out = r.1;
    }

pub returns-then-out-row : goal.returns-then-out-row
returns-then-out-row c =
    let r = writes _ _ _ (fit-narrow _ _ (sym c.in_ok-check_row.ensures) (omega arith)) in
    record {
      answer = r.0;
      out = r.1;
    }

pub returns : goal.returns
returns c =
    let room : 10 * length c.args.row.now ≤ length c.args.out.now = omega arith in
    let r = writes _ _ _ (fit-else _ _ (sym c.in_ok-check_row.ensures) room) in
    record {
      answer = ap Ok (c.put_row.ensures.ends ∙ zero-add _) ∙ r.0;
      out = c.put_row.ensures.stored ∙ r.1;
    }
