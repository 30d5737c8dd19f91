-- Each test that turns the payload down is one of `read_to`; else what the walks promise.
use Rattle.std.proofs.lemmas.Result.{err_from_is_err_and}
use native.Mathlib.Omega.{arith}
use mathlib.Core.Path.{sym, ap, ◌∙◌}
use lib.Seq.{sets}
use Rattle.hint_payload.proofs.Answers.{read-long, read-narrow, read-else, read-room, read-row, reads}
use Rattle.hint_payload.proofs.read.read_hints.Goals as goal

pub returns-then-payload-gt-MOST_RECORDS : goal.returns-then-payload-gt-MOST_RECORDS
returns-then-payload-gt-MOST_RECORDS c =
    let r = reads _ _ _ (read-long _ _ c.if-payload-gt-MOST_RECORDS.true) in
    record { answer = r.0; slots = r.1 }

pub returns-then-slots-payload : goal.returns-then-slots-payload
returns-then-slots-payload c =
    let r = reads _ _ _ (read-narrow _ _ c.if-payload-gt-MOST_RECORDS.false c.if-slots-payload.true) in
    record { answer = r.0; slots = r.1 }

pub returns-in_err-count : goal.returns-in_err-count
returns-in_err-count c =
    let p = err_from_is_err_and c.from_residual.result c.from_residual.ensures.1 in
    let r = reads _ _ _ (read-else _ _ c.if-payload-gt-MOST_RECORDS.false c.if-slots-payload.false ∙ sym c.in_err-count.ensures) in
    record { answer = rw (p.1, p.2) r.0; slots = r.1 }

pub fill-requires : goal.fill-requires
fill-requires c =
    omega (arith, read-room _ _ c.in_ok-count.ensures)

pub returns : goal.returns
returns c =
    let e = c.in_ok-count.ensures in
    let r = reads _ _ _ (read-else _ _ c.if-payload-gt-MOST_RECORDS.false c.if-slots-payload.false ∙ sym e) in
    record {
      answer = r.0;
      slots = c.fill.ensures ∙ ap (sets _ 0) (read-row _ _ e) ∙ r.1;
    }
