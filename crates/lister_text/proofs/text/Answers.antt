-- `text`: the lines, or the line of the refusal.
use Rattle.lister_text.proofs.Printed.{counts}
use Rattle.lister_text.proofs.Answers.{one-digit, text-refused, text-filled}
use borrow.Author.Rules.{rules}
use Rattle.lister_text.proofs.text.Goals as goal

pub put_refused-requires : goal.put_refused-requires
put_refused-requires c =
    (search rules, one-digit c.args.input.now c.args.out.now (search rules) _ _ (c.list.ensures.answer, c.list.ensures.out) c.in-Err.is _ c.number.ensures)

pub returns-in-Err : goal.returns-in-Err
returns-in-Err c =
    let p = text-refused c.args.input.now c.args.out.now (search rules) _ _ (c.list.ensures.answer, c.list.ensures.out) c.in-Err.is _ c.number.ensures c.put_refused.ensures.puts in
    record {
      puts = p;
      upper_bound = counts _ p;
    }

pub returns-in-Ok : goal.returns-in-Ok
returns-in-Ok c =
    let p = text-filled c.args.input.now c.args.out.now (search rules) _ _ (c.list.ensures.answer, c.list.ensures.out) c.in-Ok.is in
    record {
      puts = p;
      upper_bound = counts _ p;
    }
