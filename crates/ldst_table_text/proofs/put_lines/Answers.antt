-- `put_lines` meets its contract: after k turns the lines of the first k indices are there. Assumes nothing.
use Rattle.ldst_table_text.proofs.Lines.{next_line}
use Rattle.ldst_table_text.proofs.put_lines.Goals as goal

pub loop-k-preserved : goal.loop-k-preserved
loop-k-preserved c =
    next_line c.loop-k.k c.loop-k.invariant c.put_line.ensures
