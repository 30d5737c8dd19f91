-- `put_lines` meets its contract: after k turns the lines of the first k indices are there. Assumes nothing.
use Rattle.text.specs.Prints.{Prints}
use Rattle.ldst_table_text.specs.Text.{entry_lines}
use Rattle.ldst_table_text.proofs.put_lines.Given as goal

abbrev pub invariant-loop-k : goal.invariant-loop-k
invariant-loop-k l = Prints l.initial.page (entry_lines l.k) l.page
