-- `put_lines` meets its contract: after i turns the lines of the first i words are there. Assumes nothing.
use Rattle.text.specs.Prints.{Prints}
use Rattle.lister_text.specs.Text.{lines_of}
use Rattle.lister_text.proofs.put_lines.Given as goal

abbrev pub invariant-loop-i : goal.invariant-loop-i
invariant-loop-i l = Prints l.initial.page (lines_of l.input l.i) l.page
