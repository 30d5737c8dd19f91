-- `text` meets its contract: the opening, the lines and the end, one after another. Assumes nothing.
use Rattle.text.proofs.Prints.{prints_then}
use Rattle.ldst_table_text.specs.Text.{opening, table_text}
use Rattle.ldst_table_text.proofs.text.Goals as goal

pub returns-clause-puts : goal.returns-clause-puts
unfolding table_text opening
returns-clause-puts c =
    (prints_then c.put.ensures (prints_then c.put_lines.ensures c.put-2.ensures)).puts
