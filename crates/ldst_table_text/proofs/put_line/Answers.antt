-- `put_line` meets its contract: three texts, one after another. Assumes nothing.
use Rattle.text.proofs.Prints.{prints_then}
use Rattle.ldst_table_text.specs.Text.{entry_line}
use Rattle.ldst_table_text.proofs.put_line.Goals as goal

pub returns : goal.returns
unfolding entry_line
returns c =
    rw (← c.class_of_index-class.ensures, ← c.entry.ensures) (prints_then c.put.ensures (prints_then c.put_number.ensures c.put_comment.ensures))
