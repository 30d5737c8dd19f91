-- `put_comment` meets its contract: six texts, one after another. Assumes nothing.
use Rattle.text.proofs.Prints.{prints_then}
use Rattle.ldst_table_text.specs.Text.{comment_of}
use Rattle.ldst_table_text.proofs.put_comment.Goals as goal

pub returns : goal.returns
unfolding comment_of
returns c =
    prints_then c.put.ensures
    (prints_then (rw c.last_digits.ensures at c.put-2.ensures)
    (prints_then c.put-3.ensures
    (prints_then c.put_name.ensures (prints_then c.put_moves.ensures c.put-4.ensures))))
