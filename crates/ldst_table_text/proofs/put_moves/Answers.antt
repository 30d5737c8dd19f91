-- `put_moves` meets its contract: three texts, one after another, or one. Assumes nothing.
use Rattle.text.proofs.Prints.{prints_then}
use Rattle.ldst_table_text.specs.Text.{class_text}
use Rattle.ldst_table_text.proofs.put_moves.Goals as goal

pub returns-in-Some : goal.returns-in-Some
unfolding class_text
returns-in-Some c =
    rw (c.in-Some.is, ← c.moved.ensures, ← c.registers.ensures) (prints_then c.put.ensures (prints_then c.put_decimal.ensures c.put-in-Some.ensures))
