-- `put_line` meets its contract: four texts, one after another. Assumes nothing.
use Rattle.text.proofs.Prints.{prints_then}
use Rattle.lister_text.specs.Text.{line_of}
use Rattle.lister_text.proofs.put_line.Goals as goal

pub returns : goal.returns
unfolding line_of
returns c =
    rw (← c.hex.ensures, ← c.hex-2.ensures, ← c.class_of.ensures)
    (prints_then c.put.ensures (prints_then c.put-2.ensures (prints_then c.put_class.ensures c.put-3.ensures)))
