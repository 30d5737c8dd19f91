-- `put_lines` meets its contract: after i turns the lines of the first i words are there. Assumes nothing.
use native.Mathlib.Omega.{arith}
use Rattle.lister_text.proofs.Lines.{lines-length, no_line, next-line}
use Rattle.lister_text.proofs.put_lines.Goals as goal

pub loop-i-init : goal.loop-i-init
loop-i-init c =
    no_line _ _

pub put_line-requires : goal.put_line-requires
put_line-requires c =
    omega (arith, lines-length c.args.input.now c.loop-i.i, c.loop-i.invariant.puts.ends, c.loop-i.invariant.kept_length)

pub loop-i-preserved : goal.loop-i-preserved
loop-i-preserved c =
    next-line _ c.loop-i.i _ c.loop-i.invariant c.read32.ensures c.put_line.ensures
