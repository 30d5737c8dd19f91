-- `page` meets its contract: a mask of the 52 high bits keeps the quotient. Assumes nothing.
use native.Mathlib.Omega.{arith}
use lib.Bits.{and_high}
use Rattle.arm64_insn.specs.Page.{page_of}
use Rattle.arm64_insn.proofs.page.page.Goals as goal

pub returns : goal.returns
unfolding page_of
returns c =
    rw (and_high c.args.val 52 12) (omega arith)
