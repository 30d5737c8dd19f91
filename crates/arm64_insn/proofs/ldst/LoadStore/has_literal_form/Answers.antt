-- `has_literal_form` meets its contract, by its one test. Assumes nothing.
use borrow.Author.Tests.{le-leb, lt-leb}
use Rattle.arm64_insn.specs.Literal.{has_literal_form}
use Rattle.arm64_insn.proofs.ldst.LoadStore.has_literal_form.Goals as goal

pub returns-then-self-ge4 : goal.returns-then-self-ge4
unfolding has_literal_form
returns-then-self-ge4 c =
    simp (le-leb _ _ c.if-self-ge4.true)

pub returns-else-self-ge4 : goal.returns-else-self-ge4
unfolding has_literal_form
returns-else-self-ge4 c =
    simp (lt-leb _ _ c.if-self-ge4.false)
