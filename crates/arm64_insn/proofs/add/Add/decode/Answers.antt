-- `Add::decode` meets its contract: the test decides the choice. Assumes nothing.
use native.Mathlib.Nat.{div-one}
use Rattle.util.specs.Choice.{choose}
use Rattle.arm64_insn.specs.Add.{add_of}
use Rattle.arm64_insn.proofs.add.Add.decode.Goals as goal

pub returns-then-is_add : goal.returns-then-is_add
unfolding add_of choose
returns-then-is_add c =
    rw (← c.is_add.ensures, c.if-is_add.true, div-one)

pub returns-else-is_add : goal.returns-else-is_add
unfolding add_of choose
returns-else-is_add c =
    rw (← c.is_add.ensures, c.if-is_add.false)
