-- `is_add` meets its contract: the masked word is the fixed bits just where the diagram matches. Assumes nothing.
use mathlib.Core.Path.{refl}
use Rattle.util.proofs.Diagram.{mask-matches}
use Rattle.arm64_insn.specs.Encoding.{add}
use Rattle.arm64_insn.proofs.add.is_add.Goals as goal

pub returns : goal.returns
returns c =
    mask-matches add c.args.insn refl
