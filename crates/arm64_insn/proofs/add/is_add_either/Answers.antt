-- `is_add_either` meets its contract: the masked word is the fixed bits just where the diagram matches. Assumes nothing.
use mathlib.Core.Path.{refl}
use Rattle.util.proofs.Diagram.{mask-matches}
use Rattle.arm64_insn.specs.Encoding.{add_unshifted}
use Rattle.arm64_insn.proofs.add.is_add_either.Goals as goal

pub returns : goal.returns
returns c =
    mask-matches add_unshifted c.args.insn refl
