-- `is_ldr_imm` meets its contract: the masked word is the fixed bits just where the diagram matches. Assumes nothing.
use mathlib.Core.Path.{refl}
use Rattle.util.proofs.Diagram.{mask-matches}
use Rattle.arm64_insn.specs.Encoding.{ldr_immediate}
use Rattle.arm64_insn.proofs.ldst.is_ldr_imm.Goals as goal

pub returns : goal.returns
returns c =
    mask-matches ldr_immediate c.args.insn refl
