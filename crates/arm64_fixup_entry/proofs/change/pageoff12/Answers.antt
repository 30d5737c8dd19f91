-- `pageoff12` meets its contract: a misaligned access is of at most 16 bytes.
use native.Mathlib.Omega.{arith}
use mathlib.Core.Path.{sym, ◌∙◌}
use Rattle.arm64_insn.proofs.Scale.{misaligned-le}
use Rattle.arm64_fixup_entry.proofs.change.pageoff12.Goals as goal

pub overflow_cast-size : goal.overflow_cast-size
overflow_cast-size c =
    omega (arith, misaligned-le c.args.word c.args.target _ (sym c.write_add_ldst_word.ensures ∙ c.in-Err.is))
