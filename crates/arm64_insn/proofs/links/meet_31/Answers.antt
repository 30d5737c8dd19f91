-- `meet_31` meets its contract: a word that does not make number 31 does not link by it, and is no ADD to it. Assumes nothing.
use mathlib.Core.Path.{sym, ◌∙◌}
use Rattle.std.proofs.lemmas.List.{at_drop_more}
use Rattle.arm64_insn.specs.Links.{meets31}
use Rattle.arm64_insn.proofs.Linked.{meets-other}
use Rattle.arm64_insn.proofs.links.meet_31.Goals as goal

pub loop-i-preserved-then-words-i-ne31 : goal.loop-i-preserved-then-words-i-ne31
loop-i-preserved-then-words-i-ne31 c =
    sym (at_drop_more meets31 c.args.words.now c.loop-i.i 0 c.loop-i-test.true ∙ meets-other _ c.if-words-i-ne31.true _) ∙ c.loop-i.invariant
