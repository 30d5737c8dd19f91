-- `Hint::get`: below the word count the place's word, past it 0.
use Rattle.std.proofs.Common.{sym, ◌∙◌, arith}
use Rattle.arm64_hint_words.proofs.First.{word_at, word-past}
use Rattle.arm64_hint_words.proofs.hint.Hint.get.Goals as goal

pub returns-then-i-self : goal.returns-then-i-self
returns-then-i-self c =
    c.read32.ensures ∙ sym (word_at _ _ _ _ c.if-i-self.true (omega (arith, c.well_formed)))

pub returns-else-i-self : goal.returns-else-i-self
returns-else-i-self c =
    sym (word-past _ _ _ _ c.if-i-self.false)
