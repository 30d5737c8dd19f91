-- `Hint::addr`: below the word count the place's address, past it 0.
use Rattle.std.proofs.Common.{sym, arith}
use Rattle.arm64_hint_words.proofs.First.{first-at, first_past}
use Rattle.arm64_hint_words.proofs.hint.Hint.addr.Goals as goal

pub returns-then-i-self : goal.returns-then-i-self
returns-then-i-self c =
    sym (first-at (λ i. i.addr) 0 _ _ _ c.if-i-self.true (omega (arith, c.requires)))

pub returns-else-i-self : goal.returns-else-i-self
returns-else-i-self c =
    sym (first_past (λ i. i.addr) 0 _ _ _ c.if-i-self.false)
