-- `Hint::set`: by the cases of the new word, and of the word count.
use Rattle.std.proofs.Common.{ℕ, sym, ap, ◌∙◌}
use Rattle.std.specs.Prelude.{Option}
use borrow.Author.Tests.{lt-ltb, le-ltb}
use Rattle.util.proofs.Choice.{choose-true, choose-false}
use Rattle.arm64_hint_words.specs.Held.{holding}
use Rattle.arm64_hint_words.specs.Place.{set_in}
use Rattle.arm64_hint_words.proofs.hint.Hint.set.Goals as goal

pub returns-then-i-self : goal.returns-then-i-self
returns-then-i-self c =
    let h = c.args.self.now in
    ap (holding h)
    (c.write32.ensures
    ∙ sym (ap (set_in h.buf.now h.insns h.n c.args.i) c.in-Some.is ∙ choose-true _ _ _ (lt-ltb _ _ c.if-i-self.true)))

pub returns-else-i-self : goal.returns-else-i-self
returns-else-i-self c =
    let h = c.args.self.now in
    sym (ap (λ (w : Option ℕ). holding h (set_in h.buf.now h.insns h.n c.args.i w)) c.in-Some.is
    ∙ ap (holding h) (choose-false _ _ _ (le-ltb _ _ c.if-i-self.false)))
