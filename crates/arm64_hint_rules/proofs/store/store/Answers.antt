-- `store`: by the cases of the decision.
use Rattle.std.specs.Prelude.{Result}
use mathlib.Core.Path.{◌≡◌, sym, ap, ◌∙◌}
use mathlib.Core.List.{List}
use Prim.Native.Nat.{ℕ}
use Rattle.image.specs.Words.{put_words}
use Rattle.image.proofs.Words.{puts_none}
use Rattle.arm64_hint_terms.specs.declared.answer.Plan.{Plan}
use Rattle.arm64_hint_terms.specs.declared.answer.NoRewrite.{NoRewrite}
use Rattle.arm64_hint_places.specs.Hint.{offs_of}
use Rattle.arm64_hint_places.proofs.Held.{held-inside, held-stored}
use Rattle.arm64_hint_rules.specs.Rule.{news_in}
use Rattle.arm64_hint_rules.proofs.store.store.Goals as goal

-- the new words of a decision that is known
puts-by : (places x : List ℕ) {d e : Result Plan NoRewrite} {y : List ℕ} → d ≡ e → y ≡ put_words places (news_in e) x → y ≡ put_words places (news_in d) x
puts-by places x told stored = stored ∙ ap (λ (a : Result Plan NoRewrite). put_words places (news_in a) x) (sym told)

pub set_words-requires : goal.set_words-requires
set_words-requires c =
    held-inside c.args.h c.insns_all.ensures c.requires

pub returns-in-Ok : goal.returns-in-Ok
returns-in-Ok c =
    puts-by (offs_of c.args.h) c.args.section.now c.in-Ok.is
    (held-stored c.args.h c.insns_all.ensures c.requires.worked c.args.section.now _ c.set_words.ensures)
