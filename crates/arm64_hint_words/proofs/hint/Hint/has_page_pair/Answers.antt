-- `Hint::has_page_pair`: three places are asked, and one past the word count has no entry.
use Rattle.std.proofs.Common.{ap, ◌∙◌}
use Rattle.arm64_hint_terms.specs.Rels.{has_page_pair}
use Rattle.arm64_hint_terms.specs.declared.rels.Rels.{Rels}
use Rattle.arm64_hint_words.proofs.Entries.{page-pair-count}
use Rattle.arm64_hint_words.proofs.hint.Hint.has_page_pair.Goals as goal

pub returns : goal.returns
returns c =
    c.has_page_pair.ensures
    ∙ ap (λ (r : Rels). has_page_pair r 3 c.args.got) c.rels_in.ensures
    ∙ page-pair-count c.args.entries.now c.args.self.now.insns c.args.self.now.n c.args.got
