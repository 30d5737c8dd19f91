-- `rel_in`: below the word count the place's entry, past it none.
use mathlib.Core.Path.{sym, ap, ◌∙◌}
use native.Mathlib.Omega.{arith}
use Rattle.macho.specs.Hint.{no_entry}
use Rattle.arm64_hint_terms.specs.Rels.{rel_at}
use Rattle.arm64_hint_words.proofs.First.{first-at, first-all}
use Rattle.arm64_hint_words.proofs.Entries.{rel-past}
use Rattle.arm64_hint_words.proofs.place.rel_in.Goals as goal

pub rel_at-requires : goal.rel_at-requires
rel_at-requires c =
    first-all (λ i. i.rel) c.args.insns c.args.n c.args.i c.requires.in_entries c.if-i-n.true
    (omega (arith, c.well_formed.1.0.1.0.1, c.requires.i_bound))

pub returns-then-i-n : goal.returns-then-i-n
returns-then-i-n c =
    c.rel_at.ensures
    ∙ sym (ap (rel_at c.args.entries.now) (first-at (λ i. i.rel) no_entry c.args.insns c.args.n c.args.i c.if-i-n.true
    (omega (arith, c.well_formed.1.0.1.0.1, c.requires.i_bound))))

pub returns-else-i-n : goal.returns-else-i-n
returns-else-i-n c =
    sym (rel-past c.args.entries.now c.args.insns c.args.n c.args.i c.if-i-n.false)
