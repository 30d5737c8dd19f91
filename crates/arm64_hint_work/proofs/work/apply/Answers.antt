-- `apply`: a hint that is not skipped has one of the eight kinds.
use borrow.Author.Rules.{rules}
use Rattle.arm64_hint_places.proofs.Places.{no_kind}
use Rattle.arm64_hint_work.proofs.work.apply.Goals as goal

pub returns-in_default : goal.returns-in_default
returns-in_default c =
    absurd (no_kind c.args.h c.requires.worked (search rules) (search rules) (search rules) (search rules) (search rules) (search rules) (search rules) (search rules))
