-- A test of a masked word is a test of each fixed field of its diagram.
use mathlib.Core.Path.{refl}
use Rattle.util.proofs.Diagram.{mask-matches}
use Rattle.macho.specs.Authenticated.{authenticated}
use Rattle.macho.proofs.authenticated.is_authenticated.Goals as goal

pub returns : goal.returns
returns c =
    mask-matches authenticated c.args.word refl
