-- `store_through`: the part's length is known, and that the image keeps its own.
use mathlib.Core.Path.{◌≡◌, ap, ◌∙◌}
use native.Mathlib.Omega.{arith}
use lib.ListN.{length}
use Rattle.util.proofs.Word.{length-put}
use Rattle.util.proofs.Part.{length_part}
use borrow.Author.Rules.{rules}
use Rattle.arm64_hint_part_limit.proofs.store_through.Goals as goal

pub write32-requires : goal.write32-requires
write32-requires c =
    let l : length c.part-section.result.now ≡ c.args.len = ap length c.part-section.ensures.bytes ∙ length_part c.args.image.now c.args.start c.args.len (omega arith) in
    omega arith

pub returns : goal.returns
returns c =
    search (rules, length-put)
