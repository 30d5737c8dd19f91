-- `Adrp::page` meets its contract: sign extension and the wrapping sum are the definition's. Assumes nothing.
use Rattle.arm64_insn.specs.Page.{adrp_page}
use borrow.Author.Rules.{rules}
use Rattle.arm64_insn.proofs.adrp.Adrp.page.Goals as goal

pub returns : goal.returns
unfolding adrp_page
returns c =
    search rules
