-- `takes_31` meets its contract: Rn, and the classes that have a source or a base. Assumes nothing.
use Rattle.std.specs.Prelude.{◌≡◌, ℕ, ◌&&◌, Option, Some, None, is_some}
use mathlib.Core.Path.{sym, ◌∙◌}
use borrow.Author.Tests.{ne_eqb}
use Rattle.util.specs.Diagram.{matches}
use Rattle.arm64_insn.specs.Encoding.{load_store}
use Rattle.arm64_insn.specs.LoadStore.{load_store_of}
use Rattle.arm64_insn.specs.LoadStoreTable.{moves}
use Rattle.arm64_insn.specs.Manual.{row_in}
use Rattle.arm64_insn.specs.declared.ldst.LoadStore.{LoadStore}
use Rattle.arm64_insn.specs.Links.{takes}
use Rattle.arm64_insn.proofs.Linked.{access-loads, no_access}
use Rattle.arm64_insn.proofs.links.takes_31.Goals as goal

pub returns-then-insn-ne31 : goal.returns-then-insn-ne31
unfolding takes
returns-then-insn-ne31 c =
    rw (ne_eqb 31 _ (λ e. c.if-insn-ne31.true (sym e)))

pub returns-then-is_add : goal.returns-then-is_add
unfolding takes
returns-then-is_add c =
    rw (c.if-insn-ne31.false, ← c.is_add.ensures, c.if-is_add.true)

-- what is decoded is there where the class has a base
accesses : (w : ℕ) (o : Option LoadStore) → load_store_of w ≡ o → is_some o ≡ (matches load_store w && moves (row_in w))
accesses w (Some l) e = let a = access-loads w l e in rw (a.0, a.1)
accesses w None e = sym (no_access w e)

pub returns-else-is_add : goal.returns-else-is_add
unfolding takes
returns-else-is_add c =
    rw (c.if-insn-ne31.false, ← c.is_add.ensures, c.if-is_add.false)
    (c.is_some.ensures ∙ accesses c.args.insn _ (sym c.decode.ensures))
