-- `enter` meets its contract: from lo up to hi stand all hints of the object.
use Rattle.arm64_hint_order.proofs.Walk.{entered-grouped, entered-apart}
use Rattle.arm64_hint_order.proofs.enter.Goals as goal

pub returns-then-grouped : goal.returns-then-grouped
returns-then-grouped c =
    rw c.if-grouped.true
    (entered-grouped _ _ c.args.p _ c.object_at-object.ensures c.requires.0 (c.requires.1 c.if-grouped.true) c.group_end.ensures)

pub returns-else-grouped : goal.returns-else-grouped
returns-else-grouped c =
    rw c.if-grouped.false (entered-apart _ _ c.args.p c.object_at-object.ensures c.requires.0)
