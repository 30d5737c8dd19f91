-- `group_end` meets its contract: where the last hint has p's object, so have all from p on; else all up to the first other one have it.
use Rattle.std.proofs.Common.{◌≡◌, sym, subst, arith, rules, tests}
use Rattle.std.proofs.lemmas.Iterator.{first_from_Range}
use Rattle.arm64_hint_order.specs.Cursor.{object_at}
use Rattle.arm64_hint_order.specs.Walk.{GroupEnd}
use Rattle.arm64_hint_order.proofs.Walk.{group-found}
use Rattle.arm64_hint_order.proofs.group_end.Goals as goal

pub returns : goal.returns
returns c =
    let s = c.args.hints.now in
    let p = c.args.p in
    subst (GroupEnd s p) (sym c.unwrap_or.ensures)
    (group-found s p c.find.result c.requires.0
    (first_from_Range _ _ _ _ (λ k. object_at s k ≡ object_at s p → ⊥) (λ k. object_at s k ≡ object_at s p) c.find.ensures.ran
    (λ x q k. grind (arith, tests))
    (λ x q k. (search rules, grind (arith, tests)))))
