-- `find` meets its contract: the pass has nothing before the position that is found, and nothing at all where none is.
use Rattle.std.proofs.Common.{◌≡◌, true, false, rules}
use Rattle.std.proofs.lemmas.Iterator.{first_from_Range}
use Rattle.arm64_hint_order.specs.Lists.{in_pass}
use Rattle.arm64_hint_order.specs.Cursor.{object_at, late_at}
use Rattle.arm64_hint_order.proofs.Walk.{found-first}
use Rattle.arm64_hint_order.proofs.find.Goals as goal

pub returns : goal.returns
returns c =
    let s = c.args.hints.now in
    let p = in_pass (object_at s) (late_at s) c.args.o c.args.late in
    found-first s c.args.o c.args.late c.args.from c.args.to c.find.result
    (first_from_Range _ _ _ _ (λ k. p k ≡ true) (λ k. p k ≡ false) c.find.ensures.ran
    (λ x q k. search rules)
    (λ x q k. (search rules, search rules)))
