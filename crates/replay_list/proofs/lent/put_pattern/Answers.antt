-- `put_pattern`: up to place i the slots hold the pattern (Slots); one more store keeps that.
use mathlib.Core.Path.{refl}
use mathlib.Core.List.{[]}
use mathlib.Core.Path.{sym, ◌∙◌}
use native.Mathlib.Omega.{arith}
use lib.ListN.{length-set}
use borrow.Author.Rules.{rules}
use Rattle.replay_list.proofs.Slots.{due-pattern, due-stored}
use Rattle.replay_list.proofs.lent.put_pattern.Goals as goal

pub loop-i-init : goal.loop-i-init
loop-i-init c =
    (refl, λ k l. omega arith)

pub loop-i-preserved : goal.loop-i-preserved
loop-i-preserved c =
    let byte = c.pattern.ensures ∙ sym (due-pattern c.loop-i.i) in
    (simp length-set c.loop-i.invariant.0, due-stored c.loop-i.slots [] c.loop-i.i _ (omega (arith, c.loop-i.invariant.0)) c.loop-i.invariant.1 byte)

pub returns : goal.returns
returns c =
    (c.loop-i.invariant.0, (search rules, λ k l. c.loop-i.invariant.1 k (omega arith)))
