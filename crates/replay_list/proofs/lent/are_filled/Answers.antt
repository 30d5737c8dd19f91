-- `are_filled`: up to place i the slots hold what is due (Slots); the first that does not decides.
use mathlib.Core.Bool.{false≢true}
use mathlib.Core.Path.{refl, sym}
use mathlib.Core.Path.{◌∙◌}
use native.Mathlib.Omega.{arith}
use borrow.Author.Rules.{rules}
use Rattle.replay_list.proofs.Slots.{due-more}
use Rattle.replay_list.proofs.lent.are_filled.Goals as goal

pub returns-then-slots-records : goal.returns-then-slots-records
returns-then-slots-records c =
    (λ q. absurd (false≢true q), λ h. absurd (omega (arith, h.0)))

pub loop-i-init : goal.loop-i-init
loop-i-init c =
    λ k l. omega arith

pub returns-then-slots-i : goal.returns-then-slots-i
returns-then-slots-i c =
    (λ q. absurd (false≢true q), λ h. absurd (c.if-slots-i.true (h.1 c.loop-i.i c.loop-i-test.true ∙ sym c.due.ensures)))

pub loop-i-preserved : goal.loop-i-preserved
loop-i-preserved c =
    due-more c.args.slots.now c.args.records.now c.loop-i.i c.loop-i.invariant (c.if-slots-i.false ∙ c.due.ensures)

pub returns : goal.returns
returns c =
    (λ q. (search rules, λ k l. c.loop-i.invariant k (omega arith)), λ h. refl)
