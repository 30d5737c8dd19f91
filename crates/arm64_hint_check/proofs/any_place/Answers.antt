-- `any_place`: the test of the places, one after another.
use Rattle.std.proofs.Common.{◌≡◌, sym, ◌∙◌, ap}
use borrow.Author.Tests.{ne_eqb}
use mathlib.Core.Bool.{Bool, ◌||◌}
use Rattle.arm64_hint_check.proofs.Checks.{any-two, any-three, any_none}
use Rattle.arm64_hint_check.proofs.any_place.Goals as goal
use Rattle.arm64_hint_check.proofs.any_place.Goals.{then-test, else-test, then-test-2, else-test-2+then-h-eq3, else-test-2+else-h-eq3}

pub returns : goal.returns
returns g c = λ p says.
    let h = c.args.h in
    let worked = c.requires.worked in
    let first = says h.insn0 c.test.result c.test.ensures in
    let either : c.if-test.value ≡ (p h.insn0 || p h.insn1) =
    elim c.if-test.branch [
      | then-test w ↦ w.value-is ∙ w.if-test.true ∙ sym (ap (λ (b : Bool). b || p h.insn1) (sym first ∙ w.if-test.true))
      | else-test w ↦
          w.value-is ∙ says h.insn1 w.test-else-test.result w.test-else-test.ensures
          ∙ sym (ap (λ (b : Bool). b || p h.insn1) (sym first ∙ w.if-test.false))
    ] in
    elim c.if-test-2.branch [
      | then-test-2 w ↦ w.result-is ∙ w.if-test-2.true ∙ sym (any-two h worked p (sym either ∙ w.if-test-2.true))
      | else-test-2+then-h-eq3 w ↦
          w.result-is ∙ says h.insn2 w.test-then-h-eq3.result w.test-then-h-eq3.ensures
          ∙ sym (any-three h worked p (sym either ∙ w.if-test-2.false) w.if-h-eq3.true)
      | else-test-2+else-h-eq3 w ↦
          w.result-is ∙ ne_eqb h.n 3 w.if-h-eq3.false ∙ sym (any_none h worked p (sym either ∙ w.if-test-2.false) w.if-h-eq3.false)
    ]
