-- `work`: a skipped hint leaves the image; for another the rule's answer in the part is the hint's in the image.
use Rattle.macho.specs.declared.hint.HintRecord.{HintRecord}
use mathlib.Core.Path.{◌≡◌, sym, ◌∙◌, subst}
use Prim.Native.Nat.{ℕ, ◌+◌, ◌-◌}
use native.Mathlib.Omega.{arith}
use mathlib.Core.Bool.{false}
use Rattle.arm64_hint_places.specs.Hint.{Inside, is_skipped}
use Rattle.arm64_hint_check.proofs.Checks.{ready}
use Rattle.arm64_hint_work.proofs.Steps.{inside-part, skipped-step, worked-step}
use Rattle.arm64_hint_work.proofs.work.work.Goals as goal

-- what the first reading passed is what the second reads
same_test : {a b h : HintRecord} → a ≡ h → b ≡ h → is_skipped b ≡ false → is_skipped a ≡ false
same_test p q t = subst (λ x. is_skipped x ≡ false) (q ∙ sym p) t

pub returns-then-skips : goal.returns-then-skips
returns-then-skips c =
    let step = skipped-step c.args.hints.now c.args.entries.now c.args.image.now c.args.k _ c.read.ensures
    (sym c.skips.ensures ∙ c.if-skips.true)
    in
    record { outcome = step.0; image = step.1 }

pub rels_of-r-requires : goal.rels_of-r-requires
rels_of-r-requires c =
    (ready _ _ _ _ c.read-h.ensures c.requires.1 (same_test c.read-h.ensures c.read.ensures (sym c.skips.ensures ∙ c.if-skips.false))).entries

pub slice_bounds-apply-end : goal.slice_bounds-apply-end
slice_bounds-apply-end c =
    let q = (ready _ _ _ _ c.read-h.ensures c.requires.1 (same_test c.read-h.ensures c.read.ensures (sym c.skips.ensures ∙ c.if-skips.false))).part in
    omega arith

pub apply-requires : goal.apply-requires
apply-requires c =
    let h : HintRecord = c.read-h.result in
    let q = ready _ _ h _ c.read-h.ensures c.requires.1 (same_test c.read-h.ensures c.read.ensures (sym c.skips.ensures ∙ c.if-skips.false)) in
    let e : (h.start + h.len) - h.start ≡ h.len = omega arith in
    inside-part c.args.image.now h _ e q.part q.words

pub returns : goal.returns
returns c =
    let h : HintRecord = c.read-h.result in
    let q = ready _ _ h _ c.read-h.ensures c.requires.1 (same_test c.read-h.ensures c.read.ensures (sym c.skips.ensures ∙ c.if-skips.false)) in
    let j : ℕ = (h.start + h.len) - h.start in
    let e : j ≡ h.len = omega arith in
    record {
      outcome = (worked-step c.args.hints.now c.args.entries.now c.args.image.now c.args.k h c.read-h.ensures _
          c.rels_of-r.ensures j (omega (arith, q.part)) (subst (λ (l : ℕ). Inside h l) (sym e) q.words)
          c.apply.ensures.outcome c.apply.ensures.section).0;
      image = (worked-step c.args.hints.now c.args.entries.now c.args.image.now c.args.k h c.read-h.ensures _
          c.rels_of-r.ensures j (omega (arith, q.part)) (subst (λ (l : ℕ). Inside h l) (sym e) q.words)
          c.apply.ensures.outcome c.apply.ensures.section).1;
    }
