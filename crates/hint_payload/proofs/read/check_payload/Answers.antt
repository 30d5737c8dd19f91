-- From value to value: those so far and those of what is left count as the whole does.
use Rattle.std.specs.Prelude.{None}
use Rattle.macho.specs.declared.refusal.Refusal.TheVariants.{Malformed}
use Rattle.std.proofs.lemmas.Result.{err_from_is_err_and}
use mathlib.Core.Path.{◌≡◌, sym, ap, ◌∙◌}
use Prim.Native.Nat.{◌+◌}
use native.Mathlib.Omega.{arith}
use Rattle.uleb.proofs.Placed.{read-value}
use Rattle.hint_payload.specs.Answer.{count_after}
use Rattle.hint_payload.specs.declared.expected.Expected.{Expected}
use Rattle.hint_payload.proofs.Turns.{Rest, check-start, check-refused, check-closed, check-more, check-end}
use borrow.Author.Rules.{rules}
use Rattle.hint_payload.proofs.read.check_payload.Goals as goal

pub loop-at-init : goal.loop-at-init
loop-at-init c =
    (search rules, search rules, check-start c.args.payload.now)

pub returns-in_err-value : goal.returns-in_err-value
returns-in_err-value c =
    let p = err_from_is_err_and c.from_residual.result c.from_residual.ensures.1 in
    let n : c.read_uleb.result ≡ None = grind arith in
    let e = rw n at c.in_err-value.ensures.value in
    let why : c.in_err-value.field-0.0 ≡ Malformed = cc in
    rw (p.1, p.2, why)
    (ap (count_after c.loop-at.count) (sym (check-refused c.args.payload.now c.loop-at.expected c.loop-at.at c.read_uleb.result c.loop-at-test.true n c.read_uleb.ensures))
    ∙ c.loop-at.invariant.2)

pub after_close-requires : goal.after_close-requires
after_close-requires c =
    let r = read-value c.args.payload.now c.loop-at.at c.in_ok-value.value c.in_ok-value.next c.read_uleb.result c.loop-at.invariant.0 (grind arith) c.read_uleb.ensures in
    r.within

pub returns-in-Zeros : goal.returns-in-Zeros
returns-in-Zeros c =
    let r = read-value c.args.payload.now c.loop-at.at c.in_ok-value.value c.in_ok-value.next c.read_uleb.result c.loop-at.invariant.0 (grind arith) c.read_uleb.ensures in
    let zeros = sym c.after-expected.ensures ∙ c.in-Zeros.is in
    c.after_close.ensures
    ∙ sym (check-closed c.args.payload.now c.loop-at.count c.loop-at.expected c.loop-at.at c.in_ok-value.value c.in_ok-value.next zeros r)
    ∙ c.loop-at.invariant.2

pub overflow_add-count : goal.overflow_add-count
overflow_add-count c =
    omega (arith, c.loop-at.invariant.1)

pub loop-at-smaller : goal.loop-at-smaller
loop-at-smaller c =
    let r = read-value c.args.payload.now c.loop-at.at c.in_ok-value.value c.in_ok-value.next c.read_uleb.result c.loop-at.invariant.0 (grind arith) c.read_uleb.ensures in
    omega (arith, r.onward, c.loop-at-test.true)

pub loop-at-preserved : goal.loop-at-preserved
loop-at-preserved c =
    let r = read-value c.args.payload.now c.loop-at.at c.in_ok-value.value c.in_ok-value.next c.read_uleb.result c.loop-at.invariant.0 (grind arith) c.read_uleb.ensures in (
      r.within,
      omega (arith, r.onward, c.loop-at.invariant.1),
      ap (λ (e : Expected). count_after (c.loop-at.count + 1) (Rest c.args.payload.now e c.in_ok-value.next)) c.after-expected.ensures
          ∙ check-more c.args.payload.now c.loop-at.count c.loop-at.expected c.loop-at.at c.in_ok-value.value c.in_ok-value.next (λ z. c.in_default.not-Zeros (c.after-expected.ensures ∙ z)) r
          ∙ c.loop-at.invariant.2,
    )

pub returns : goal.returns
returns c =
    c.at_end.ensures ∙ sym (check-end c.args.payload.now c.loop-at.count c.loop-at.expected c.loop-at.at (omega arith)) ∙ c.loop-at.invariant.2
