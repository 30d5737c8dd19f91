-- `check_hint`: the choices of the definition, in their order.
use Rattle.std.proofs.Common.{rules}
use borrow.Author.Tests.{le-ltb}
use Rattle.util.specs.Choice.{choose}
use Rattle.arm64_hint_check.specs.Check.{check_hint, ends_past, names_absent}
use Rattle.arm64_hint_check.proofs.check_hint.Goals as goal

pub returns-then-any_place : goal.returns-then-any_place
unfolding check_hint choose
returns-then-any_place c =
    let past = c.any_place.ensures (ends_past c.args.h.len) (λ i r q. search rules) in
    simp (← c.is_skipped.ensures, c.if-is_skipped.false, le-ltb _ _ c.if-len-h.false, ← past, c.if-any_place.true)

pub returns-then-any_place-2 : goal.returns-then-any_place-2
unfolding check_hint choose
returns-then-any_place-2 c =
    let past = c.any_place.ensures (ends_past c.args.h.len) (λ i r q. search rules) in
    let absent = c.any_place-2.ensures (names_absent c.args.count) (λ i r q. search rules) in
    simp (
      ← c.is_skipped.ensures,
      c.if-is_skipped.false,
      le-ltb _ _ c.if-len-h.false,
      ← past,
      c.if-any_place.false,
      ← absent,
      c.if-any_place-2.true,
    )

pub returns : goal.returns
unfolding check_hint choose
returns c =
    let past = c.any_place.ensures (ends_past c.args.h.len) (λ i r q. search rules) in
    let absent = c.any_place-2.ensures (names_absent c.args.count) (λ i r q. search rules) in
    simp (
      ← c.is_skipped.ensures,
      c.if-is_skipped.false,
      le-ltb _ _ c.if-len-h.false,
      ← past,
      c.if-any_place.false,
      ← absent,
      c.if-any_place-2.false,
    )
