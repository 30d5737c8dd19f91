-- `work_and_list`: between two hints, the work that is left ends as the whole does (`Going`), and so do the records (`Listing`).
use Rattle.std.specs.Prelude.{Ok}
use mathlib.Core.Path.{◌≡◌, sym, subst}
use Prim.Native.Nat.{ℕ, ◌/◌}
use native.Mathlib.Omega.{arith}
use lib.ListN.{length}
use Rattle.macho.specs.Hint.{hint_of}
use Rattle.macho.specs.Reloc.{reloc_size}
use Rattle.arm64_hint_order.proofs.Walk.{turn-count, turn-sound}
use Rattle.arm64_hint_check.specs.Check.{check_hint}
use Rattle.arm64_hint_check.proofs.Checks.{few-hints, each-fit}
use Rattle.arm64_hint_run.proofs.Loop.{going-first, going_next, room}
use Rattle.arm64_hint_run.proofs.Listing.{listing-first, listing-done, listing-next, record-room}
use Rattle.arm64_hint_run.proofs.run.work_and_list.Goals as goal

pub first-c-requires : goal.first-c-requires
first-c-requires c =
    c.requires.rises_value

pub loop-k-init : goal.loop-k-init
loop-k-init c = (
  going-first _ _ _ _ c.first-c.ensures.all c.first-c.ensures.sound,
  listing-first _ _ _ _ _ _ c.first-c.ensures.all,
)

pub next-requires : goal.next-requires
next-requires c =
    c.loop-k.invariant.0.sound

pub returns-clause-slots : goal.returns-clause-slots
returns-clause-slots c =
    listing-done _ _ _ _ _ c.loop-k.image c.loop-k.c c.loop-k.slots c.loop-k.count _ c.loop-k.invariant.1 c.next.ensures.step c.in_default.is c.requires.hints_in_bounds

pub work-o-requires : goal.work-o-requires
work-o-requires c =
    let t = turn-sound _ _ _ _ c.in-Some.is c.next.ensures.sound in (
      t.0,
      subst (λ (l : ℕ). check_hint l (length c.args.entries.now / reloc_size) (hint_of c.args.hints.now c.in-Some.k) ≡ Ok tt)
          (sym c.loop-k.invariant.0.size) (each-fit _ _ _ c.requires.entries_value _ t.0),
    )

pub add-tally-requires : goal.add-tally-requires
add-tally-requires c =
    omega (
      arith,
      room _ _ _ c.loop-k.image c.loop-k.c c.loop-k.tally _ c.loop-k.invariant.0 c.next.ensures.step _ _ c.in-Some.is,
      few-hints _ _ _ c.requires.entries_value,
    )

pub list-requires : goal.list-requires
list-requires c =
    let few = few-hints _ _ _ c.requires.entries_value in
    let t = turn-sound _ _ _ _ c.in-Some.is c.next.ensures.sound in
    record {
      k_bound = (t.0, omega (arith, t.0, few), omega (arith, c.loop-k.invariant.1.left, few));
      rule_record_size_in_bounds = λ e. record-room _ _ _ _ _ c.loop-k.image c.loop-k.c c.loop-k.slots c.loop-k.count _ c.loop-k.invariant.1 c.next.ensures.step _ _ c.in-Some.is (c.requires.hints_in_bounds e);
    }

pub overflow_add-count : goal.overflow_add-count
overflow_add-count c =
    omega (arith, c.loop-k.invariant.1.left, few-hints _ _ _ c.requires.entries_value)

pub loop-k-smaller : goal.loop-k-smaller
loop-k-smaller c =
    omega (arith, turn-count c.args.hints.now c.next.result _ _ c.in-Some.is c.loop-k.c c.next.ensures.step)

pub loop-k-preserved : goal.loop-k-preserved
loop-k-preserved c = (
  going_next _ _ _ c.loop-k.image c.loop-k.c c.loop-k.tally _ c.loop-k.invariant.0 c.next.ensures.step _ _ c.in-Some.is
      c.next.ensures.sound c.work-o.ensures.outcome c.work-o.ensures.image c.add-tally.ensures,
  listing-next _ _ _ _ _ c.loop-k.image c.loop-k.c c.loop-k.slots c.loop-k.count _ c.loop-k.invariant.1 c.next.ensures.step _ _ c.in-Some.is
      c.work-o.ensures.outcome c.work-o.ensures.image c.list.ensures c.list.auto.slots,
)
