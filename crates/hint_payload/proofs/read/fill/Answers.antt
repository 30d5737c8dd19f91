-- From value to value: what is left of the first values, stored from i on, leaves the slots that all of them do.
use mathlib.Core.Path.{◌≡◌, refl, ap, ◌∙◌}
use Prim.Native.Nat.{ℕ, ◌+◌, ◌-◌}
use native.Mathlib.Omega.{arith}
use lib.ListN.{length-set}
use lib.Seq.{sets}
use Rattle.uleb.specs.Values.{values_of}
use Rattle.uleb.proofs.Placed.{read-value}
use Rattle.hint_payload.specs.Payload.{first_values}
use Rattle.hint_payload.proofs.Turns.{fill-value, fill-refused, fill_done}
use Rattle.hint_payload.proofs.read.fill.Goals as goal

pub loop-i-init : goal.loop-i-init
loop-i-init c =
    let n : c.args.count - 0 ≡ c.args.count = omega arith in
    (omega arith, refl, ap (λ (k : ℕ). sets c.args.slots.now 0 (first_values k (values_of c.args.payload.now))) n)

pub returns-in_default : goal.returns-in_default
returns-in_default c =
    fill-refused c.args.payload.now c.loop-i.slots c.loop-i.i (c.args.count - c.loop-i.i) c.loop-i.at c.read_uleb.result c.in_default.is c.read_uleb.ensures
    ∙ c.loop-i.invariant.2

pub bounds-slots-i : goal.bounds-slots-i
bounds-slots-i c =
    omega arith

pub loop-i-preserved : goal.loop-i-preserved
loop-i-preserved c =
    let r = read-value c.args.payload.now c.loop-i.at c.in-Some.value c.in-Some.next c.read_uleb.result c.loop-i.invariant.0 c.in-Some.is c.read_uleb.ensures in (
      r.within,
      simp length-set c.loop-i.invariant.1,
      fill-value c.args.payload.now c.loop-i.slots c.loop-i.i (c.args.count - c.loop-i.i) (c.args.count - (c.loop-i.i + 1)) c.loop-i.at c.in-Some.value c.in-Some.next (omega arith) r ∙ c.loop-i.invariant.2,
    )

pub returns : goal.returns
returns c =
    fill_done c.args.payload.now c.loop-i.slots c.loop-i.i (c.args.count - c.loop-i.i) c.loop-i.at (omega arith) ∙ c.loop-i.invariant.2
