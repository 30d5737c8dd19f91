-- After i turns the spellings of the first i values are stored.
use mathlib.Core.Path.{◌≡◌, refl, ap, ◌∙◌, subst}
use mathlib.Core.List.{List}
use Prim.Native.Nat.{ℕ}
use native.Mathlib.Omega.{arith}
use lib.ListN.{length, get_or, take}
use lib.Seq.{take-length}
use Rattle.util.specs.Puts.{Puts}
use Rattle.util.proofs.Puts.{put_then}
use Rattle.uleb.specs.Shortest.{ulebs_of}
use Rattle.uleb.proofs.Spelled.{ten-bytes}
use Rattle.hint_payload.proofs.Turns.{ulebs-next}
use Rattle.hint_payload.proofs.write.put_row.Goals as goal

pub loop-value-init : goal.loop-value-init
unfolding ulebs_of
loop-value-init c =
    (omega arith, refl, record { ends = omega arith; stored = refl })

pub write_uleb-at-requires : goal.write_uleb-at-requires
write_uleb-at-requires c =
    omega arith

pub loop-value-preserved : goal.loop-value-preserved
loop-value-preserved c =
    let more = ulebs-next c.args.row.now c.loop-value.value-index c.loop-value-test.true in (
      omega (arith, c.write_uleb-at.ensures.ends, ten-bytes (get_or c.args.row.now c.loop-value.value-index 0)),
      c.write_uleb-at.auto.out ∙ c.loop-value.invariant.1,
      subst (λ (l : List ℕ). Puts c.args.out.now 0 l c.write_uleb-at.result c.write_uleb-at.new.out) more (put_then c.loop-value.invariant.2 c.write_uleb-at.ensures),
    )

pub returns : goal.returns
returns c =
    let e : c.loop-value.value-index ≡ length c.args.row.now = omega arith in
    let all = ap (λ (n : ℕ). take n c.args.row.now) e ∙ take-length c.args.row.now in
    subst (λ (l : List ℕ). Puts c.args.out.now 0 (ulebs_of l) c.loop-value.at c.loop-value.out) all c.loop-value.invariant.2
