-- The loop over the cursor, and the run. Carried by the laws of the step and of the order of work.
use Rattle.std.specs.Prelude.{Result, Ok, Err, Option, Some, None, ⊤}
use mathlib.Core.Path.{◌≡◌, refl, sym, ap, ◌∙◌}
use mathlib.Core.List.{List}
use Prim.Native.Nat.{ℕ, ◌+◌, ◌<◌}
use native.Mathlib.Omega.{arith}
use lib.ListN.{length}
use Rattle.macho.specs.declared.refusal.Refusal.{Refusal}
use Rattle.macho.specs.Hint.{hint_count}
use Rattle.arm64_hint_terms.specs.declared.answer.Plan.{Plan}
use Rattle.arm64_hint_terms.specs.declared.answer.NoRewrite.{NoRewrite}
use Rattle.arm64_hint_terms.specs.declared.answer.Insns.{Insns}
use Rattle.image.specs.Steps.{Work, answered, written, step_of}
use Rattle.image.proofs.Steps.{local-step}
use Rattle.arm64_hint_order.specs.declared.Cursor.{Cursor}
use Rattle.arm64_hint_order.specs.Lists.{run_list}
use Rattle.arm64_hint_order.specs.Cursor.{order_of, rest, following, Sound, SoundNext}
use Rattle.arm64_hint_order.proofs.Walk.{turn_at, turn-done, turn-count, turn-sound, order-length}
use Rattle.arm64_hint_check.specs.Check.{check_all}
use Rattle.arm64_hint_work.specs.Step.{add_outcome, total, steps_of}
use Rattle.arm64_hint_work.specs.declared.tally.Tally.{Tally}
use Rattle.arm64_hint_work.proofs.Steps.{total-add}
use Rattle.arm64_hint_run.specs.Run.{zeros, start, worked, answer_by, image_by, run_of, image_of}

-- ---- the loop

-- between two hints: the work that is left ends as the whole does, and the tally counts the hints that are worked
pub record Going (first hints entries image : List ℕ) (c : Cursor) (t : Tally) : Type 0 where
  pub sound : Sound hints c
  pub size : length image ≡ length first
  pub left : run_list (step_of (steps_of hints entries)) (rest hints c) (record { image = image; tally = t }) ≡ worked first hints entries (order_of hints)
  pub counted : total t + length (rest hints c) ≡ hint_count hints

module _ (first hints entries : List ℕ) where
  pub going-first : (c : Cursor) → rest hints c ≡ order_of hints → Sound hints c → Going first hints entries first c zeros
  unfolding worked
  going-first c e s = record {
    sound = s;
    size = refl;
    left = ap (λ (l : List ℕ). run_list (step_of (steps_of hints entries)) l (start first)) e;
    counted = omega (arith, ap length e, order-length hints);
  }

  module _ (image : List ℕ) (c : Cursor) (t : Tally) (r : Option (ℕ × Cursor)) (g : Going first hints entries image c t) (told : following hints r ≡ rest hints c) where
    module _ (k : ℕ) (d : Cursor) (e : r ≡ Some (k, d)) where
      -- there is room for one hint more
      pub room : total t < hint_count hints
      room = omega (arith, turn-count hints r k d e c told, g.counted)

      pub going_next : SoundNext hints r → {o : Option (Result Plan NoRewrite × Insns)} {y : List ℕ} {u : Tally} → o ≡ answered (steps_of hints entries) k image
          → y ≡ written (steps_of hints entries) k image → u ≡ add_outcome o t → Going first hints entries y d u
      going_next s {o} {y} {u} answers writes adds = record {
        sound = (turn-sound hints r k d e s).1;
        size = ap length writes ∙ (local-step (steps_of hints entries) k).writes.size image ∙ g.size;
        left =
            ap (run_list (step_of (steps_of hints entries)) (rest hints d)) (λ i. record { image = writes i; tally = tallies i })
            ∙ turn_at (step_of (steps_of hints entries)) hints c r told (record { image = image; tally = t }) k d e
            ∙ g.left;
        counted = omega (arith, turn-count hints r k d e c told, g.counted, ap total adds ∙ total-add o t);
      }
        where
          tallies : u ≡ add_outcome (answered (steps_of hints entries) k image) t
          tallies = adds ∙ ap (λ (x : Option (Result Plan NoRewrite × Insns)). add_outcome x t) answers

-- ---- the run

module _ (image hints entries : List ℕ) where
  pub run-refused : (x : Refusal) → check_all (length image) hints (length entries) ≡ Err x
      → (Err x ≡ run_of image hints entries) × (image ≡ image_of image hints entries)
  unfolding run_of image_of
  run-refused x e = (
    sym (ap (λ (c : Result ⊤ Refusal). answer_by c (worked image hints entries (order_of hints)).tally) e),
    sym (ap (λ (c : Result ⊤ Refusal). image_by c image (worked image hints entries (order_of hints)).image) e),
  )

  pub run-done : {t : Tally} {y : List ℕ} → check_all (length image) hints (length entries) ≡ Ok tt → t ≡ (worked image hints entries (order_of hints)).tally
      → y ≡ (worked image hints entries (order_of hints)).image → (Ok t ≡ run_of image hints entries) × (y ≡ image_of image hints entries)
  unfolding run_of image_of
  run-done e told left = (
    ap Ok told ∙ sym (ap (λ (c : Result ⊤ Refusal). answer_by c (worked image hints entries (order_of hints)).tally) e),
    left ∙ sym (ap (λ (c : Result ⊤ Refusal). image_by c image (worked image hints entries (order_of hints)).image) e),
  )
