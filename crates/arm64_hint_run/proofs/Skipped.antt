-- Nothing of a skipped hint counts but that it is skipped: lists of hints that differ in skipped hints alone have the same run, their part, places, object
-- number and kind whatever they are (RULES 3.17, 8.3). Carried by `idle-run`: the step of a skipped hint may be made at any time.
use Rattle.std.specs.Prelude.{Result, Option, None, ⊤}
use mathlib.Core.Path.{◌≡◌, refl, sym, ap, ap₂, ◌∙◌}
use mathlib.Core.Logic.{◌⊎◌, ⊎_elim}
use mathlib.Core.Bool.{Bool, true, false, not, true≢false}
use mathlib.Core.List.{List}
use Prim.Native.Nat.{ℕ, ◌/◌, ◌<◌}
use borrow.Author.Tests.{not-true, not-false}
use lib.Dec.{eqb}
use lib.ListN.{length}
use Rattle.macho.specs.Hint.{hint_size, hint_count, hint_of}
use Rattle.macho.specs.declared.hint.HintRecord.{HintRecord}
use Rattle.macho.specs.declared.refusal.Refusal.{Refusal}
use Rattle.arm64_hint_terms.specs.declared.answer.Plan.{Plan}
use Rattle.arm64_hint_terms.specs.declared.answer.NoRewrite.{NoRewrite}
use Rattle.arm64_hint_terms.specs.declared.answer.Insns.{Insns}
use Rattle.image.specs.Words.{words_at, put_words}
use Rattle.image.specs.Steps.{Work, answered, step_of}
use Rattle.arm64_hint_order.specs.Lists.{run_list, own_list}
use Rattle.arm64_hint_order.specs.Cursor.{object_at, late_at, order_of}
use Rattle.arm64_hint_order.proofs.Lists.{once-inside}
use Rattle.arm64_hint_order.proofs.Own.{own-once}
use Rattle.arm64_hint_order.proofs.Same.{run-same}
use Rattle.arm64_hint_order.proofs.Idle.{idle-run}
use Rattle.arm64_hint_places.specs.Hint.{is_skipped}
use Rattle.arm64_hint_check.specs.Check.{check_hint}
use Rattle.arm64_hint_check.proofs.Ignored.{skipped-check, same_by}
use Rattle.arm64_hint_rules.specs.Rule.{hint_outcome, news_of}
use Rattle.arm64_hint_work.specs.Step.{places_of, add_outcome, steps_of}
use Rattle.arm64_hint_work.specs.declared.tally.Tally.{Tally}
use Rattle.arm64_hint_work.proofs.Steps.{skipped-step, add-swap}
use Rattle.arm64_hint_run.specs.Run.{start, worked, answer_by, image_by, run_of, image_of}

-- the step of a skipped hint: it is counted
abbrev pub idle : Work Tally → Work Tally
idle w = record { image = w.image; tally = add_outcome None w.tally }

module _ (entries : List ℕ) where
  pub idle-step : (hints : List ℕ) (k : ℕ) → is_skipped (hint_of hints k) ≡ true → (w : Work Tally) → step_of (steps_of hints entries) k w ≡ idle w
  idle-step hints k e w =
      let t = skipped-step hints entries w.image k (hint_of hints k) refl e in
      let p = sym t.1 in
      let q = ap (λ (o : Option (Result Plan NoRewrite × Insns)). add_outcome o w.tally) (sym t.0) in
      λ i. record { image = p i; tally = q i }

  idle-any : (hints : List ℕ) (j : ℕ) (w : Work Tally) → step_of (steps_of hints entries) j (idle w) ≡ idle (step_of (steps_of hints entries) j w)
  idle-any hints j w =
      let q = add-swap (answered (steps_of hints entries) j w.image) None w.tally in
      λ i. record { image = (step_of (steps_of hints entries) j w).image; tally = q i }

  -- a hint's step by its fields
  abbrev step_by : HintRecord → Work Tally → Work Tally
  step_by h w = record {
    image = put_words (places_of h) (news_of (hint_outcome entries h (words_at (places_of h) w.image))) w.image;
    tally = add_outcome (hint_outcome entries h (words_at (places_of h) w.image)) w.tally;
  }

  module _ (hints others : List ℕ) (sized : length hints ≡ length others)
      (each : (k : ℕ) → k < hint_count hints
      → (hint_of hints k ≡ hint_of others k) ⊎ ((is_skipped (hint_of hints k) ≡ true) × (is_skipped (hint_of others k) ≡ true))) where
    same_step : (k : ℕ) → k < hint_count hints → (w : Work Tally) → step_of (steps_of hints entries) k w ≡ step_of (steps_of others entries) k w
    same_step k h w =
        ⊎_elim (λ e. ap (λ (g : HintRecord). step_by g w) e) (λ (a, b). idle-step hints k a w ∙ sym (idle-step others k b w)) (each k h)

    same_check : (len count : ℕ) (k : ℕ) → k < hint_count hints → check_hint len count (hint_of hints k) ≡ check_hint len count (hint_of others k)
    same_check len count k h =
        ⊎_elim (λ e. ap (check_hint len count) e) (λ (a, b). skipped-check _ a len count ∙ sym (skipped-check _ b len count)) (each k h)

    abbrev busy : ℕ → Bool
    busy k = not (is_skipped (hint_of hints k))

    agrees : (k : ℕ) → k < hint_count hints → busy k ≡ true → (object_at hints k ≡ object_at others k) × (late_at hints k ≡ late_at others k)
    agrees k h b =
        ⊎_elim (λ e. (ap (λ (g : HintRecord). g.object) e, ap (λ (g : HintRecord). eqb g.kind 1) e))
        (λ (a, _). absurd (true≢false (sym a ∙ not-true (is_skipped (hint_of hints k)) b)))
        (each k h)

    also-skipped : (k : ℕ) → k < hint_count hints → busy k ≡ false → is_skipped (hint_of others k) ≡ true
    also-skipped k h b =
        ⊎_elim (λ e. sym (ap is_skipped e) ∙ not-false (is_skipped (hint_of hints k)) b) (λ (_, e). e) (each k h)

    exchanged : (i j : ℕ) → i < hint_count hints → j < hint_count hints → busy i ≡ false → (w : Work Tally)
        → step_of (steps_of others entries) i (step_of (steps_of others entries) j w) ≡ step_of (steps_of others entries) j (step_of (steps_of others entries) i w)
    exchanged i j h g b w =
        idle-step others i (also-skipped i h b) (step_of (steps_of others entries) j w)
        ∙ sym (idle-any others j w)
        ∙ ap (step_of (steps_of others entries) j) (sym (idle-step others i (also-skipped i h b) w))

    module _ (image : List ℕ) where
      same-work : worked image hints entries (order_of hints) ≡ worked image others entries (order_of others)
      unfolding worked
      same-work =
          run-same (step_of (steps_of hints entries)) (step_of (steps_of others entries)) (hint_count hints) same_step
          (once-inside (hint_count hints) (order_of hints) (own-once (object_at hints) (late_at hints) (hint_count hints))) (start image)
          ∙ idle-run (object_at hints) (object_at others) (late_at hints) (late_at others) (hint_count hints) busy agrees
          (step_of (steps_of others entries)) exchanged (start image)
          ∙ ap (λ (n : ℕ). run_list (step_of (steps_of others entries)) (own_list (object_at others) (late_at others) (n / hint_size)) (start image)) sized

      -- the run is the same
      pub run-skipped : (run_of image hints entries ≡ run_of image others entries) × (image_of image hints entries ≡ image_of image others entries)
      unfolding run_of image_of
      run-skipped =
          let c = same_by hints others sized same_check (length image) (length entries) in (
            ap₂ (λ (c : Result ⊤ Refusal) (w : Work Tally). answer_by c w.tally) c same-work,
            ap₂ (λ (c : Result ⊤ Refusal) (w : Work Tally). image_by c image w.image) c same-work,
          )
