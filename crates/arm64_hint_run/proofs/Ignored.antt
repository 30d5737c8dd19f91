-- What is ignored changes nothing: of a hint its bytes 2 and 3 and the places past its word count, of an entry all but type, target and addend.
-- Lists that agree in the rest have the same run. Carried by equal checks, equal orders of work and equal steps.
use Rattle.std.specs.Prelude.{Result, Option, ⊤}
use mathlib.Core.Path.{◌≡◌, ap, ap₂, ◌∙◌}
use mathlib.Core.Logic.{◌⊎◌, ⊎_elim}
use mathlib.Core.List.{List, map}
use Prim.Native.Nat.{ℕ, ◌+◌, ◌*◌, ◌/◌, ◌≤◌, ◌<◌}
use native.Mathlib.Omega.{arith}
use lib.Dec.{eqb}
use lib.ListN.{length, length-set}
use Rattle.macho.specs.Hint.{hint_size, hint_at, hint_count, hint_of}
use Rattle.macho.specs.declared.hint.HintInsn.{HintInsn}
use Rattle.macho.specs.declared.hint.HintRecord.{HintRecord}
use Rattle.macho.specs.declared.refusal.Refusal.{Refusal}
use Rattle.arm64_hint_terms.specs.declared.answer.Plan.{Plan}
use Rattle.arm64_hint_terms.specs.declared.answer.NoRewrite.{NoRewrite}
use Rattle.arm64_hint_terms.specs.declared.answer.Insns.{Insns}
use Rattle.image.specs.Words.{words_at, put_words}
use Rattle.image.specs.Steps.{Work, step_of}
use Rattle.arm64_hint_order.specs.Lists.{run_list, own_list}
use Rattle.arm64_hint_order.specs.Cursor.{object_at, late_at, order_of}
use Rattle.arm64_hint_order.proofs.Lists.{once-inside}
use Rattle.arm64_hint_order.proofs.Own.{own-once}
use Rattle.arm64_hint_order.proofs.Same.{run-same, own_same}
use Rattle.arm64_hint_places.proofs.Alike.{Alike, same-skip, same-insns, same-rels, changed, elsewhere, ignored-byte, past-place}
use Rattle.arm64_hint_check.proofs.Ignored.{same_check}
use Rattle.arm64_hint_rules.specs.Rule.{hint_outcome, news_of}
use Rattle.arm64_hint_work.specs.Step.{places_of, add_outcome, steps_of}
use Rattle.arm64_hint_work.specs.declared.tally.Tally.{Tally}
use Rattle.arm64_hint_run.specs.Run.{start, worked, answer_by, image_by, run_of, image_of}

-- ---- hints

module _ (h g : HintRecord) (alike : Alike h g) where
  same-places : places_of h ≡ places_of g
  same-places = ap₂ (λ (s : ℕ) (l : List HintInsn). map (λ at. s + at) (map (λ i. i.off) l)) alike.start alike.places

  same_outcome : (entries words : List ℕ) → hint_outcome entries h words ≡ hint_outcome entries g words
  unfolding hint_outcome
  same_outcome entries words = rw (same-insns h g alike words, same-rels h g alike entries, same-skip h g alike, alike.kind)

  same_answer : (entries image : List ℕ) → hint_outcome entries h (words_at (places_of h) image) ≡ hint_outcome entries g (words_at (places_of g) image)
  same_answer entries image = same_outcome entries _ ∙ ap (λ (l : List ℕ). hint_outcome entries g (words_at l image)) same-places

module _ (hints hints' : List ℕ) (sized : length hints ≡ length hints')
    (alike : (k : ℕ) → k < hint_count hints → Alike (hint_of hints k) (hint_of hints' k)) where
  same-order : order_of hints ≡ order_of hints'
  unfolding hint_at
  same-order =
      own_same (object_at hints) (object_at hints') (late_at hints) (late_at hints') (hint_count hints) (λ k h. (alike k h).object)
      (λ k h. ap (λ (n : ℕ). eqb n 1) (alike k h).kind)
      ∙ ap (λ (n : ℕ). own_list (object_at hints') (late_at hints') (n / hint_size)) sized

  module _ (entries image : List ℕ) where
    same_step : (k : ℕ) → k < hint_count hints → (w : Work Tally) → step_of (steps_of hints entries) k w ≡ step_of (steps_of hints' entries) k w
    same_step k h w =
        let a = same_answer _ _ (alike k h) entries w.image in
        let p = ap₂ (λ (l : List ℕ) (o : Option (Result Plan NoRewrite × Insns)). put_words l (news_of o) w.image) (same-places _ _ (alike k h)) a in
        let q = ap (λ (o : Option (Result Plan NoRewrite × Insns)). add_outcome o w.tally) a in
        λ i. record { image = p i; tally = q i }

    same-work : worked image hints entries (order_of hints) ≡ worked image hints' entries (order_of hints')
    unfolding worked
    same-work =
        run-same (step_of (steps_of hints entries)) (step_of (steps_of hints' entries)) (hint_count hints) same_step
        (once-inside (hint_count hints) (order_of hints) (own-once (object_at hints) (late_at hints) (hint_count hints))) (start image)
        ∙ ap (λ (l : List ℕ). run_list (step_of (steps_of hints' entries)) l (start image)) same-order

    -- the run is the same
    pub run-alike : (run_of image hints entries ≡ run_of image hints' entries) × (image_of image hints entries ≡ image_of image hints' entries)
    unfolding run_of image_of
    run-alike =
        let c = same_check hints hints' sized alike (length image) (length entries) in (
          ap₂ (λ (c : Result ⊤ Refusal) (w : Work Tally). answer_by c w.tally) c same-work,
          ap₂ (λ (c : Result ⊤ Refusal) (w : Work Tally). image_by c image w.image) c same-work,
        )

-- ---- one byte

module _ (hints : List ℕ) (k i v : ℕ) (entries image : List ℕ) where
  -- the run with that byte changed is the run
  abbrev pub Unchanged : Type 0
  Unchanged =
      (run_of image (changed hints k i v) entries ≡ run_of image hints entries) × (image_of image (changed hints k i v) entries ≡ image_of image hints entries)

  unchanged : i < hint_size → Alike (hint_of (changed hints k i v) k) (hint_of hints k) → Unchanged
  unchanged l own = run-alike (changed hints k i v) hints (length-set hints (hint_size * k + i) v) (λ j h. elsewhere hints k i v l own j) entries image

  -- the two ignored bytes of a hint
  pub ignored-bytes : (i ≡ 2) ⊎ (i ≡ 3) → Unchanged
  ignored-bytes e = unchanged (⊎_elim (λ w. omega arith) (λ w. omega arith) e) (ignored-byte hints k i v e)

  -- the places of a hint past its word count
  pub past-count : 48 ≤ i → i < hint_size → ((hint_of hints k).n ≡ 3 → ⊥) → Unchanged
  past-count h l ne = unchanged l (past-place hints k i v h ne)
