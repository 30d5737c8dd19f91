-- What a run of hints keeps (RULES 9.27 to 9.30): the theorems. Carried by the law of a hint's step and by the order's laws of lists of steps.
use Rattle.std.specs.Prelude.{Result, Ok, Err}
use mathlib.Core.Path.{◌≡◌, refl, sym, ap, ◌∙◌, subst}
use mathlib.Core.Bool.{true, false}
use mathlib.Core.List.{List, [], ◌∷◌, ◌++◌}
use Prim.Native.Nat.{ℕ, ◌<◌}
use native.Mathlib.Omega.{arith}
use lib.ListN.{length}
use Rattle.util.proofs.All.{all_map}
use Rattle.util.proofs.Cases.{less-or}
use Rattle.macho.proofs.Numbered.{numbered}
use Rattle.macho.specs.declared.hint.HintRecord.{HintRecord}
use Rattle.macho.specs.Hint.{hint_count, hint_of}
use Rattle.image.specs.Words.{words_at}
use Rattle.image.specs.Steps.{Work, written, step_of}
use Rattle.arm64_hint_order.specs.Lists.{count, Once}
use Rattle.arm64_hint_order.specs.Cursor.{object_at, late_at, order_of}
use Rattle.arm64_hint_order.proofs.Lists.{run-append, count-append, count-here}
use Rattle.arm64_hint_order.proofs.Own.{own-once}
use Rattle.arm64_hint_order.proofs.Runs as Runs
use Rattle.arm64_machine.specs.Machine.{Other, State}
use Rattle.arm64_machine.specs.SameRun.{CloseRun}
use Rattle.arm64_machine.proofs.Close.{close-same}
use Rattle.arm64_machine.proofs.FairLaws as FairLaws
use Rattle.arm64_hint_places.specs.Hint.{is_skipped}
use Rattle.arm64_hint_check.proofs.Checks.{Ready, ready, each-fit}
use Rattle.arm64_hint_work.specs.Step.{places_of, steps_of}
use Rattle.arm64_hint_work.specs.declared.tally.Tally.{Tally}
use Rattle.arm64_hint_work.proofs.Steps.{add-swap}
use Rattle.arm64_hint_run.specs.Run.{start, worked, run_of, image_of, run_number, tally_after}
use Rattle.macho.specs.declared.refusal.Refusal.{Refusal}
use Rattle.arm64_hint_run.proofs.Parts.{places-inside, in-part}
use Rattle.arm64_hint_run.proofs.Answers.{done-fit, run_is}
use Rattle.arm64_hint_kept.specs.HintsKept.{codes, part_bytes, word_bytes, KeepsOrder, PartsApart, Alone, Fair, Close, HintsKept, Premises, Literally}
use Rattle.arm64_hint_kept.proofs.Step.{codes_same, addresses, step_same}

-- the run's own list has each hint once, and keeps each object's own order
pub own-list : (hints : List ℕ) → Once (hint_count hints) (order_of hints) × KeepsOrder hints (order_of hints)
own-list hints = (own-once (object_at hints) (late_at hints) (hint_count hints), λ o. refl)

module _ (image hints entries : List ℕ) (t : Tally) (e : run_of image hints entries ≡ Ok t) where
  -- every hint that is not skipped has its part inside the image, and its words inside its part
  checked : (k : ℕ) → k < hint_count hints → is_skipped (hint_of hints k) ≡ false → Ready (length image) (length entries) (hint_of hints k)
  checked k l s =
      ready (length image) (length entries) (hint_of hints k) (hint_of hints k) refl
      (each-fit (length image) hints (length entries) (done-fit image hints entries t e) k l) s

  -- a byte of a hint's words is one of its part
  inside-part : (k : ℕ) → k < hint_count hints → (b : ℕ) → word_bytes (hint_of hints k) b ≡ true → part_bytes (hint_of hints k) b ≡ true
  inside-part k l b w = let q = in-part image hints entries (done-fit image hints entries t e) k l b w in rw q.0 q.1

  -- a hint's step on an image as long as the lent one
  step : (k : ℕ) → k < hint_count hints → is_skipped (hint_of hints k) ≡ false → (x : List ℕ) → length x ≡ length image → Fair (hint_of hints k) x
      → Close (hint_of hints k) x (written (steps_of hints entries) k x)
  step k l s x size fair =
      let h = hint_of hints k in
      let r = checked k l s in
      step_same entries h s (addresses hints k) x (all_map (λ at w. omega (arith, r.part)) (places-inside h r.words)) fair

  module _ (l : List ℕ) (once : Once (hint_count hints) l) where
    ordered : PartsApart hints → KeepsOrder hints l → worked image hints entries l ≡ record { image = image_of image hints entries; tally = t }
    ordered apart kept = own ∙ run_is image hints entries t e
      where
        own : worked image hints entries l ≡ worked image hints entries (order_of hints)
        own =
            unfold worked in
            Runs.parts (steps_of hints entries) (hint_count hints) add-swap (λ k. part_bytes (hint_of hints k))
            inside-part (object_at hints) (late_at hints) apart l once kept (start image)

    -- a member of the list is a hint's position
    position : (a : List ℕ) (k : ℕ) (b : List ℕ) → l ≡ a ++ k ∷ b → k < hint_count hints
    position a k b q =
        less-or k (hint_count hints) (λ h. h)
        (λ h. absurd (omega (arith, ap (count k) q, count-append k a (k ∷ b), count-here k k b refl, once.none k h)))

    turned : (a : List ℕ) (k : ℕ) (b : List ℕ) → l ≡ a ++ k ∷ b → is_skipped (hint_of hints k) ≡ false
        → Fair (hint_of hints k) (worked image hints entries a).image
        → Close (hint_of hints k) (worked image hints entries a).image (worked image hints entries (a ++ k ∷ [])).image
    turned a k b q s fair =
        subst (λ (y : List ℕ). Close (hint_of hints k) (worked image hints entries a).image y) (sym next)
        (step k (position a k b q) s (worked image hints entries a).image size fair)
      where
        next : (worked image hints entries (a ++ k ∷ [])).image ≡ written (steps_of hints entries) k (worked image hints entries a).image
        next = unfold worked in ap (λ (w : Work Tally). w.image) (run-append (step_of (steps_of hints entries)) a (k ∷ []) (start image))

        size : length (worked image hints entries a).image ≡ length image
        size =
            unfold worked in
            ap length (Runs.image-of (steps_of hints entries) (hint_count hints) a (start image)) ∙ Runs.size (steps_of hints entries) (hint_count hints) a image

    ended : (k : ℕ) → k < hint_count hints → is_skipped (hint_of hints k) ≡ false → Alone hints k → Fair (hint_of hints k) image
        → Close (hint_of hints k) image (worked image hints entries l).image
    ended k h s alone fair =
        subst (CloseRun (codes (hint_of hints k) image)) (sym (codes_same (hint_of hints k) _ _ own)) (step k h s image refl fair)
      where
        own : words_at (places_of (hint_of hints k)) (worked image hints entries l).image
            ≡ words_at (places_of (hint_of hints k)) (written (steps_of hints entries) k image)
        own =
            unfold worked in
            ap (words_at (places_of (hint_of hints k))) (Runs.image-of (steps_of hints entries) (hint_count hints) l (start image))
            ∙ Runs.ends (steps_of hints entries) (hint_count hints) k h alone l once image

-- RULES 9.27 to 9.29, of every list of a run's hint steps with each hint once
pub hints-kept : (image hints entries : List ℕ) (t : Tally) → run_of image hints entries ≡ Ok t
    → (l : List ℕ) → Once (hint_count hints) l → HintsKept image hints entries l t
hints-kept image hints entries t e l once =
    record {
      order = ordered image hints entries t e l once;
      turn = turned image hints entries t e l once;
      ends = ended image hints entries t e l once;
    }

-- all premises (RULES 9.12 to 9.20) give those that are needed
pub literal : (h : HintRecord) (image : List ℕ) (o : Other) (s : State) → Premises h image o s → Fair h image
literal h image o s p = record { disjoint = p.disjoint; words = FairLaws.fair p.words }

-- the claim with every premise (RULES 1.9 to 1.13)
pub literally : (image hints entries : List ℕ) (l : List ℕ) (t : Tally) → HintsKept image hints entries l t → Literally image hints entries l t
literally image hints entries l t d =
    record {
      order = d.order;
      turn = λ a k b q s o z p. (close-same (d.turn a k b q s (literal _ _ o z p))).agree o z;
      ends = λ apart k h s o z data' p. (close-same (d.ends k h s (apart k h) (literal _ _ o z p))).agree o z;
    }

-- The claim of the compiled run (RULES 9.30): `answer` is what arm64_hint_run's `run` returns and `left` the image that it leaves, each with its promise.
-- Where it is done, its own list ends with what it left, is one of those spoken of, and of each of them the claim holds, and with every premise
pub of-the-run : (image hints entries left : List ℕ) (answer : Result Tally Refusal) → answer ≡ run_of image hints entries → left ≡ image_of image hints entries
    → (t : Tally) → answer ≡ Ok t
    → (worked image hints entries (order_of hints) ≡ record { image = left; tally = t })
    × (Once (hint_count hints) (order_of hints))
    × (KeepsOrder hints (order_of hints))
    × ((l : List ℕ) → Once (hint_count hints) l → HintsKept image hints entries l t × Literally image hints entries l t)
of-the-run image hints entries left answer says leaves t done =
    let e = sym says ∙ done in
    let own = own-list hints in (
      run_is image hints entries t e ∙ ap (λ (image : List ℕ). record { image = image; tally = t }) (sym leaves),
      own.0,
      own.1,
      λ l once. let k = hints-kept image hints entries t e l once in (k, literally image hints entries l t k),
    )

-- ---- the exported call

-- an answer of the number 0 is done, and its counts are what the lent tally gets
zero-done : (old : Tally) (a : Result Tally Refusal) → run_number a ≡ 0 → a ≡ Ok (tally_after old a)
zero-done old (Ok t) e = refl
zero-done old (Err x) e = absurd (omega (arith, (numbered x).0))

-- The claim of the exported call: `number` is what `hauklivo_apply_hints` returns, `tally` and `left` what it leaves, each with its promise
pub of-the-call : (image hints entries left : List ℕ) (old tally : Tally) (number : ℕ) → number ≡ run_number (run_of image hints entries)
    → tally ≡ tally_after old (run_of image hints entries) → left ≡ image_of image hints entries → number ≡ 0
    → (worked image hints entries (order_of hints) ≡ record { image = left; tally = tally })
    × (Once (hint_count hints) (order_of hints))
    × (KeepsOrder hints (order_of hints))
    × ((l : List ℕ) → Once (hint_count hints) l → HintsKept image hints entries l tally × Literally image hints entries l tally)
of-the-call image hints entries left old tally number says counts leaves zero =
    of-the-run image hints entries left (run_of image hints entries) refl leaves tally
    (zero-done old (run_of image hints entries) (sym says ∙ zero) ∙ ap (λ (t : Tally). Ok t) (sym counts))
