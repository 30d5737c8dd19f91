-- Calls for parts of the image that have every hint of the run between them (RULES 9.32): bytes of no part stay, and the tallies add up. Carried by the
-- laws of one call, along the run's order of work: at each position one call goes on, and the others' parts stay.
use Rattle.std.specs.Prelude.{Result, Ok, Err, Option, Some, None}
use mathlib.Core.Path.{◌≡◌, refl, sym, ap, ap₂, ◌∙◌}
use mathlib.Core.Logic.{◌≢◌, ⊎_elim}
use mathlib.Core.Bool.{Bool, true, false, true≢false}
use mathlib.Core.List.{List, [], ◌∷◌}
use Prim.Native.Nat.{ℕ, zero, suc, ◌+◌, ◌≤◌, ◌<◌}
use native.Mathlib.Omega.{arith}
use lib.ListN.{length, get_or}
use Rattle.util.specs.All.{All, empty, more}
use Rattle.util.proofs.Cases.{same_or}
use Rattle.macho.specs.Hint.{hint_count, hint_of}
use Rattle.image.specs.Words.{span}
use Rattle.image.specs.Steps.{Work, foot_of, answered, written, step_of}
use Rattle.image.proofs.Steps.{local-step}
use Rattle.arm64_hint_order.specs.Lists.{run_list}
use Rattle.arm64_hint_order.specs.Cursor.{order_of}
use Rattle.arm64_hint_terms.specs.declared.answer.Plan.{Plan}
use Rattle.arm64_hint_terms.specs.declared.answer.NoRewrite.{NoRewrite}
use Rattle.arm64_hint_terms.specs.declared.answer.Insns.{Insns}
use Rattle.arm64_hint_terms.specs.declared.answer.NoRewrite.TheVariants.{Declined, Nine}
use Rattle.arm64_hint_work.specs.Step.{places_of, add_outcome, steps_of}
use Rattle.arm64_hint_work.specs.declared.tally.Tally.{Tally}
use Rattle.arm64_hint_run.specs.Run.{zeros, start, worked, run_of, image_of}
use Rattle.arm64_hint_run.proofs.Answers.{run_is}
use Rattle.arm64_hint_kept.specs.PartCalls.{Call, part_of, PartCalls, plus, added}
use Rattle.arm64_hint_kept.proofs.Picked.{Picked, pick, picked_none, picked-one}
use Rattle.arm64_hint_kept.proofs.PartCalls.{answers, own-part, other-part, own-order, own-bytes, image-done, fits-of, order-inside, part-call}

-- ---- tallies

tally-same : {t u : Tally} → t.rewritten ≡ u.rewritten → t.skipped ≡ u.skipped → t.declined ≡ u.declined → t.turned_down ≡ u.turned_down → t ≡ u
tally-same a b c e = λ d. record { rewritten = a d; skipped = b d; declined = c d; turned_down = e d }

plus-zeros : (t : Tally) → t ≡ plus t zeros
plus-zeros t = tally-same (omega arith) (omega arith) (omega arith) (omega arith)

plus_assoc : (t u v : Tally) → plus (plus t u) v ≡ plus t (plus u v)
plus_assoc t u v = tally-same (omega arith) (omega arith) (omega arith) (omega arith)

plus-swap : (t u v : Tally) → plus t (plus u v) ≡ plus u (plus t v)
plus-swap t u v = tally-same (omega arith) (omega arith) (omega arith) (omega arith)

-- one answer more is the tally of that answer more
add-plus : (o : Option (Result Plan NoRewrite × Insns)) (t : Tally) → add_outcome o t ≡ plus t (add_outcome o zeros)
add-plus None t = tally-same (omega arith) (omega arith) (omega arith) (omega arith)
add-plus (Some (Err Declined, s)) t = tally-same (omega arith) (omega arith) (omega arith) (omega arith)
add-plus (Some (Err Nine, s)) t = tally-same (omega arith) (omega arith) (omega arith) (omega arith)
add-plus (Some (Ok p, s)) t = tally-same (omega arith) (omega arith) (omega arith) (omega arith)

-- ---- the tally of a list

module _ (hints entries : List ℕ) where
  tally_of : List ℕ → List ℕ → Tally
  tally_of l x = (run_list (step_of (steps_of hints entries)) l (start x)).tally

  run-from : (l : List ℕ) (w : Work Tally) → (run_list (step_of (steps_of hints entries)) l w).tally ≡ plus w.tally (tally_of l w.image)
  unfolding tally_of
  run-from [] w = plus-zeros w.tally
  run-from (k ∷ l) w =
      let o = answered (steps_of hints entries) k w.image in
      let rest = tally_of l (written (steps_of hints entries) k w.image) in
      run-from l (step_of (steps_of hints entries) k w)
      ∙ ap (λ (t : Tally). plus t rest) (add-plus o w.tally)
      ∙ plus_assoc w.tally (add_outcome o zeros) rest
      ∙ ap (plus w.tally) (sym (run-from l (step_of (steps_of hints entries) k (start w.image))))

  first-tally : (k : ℕ) (l x : List ℕ)
      → tally_of (k ∷ l) x ≡ plus (add_outcome (answered (steps_of hints entries) k x) zeros) (tally_of l (written (steps_of hints entries) k x))
  unfolding tally_of
  first-tally k l x = run-from l (step_of (steps_of hints entries) k (start x))

  nothing : (x : List ℕ) → tally_of [] x ≡ zeros
  unfolding tally_of
  nothing x = refl

  tally-done : (image : List ℕ) (t : Tally) → run_of image hints entries ≡ Ok t → t ≡ tally_of (order_of hints) image
  unfolding worked tally_of
  tally-done image t e = sym (ap (λ (w : Work Tally). w.tally) (run_is image hints entries t e))

-- ---- tallies of calls

added-same : {f g : ℕ → Tally} (m : ℕ) → ((c : ℕ) → c < m → f c ≡ g c) → added f m ≡ added g m
added-same zero e = refl
added-same (suc m) e = ap₂ plus (added-same m (λ c h. e c (omega arith))) (e m (omega arith))

added_none : {f : ℕ → Tally} (m : ℕ) → ((c : ℕ) → c < m → f c ≡ zeros) → added f m ≡ zeros
added_none zero e = refl
added_none (suc m) e =
    ap₂ plus (added_none m (λ c h. e c (omega arith))) (e m (omega arith)) ∙ tally-same (omega arith) (omega arith) (omega arith) (omega arith)

-- where one call has v more, their sum has
added-one : {f g : ℕ → Tally} (v : Tally) (m c : ℕ) → c < m → f c ≡ plus v (g c) → ((d : ℕ) → d < m → d ≢ c → f d ≡ g d)
    → added f m ≡ plus v (added g m)
added-one v zero c h e s = absurd (omega arith)
added-one {f} {g} v (suc m) c h e s =
    same_or c m
    (λ q. ap₂ plus (added-same m (λ d l. s d (omega arith) (λ p. omega arith))) (sym (ap f q) ∙ e ∙ ap (λ (d : ℕ). plus v (g d)) q)
    ∙ plus-swap (added g m) v (g m))
    (λ ne. ap₂ plus (added-one v m c (omega arith) e (λ d l. s d (omega arith))) (s m (omega arith) (λ p. ne (sym p)))
    ∙ plus_assoc v (added g m) (g m))

-- ---- the calls

module _ (image hints entries : List ℕ) (m : ℕ) (call : ℕ → Call) (u : ℕ → Tally) (all : PartCalls image hints entries m call u) where
  -- what call d does from an image x on, along its own positions p of the run's
  counted : (ℕ → List ℕ) → List ℕ → ℕ → Tally
  counted p x d = tally_of (call d).hints (call d).entries (p d) (part_of (call d) x)

  fits : (d : ℕ) (h : d < m) (j : ℕ) → j < hint_count (call d).hints → All (λ p. p + 4 ≤ (call d).len) (places_of (hint_of (call d).hints j))
  fits d h = fits-of image (call d) (u d) (all.within d h) (all.done d h)

  -- the call that has the hint goes on
  goes_on : (d : ℕ) → d < m → (k : ℕ) (x : List ℕ) → length x ≡ length image → (i : ℕ) → i < hint_count (call d).hints → (call d).at i ≡ k → (r : List ℕ)
      → tally_of (call d).hints (call d).entries (i ∷ r) (part_of (call d) x)
      ≡ plus (add_outcome (answered (steps_of hints entries) k x) zeros)
      (tally_of (call d).hints (call d).entries r (part_of (call d) (written (steps_of hints entries) k x)))
  goes_on d hd k x size i hi e r =
      let c = call d in
      let it = all.each d hd in
      first-tally c.hints c.entries i r (part_of c x)
      ∙ ap₂ (λ (o : Option (Result Plan NoRewrite × Insns)) (y : List ℕ). plus (add_outcome o zeros) (tally_of c.hints c.entries r y))
      (sym (answers hints entries c it (fits d hd) i hi x) ∙ ap (λ (k : ℕ). answered (steps_of hints entries) k x) e)
      (sym (own-part hints entries c it (fits d hd) i hi x (omega (arith, all.within d hd)))
      ∙ ap (λ (k : ℕ). part_of c (written (steps_of hints entries) k x)) e)

  tallies : {l : List ℕ} → All (λ k. k < hint_count hints) l → (p : ℕ → List ℕ)
      → ((d : ℕ) → Picked (call d).at (hint_count (call d).hints) l (p d)) → (x : List ℕ) → length x ≡ length image
      → tally_of hints entries l x ≡ added (counted p x) m
  unfolding counted
  tallies empty p picked x size =
      nothing hints entries x
      ∙ sym (added_none m (λ d h.
      ap (λ (l : List ℕ). tally_of (call d).hints (call d).entries l (part_of (call d) x)) (picked_none (picked d))
      ∙ nothing (call d).hints (call d).entries (part_of (call d) x)))
  tallies (more {k = k} {l = l} h rest) p picked x size =
      let v = add_outcome (answered (steps_of hints entries) k x) zeros in
      let next = written (steps_of hints entries) k x in
      let has = all.some k h in
      first-tally hints entries k l x
      ∙ ap (plus v)
      (tallies rest (λ d. (picked-one (picked d)).0) (λ d. (picked-one (picked d)).1) next ((local-step (steps_of hints entries) k).writes.size x ∙ size))
      ∙ sym (added-one v m has.0 has.2
      (⊎_elim
      (λ (i, hi, e, q). ap (λ (l : List ℕ). tally_of (call has.0).hints (call has.0).entries l (part_of (call has.0) x)) q
      ∙ goes_on has.0 has.2 k x size i hi e (picked-one (picked has.0)).0)
      (λ (away, q). absurd (away has.1 has.3 has.4))
      (picked-one (picked has.0)).2)
      (λ d hd ne. ⊎_elim
      (λ (i, hi, e, q). absurd (ne (all.one d has.0 i has.1 hd has.2 hi has.3 (e ∙ sym has.4))))
      (λ (away, q). ap₂ (λ (l y : List ℕ). tally_of (call d).hints (call d).entries l y) q
      (sym (other-part hints entries (call d) (all.each d hd) (fits d hd) k h away x (omega (arith, all.within d hd)))))
      (picked-one (picked d)).2))

  -- a byte of no part is none of the run's words
  no_word : (b : ℕ) → ((c : ℕ) → c < m → span (call c).start (call c).len b ≡ false) → (k : ℕ) → k < hint_count hints
      → foot_of (steps_of hints entries) k b ≡ false
  no_word b out k h = go (foot_of (steps_of hints entries) k b) refl
    where
      go : (w : Bool) → foot_of (steps_of hints entries) k b ≡ w → foot_of (steps_of hints entries) k b ≡ false
      go false e = e
      go true e =
          let has = all.some k h in
          absurd (true≢false (sym (own-bytes hints entries (call has.0) (all.each has.0 has.2) (fits has.0 has.2) has.1 has.3 b
          (ap (λ (k : ℕ). foot_of (steps_of hints entries) k b) has.4 ∙ e)) ∙ out has.0 has.2))

  stays : (b : ℕ) → ((c : ℕ) → c < m → span (call c).start (call c).len b ≡ false) → {l : List ℕ} → All (λ k. k < hint_count hints) l → (x : List ℕ)
      → get_or (run_list (written (steps_of hints entries)) l x) b 0 ≡ get_or x b 0
  stays b out empty x = refl
  stays b out (more {k = k} h rest) x =
      stays b out rest (written (steps_of hints entries) k x) ∙ (local-step (steps_of hints entries) k).writes.stays x b (no_word b out k h)

-- RULES 9.32: the bytes of each part are its call's, those of no part stay, and the tallies add up
pub part-calls : (image hints entries : List ℕ) (t : Tally) → run_of image hints entries ≡ Ok t
    → (m : ℕ) (call : ℕ → Call) (u : ℕ → Tally) → PartCalls image hints entries m call u
    → ((c : ℕ) → c < m → image_of (part_of (call c) image) (call c).hints (call c).entries ≡ part_of (call c) (image_of image hints entries))
    × ((b : ℕ) → ((c : ℕ) → c < m → span (call c).start (call c).len b ≡ false) → get_or (image_of image hints entries) b 0 ≡ get_or image b 0)
    × (t ≡ added u m)
unfolding counted
part-calls image hints entries t e m call u all = (
  λ c h. part-call image hints entries t e (call c) (u c) (all.within c h) (all.done c h) (all.each c h),
  λ b out. ap (λ (x : List ℕ). get_or x b 0) (image-done image hints entries t e)
      ∙ stays image hints entries m call u all b out (order-inside hints) image,
  tally-done hints entries image t e
      ∙ tallies image hints entries m call u all (order-inside hints) (λ d. (picks d).0) (λ d. (picks d).1) image refl
      ∙ added-same m counts,
)
  where
    picks : (d : ℕ) → (r : List ℕ) × Picked (call d).at (hint_count (call d).hints) (order_of hints) r
    picks d = pick (call d).at (hint_count (call d).hints) (order_of hints)

    counts : (d : ℕ) → d < m → counted image hints entries m call u all (λ d. (picks d).0) image d ≡ u d
    counts d h =
        ap (λ (l : List ℕ). tally_of (call d).hints (call d).entries l (part_of (call d) image))
        (own-order hints entries (call d) (all.each d h) (fits image hints entries m call u all d h))
        ∙ sym (tally-done (call d).hints (call d).entries (part_of (call d) image) (u d) (all.done d h))
