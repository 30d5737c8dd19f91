-- Of an entry a run takes type, target and addend: lists of entries that agree in these have the same run, whatever the other bytes hold,
-- how a pointer is signed among them. Carried by equal decisions; a hint that is not turned down names entries that are there.
use Rattle.std.specs.Prelude.{Result, Ok, Err, Option, Some, None, ⊤}
use mathlib.Core.Path.{◌≡◌, refl, sym, ap, ◌∙◌}
use mathlib.Core.Logic.{inl, inr}
use mathlib.Core.Bool.{Bool, true, false}
use mathlib.Core.List.{List}
use Prim.Native.Nat.{ℕ, zero, suc, ◌+◌, ◌*◌, ◌/◌, ◌≤◌, ◌<◌}
use native.Mathlib.Omega.{arith}
use borrow.Author.Tests.{eqb-false}
use lib.Dec.{eqb, lit≤}
use lib.ListN.{length, get_or, set, length-set}
use Rattle.util.specs.Choice.{choose}
use Rattle.util.specs.Word.{le}
use Rattle.util.specs.All.{All, empty, more}
use Rattle.util.proofs.Word.{le-set}
use Rattle.util.proofs.Choice.{choose-true, choose-false}
use Rattle.util.proofs.Cases.{less-or}
use Rattle.macho.specs.Reloc.{reloc_size, reloc_at}
use Rattle.macho.specs.Hint.{no_entry, hint_count, hint_of}
use Rattle.macho.specs.declared.hint.HintRecord.{HintRecord}
use Rattle.macho.specs.declared.refusal.Refusal.{Refusal}
use Rattle.arm64_hint_terms.specs.declared.answer.Plan.{Plan}
use Rattle.arm64_hint_terms.specs.declared.answer.NoRewrite.{NoRewrite}
use Rattle.macho.specs.declared.reloc.Reloc.{Reloc}
use Rattle.arm64_hint_terms.specs.declared.answer.Insns.{Insns}
use Rattle.image.specs.Words.{words_at, put_words}
use Rattle.image.specs.Steps.{Work, step_of}
use Rattle.arm64_hint_terms.specs.Rels.{rel_at}
use Rattle.arm64_hint_laws.proofs.Entries.{AlikeEntry, SameRel, neither, both, same-decision}
use Rattle.arm64_hint_order.specs.Cursor.{object_at, late_at, order_of}
use Rattle.arm64_hint_order.proofs.Lists.{once-inside}
use Rattle.arm64_hint_order.proofs.Own.{own-once}
use Rattle.arm64_hint_order.proofs.Same.{run-same}
use Rattle.arm64_hint_places.specs.Hint.{is_skipped, insns_of, rels_of, Named}
use Rattle.arm64_hint_check.specs.Check.{check_all}
use Rattle.arm64_hint_check.proofs.Checks.{ready, each-fit}
use Rattle.arm64_hint_rules.specs.Rule.{hint_outcome, news_of}
use Rattle.arm64_hint_work.specs.Step.{places_of, add_outcome, steps_of}
use Rattle.arm64_hint_work.specs.declared.tally.Tally.{Tally}
use Rattle.arm64_hint_run.specs.Run.{start, worked, answer_by, image_by, run_of, image_of}

-- ---- lists of entries

module _ (entries entries' : List ℕ) (sized : length entries ≡ length entries')
    (alike : (k : ℕ) → k < length entries / reloc_size → AlikeEntry (reloc_at entries (reloc_size * k)) (reloc_at entries' (reloc_size * k))) where
  -- a number that names none, or one that is there
  same-rel : (m : ℕ) → ((m ≡ no_entry → ⊥) → reloc_size * m + reloc_size ≤ length entries) → SameRel (rel_at entries m) (rel_at entries' m)
  unfolding rel_at
  same-rel m there = go (eqb m no_entry) refl
    where
      named : List ℕ → Option Reloc
      named es = Some (reloc_at es (reloc_size * m))

      go : (t : Bool) → eqb m no_entry ≡ t → SameRel (rel_at entries m) (rel_at entries' m)
      go true e = rw (choose-true (eqb m no_entry) None (named entries) e, choose-true (eqb m no_entry) None (named entries') e) neither
      go false e =
          rw (choose-false (eqb m no_entry) None (named entries) e, choose-false (eqb m no_entry) None (named entries') e)
          (both (alike m (let l = there (eqb-false m no_entry e) in omega arith)))

  same_at : {l : List ℕ} → All (λ k. (k ≡ no_entry → ⊥) → reloc_size * k + reloc_size ≤ length entries) l → (i : ℕ)
      → SameRel (rel_at entries (get_or l i no_entry)) (rel_at entries' (get_or l i no_entry))
  same_at empty i = same-rel no_entry (λ ne. absurd (ne refl))
  same_at (more {k = m} h rest) zero = same-rel m h
  same_at (more h rest) (suc i) = same_at rest i

  same_outcome : (h : HintRecord) (words : List ℕ) → (is_skipped h ≡ false → Named h (length entries))
      → hint_outcome entries h words ≡ hint_outcome entries' h words
  unfolding hint_outcome rels_of
  same_outcome h words named = go (is_skipped h) refl
    where
      go : (t : Bool) → is_skipped h ≡ t → hint_outcome entries h words ≡ hint_outcome entries' h words
      go true e = choose-true (is_skipped h) None _ e ∙ sym (choose-true (is_skipped h) None _ e)
      go false e =
          let n = same_at (named e).entries in
          ap (λ (d : Result Plan NoRewrite). choose (is_skipped h) None (Some (d, insns_of h words)))
          (same-decision (rels_of entries h) (rels_of entries' h) (n 0) (n 1) (n 2) h.kind (insns_of h words))

  module _ (image hints : List ℕ) (fit : check_all (length image) hints (length entries) ≡ Ok tt) where
    same_step : (k : ℕ) → k < hint_count hints → (w : Work Tally) → step_of (steps_of hints entries) k w ≡ step_of (steps_of hints entries') k w
    same_step k l w =
        let h = hint_of hints k in
        let a = same_outcome h (words_at (places_of h) w.image)
        (λ e. (ready (length image) (length entries) h h refl (each-fit (length image) hints (length entries) fit k l) e).entries) in
        let p = ap (λ (o : Option (Result Plan NoRewrite × Insns)). put_words (places_of h) (news_of o) w.image) a in
        let q = ap (λ (o : Option (Result Plan NoRewrite × Insns)). add_outcome o w.tally) a in
        λ i. record { image = p i; tally = q i }

    same-work : worked image hints entries (order_of hints) ≡ worked image hints entries' (order_of hints)
    unfolding worked
    same-work =
        run-same (step_of (steps_of hints entries)) (step_of (steps_of hints entries')) (hint_count hints) same_step
        (once-inside (hint_count hints) (order_of hints) (own-once (object_at hints) (late_at hints) (hint_count hints))) (start image)

  -- the run is the same
  pub run-alike-entries : (image hints : List ℕ)
      → (run_of image hints entries ≡ run_of image hints entries') × (image_of image hints entries ≡ image_of image hints entries')
  unfolding run_of image_of
  run-alike-entries image hints =
      let c = ap (check_all (length image) hints) sized in
      let w = go (check_all (length image) hints (length entries)) refl in (
        w.0 ∙ ap (λ (c : Result ⊤ Refusal). answer_by c (worked image hints entries' (order_of hints)).tally) c,
        w.1 ∙ ap (λ (c : Result ⊤ Refusal). image_by c image (worked image hints entries' (order_of hints)).image) c,
      )
    where
      go : (c : Result ⊤ Refusal) → check_all (length image) hints (length entries) ≡ c
          → (answer_by (check_all (length image) hints (length entries)) (worked image hints entries (order_of hints)).tally
          ≡ answer_by (check_all (length image) hints (length entries)) (worked image hints entries' (order_of hints)).tally)
          × (image_by (check_all (length image) hints (length entries)) image (worked image hints entries (order_of hints)).image
          ≡ image_by (check_all (length image) hints (length entries)) image (worked image hints entries' (order_of hints)).image)
      go (Err x) e = rw e (refl, refl)
      go (Ok tt) e =
          let q = same-work image hints e in (
            ap (λ (w : Work Tally). answer_by (check_all (length image) hints (length entries)) w.tally) q,
            ap (λ (w : Work Tally). image_by (check_all (length image) hints (length entries)) image w.image) q,
          )

-- ---- one byte of how an entry's pointer is signed

pub signing-bytes : (entries : List ℕ) (k i v : ℕ) → 12 ≤ i → i < 16 → (image hints : List ℕ)
    → (run_of image hints (set entries (reloc_size * k + i) v) ≡ run_of image hints entries)
    × (image_of image hints (set entries (reloc_size * k + i) v) ≡ image_of image hints entries)
unfolding reloc_at
signing-bytes entries k i v h l =
    run-alike-entries (set entries (reloc_size * k + i) v) entries (length-set entries (reloc_size * k + i) v)
    (λ j b. record {
      type = beside j 1 4 (lit≤ tt);
      target = beside j 4 8 (lit≤ tt);
      addend = after j;
    })
  where
    beside : (j n o : ℕ) → o + n ≤ 12 → le n (set entries (reloc_size * k + i) v) (reloc_size * j + o) ≡ le n entries (reloc_size * j + o)
    beside j n o b =
        le-set n entries (reloc_size * j + o) (reloc_size * k + i) v (less-or k j (λ w. inl (omega arith)) (λ w. inr (omega arith)))

    after : (j : ℕ) → le 8 (set entries (reloc_size * k + i) v) (reloc_size * j + 16) ≡ le 8 entries (reloc_size * j + 16)
    after j =
        le-set 8 entries (reloc_size * j + 16) (reloc_size * k + i) v (less-or j k (λ w. inr (omega arith)) (λ w. inl (omega arith)))
