-- The records of a listed run: their positions are the order of work, each is told by what came of its hint at its turn, and stands in its slot; their totals
-- are the tally. By induction over the order, and by the layout of a record.
use Rattle.std.specs.Prelude.{Result, Ok, Err, Option, Some, None}
use mathlib.Core.Path.{◌≡◌, refl, sym, ap, ◌∙◌, subst}
use mathlib.Core.Bool.{Bool}
use mathlib.Core.List.{List, [], ◌∷◌, ◌++◌, map}
use Prim.Native.Nat.{ℕ, ◌+◌, ◌*◌, ◌^◌, ◌<◌}
use native.Mathlib.Omega.{arith}
use native.Mathlib.Nat.{add-zero, zero-add, add_assoc}
use lib.Dec.{eqb, lit<}
use lib.ListN.{length, get_or, drop, length-append}
use Rattle.util.specs.Choice.{choose}
use Rattle.util.specs.All.{All, more}
use Rattle.util.proofs.Word.{le-lt}
use Rattle.macho.specs.Hint.{hint_size, hint_at, hint_count}
use Rattle.macho.specs.Record.{Fits}
use Rattle.macho.specs.RuleRecord.{rule_record_size, rule_record_at, rule_record_fields, rule_skipped, rule_declined, rule_turned_down}
use Rattle.macho.specs.declared.rule_record.RuleRecord.{RuleRecord}
use Rattle.macho.proofs.RoundTrip.{rule_record, value-in-list}
use Rattle.image.specs.Steps.{answered, written}
use Rattle.arm64_hint_terms.specs.declared.answer.Plan.{Plan}
use Rattle.arm64_hint_terms.specs.declared.answer.NoRewrite.{NoRewrite}
use Rattle.arm64_hint_terms.specs.declared.answer.Insns.{Insns}
use Rattle.arm64_hint_terms.specs.declared.answer.NoRewrite.TheVariants.{Declined, Nine}
use Rattle.arm64_hint_terms.specs.declared.answer.Rewrite.{Rewrite}
use Rattle.arm64_hint_terms.specs.declared.answer.Rewrite.TheVariants.{Drop, Literal, Adr, Fold, Slot}
use Rattle.arm64_hint_order.specs.Lists.{run_list}
use Rattle.arm64_hint_order.specs.Runs.{answers, add_all}
use Rattle.arm64_hint_order.specs.Cursor.{object_at, late_at, order_of}
use Rattle.arm64_hint_order.proofs.Lists.{once-inside}
use Rattle.arm64_hint_order.proofs.Own.{own-once}
use Rattle.arm64_hint_order.proofs.Runs.{run-tally}
use Rattle.arm64_hint_work.specs.Step.{add_outcome, steps_of}
use Rattle.arm64_hint_work.specs.Acted.{rewrite_rule, rule_of, changed_of}
use Rattle.arm64_hint_work.specs.declared.tally.Tally.{Tally}
use Rattle.arm64_hint_work.proofs.Changes.{at_most_one}
use Rattle.arm64_hint_run.specs.Run.{zeros, start, worked}
use Rattle.arm64_hint_run.specs.Records.{record_of, records_of, filled}
use Rattle.arm64_hint_listed.specs.Totals.{is_rewrite, count_rules, totals}

-- ---- the order

module _ (hints entries : List ℕ) where
  -- the positions are the list's
  pub positions : (l image : List ℕ) → map (λ r. r.position) (records_of image hints entries l) ≡ l
  unfolding records_of
  positions [] image = refl
  positions (k ∷ l) image = ap (λ (m : List ℕ). k ∷ m) (positions l (written (steps_of hints entries) k image))

  -- the objects are those of the hints at these positions
  pub objects : (l image : List ℕ) → map (λ r. r.object) (records_of image hints entries l) ≡ map (object_at hints) l
  unfolding records_of
  objects [] image = refl
  objects (k ∷ l) image = ap (λ (m : List ℕ). object_at hints k ∷ m) (objects l (written (steps_of hints entries) k image))

  -- one record a hint
  pub one_each : (l image : List ℕ) → length (records_of image hints entries l) ≡ length l
  unfolding records_of
  one_each [] image = refl
  one_each (k ∷ l) image = omega (arith, one_each l (written (steps_of hints entries) k image))

  -- the record of a hint, by what comes of it on the image that those before it left
  pub at_turn : (l : List ℕ) (k : ℕ) (m image : List ℕ) (d : RuleRecord)
      → get_or (records_of image hints entries (l ++ (k ∷ m))) (length l) d
      ≡ record_of hints k (answered (steps_of hints entries) k (run_list (written (steps_of hints entries)) l image))
  unfolding records_of
  at_turn [] k m image d = refl
  at_turn (j ∷ l) k m image d = at_turn l k m (written (steps_of hints entries) j image) d

-- ---- in the slots

-- the rule of a rewrite is one of five
each-rewrite : (P : ℕ → Type 0) → P 2 → P 3 → P 4 → P 5 → P 6 → (r : Rewrite) → P (rewrite_rule r)
each-rewrite P a b c d e Drop = a
each-rewrite P a b c d e Literal = b
each-rewrite P a b c d e Adr = c
each-rewrite P a b c d e Fold = d
each-rewrite P a b c d e Slot = e

-- a rule and a number of words changed are bytes
rule-lt : (o : Option (Result Plan NoRewrite × Insns)) → rule_of o < 256
rule-lt None = lit< tt
rule-lt (Some (Err Declined, s)) = lit< tt
rule-lt (Some (Err Nine, s)) = lit< tt
rule-lt (Some (Ok p, s)) = each-rewrite (λ n. n < 256) (lit< tt) (lit< tt) (lit< tt) (lit< tt) (lit< tt) p.rewrite

changed-lt : (o : Option (Result Plan NoRewrite × Insns)) → changed_of o < 256
changed-lt None = lit< tt
changed-lt (Some (Err Declined, s)) = lit< tt
changed-lt (Some (Err Nine, s)) = lit< tt
changed-lt (Some (Ok p, s)) = omega (arith, at_most_one p.w0, at_most_one p.w1, at_most_one p.w2)

object-lt : (hints : List ℕ) (k : ℕ) → object_at hints k < 2 ^ 32
unfolding hint_at
object-lt hints k = le-lt 4 hints (hint_size * k + 4)

-- a record of a list that may be lent fits its fields
fits : (hints : List ℕ) (k : ℕ) (o : Option (Result Plan NoRewrite × Insns)) → k < 2 ^ 32 → Fits (rule_record_fields (record_of hints k o))
fits hints k o h = (h, (object-lt hints k, (rule-lt o, (changed-lt o, tt))))

-- in slots filled with the records of an order of work, the slot of a hint's turn holds its record
pub slot-of-turn : (image hints entries slots : List ℕ) → hint_count hints < 2 ^ 32 → (l : List ℕ) (k : ℕ) (m : List ℕ) → order_of hints ≡ l ++ (k ∷ m)
    → rule_record_at (filled (records_of image hints entries (order_of hints)) slots) (rule_record_size * length l)
    ≡ record_of hints k (answered (steps_of hints entries) k (run_list (written (steps_of hints entries)) l image))
slot-of-turn image hints entries slots few l k m e =
    let rs = records_of image hints entries (order_of hints) in
    let o = answered (steps_of hints entries) k (run_list (written (steps_of hints entries)) l image) in
    let r = record_of hints k o in
    let q : get_or rs (length l) r ≡ r = ap (λ (z : List ℕ). get_or (records_of image hints entries z) (length l) r) e ∙ at_turn hints entries l k m image r in
    let within : All (λ j. j < hint_count hints) (l ++ (k ∷ m)) =
    subst (λ (z : List ℕ). All (λ j. j < hint_count hints) z) e
    (once-inside (hint_count hints) (order_of hints) (own-once (object_at hints) (late_at hints) (hint_count hints))) in
    let below : k < 2 ^ 32 = omega (arith, middle l within) in
    let size : length l < length rs = omega (arith, one_each hints entries (order_of hints) image, ap length e, length-append l (k ∷ m)) in
    value-in-list rule_record rs (drop (rule_record_size * length rs) slots) (length l) r size
    (subst (λ (w : RuleRecord). Fits (rule_record_fields w)) (sym q) (fits hints k o below))
    ∙ q
  where
    middle : (z : List ℕ) → All (λ j. j < hint_count hints) (z ++ (k ∷ m)) → k < hint_count hints
    middle [] (more p a) = p
    middle (j ∷ z) (more p a) = middle z a

-- ---- the totals

-- a count of the tally that goes by the rules goes by the records
by-rule : (hints entries : List ℕ) (f : Tally → ℕ) (test : ℕ → Bool)
    → ((o : Option (Result Plan NoRewrite × Insns)) (t : Tally) → f (add_outcome o t) ≡ f t + choose (test (rule_of o)) 1 0) → (l image : List ℕ) (t : Tally)
    → f (add_all add_outcome (answers (written (steps_of hints entries)) (answered (steps_of hints entries)) l image) t)
    ≡ f t + count_rules test (records_of image hints entries l)
unfolding records_of
by-rule hints entries f test h [] image t = sym (add-zero (f t))
by-rule hints entries f test h (k ∷ l) image t =
    by-rule hints entries f test h l (written (steps_of hints entries) k image) (add_outcome o t)
    ∙ ap (λ (n : ℕ). n + count_rules test (records_of (written (steps_of hints entries) k image) hints entries l)) (h o t)
    ∙ add_assoc (f t) (choose (test (rule_of o)) 1 0) (count_rules test (records_of (written (steps_of hints entries) k image) hints entries l))
  where
    o : Option (Result Plan NoRewrite × Insns)
    o = answered (steps_of hints entries) k image

rewritten-rule : (o : Option (Result Plan NoRewrite × Insns)) (t : Tally) → (add_outcome o t).rewritten ≡ t.rewritten + choose (is_rewrite (rule_of o)) 1 0
unfolding choose
rewritten-rule None t = sym (add-zero t.rewritten)
rewritten-rule (Some (Err Declined, s)) t = sym (add-zero t.rewritten)
rewritten-rule (Some (Err Nine, s)) t = sym (add-zero t.rewritten)
rewritten-rule (Some (Ok p, s)) t =
    each-rewrite (λ n. t.rewritten + 1 ≡ t.rewritten + choose (is_rewrite n) 1 0) refl refl refl refl refl p.rewrite

skipped-rule : (o : Option (Result Plan NoRewrite × Insns)) (t : Tally) → (add_outcome o t).skipped ≡ t.skipped + choose (eqb (rule_of o) rule_skipped) 1 0
unfolding choose
skipped-rule None t = refl
skipped-rule (Some (Err Declined, s)) t = sym (add-zero t.skipped)
skipped-rule (Some (Err Nine, s)) t = sym (add-zero t.skipped)
skipped-rule (Some (Ok p, s)) t =
    let z = sym (add-zero t.skipped) in
    each-rewrite (λ n. t.skipped ≡ t.skipped + choose (eqb n rule_skipped) 1 0) z z z z z p.rewrite

declined-rule : (o : Option (Result Plan NoRewrite × Insns)) (t : Tally) → (add_outcome o t).declined ≡ t.declined + choose (eqb (rule_of o) rule_declined) 1 0
unfolding choose
declined-rule None t = sym (add-zero t.declined)
declined-rule (Some (Err Declined, s)) t = refl
declined-rule (Some (Err Nine, s)) t = sym (add-zero t.declined)
declined-rule (Some (Ok p, s)) t =
    let z = sym (add-zero t.declined) in
    each-rewrite (λ n. t.declined ≡ t.declined + choose (eqb n rule_declined) 1 0) z z z z z p.rewrite

turned-down-rule : (o : Option (Result Plan NoRewrite × Insns)) (t : Tally) → (add_outcome o t).turned_down ≡ t.turned_down + choose (eqb (rule_of o) rule_turned_down) 1 0
unfolding choose
turned-down-rule None t = sym (add-zero t.turned_down)
turned-down-rule (Some (Err Declined, s)) t = sym (add-zero t.turned_down)
turned-down-rule (Some (Err Nine, s)) t = refl
turned-down-rule (Some (Ok p, s)) t =
    let z = sym (add-zero t.turned_down) in
    each-rewrite (λ n. t.turned_down ≡ t.turned_down + choose (eqb n rule_turned_down) 1 0) z z z z z p.rewrite

-- the records' totals are the tally of the same hints
pub totals-are : (image hints entries l : List ℕ) → (worked image hints entries l).tally ≡ totals (records_of image hints entries l)
unfolding worked
totals-are image hints entries l =
    run-tally (written (steps_of hints entries)) (answered (steps_of hints entries)) add_outcome l (start image) ∙ λ i. record {
      rewritten = from-zeros (λ t. t.rewritten) is_rewrite refl rewritten-rule i;
      skipped = from-zeros (λ t. t.skipped) (λ n. eqb n rule_skipped) refl skipped-rule i;
      declined = from-zeros (λ t. t.declined) (λ n. eqb n rule_declined) refl declined-rule i;
      turned_down = from-zeros (λ t. t.turned_down) (λ n. eqb n rule_turned_down) refl turned-down-rule i;
    }
  where
    from-zeros : (f : Tally → ℕ) (test : ℕ → Bool) → f zeros ≡ 0
        → ((o : Option (Result Plan NoRewrite × Insns)) (t : Tally) → f (add_outcome o t) ≡ f t + choose (test (rule_of o)) 1 0)
        → f (add_all add_outcome (answers (written (steps_of hints entries)) (answered (steps_of hints entries)) l image) zeros)
        ≡ count_rules test (records_of image hints entries l)
    from-zeros f test z h =
        by-rule hints entries f test h l image zeros
        ∙ ap (λ (n : ℕ). n + count_rules test (records_of image hints entries l)) z
        ∙ zero-add (count_rules test (records_of image hints entries l))
