-- What a run says beside its promise: LLVM's kinds are worked; lists that are none are number 1; the run's number is the check's; a refusal leaves the image;
-- a run that is done is the list of its order of work, and its counts add up to the hints; a hint answered nine leaves its words and the run goes on;
-- ADRP_ADRP on one word twice blanks it. Carried by the choices of the definitions.
use Rattle.std.specs.Prelude.{Result, Ok, Err, Some, None, ⊤}
use mathlib.Core.Path.{◌≡◌, refl, sym, ap, ◌∙◌}
use mathlib.Core.Bool.{true, false, ◌&&◌, ◌||◌, not}
use mathlib.Core.List.{List, [], ◌∷◌, map}
use Rattle.std.specs.Prelude.{Option}
use Prim.Native.Nat.{ℕ, ◌+◌, ◌/◌}
use native.Mathlib.Omega.{arith}
use lib.Dec.{eqb}
use lib.ListN.{length}
use Rattle.util.specs.Choice.{choose}
use Rattle.util.specs.Word.{le, put}
use Rattle.util.proofs.Choice.{choose-false}
use Rattle.macho.specs.Types.{MCLOH_AdrpAdrp}
use Rattle.macho.specs.Hint.{hint_size, word_count, hint_count, hint_of}
use Rattle.macho.specs.Reloc.{reloc_size}
use Rattle.macho.specs.declared.hint.HintInsn.{HintInsn}
use Rattle.macho.specs.declared.hint.HintRecord.{HintRecord}
use Rattle.macho.specs.declared.refusal.Refusal.{Refusal}
use Rattle.macho.specs.declared.refusal.Refusal.TheVariants.{Lengths, Overflow}
use Rattle.macho.specs.Refusal.{first, number_of, answer_number}
use Rattle.arm64_hint_terms.specs.declared.answer.Plan.{Plan}
use Rattle.arm64_hint_terms.specs.declared.answer.NoRewrite.{NoRewrite}
use Rattle.arm64_hint_terms.specs.declared.answer.NoRewrite.TheVariants.{Declined, Nine}
use Rattle.image.specs.Words.{words_at, put_words}
use Rattle.image.specs.Steps.{Work, answered, written, step_of}
use Rattle.image.proofs.Words.{puts_none}
use Rattle.arm64_insn.specs.Adrp.{adrp_of}
use Rattle.arm64_insn.specs.Fix.{nop_word}
use Rattle.arm64_insn.specs.declared.adrp.Adrp.{Adrp}
use Rattle.arm64_hint_terms.specs.Rels.{rel_at, is_page_rel, both_pages}
use Rattle.arm64_hint_terms.specs.Plans.{dropped}
use Rattle.arm64_hint_laws.specs.Decide.{decide}
use Rattle.arm64_hint_terms.specs.Kinds.{words_of}
use Rattle.arm64_hint_laws.proofs.Hinted.{counts}
use Rattle.arm64_hint_laws.proofs.Twice.{drops}
use Rattle.arm64_hint_terms.specs.declared.answer.Insns.{Insns}
use Rattle.arm64_hint_order.specs.Lists.{run_list}
use Rattle.arm64_hint_order.specs.Cursor.{order_of}
use Rattle.arm64_hint_order.proofs.Walk.{order-length}
use Rattle.arm64_hint_places.specs.Hint.{is_skipped, insns_in, insns_of, rels_of}
use Rattle.arm64_hint_places.proofs.Places.{insns-two, rels-two}
use Rattle.arm64_hint_check.specs.Check.{is_list, check_lists, check_to, check_all}
use Rattle.arm64_hint_rules.specs.Rule.{hint_outcome, outcome_number, news_in, news_of}
use Rattle.arm64_hint_work.specs.Step.{places_of, add_decision, add_outcome, total, steps_of}
use Rattle.arm64_hint_work.specs.declared.tally.Tally.{Tally}
use Rattle.arm64_hint_work.proofs.Steps.{total-add}
use Rattle.arm64_hint_run.specs.Run.{start, worked, answer_by, image_by, run_of, image_of, run_number}

-- ---- LLVM's kinds

-- a hint is skipped exactly where there is no such kind, or its word count is not the number of that kind's words
pub skipped-kinds : (h : HintRecord) → is_skipped h ≡ (eqb (length (words_of h.kind)) 0 || not (eqb h.n (length (words_of h.kind))))
unfolding is_skipped
skipped-kinds h = rw (counts h.kind)

-- ---- refused, or done

module _ (image hints entries : List ℕ) where
  -- lists that are not whole records, or have more than 2^32 - 1, are number 1
  pub not-lists : (is_list (length hints) hint_size && is_list (length entries) reloc_size) ≡ false → run_of image hints entries ≡ Err Lengths
  unfolding run_of check_all check_lists
  not-lists e =
      ap (λ (c : Result ⊤ Refusal). answer_by (first c (check_to (length image) (length entries / reloc_size) hints (hint_count hints)))
      (worked image hints entries (order_of hints)).tally)
      (choose-false (is_list (length hints) hint_size && is_list (length entries) reloc_size) (Ok tt) (Err Lengths) e)

  -- the run's number is the check's
  pub number_is : run_number (run_of image hints entries) ≡ answer_number (check_all (length image) hints (length entries))
  unfolding run_of
  number_is = go (check_all (length image) hints (length entries))
    where
      go : (c : Result ⊤ Refusal) → run_number (answer_by c (worked image hints entries (order_of hints)).tally) ≡ answer_number c
      go (Ok tt) = refl
      go (Err x) = refl

  -- a refusal leaves the image
  pub refused-leaves : (x : Refusal) → run_of image hints entries ≡ Err x → image_of image hints entries ≡ image
  unfolding run_of image_of
  refused-leaves x = go (check_all (length image) hints (length entries)) (worked image hints entries (order_of hints))
    where
      go : (c : Result ⊤ Refusal) (w : Work Tally) → answer_by c w.tally ≡ Err x → image_by c image w.image ≡ image
      go (Err y) w e = refl
      go (Ok tt) w e = let z : ◌≡◌ {A = ℕ} 0 1 = cc in absurd (omega arith)

  module _ (t : Tally) (done : run_of image hints entries ≡ Ok t) where
    -- a run that is done found nothing to turn down
    pub done-fit : check_all (length image) hints (length entries) ≡ Ok tt
    unfolding run_of
    done-fit = go (check_all (length image) hints (length entries)) (worked image hints entries (order_of hints)) done
      where
        go : (c : Result ⊤ Refusal) (w : Work Tally) → answer_by c w.tally ≡ Ok t → c ≡ Ok tt
        go (Ok tt) w e = refl
        go (Err y) w e = let z : ◌≡◌ {A = ℕ} 0 1 = cc in absurd (omega arith)

    -- its image and counts are those of the list of its order of work
    pub run_is : worked image hints entries (order_of hints) ≡ record { image = image_of image hints entries; tally = t }
    unfolding run_of image_of
    run_is = go (check_all (length image) hints (length entries)) (worked image hints entries (order_of hints)) done
      where
        go : (c : Result ⊤ Refusal) (w : Work Tally) → answer_by c w.tally ≡ Ok t → w ≡ record { image = image_by c image w.image; tally = t }
        go (Ok tt) w e = let q : w.tally ≡ t = cc in λ i. record { image = w.image; tally = q i }
        go (Err y) w e = let z : ◌≡◌ {A = ℕ} 0 1 = cc in absurd (omega arith)

  -- a list counts each of its steps once
  pub total-list : (l : List ℕ) (w : Work Tally) → total (run_list (step_of (steps_of hints entries)) l w).tally ≡ total w.tally + length l
  total-list [] w = omega arith
  total-list (k ∷ l) w =
      omega (arith, total-list l (step_of (steps_of hints entries) k w), total-add (answered (steps_of hints entries) k w.image) w.tally)

  -- the four counts add up to the hints
  pub counts-sum : (t : Tally) → run_of image hints entries ≡ Ok t → total t ≡ hint_count hints
  unfolding worked
  counts-sum t e =
      omega (arith, ap (λ (w : Work Tally). total w.tally) (run_is t e), total-list (order_of hints) (start image), order-length hints)

-- ---- hints that leave their words

-- a hint that has no new words leaves the image, and is counted
pub no-news-leaves : (hints entries : List ℕ) (k : ℕ) (w : Work Tally) (t : Tally) → news_of (answered (steps_of hints entries) k w.image) ≡ []
    → add_outcome (answered (steps_of hints entries) k w.image) w.tally ≡ t
    → step_of (steps_of hints entries) k w ≡ record { image = w.image; tally = t }
no-news-leaves hints entries k w t leaves q =
    let p : written (steps_of hints entries) k w.image ≡ w.image =
    ap (λ (l : List (Option ℕ)). put_words (places_of (hint_of hints k)) l w.image) leaves ∙ sym (puts_none (places_of (hint_of hints k)) w.image) in
    λ i. record { image = p i; tally = q i }

-- ---- a hint answered nine

-- writes no word, and is counted as turned down
is-nine : (o : Option (Result Plan NoRewrite × Insns)) → outcome_number o ≡ number_of Overflow → (news_of o ≡ []) × ((t : Tally) → add_outcome o t ≡ add_decision (Err Nine) t)
is-nine None e = absurd (omega arith)
is-nine (Some (Err Declined, s)) e = absurd (omega arith)
is-nine (Some (Err Nine, s)) e = (refl, λ t. refl)
is-nine (Some (Ok p, s)) e = absurd (omega arith)

module _ (hints entries : List ℕ) (k : ℕ) (w : Work Tally) (nine : outcome_number (answered (steps_of hints entries) k w.image) ≡ number_of Overflow) where
  -- leaves the image, and is counted
  pub nine-leaves : step_of (steps_of hints entries) k w ≡ record { image = w.image; tally = add_decision (Err Nine) w.tally }
  nine-leaves =
      let o = is-nine (answered (steps_of hints entries) k w.image) nine in
      no-news-leaves hints entries k w (add_decision (Err Nine) w.tally) o.0 (o.1 w.tally)

  -- and the hints after it are worked on that
  pub nine-goes-on : (l : List ℕ) → run_list (step_of (steps_of hints entries)) (k ∷ l) w
      ≡ run_list (step_of (steps_of hints entries)) l (record { image = w.image; tally = add_decision (Err Nine) w.tally })
  nine-goes-on l = ap (run_list (step_of (steps_of hints entries)) l) nine-leaves

-- ---- ADRP_ADRP on one word twice

-- such a hint, with an ADRP at its one word
module _ (h : HintRecord) (entries image : List ℕ) (kind : h.kind ≡ MCLOH_AdrpAdrp) (n : h.n ≡ 2) (off : h.insn1.off ≡ h.insn0.off)
    (addr : h.insn1.addr ≡ h.insn0.addr) (page₀ : is_page_rel (rel_at entries h.insn0.rel) false ≡ true)
    (page₁ : is_page_rel (rel_at entries h.insn1.rel) false ≡ true) (a : Adrp) (word : adrp_of (le 4 image (h.start + h.insn0.off)) ≡ Some a) where
  works : is_skipped h ≡ false
  unfolding is_skipped word_count choose
  works = rw (kind, n)

  not_three : h.n ≡ 3 → ⊥
  not_three q = omega arith

  two : insns_in h ≡ h.insn0 ∷ h.insn1 ∷ []
  two = insns-two h works not_three

  abbrev insns : Insns
  insns = insns_of h (words_at (places_of h) image)

  insns-are : insns ≡ record {
    w0 = le 4 image (h.start + h.insn0.off);
    w1 = le 4 image (h.start + h.insn1.off);
    w2 = 0;
    p0 = h.insn0.addr;
    p1 = h.insn1.addr;
    p2 = 0;
  }
  unfolding insns_of
  insns-are = rw two

  pages : both_pages (rels_of entries h) ≡ true
  unfolding both_pages
  pages = rw (rels-two h works entries not_three, page₀, page₁)

  decided : decide h.kind insns (rels_of entries h) ≡ dropped
  decided =
      ap (λ (k : ℕ). decide k insns (rels_of entries h)) kind
      ∙ drops insns (rels_of entries h) a pages
      (ap (λ (s : Insns). adrp_of s.w0) insns-are ∙ word)
      (ap (λ (s : Insns). adrp_of s.w1) insns-are ∙ ap (λ (o : ℕ). adrp_of (le 4 image (h.start + o))) off ∙ word)
      (ap (λ (s : Insns). s.p1) insns-are ∙ addr ∙ sym (ap (λ (s : Insns). s.p0) insns-are))

  pub twice-answer : hint_outcome entries h (words_at (places_of h) image) ≡ Some (dropped, insns)
  unfolding hint_outcome
  twice-answer = choose-false (is_skipped h) None _ works ∙ ap (λ (d : Result Plan NoRewrite). Some (d, insns)) decided

  pub twice-image : put_words (places_of h) (news_of (hint_outcome entries h (words_at (places_of h) image))) image
      ≡ put 4 image (h.start + h.insn0.off) nop_word
  twice-image =
      ap (λ (o : Option (Result Plan NoRewrite × Insns)). put_words (places_of h) (news_of o) image) twice-answer
      ∙ ap (λ (l : List HintInsn). put_words (map (λ at. h.start + at) (map (λ i. i.off) l)) (news_in dropped) image) two
      ∙ ap (λ (o : ℕ). put 4 image (h.start + o) nop_word) off

-- the word becomes NOP, and the hint counts as rewritten
pub one-word-twice : (hints entries image : List ℕ) (k : ℕ) (t : Tally) → (hint_of hints k).kind ≡ MCLOH_AdrpAdrp → (hint_of hints k).n ≡ 2
    → (hint_of hints k).insn1.off ≡ (hint_of hints k).insn0.off → (hint_of hints k).insn1.addr ≡ (hint_of hints k).insn0.addr
    → is_page_rel (rel_at entries (hint_of hints k).insn0.rel) false ≡ true → is_page_rel (rel_at entries (hint_of hints k).insn1.rel) false ≡ true
    → (a : Adrp) → adrp_of (le 4 image ((hint_of hints k).start + (hint_of hints k).insn0.off)) ≡ Some a
    → step_of (steps_of hints entries) k (record { image = image; tally = t }) ≡ record {
      image = put 4 image ((hint_of hints k).start + (hint_of hints k).insn0.off) nop_word;
      tally = record { rewritten = t.rewritten + 1; skipped = t.skipped; declined = t.declined; turned_down = t.turned_down };
    }
one-word-twice hints entries image k t kind n off addr page₀ page₁ a word =
    let p = twice-image (hint_of hints k) entries image kind n off addr page₀ page₁ a word in
    let q = ap (λ (o : Option (Result Plan NoRewrite × Insns)). add_outcome o t) (twice-answer (hint_of hints k) entries image kind n off addr page₀ page₁ a word) in
    λ i. record { image = p i; tally = q i }
