-- One hint's step keeps what its words do. Carried by the law of the decisions, and by words read back at places that share no byte.
use Rattle.std.specs.Prelude.{Result, Ok, Err}
use mathlib.Core.Path.{◌≡◌, refl, sym, ap, ◌∙◌, subst, subst₂}
use mathlib.Core.Bool.{false}
use mathlib.Core.List.{List, [], ◌∷◌, map}
use Prim.Native.Nat.{ℕ, ◌+◌, ◌^◌, ◌≤◌, ◌<◌}
use lib.Dec.{lit<}
use lib.ListN.{length}
use Rattle.util.specs.Word.{le}
use Rattle.util.specs.All.{All}
use Rattle.util.proofs.Choice.{choose-false}
use Rattle.util.proofs.Word.{le-lt}
use Rattle.util.proofs.Cases.{same_or}
use Rattle.macho.specs.Hint.{insn_at, hint_at, word_count, hint_of}
use Rattle.macho.specs.declared.hint.HintInsn.{HintInsn}
use Rattle.macho.specs.declared.hint.HintRecord.{HintRecord}
use Rattle.image.specs.Words.{words_at, put_words}
use Rattle.image.proofs.Words.{puts_none}
use Rattle.arm64_hint_laws.specs.Decide.{decide}
use Rattle.arm64_hint_terms.specs.declared.answer.Plan.{Plan}
use Rattle.arm64_hint_terms.specs.declared.answer.NoRewrite.{NoRewrite}
use Rattle.arm64_hint_terms.specs.declared.answer.NoRewrite.TheVariants.{Declined, Nine}
use Rattle.arm64_hint_laws.proofs.Written.{AllFit, all_fit}
use Rattle.arm64_machine.specs.Machine.{Placed, placed}
use Rattle.arm64_machine.specs.SameRun.{CloseRun}
use Rattle.arm64_machine.specs.Premises.{FairWords}
use Rattle.arm64_hint_places.specs.Hint.{is_skipped, insns_in, addrs_of, insns_of, rels_of}
use Rattle.arm64_hint_places.proofs.Places.{count-is, count-two, insns-three, insns-two}
use Rattle.arm64_hint_rules.specs.Rule.{ruled, hint_outcome, news_in, news_of}
use Rattle.arm64_hint_work.specs.Step.{places_of}
use Rattle.arm64_hint_kept.specs.HintsKept.{codes, Disjoint, Fair, Close}
use Rattle.arm64_hint_kept.specs.Decided.{placed_of, after}
use Rattle.arm64_hint_kept.proofs.Decisions.{Addressed, decided}
use Rattle.arm64_hint_kept.proofs.Image.{words_after, reads-back}

-- ---- a hint's words as a list of words and one of addresses

abbrev paired : List ℕ → List ℕ → List Placed
paired [] ps = []
paired (w ∷ ws) [] = []
paired (w ∷ ws) (p ∷ ps) = placed w p ∷ paired ws ps

pub codes-paired : (h : HintRecord) (x : List ℕ) → codes h x ≡ paired (words_at (places_of h) x) (addrs_of h)
codes-paired h x = go (insns_in h)
  where
    go : (l : List HintInsn)
        → map (λ i. placed (le 4 x (h.start + i.off)) i.addr) l
        ≡ paired (words_at (map (λ at. h.start + at) (map (λ i. i.off) l)) x) (map (λ i. i.addr) l)
    go [] = refl
    go (i ∷ l) = ap (λ (ws : List Placed). placed (le 4 x (h.start + i.off)) i.addr ∷ ws) (go l)

-- images with the same words at a hint's places
pub codes_same : (h : HintRecord) (x y : List ℕ) → words_at (places_of h) x ≡ words_at (places_of h) y → codes h x ≡ codes h y
codes_same h x y e = codes-paired h x ∙ ap (λ (ws : List ℕ). paired ws (addrs_of h)) e ∙ sym (codes-paired h y)

module _ (h : HintRecord) (e : is_skipped h ≡ false) where
  -- ---- the words that the decision was asked of, and those that it leaves

  old-codes : (x : List ℕ) → placed_of (word_count h.kind) (insns_of h (words_at (places_of h) x)) ≡ codes h x
  unfolding insns_of
  old-codes x =
      same_or h.n 3
      (λ n. rw (count-is h e ∙ n, insns-three h e n))
      (λ n. rw (count-two h e n, insns-two h e n))

  rewritten-codes : (p : Plan) (x : List ℕ)
      → placed_of (word_count h.kind) (after (Ok p) (insns_of h (words_at (places_of h) x)))
      ≡ paired (words_after (p.w0 ∷ p.w1 ∷ p.w2 ∷ []) (words_at (places_of h) x)) (addrs_of h)
  unfolding insns_of
  rewritten-codes p x =
      same_or h.n 3
      (λ n. rw (count-is h e ∙ n, insns-three h e n))
      (λ n. rw (count-two h e n, insns-two h e n))

  new-codes : (d : Result Plan NoRewrite) (x : List ℕ) → Disjoint (places_of h) → All (λ at. at + 4 ≤ length x) (places_of h) → AllFit d
      → placed_of (word_count h.kind) (after d (insns_of h (words_at (places_of h) x))) ≡ codes h (put_words (places_of h) (news_in d) x)
  new-codes (Err Declined) x apart inside f = old-codes x ∙ ap (codes h) (puts_none (places_of h) x)
  new-codes (Err Nine) x apart inside f = old-codes x ∙ ap (codes h) (puts_none (places_of h) x)
  new-codes (Ok p) x apart inside f =
      rewritten-codes p x
      ∙ ap (λ (ws : List ℕ). paired ws (addrs_of h))
      (sym (reads-back (places_of h) (p.w0 ∷ p.w1 ∷ p.w2 ∷ []) x apart inside (f.0, (f.1, (f.2, tt)))))
      ∙ sym (codes-paired h (put_words (places_of h) (news_in (Ok p)) x))

  outcome-is : (entries words : List ℕ) → hint_outcome entries h words ≡ ruled h.kind h (rels_of entries h) words
  unfolding hint_outcome
  outcome-is entries words = choose-false (is_skipped h) _ _ e

-- ---- addresses have 64 bits

pub record Addresses (h : HintRecord) : Type 0 where
  pub first : h.insn0.addr < 2 ^ 64
  pub second : h.insn1.addr < 2 ^ 64
  pub third : h.insn2.addr < 2 ^ 64

pub addresses : (hints : List ℕ) (k : ℕ) → Addresses (hint_of hints k)
unfolding hint_at insn_at
addresses hints k = record { first = le-lt 8 hints _; second = le-lt 8 hints _; third = le-lt 8 hints _ }

addressed : (h : HintRecord) → is_skipped h ≡ false → Addresses h → (words : List ℕ) → Addressed (insns_of h words)
unfolding insns_of
addressed h e low words =
    same_or h.n 3
    (λ n. rw (insns-three h e n) (record { first = low.first; second = low.second; third = low.third }))
    (λ n. rw (insns-two h e n) (record { first = low.first; second = low.second; third = lit< tt }))

-- THE LAW of a hint's step
pub step_same : (entries : List ℕ) (h : HintRecord) → is_skipped h ≡ false → Addresses h → (x : List ℕ) → All (λ at. at + 4 ≤ length x) (places_of h)
    → Fair h x → Close h x (put_words (places_of h) (news_of (hint_outcome entries h (words_at (places_of h) x))) x)
step_same entries h e low x inside fair =
    let words = words_at (places_of h) x in
    let s = insns_of h words in
    let d = decide h.kind s (rels_of entries h) in
    let old = old-codes h e x in
    let new = new-codes h e d x fair.disjoint inside (all_fit h.kind s (rels_of entries h)) in
    rw (outcome-is h e entries words)
    (subst₂ CloseRun old new (decided h.kind s (rels_of entries h) (addressed h e low words) (subst FairWords (sym old) fair.words)))
