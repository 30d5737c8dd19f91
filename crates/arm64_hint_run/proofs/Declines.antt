-- Hints that decline by the words that stand at their places at their turn: unallocated ones (RULES 8.34), and such as number 31 links (RULES 8.35). Carried
-- by the laws of every decision.
use Rattle.std.specs.Prelude.{Result, Ok, Err, Option, Some, None}
use mathlib.Core.Path.{◌≡◌, refl, sym, ap, ◌∙◌}
use mathlib.Core.Bool.{Bool, true, false, false≢true}
use mathlib.Core.List.{List, []}
use Prim.Native.Nat.{ℕ}
use native.Mathlib.Omega.{arith}
use Rattle.util.proofs.Choice.{choose-false}
use Rattle.util.proofs.Cases.{same_or}
use Rattle.macho.specs.Hint.{hint_of}
use Rattle.macho.specs.declared.hint.HintRecord.{HintRecord}
use Rattle.image.specs.Words.{words_at}
use Rattle.image.specs.Steps.{Work, step_of}
use Rattle.arm64_insn.specs.Links.{meets31}
use Rattle.arm64_insn.specs.Manual.{any_unallocated}
use Rattle.arm64_hint_terms.specs.Kinds.{held_words}
use Rattle.arm64_hint_terms.specs.declared.answer.Insns.{Insns}
use Rattle.arm64_hint_terms.specs.declared.answer.Plan.{Plan}
use Rattle.arm64_hint_terms.specs.declared.answer.NoRewrite.{NoRewrite}
use Rattle.arm64_hint_terms.specs.declared.answer.NoRewrite.TheVariants.{Declined}
use Rattle.arm64_hint_terms.specs.declared.rels.Rels.{Rels}
use Rattle.arm64_hint_laws.specs.Decide.{decide}
use Rattle.arm64_hint_laws.proofs.Number31.{meets-declines}
use Rattle.arm64_hint_laws.proofs.Unallocated.{unallocated-declines}
use Rattle.arm64_hint_places.specs.Hint.{is_skipped, insns_of, rels_of}
use Rattle.arm64_hint_places.proofs.Places.{insns-none, count-is, count-two, insns-three, insns-two}
use Rattle.arm64_hint_rules.specs.Rule.{hint_outcome, news_of}
use Rattle.arm64_hint_work.specs.Step.{places_of, add_decision, add_outcome, steps_of}
use Rattle.arm64_hint_work.specs.declared.tally.Tally.{Tally}
use Rattle.arm64_hint_run.proofs.Answers.{no-news-leaves}

module _ (h : HintRecord) (x : List ℕ) where
  -- the words that a decision is asked of are those that stand at the hint's places
  pub words-read : is_skipped h ≡ false → held_words h.kind (insns_of h (words_at (places_of h) x)) ≡ words_at (places_of h) x
  unfolding insns_of
  words-read e =
      same_or h.n 3
      (λ n. rw (count-is h e ∙ n, insns-three h e n))
      (λ n. rw (count-two h e n, insns-two h e n))

  -- a test of words at which the hint's kind declines
  module _ (test : List ℕ → Bool) (none : test [] ≡ false)
      (declines : (s : Insns) (r : Rels) → test (held_words h.kind s) ≡ true → decide h.kind s r ≡ Err Declined) where
    -- a hint whose words pass it is not skipped: the words of one that is are not looked at
    not-skipped : test (words_at (places_of h) x) ≡ true → (t : Bool) → is_skipped h ≡ t → t ≡ false
    not-skipped u false e = refl
    not-skipped u true e = absurd (false≢true (sym none ∙ rw (insns-none h e) at u))

    by-words : (entries : List ℕ) → test (words_at (places_of h) x) ≡ true
        → hint_outcome entries h (words_at (places_of h) x) ≡ Some (Err Declined, insns_of h (words_at (places_of h) x))
    unfolding hint_outcome
    by-words entries u =
        let s = insns_of h (words_at (places_of h) x) in
        let e = not-skipped u (is_skipped h) refl in
        choose-false (is_skipped h) _ _ e ∙ ap (λ d. Some (d, s)) (declines s (rels_of entries h) (ap test (words-read e) ∙ u))

  pub unallocated-declined : (entries : List ℕ) → any_unallocated (words_at (places_of h) x) ≡ true
      → hint_outcome entries h (words_at (places_of h) x) ≡ Some (Err Declined, insns_of h (words_at (places_of h) x))
  unallocated-declined = by-words any_unallocated refl (unallocated-declines h.kind)

  pub declined-31 : (entries : List ℕ) → meets31 (words_at (places_of h) x) ≡ true
      → hint_outcome entries h (words_at (places_of h) x) ≡ Some (Err Declined, insns_of h (words_at (places_of h) x))
  declined-31 = by-words meets31 refl (meets-declines h.kind)

-- a hint that declines leaves the image, and is counted
module _ (hints entries : List ℕ) (k : ℕ) (w : Work Tally) where
  leaves : {s : Insns} → hint_outcome entries (hint_of hints k) (words_at (places_of (hint_of hints k)) w.image) ≡ Some (Err Declined, s)
      → step_of (steps_of hints entries) k w ≡ record { image = w.image; tally = add_decision (Err Declined) w.tally }
  leaves o =
      no-news-leaves hints entries k w (add_decision (Err Declined) w.tally) (ap news_of o) (ap (λ (o : Option (Result Plan NoRewrite × Insns)). add_outcome o w.tally) o)

  pub unallocated-leaves : any_unallocated (words_at (places_of (hint_of hints k)) w.image) ≡ true
      → step_of (steps_of hints entries) k w ≡ record { image = w.image; tally = add_decision (Err Declined) w.tally }
  unallocated-leaves u = leaves (unallocated-declined (hint_of hints k) w.image entries u)

  pub leaves-31 : meets31 (words_at (places_of (hint_of hints k)) w.image) ≡ true
      → step_of (steps_of hints entries) k w ≡ record { image = w.image; tally = add_decision (Err Declined) w.tally }
  leaves-31 u = leaves (declined-31 (hint_of hints k) w.image entries u)

-- ---- a hint that declines is not rewritten

-- 1 for a rewrite
abbrev rewrites : Option (Result Plan NoRewrite × Insns) → ℕ
rewrites None = 0
rewrites (Some (Err x, s)) = 0
rewrites (Some (Ok p, s)) = 1

pub not-both : {o : Option (Result Plan NoRewrite × Insns)} {p : Plan} {s t : Insns} → o ≡ Some (Ok p, s) → o ≡ Some (Err Declined, t) → ⊥
not-both e d = let z : ◌≡◌ {A = ℕ} 1 0 = ap rewrites (sym e ∙ d) in omega arith
