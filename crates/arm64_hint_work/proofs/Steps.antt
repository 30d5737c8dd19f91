-- The step of one hint, and what it adds to the tally. Carried by the laws of a hint's places and part.
use Rattle.std.specs.Prelude.{Result, Ok, Err, Option, Some, None}
use mathlib.Core.Path.{◌≡◌, refl, sym, ap, ◌∙◌, subst}
use mathlib.Core.Bool.{true}
use mathlib.Core.List.{List, map}
use Prim.Native.Nat.{ℕ, ◌+◌, ◌≤◌}
use native.Mathlib.Omega.{arith}
use lib.Dec.{eqb}
use lib.ListN.{length}
use Rattle.util.specs.Choice.{choose}
use Rattle.util.specs.Part.{part, splice}
use Rattle.util.proofs.Choice.{choose-true, choose-false}
use Rattle.util.proofs.Part.{length_part}
use Rattle.macho.specs.declared.hint.HintRecord.{HintRecord}
use Rattle.macho.specs.Hint.{hint_of}
use Rattle.macho.specs.Refusal.{number_of}
use Rattle.macho.specs.declared.refusal.Refusal.TheVariants.{Overflow}
use Rattle.image.specs.Words.{words_at, put_words}
use Rattle.image.specs.Steps.{answered, written}
use Rattle.arm64_hint_terms.specs.declared.answer.Plan.{Plan}
use Rattle.arm64_hint_terms.specs.declared.answer.NoRewrite.{NoRewrite}
use Rattle.arm64_hint_terms.specs.declared.answer.Insns.{Insns}
use Rattle.arm64_hint_terms.specs.declared.answer.NoRewrite.TheVariants.{Declined, Nine}
use Rattle.arm64_hint_terms.specs.declared.rels.Rels.{Rels}
use Rattle.arm64_hint_places.specs.Hint.{is_skipped, rels_of, Inside}
use Rattle.arm64_hint_places.proofs.Places.{insns-none}
use Rattle.arm64_hint_rules.specs.Rule.{hint_outcome, outcome_number, news_of, ruled, ruled_in, section_after}
use Rattle.arm64_hint_work.specs.Step.{places_of, add_outcome, total, steps_of}
use Rattle.arm64_hint_work.specs.declared.tally.Tally.{Tally}
use Rattle.arm64_hint_work.proofs.Sections.{words-part, puts-part}

-- ---- one hint

-- a hint's answer on an image, and the image that it makes
abbrev answer_of : List ℕ → HintRecord → List ℕ → Option (Result Plan NoRewrite × Insns)
answer_of entries h image = hint_outcome entries h (words_at (places_of h) image)

abbrev image_after : List ℕ → HintRecord → List ℕ → List ℕ
image_after entries h image = put_words (places_of h) (news_of (answer_of entries h image)) image

-- the rule of the hint's own kind
pub by_kind : (h : HintRecord) (r : Rels) (xs : List ℕ) {kind : ℕ} {zs : List ℕ} {o : Option (Result Plan NoRewrite × Insns)} → h.kind ≡ kind
    → (o ≡ ruled_in kind h r xs) × (zs ≡ section_after kind h r xs)
    → (o ≡ ruled_in h.kind h r xs) × (zs ≡ section_after h.kind h r xs)
by_kind h r xs {zs = zs} {o = o} e t =
    subst (λ (k : ℕ). (o ≡ ruled_in k h r xs) × (zs ≡ section_after k h r xs)) (sym e) t

-- a part of what is known to be inside the image
pub inside-part : (image : List ℕ) (h : HintRecord) (j : ℕ) → j ≡ h.len → h.start + h.len ≤ length image → Inside h h.len
    → Inside h (length (part image h.start j))
inside-part image h j e fits i =
    subst (λ (l : ℕ). Inside h l) (sym (length_part image h.start j (omega arith) ∙ e)) i

module _ (hints entries image : List ℕ) (k : ℕ) (h : HintRecord) (told : h ≡ hint_of hints k) where
  pub skipped-step : is_skipped h ≡ true → (None ≡ answered (steps_of hints entries) k image) × (image ≡ written (steps_of hints entries) k image)
  unfolding hint_outcome
  skipped-step e =
      subst (λ (g : HintRecord). (None ≡ answer_of entries g image) × (image ≡ image_after entries g image)) told (
        sym (choose-true (is_skipped h) None _ e),
        sym (ap (λ l. put_words (map (λ at. h.start + at) (map (λ i. i.off) l)) (news_of (answer_of entries h image)) image) (insns-none h e)),
      )

  module _ (r : Rels) (named : r ≡ rels_of entries h) (j : ℕ) (fits : h.start + j ≤ length image) (inside : Inside h j) where
    -- the rule's answer in the part is the hint's in the image
    same_answer : ruled_in h.kind h r (part image h.start j) ≡ answer_of entries h image
    unfolding hint_outcome
    same_answer =
        ap (λ (x : Rels). ruled_in h.kind h x (part image h.start j)) named
        ∙ ap (ruled h.kind h (rels_of entries h)) (words-part image h.start j inside.words)
        ∙ sym (choose-false (is_skipped h) None _ inside.worked)

    pub worked-step : {o : Option (Result Plan NoRewrite × Insns)} {zs : List ℕ} → o ≡ ruled_in h.kind h r (part image h.start j)
        → zs ≡ section_after h.kind h r (part image h.start j)
        → (o ≡ answered (steps_of hints entries) k image) × (splice image h.start j zs ≡ written (steps_of hints entries) k image)
    worked-step {o} {zs} answers stores =
        subst (λ (g : HintRecord). (o ≡ answer_of entries g image) × (splice image h.start j zs ≡ image_after entries g image)) told (
          answers ∙ same_answer,
          ap (splice image h.start j) stores
              ∙ puts-part image h.start j fits inside.words (news_of (ruled_in h.kind h r (part image h.start j)))
              ∙ ap (λ (x : Option (Result Plan NoRewrite × Insns)). put_words (places_of h) (news_of x) image) same_answer,
        )

-- ---- the tally

-- an outcome is one hint more
pub total-add : (o : Option (Result Plan NoRewrite × Insns)) (t : Tally) → total (add_outcome o t) ≡ total t + 1
total-add None t = omega arith
total-add (Some (Err Declined, s)) t = omega arith
total-add (Some (Err Nine, s)) t = omega arith
total-add (Some (Ok p, s)) t = omega arith

-- those of number 9 are turned down, and only they
pub turned_down : (o : Option (Result Plan NoRewrite × Insns)) (t : Tally)
    → (add_outcome o t).turned_down ≡ choose (eqb (outcome_number o) (number_of Overflow)) (t.turned_down + 1) t.turned_down
unfolding choose
turned_down None t = refl
turned_down (Some (Err Declined, s)) t = refl
turned_down (Some (Err Nine, s)) t = refl
turned_down (Some (Ok p, s)) t = refl

-- the order of two outcomes does not count
pub add-swap : (a b : Option (Result Plan NoRewrite × Insns)) (t : Tally) → add_outcome a (add_outcome b t) ≡ add_outcome b (add_outcome a t)
add-swap None None t = refl
add-swap None (Some (Err Declined, s)) t = refl
add-swap None (Some (Err Nine, s)) t = refl
add-swap None (Some (Ok p, s)) t = refl
add-swap (Some (Err Declined, s)) None t = refl
add-swap (Some (Err Declined, s)) (Some (Err Declined, r)) t = refl
add-swap (Some (Err Declined, s)) (Some (Err Nine, r)) t = refl
add-swap (Some (Err Declined, s)) (Some (Ok p, r)) t = refl
add-swap (Some (Err Nine, s)) None t = refl
add-swap (Some (Err Nine, s)) (Some (Err Declined, r)) t = refl
add-swap (Some (Err Nine, s)) (Some (Err Nine, r)) t = refl
add-swap (Some (Err Nine, s)) (Some (Ok p, r)) t = refl
add-swap (Some (Ok q, s)) None t = refl
add-swap (Some (Ok q, s)) (Some (Err Declined, r)) t = refl
add-swap (Some (Ok q, s)) (Some (Err Nine, r)) t = refl
add-swap (Some (Ok q, s)) (Some (Ok p, r)) t = refl
