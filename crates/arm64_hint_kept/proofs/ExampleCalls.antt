-- Calls for parts of an image (RULES 9.31, 9.32): three hints in two calls. Each fact is computed, by position.
use Rattle.std.specs.Prelude.{Ok}
use mathlib.Core.Path.{◌≡◌, refl, sym, ap, subst, ◌∙◌}
use mathlib.Core.Logic.{inl, inr}
use mathlib.Core.Bool.{true}
use mathlib.Core.List.{[], ◌∷◌}
use Prim.Native.Nat.{ℕ, zero, suc, ◌+◌, ◌≤◌, ◌<◌}
use native.Mathlib.Omega.{arith}
use lib.Dec.{lit<, lit≤}
use lib.ListN.{length}
use Rattle.util.specs.All.{empty, more}
use Rattle.util.proofs.Cases.{same_or}
use Rattle.macho.specs.Hint.{hint_count, hint_of}
use Rattle.image.specs.Words.{span, in_words}
use Rattle.image.specs.Local.{Apart}
use Rattle.image.proofs.Words.{spans_apart, words_inside}
use Rattle.arm64_hint_run.specs.Run.{run_of}
use Rattle.arm64_hint_kept.specs.HintsKept.{word_bytes}
use Rattle.arm64_hint_kept.specs.PartCalls.{SameHint, part_of, PartCall, PartCalls}
use Rattle.arm64_hint_kept.specs.Examples.{lent, pair}
use Rattle.arm64_hint_kept.specs.ExampleRuns.{beside_first, beside_last, beside, beside_calls, beside_counts, beside_words}
use Rattle.arm64_hint_kept.proofs.Computing.{runs}

-- two words of the first 16 bytes are none of the 12 from 16 on
two-apart : (p q : ℕ) → p + 4 < 17 → q + 4 < 17 → (b : ℕ) → span 16 12 b ≡ true → in_words (p ∷ q ∷ []) b ≡ true → ⊥
two-apart p q h g b s w =
    spans_apart 16 12 0 16 (inr (lit≤ tt)) b s
    (words_inside 0 16 (more {k = p} (omega arith, omega arith) (more {k = q} (omega arith, omega arith) empty)) b w)

-- the first two hints are of object 1, and in their call of object 0
first-object : (j : ℕ) → j < 2 → ((hint_of (lent beside) j).object ≡ 1) × ((hint_of (lent (beside_first 0)) j).object ≡ 0)
unfolding runs
first-object j l =
    let is : (i : ℕ) → Type 0 = λ i. ((hint_of (lent beside) i).object ≡ 1) × ((hint_of (lent (beside_first 0)) i).object ≡ 0) in
    same_or 0 j (λ e. subst (λ (i : ℕ). is i) e (refl, refl))
    (λ ne. let e : 1 ≡ j = omega arith in subst (λ (i : ℕ). is i) e (refl, refl))

first-call : PartCall (lent beside) pair (beside_calls 0)
unfolding runs
first-call = record {
  inside = λ j h. let l : j < 2 = h in let g : j < 3 = omega arith in g;
  rises = λ i j l h. l;
  same = λ j h.
      let l : j < 2 = h in
      let is : (i : ℕ) → Type 0 = λ i. SameHint 0 pair (hint_of (lent beside) i) pair (hint_of (lent (beside_first 0)) i) in
      same_or 0 j
      (λ e. subst (λ (i : ℕ). is i) e (record { kind = refl; n = refl; start = refl; offsets = refl; addresses = refl; names = refl }))
      (λ ne. let e : 1 ≡ j = omega arith in
      subst (λ (i : ℕ). is i) e (record { kind = refl; n = refl; start = refl; offsets = refl; addresses = refl; names = refl }));
  objects-rise = λ i j hi hj l. absurd (omega (arith, (first-object i hi).0, (first-object j hj).0, l));
  objects-same = λ i j hi hj e. (first-object i hi).1 ∙ sym (first-object j hj).1;
  others = λ k h away.
      let l : k < 3 = h in
      same_or 0 k (λ e. absurd (away 0 (lit< tt) e))
      (λ ne. same_or 1 k (λ e. absurd (away 1 (lit< tt) e))
      (λ neither.
      let e : 2 ≡ k = omega arith in
      subst (λ (i : ℕ). Apart (span 0 16) (word_bytes (hint_of (lent beside) i))) e
      (λ b s w. spans_apart 0 16 16 12 (inl (lit≤ tt)) b s
      (words_inside 16 12 (more {k = 16} (lit≤ tt, lit≤ tt) (more {k = 20} (lit≤ tt, lit≤ tt) (more {k = 24} (lit≤ tt, lit≤ tt) empty))) b w))));
}

last-call : (c : ℕ) → PartCall (lent beside) pair (beside_calls (suc c))
unfolding runs
last-call c = record {
  inside = λ j h. let l : j < 1 = h in let g : j + 2 < 3 = omega arith in g;
  rises = λ i j l h. omega arith;
  same = λ j h.
      let l : j < 1 = h in
      let e : 0 ≡ j = omega arith in
      subst (λ (i : ℕ). SameHint 16 pair (hint_of (lent beside) (i + 2)) pair (hint_of (lent (beside_last 0)) i)) e
      (record { kind = refl; n = refl; start = refl; offsets = refl; addresses = refl; names = refl });
  objects-rise = λ i j hi hj l.
      let a : i < 1 = hi in
      let b : j < 1 = hj in
      let e : i ≡ j = omega arith in
      absurd (omega (arith, ap (λ (k : ℕ). (hint_of (lent beside) (k + 2)).object) e, l));
  objects-same = λ i j hi hj q.
      let a : i < 1 = hi in
      let b : j < 1 = hj in
      let e : i ≡ j = omega arith in
      ap (λ (k : ℕ). (hint_of (lent (beside_last 0)) k).object) e;
  others = λ k h away.
      let l : k < 3 = h in
      same_or k 2 (λ e. absurd (away 0 (lit< tt) (sym e)))
      (λ ne. same_or 0 k
      (λ e. subst (λ (i : ℕ). Apart (span 16 12) (word_bytes (hint_of (lent beside) i))) e (two-apart 0 4 (lit< tt) (lit< tt)))
      (λ neither. let e : 1 ≡ k = omega arith in
      subst (λ (i : ℕ). Apart (span 16 12) (word_bytes (hint_of (lent beside) i))) e (two-apart 8 12 (lit< tt) (lit< tt))));
}

pub called : PartCalls beside_words (lent beside) pair 2 beside_calls beside_counts
unfolding runs
called = record { each = each; within = within; done = done; some = some; one = one }
  where
    each : (c : ℕ) → c < 2 → PartCall (lent beside) pair (beside_calls c)
    each zero h = first-call
    each (suc c) h = last-call c

    within : (c : ℕ) → c < 2 → (beside_calls c).start + (beside_calls c).len ≤ length beside_words
    within zero h = lit≤ tt
    within (suc c) h = lit≤ tt

    done : (c : ℕ) → c < 2 → run_of (part_of (beside_calls c) beside_words) (beside_calls c).hints (beside_calls c).entries ≡ Ok (beside_counts c)
    done zero h = refl
    done (suc c) h = refl

    some : (k : ℕ) → k < hint_count (lent beside)
        → (c : ℕ) × (j : ℕ) × (c < 2) × (j < hint_count (beside_calls c).hints) × ((beside_calls c).at j ≡ k)
    some zero h = (0, 0, lit< tt, lit< tt, refl)
    some (suc zero) h = (0, 1, lit< tt, lit< tt, refl)
    some (suc (suc k)) h =
        let l : suc (suc k) < 3 = h in
        let e : 2 ≡ suc (suc k) = omega arith in
        (1, 0, lit< tt, lit< tt, e)

    one : (c d i j : ℕ) → c < 2 → d < 2 → i < hint_count (beside_calls c).hints → j < hint_count (beside_calls d).hints
        → (beside_calls c).at i ≡ (beside_calls d).at j → c ≡ d
    one zero zero i j hc hd hi hj e = refl
    one zero (suc d) i j hc hd hi hj e = let l : i < 2 = hi in let q : i ≡ j + 2 = e in absurd (omega arith)
    one (suc c) zero i j hc hd hi hj e = let l : j < 2 = hj in let q : i + 2 ≡ j = e in absurd (omega arith)
    one (suc c) (suc d) i j hc hd hi hj e = omega arith
