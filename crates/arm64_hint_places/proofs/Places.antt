-- A hint's places by its word count. Carried by the choices of `is_skipped`, `insns_in` and `word_count`.
use Rattle.std.specs.Prelude.{None}
use mathlib.Core.Path.{◌≡◌, refl, sym, ap, ◌∙◌}
use mathlib.Core.Bool.{true, false, not, true≢false}
use mathlib.Core.List.{List, [], ◌∷◌}
use Prim.Native.Nat.{ℕ}
use borrow.Author.Tests.{ne_eqb, eqb-true, eqb-false, not-false}
use lib.Dec.{eqb}
use lib.ListN.{take}
use Rattle.util.specs.Choice.{choose}
use Rattle.util.proofs.Choice.{choose-true, choose-false, chosen, neither}
use Rattle.util.proofs.Cases.{same_or}
use Rattle.macho.specs.Hint.{word_count}
use Rattle.macho.specs.declared.hint.HintInsn.{HintInsn}
use Rattle.macho.specs.declared.hint.HintRecord.{HintRecord}
use Rattle.arm64_hint_terms.specs.Rels.{rel_at}
use Rattle.arm64_hint_places.specs.Hint.{is_skipped, insns_all, insns_in, rels_of}

-- what holds of each number of words
of-count : (P : ℕ → Type 0) → P 0 → P 2 → P 3 → (kind : ℕ) → P (word_count kind)
unfolding word_count
of-count P none two three kind =
    chosen P _ 2 _ two (chosen P _ 2 _ two (chosen P _ 3 _ three (chosen P _ 3 _ three
    (chosen P _ 3 _ three (chosen P _ 3 _ three (chosen P _ 2 _ two (chosen P _ 2 0 two none)))))))

module _ (h : HintRecord) where
  pub insns-none : is_skipped h ≡ true → insns_in h ≡ []
  unfolding insns_in
  insns-none e = choose-true (is_skipped h) [] _ e

  module _ (e : is_skipped h ≡ false) where
    tests : (eqb (word_count h.kind) 0 ≡ false) × (not (eqb h.n (word_count h.kind)) ≡ false)
    unfolding is_skipped
    tests = neither (eqb (word_count h.kind) 0) (not (eqb h.n (word_count h.kind))) e

    -- the kind's word count is the hint's
    pub count-is : word_count h.kind ≡ h.n
    count-is = sym (eqb-true h.n (word_count h.kind) (not-false (eqb h.n (word_count h.kind)) tests.1))

    -- and one of two numbers
    pub count-two : (h.n ≡ 3 → ⊥) → word_count h.kind ≡ 2
    count-two n =
        of-count (λ m. (m ≡ 0 → ⊥) → (m ≡ 3 → ⊥) → m ≡ 2) (λ z t. absurd (z refl)) (λ z t. refl) (λ z t. absurd (t refl)) h.kind
        (eqb-false (word_count h.kind) 0 tests.0) (λ q. n (sym count-is ∙ q))

    -- the places are so many of the three
    pub insns-first : insns_in h ≡ take h.n (insns_all h)
    unfolding insns_in
    insns-first = choose-false (is_skipped h) [] _ e

    pub insns-three : h.n ≡ 3 → insns_in h ≡ h.insn0 ∷ h.insn1 ∷ h.insn2 ∷ []
    insns-three n = insns-first ∙ ap (λ (m : ℕ). take m (insns_all h)) n

    pub insns-two : (h.n ≡ 3 → ⊥) → insns_in h ≡ h.insn0 ∷ h.insn1 ∷ []
    insns-two n = insns-first ∙ ap (λ (m : ℕ). take m (insns_all h)) (sym count-is ∙ count-two n)

    -- what holds of both numbers of words
    pub by_count : (P : List HintInsn → Type 0) → (h.n ≡ 3 → P (h.insn0 ∷ h.insn1 ∷ h.insn2 ∷ []))
        → ((h.n ≡ 3 → ⊥) → P (h.insn0 ∷ h.insn1 ∷ [])) → P (insns_in h)
    by_count P three two = same_or h.n 3 (λ n. rw (insns-three n) (three n)) (λ n. rw (insns-two n) (two n))

    -- the entries that two places name
    pub rels-two : (entries : List ℕ) → (h.n ≡ 3 → ⊥) → rels_of entries h ≡ record {
      r0 = rel_at entries h.insn0.rel;
      r1 = rel_at entries h.insn1.rel;
      r2 = None;
    }
    unfolding rels_of rel_at choose
    rels-two entries n = rw (insns-two n)

-- a hint of no kind is skipped
pub no_kind : (h : HintRecord) → is_skipped h ≡ false → (h.kind ≡ 1 → ⊥) → (h.kind ≡ 2 → ⊥) → (h.kind ≡ 3 → ⊥) → (h.kind ≡ 4 → ⊥)
    → (h.kind ≡ 5 → ⊥) → (h.kind ≡ 6 → ⊥) → (h.kind ≡ 7 → ⊥) → (h.kind ≡ 8 → ⊥) → ⊥
unfolding is_skipped word_count choose
no_kind h e a b c d f g i j =
    let w : word_count h.kind ≡ 0 =
    simp (ne_eqb _ _ a, ne_eqb _ _ b, ne_eqb _ _ c, ne_eqb _ _ d, ne_eqb _ _ f, ne_eqb _ _ g, ne_eqb _ _ i, ne_eqb _ _ j) in
    true≢false (sym (skips w) ∙ e)
  where
    skips : word_count h.kind ≡ 0 → is_skipped h ≡ true
    skips w = rw w
