-- Number 31 (RULES 8.35): a hint that it links, or that has an ADD to it, declines, and every other hint is decided by its rule. ADRP_ADRP, too, is decided
-- by its rule, which declines such words.
use Rattle.std.specs.Prelude.{Ok, Err, Option, Some, None}
use mathlib.Core.Path.{◌≡◌, refl, sym, subst, ◌∙◌}
use mathlib.Core.Logic.{◌⊎◌, ⊎_elim}
use mathlib.Core.Bool.{Bool, true, false, not, false≢true}
use mathlib.Core.List.{[], ◌∷◌}
use Prim.Native.Nat.{ℕ}
use borrow.Author.Tests.{eq-eqb, ne_eqb}
use lib.Dec.{eqb}
use Rattle.util.specs.Choice.{choose}
use Rattle.util.proofs.Choice.{choose-same, choose-true, choose-false, and-false}
use Rattle.util.proofs.Cases.{same_or}
use Rattle.macho.specs.Hint.{word_count}
use Rattle.macho.specs.Types.{MCLOH_AdrpAdrp}
use Rattle.arm64_insn.specs.Adrp.{adrp_of}
use Rattle.arm64_insn.specs.Links.{meets31}
use Rattle.arm64_insn.specs.declared.adrp.Adrp.{Adrp}
use Rattle.arm64_hint_terms.specs.declared.answer.NoRewrite.TheVariants.{Declined}
use Rattle.arm64_insn.proofs.Linked.{adrp-takes}
use Rattle.arm64_hint_terms.specs.Kinds.{held_words}
use Rattle.arm64_hint_terms.specs.declared.answer.Insns.{Insns}
use Rattle.arm64_hint_terms.specs.declared.answer.Plan.{Plan}
use Rattle.arm64_hint_terms.specs.declared.rels.Rels.{Rels}
use Rattle.arm64_hint_terms.specs.Rels.{both_pages}
use Rattle.arm64_hint_terms.proofs.Ways.{never}
use Rattle.arm64_hint_adrp.specs.Two.{adrp_adrp_with, adrp_adrp}
use Rattle.arm64_hint_laws.specs.Decide.{by_rule, bars31, decide}

-- the words of ADRP_ADRP
module _ (s : Insns) (r : Rels) where
  with-31 : (x y : Option Adrp) → adrp_of s.w0 ≡ x → adrp_of s.w1 ≡ y → meets31 (s.w0 ∷ s.w1 ∷ []) ≡ true → adrp_adrp_with s x y ≡ Err Declined
  with-31 None y ex ey e = refl
  with-31 (Some a) None ex ey e = refl
  with-31 (Some a) (Some b) ex ey e =
      let first = adrp-takes s.w0 ex 0 in
      let second = adrp-takes s.w1 ey s.w0 in
      absurd (false≢true (rw (second.0, first.1, second.1) at e))

  two-adrps : meets31 (held_words MCLOH_AdrpAdrp s) ≡ true → by_rule MCLOH_AdrpAdrp s r ≡ Err Declined
  unfolding word_count choose by_rule adrp_adrp
  two-adrps e = choose-same (both_pages r) _ (Err Declined) (with-31 (adrp_of s.w0) (adrp_of s.w1) refl refl e)

module _ (kind : ℕ) (s : Insns) where
  -- which hints it bars
  pub barred : (kind ≡ MCLOH_AdrpAdrp → ⊥) → bars31 kind s ≡ meets31 (held_words kind s)
  unfolding bars31
  barred n = rw (ne_eqb kind MCLOH_AdrpAdrp n)

  pub not-barred : kind ≡ MCLOH_AdrpAdrp → bars31 kind s ≡ false
  unfolding bars31
  not-barred e = rw (eq-eqb kind MCLOH_AdrpAdrp e)

  module _ (r : Rels) where
    -- what is decided
    pub barred-declines : bars31 kind s ≡ true → decide kind s r ≡ Err Declined
    unfolding decide
    barred-declines e = choose-true (bars31 kind s) _ _ e

    pub else_same : bars31 kind s ≡ false → decide kind s r ≡ by_rule kind s r
    unfolding decide
    else_same e = choose-false (bars31 kind s) _ _ e

    -- of every kind: where number 31 meets the words of ADRP_ADRP they are not two ADRPs, and its rule declines
    pub meets-declines : meets31 (held_words kind s) ≡ true → decide kind s r ≡ Err Declined
    meets-declines e =
        same_or kind MCLOH_AdrpAdrp
        (λ k.
        let d = two-adrps s r (subst (λ (k : ℕ). meets31 (held_words k s) ≡ true) k e) in
        else_same (not-barred k) ∙ subst (λ (k : ℕ). by_rule k s r ≡ Err Declined) (sym k) d)
        (λ n. barred-declines (barred n ∙ e))

    pub as_before : (kind ≡ MCLOH_AdrpAdrp) ⊎ (meets31 (held_words kind s) ≡ false) → decide kind s r ≡ by_rule kind s r
    unfolding bars31
    as_before = ⊎_elim (λ e. else_same (not-barred e)) (λ e. else_same (unmet e))
      where
        unmet : meets31 (held_words kind s) ≡ false → bars31 kind s ≡ false
        unmet e = rw e (and-false (not (eqb kind MCLOH_AdrpAdrp)))

    -- a hint that is rewritten is not barred
    pub rewritten-unbarred : (p : Plan) → decide kind s r ≡ Ok p → bars31 kind s ≡ false
    rewritten-unbarred p e = go (bars31 kind s) refl
      where
        go : (t : Bool) → bars31 kind s ≡ t → t ≡ false
        go false f = refl
        go true f = let d = barred-declines f in never (cc)
