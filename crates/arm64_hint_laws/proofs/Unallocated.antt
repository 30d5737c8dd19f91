-- A hint that holds an unallocated word declines (RULES 8.34), whichever word it is and whatever the kind: no decoder takes the word, and each rule asks the
-- decoders of all its words before it sums. By cases on the kind, on the word, and on what the words before it decode to.
use Rattle.std.specs.Prelude.{Result, Ok, Err, Option, Some, None}
use mathlib.Core.Path.{◌≡◌, refl, ap}
use mathlib.Core.Bool.{Bool, true, false, not, false≢true}
use mathlib.Core.List.{[], ◌∷◌}
use Prim.Native.Nat.{ℕ, zero, suc}
use native.Mathlib.Omega.{arith}
use borrow.Author.Tests.{not-true}
use lib.ListN.{take}
use Rattle.util.specs.Choice.{choose}
use Rattle.util.proofs.Choice.{choose-same, either}
use Rattle.macho.specs.Hint.{word_count}
use Rattle.arm64_insn.specs.Adrp.{adrp_of}
use Rattle.arm64_insn.specs.Add.{add_of}
use Rattle.arm64_insn.specs.LoadStore.{load_store_of}
use Rattle.arm64_insn.specs.Manual.{allocated, any_unallocated}
use Rattle.arm64_insn.proofs.Decodes.{unallocated-none}
use Rattle.arm64_insn.specs.declared.adrp.Adrp.{Adrp}
use Rattle.arm64_insn.specs.declared.add.Add.{Add}
use Rattle.arm64_insn.specs.declared.ldst.LoadStore.{LoadStore}
use Rattle.arm64_hint_terms.specs.declared.answer.NoRewrite.{NoRewrite}
use Rattle.arm64_hint_terms.specs.declared.answer.NoRewrite.TheVariants.{Declined}
use Rattle.arm64_hint_terms.specs.Kinds.{held_words}
use Rattle.arm64_hint_terms.specs.declared.answer.Insns.{Insns}
use Rattle.arm64_hint_terms.specs.declared.answer.Plan.{Plan}
use Rattle.arm64_hint_terms.specs.declared.rels.Rels.{Rels}
use Rattle.arm64_hint_terms.proofs.Ways.{never}
use Rattle.arm64_hint_adrp.specs.Two.{adrp_adrp_with, adrp_adrp, adrp_ldr_with, adrp_ldr, adrp_add_with, adrp_add}
use Rattle.arm64_hint_adrp.specs.Three.{through_with, through, adrp_add_ldr_with, adrp_add_ldr, adrp_add_str_with, adrp_add_str}
use Rattle.arm64_hint_got.specs.Got.{got_load_with, got_load, adrp_ldr_got_with, adrp_ldr_got, got_ldr_by, got_ldr_with, adrp_ldr_got_ldr, got_str_by, got_str_with, adrp_ldr_got_str}
use Rattle.arm64_hint_laws.specs.Decide.{decide}
use Rattle.arm64_hint_laws.proofs.Cases.{by_kind}

-- a word that no decoder takes
abbrev Unread : ℕ → Type 0
Unread w = (adrp_of w ≡ None) × (add_of w ≡ None) × (load_store_of w ≡ None)

module _ (s : Insns) where
  -- ADRP, ADD and access, one of which is another word
  through-none : (p : Bool) → through_with s (adrp_of s.w0) (add_of s.w1) (load_store_of s.w2) ≡ Err Declined → through s p ≡ Err Declined
  unfolding through
  through-none p e = choose-same p _ (Err Declined) e

  got-none : (p : Bool) → got_load_with s (adrp_of s.w0) (load_store_of s.w1) (add_of s.w1) ≡ Err Declined → got_load s p ≡ Err Declined
  unfolding got_load
  got-none p e = choose-same p _ (Err Declined) e

  -- the kinds of a GOT load, without one
  got-ldr-none : (p : Bool) → got_load s p ≡ Err Declined → (z : Option LoadStore) → got_ldr_with s p z ≡ Err Declined
  got-ldr-none p e None = refl
  got-ldr-none p e (Some ld) = ap (got_ldr_by s ld) e

  got-str-none : (p : Bool) → got_load s p ≡ Err Declined → (z : Option LoadStore) → got_str_with s p z ≡ Err Declined
  got-str-none p e None = refl
  got-str-none p e (Some st) = choose-same st.is_store _ (Err Declined) (ap (got_str_by s st) e)

  -- what the words come to where a word after the first is another one
  adrp-second : (x : Option Adrp) → adrp_adrp_with s x None ≡ Err Declined
  adrp-second None = refl
  adrp-second (Some a) = refl

  ldr-second : (x : Option Adrp) → adrp_ldr_with s x None ≡ Err Declined
  ldr-second None = refl
  ldr-second (Some a) = refl

  add-second : (x : Option Adrp) → adrp_add_with s x None ≡ Err Declined
  add-second None = refl
  add-second (Some a) = refl

  through-second : (x : Option Adrp) (z : Option LoadStore) → through_with s x None z ≡ Err Declined
  through-second None z = refl
  through-second (Some a) z = refl

  through-third : (x : Option Adrp) (y : Option Add) → through_with s x y None ≡ Err Declined
  through-third None y = refl
  through-third (Some a) None = refl
  through-third (Some a) (Some d) = refl

  got-second : (x : Option Adrp) → got_load_with s x None None ≡ Err Declined
  got-second None = refl
  got-second (Some a) = refl

-- the words that each rule decodes first come to nothing
record Nothing (s : Insns) : Type 0 where
  adrp-adrp : adrp_adrp_with s (adrp_of s.w0) (adrp_of s.w1) ≡ Err Declined
  adrp-ldr : adrp_ldr_with s (adrp_of s.w0) (load_store_of s.w1) ≡ Err Declined
  adrp-add : adrp_add_with s (adrp_of s.w0) (add_of s.w1) ≡ Err Declined
  three : through_with s (adrp_of s.w0) (add_of s.w1) (load_store_of s.w2) ≡ Err Declined
  got : got_load_with s (adrp_of s.w0) (load_store_of s.w1) (add_of s.w1) ≡ Err Declined

module _ (s : Insns) (r : Rels) where
  nothing-declines : Nothing s → (kind : ℕ) → decide kind s r ≡ Err Declined
  unfolding adrp_adrp adrp_ldr adrp_add_ldr adrp_ldr_got_ldr adrp_add_str adrp_ldr_got_str adrp_add adrp_ldr_got
  nothing-declines n =
      by_kind s r (λ (k : ℕ) (d : Result Plan NoRewrite). d ≡ Err Declined)
      (record {
        declined = λ k. refl;
        adrp-adrp = λ p _. choose-same p _ (Err Declined) n.adrp-adrp;
        adrp-ldr = λ p _. choose-same p _ (Err Declined) n.adrp-ldr;
        adrp-add-ldr = λ p _. ap (adrp_add_ldr_with s) (through-none s p n.three);
        adrp-ldr-got-ldr = λ p _. got-ldr-none s p (got-none s p n.got) (load_store_of s.w2);
        adrp-add-str = λ p _. ap (adrp_add_str_with s) (through-none s p n.three);
        adrp-ldr-got-str = λ p _. got-str-none s p (got-none s p n.got) (load_store_of s.w2);
        adrp-add = λ p _. choose-same p _ (Err Declined) n.adrp-add;
        adrp-ldr-got = λ p _. ap (adrp_ldr_got_with s) (got-none s p n.got);
      })

  first-declines : Unread s.w0 → (kind : ℕ) → decide kind s r ≡ Err Declined
  first-declines u =
      nothing-declines
      (record { adrp-adrp = rw u.0; adrp-ldr = rw u.0; adrp-add = rw u.0; three = rw u.0; got = rw u.0 })

  second-declines : Unread s.w1 → (kind : ℕ) → decide kind s r ≡ Err Declined
  second-declines u =
      let x = adrp_of s.w0 in
      nothing-declines
      (record {
        adrp-adrp = rw u.0 (adrp-second s x);
        adrp-ldr = rw u.2 (ldr-second s x);
        adrp-add = rw u.1 (add-second s x);
        three = rw u.1 (through-second s x (load_store_of s.w2));
        got = rw (u.2, u.1) (got-second s x);
      })

  -- the third word is one of the kinds of three words only
  third-declines : Unread s.w2 → (kind : ℕ) → (word_count kind ≡ 2 → ⊥) → decide kind s r ≡ Err Declined
  unfolding word_count choose adrp_add_ldr adrp_ldr_got_ldr adrp_add_str adrp_ldr_got_str
  third-declines u =
      let three : (p : Bool) → through s p ≡ Err Declined
      = λ p. through-none s p (rw u.2 (through-third s (adrp_of s.w0) (add_of s.w1))) in
      by_kind s r (λ (k : ℕ) (d : Result Plan NoRewrite). (word_count k ≡ 2 → ⊥) → d ≡ Err Declined)
      (record {
        declined = λ k _. refl;
        adrp-adrp = λ p _ n. absurd (n refl);
        adrp-ldr = λ p _ n. absurd (n refl);
        adrp-add-ldr = λ p _ _. ap (adrp_add_ldr_with s) (three p);
        adrp-ldr-got-ldr = λ p _ _. ap (got_ldr_with s p) u.2;
        adrp-add-str = λ p _ _. ap (adrp_add_str_with s) (three p);
        adrp-ldr-got-str = λ p _ _. ap (got_str_with s p) u.2;
        adrp-add = λ p _ n. absurd (n refl);
        adrp-ldr-got = λ p _ n. absurd (n refl);
      })

-- one of the kind's words is unallocated: the hint declines
module _ (kind : ℕ) (s : Insns) (r : Rels) where
  word : (w : ℕ) → (Unread w → decide kind s r ≡ Err Declined) → not (allocated w) ≡ true → decide kind s r ≡ Err Declined
  word w f e = f (unallocated-none w (not-true (allocated w) e))

  none_after : (n : ℕ) → any_unallocated (take n []) ≡ true → decide kind s r ≡ Err Declined
  none_after zero e = absurd (false≢true e)
  none_after (suc n) e = absurd (false≢true e)

  among : (n : ℕ) → word_count kind ≡ n → any_unallocated (take n (s.w0 ∷ s.w1 ∷ s.w2 ∷ [])) ≡ true → decide kind s r ≡ Err Declined
  among zero c e = absurd (false≢true e)
  among (suc n) c e = either (not (allocated s.w0)) _ e (word s.w0 (λ u. first-declines s r u kind)) (second n c)
    where
      third : (n : ℕ) → word_count kind ≡ suc (suc n) → any_unallocated (take n (s.w2 ∷ [])) ≡ true → decide kind s r ≡ Err Declined
      third zero c e = absurd (false≢true e)
      third (suc n) c e = either (not (allocated s.w2)) _ e (word s.w2 (λ u. third-declines s r u kind (λ f. omega arith))) (none_after n)

      second : (n : ℕ) → word_count kind ≡ suc n → any_unallocated (take n (s.w1 ∷ s.w2 ∷ [])) ≡ true → decide kind s r ≡ Err Declined
      second zero c e = absurd (false≢true e)
      second (suc n) c e = either (not (allocated s.w1)) _ e (word s.w1 (λ u. second-declines s r u kind)) (third n c)

  pub unallocated-declines : any_unallocated (held_words kind s) ≡ true → decide kind s r ≡ Err Declined
  unallocated-declines = among (word_count kind) refl

  -- so the words of a hint that is rewritten are all allocated
  pub rewritten-allocated : (p : Plan) → decide kind s r ≡ Ok p → any_unallocated (held_words kind s) ≡ false
  rewritten-allocated p e = go (any_unallocated (held_words kind s)) refl
    where
      go : (t : Bool) → any_unallocated (held_words kind s) ≡ t → t ≡ false
      go false f = refl
      go true f = let d = unallocated-declines f in never (cc)
