-- Unallocated words: the words of a hint that is rewritten are allocated, by the law of its outcome; closed hints by the run itself.
use Rattle.std.specs.Prelude.{Ok, Some}
use mathlib.Core.Path.{◌≡◌, refl}
use mathlib.Core.Bool.{Bool, true, false, not}
use mathlib.Core.List.{List, [], ◌∷◌, map}
use Prim.Native.Nat.{ℕ, ◌+◌}
use borrow.Author.Tests.{not-false}
use Rattle.util.specs.Word.{le}
use Rattle.util.proofs.Choice.{neither}
use Rattle.macho.specs.declared.hint.HintInsn.{HintInsn}
use Rattle.macho.specs.declared.hint.HintRecord.{HintRecord}
use Rattle.image.specs.Words.{words_at}
use Rattle.arm64_insn.specs.Manual as Manual
use Rattle.arm64_insn.specs.Manual.{any_unallocated}
use Rattle.arm64_hint_terms.specs.declared.answer.Insns.{Insns}
use Rattle.arm64_hint_terms.specs.declared.answer.Plan.{Plan}
use Rattle.arm64_machine.specs.Machine.{placed}
use Rattle.arm64_machine.specs.Premises.{Each}
use Rattle.arm64_hint_places.specs.Hint.{insns_in}
use Rattle.arm64_hint_rules.specs.Rule.{hint_outcome}
use Rattle.arm64_hint_work.specs.Step.{places_of}
use Rattle.arm64_hint_run.proofs.Declines.{not-both, unallocated-declined}
use Rattle.arm64_hint_kept.specs.HintsKept.{codes}
use Rattle.arm64_hint_kept.specs.Unallocated.{UnallocatedDecline}
use Rattle.arm64_hint_kept.proofs.Computing.{runs}

module _ (h : HintRecord) (x : List ℕ) where
  -- none of a hint's words is unallocated: each is allocated
  each-allocated : (l : List HintInsn) → any_unallocated (words_at (map (λ at. h.start + at) (map (λ i. i.off) l)) x) ≡ false
      → Each (λ w. Manual.allocated w.word ≡ true) (map (λ i. placed (le 4 x (h.start + i.off)) i.addr) l)
  each-allocated [] e = tt
  each-allocated (i ∷ l) e =
      let w = le 4 x (h.start + i.off) in
      let n = neither (not (Manual.allocated w)) _ e in
      (not-false (Manual.allocated w) n.0, each-allocated l n.1)

  pub rewritten-words-allocated : (entries : List ℕ) (p : Plan) (s : Insns) → hint_outcome entries h (words_at (places_of h) x) ≡ Some (Ok p, s)
      → Each (λ w. Manual.allocated w.word ≡ true) (codes h x)
  rewritten-words-allocated entries p s e = each-allocated (insns_in h) (go (any_unallocated (words_at (places_of h) x)) refl)
    where
      go : (t : Bool) → any_unallocated (words_at (places_of h) x) ≡ t → t ≡ false
      go false f = refl
      go true f = let d = unallocated-declined h x entries f in absurd (not-both e d)

pub unallocated-decline : UnallocatedDecline
unfolding runs
unallocated-decline = record {
  word = record { done = refl; leaves = refl };
  ldr-s = record { done = refl; leaves = refl };
  word-high = record { done = refl; leaves = refl };
  ldr-s-high = record { done = refl; leaves = refl };
  half-10 = record { done = refl; leaves = refl };
  half-11 = record { done = refl; leaves = refl };
  ldr-h = record { done = refl; leaves = refl };
  got_word = record { done = refl; leaves = refl };
  got-ldr-s = record { done = refl; leaves = refl };
  ldrsh-x = record { done = refl; leaves = refl };
  ldrsh-w = record { done = refl; leaves = refl };
  ldrsw = record { done = refl; leaves = refl };
  ldr-q = record { done = refl; leaves = refl };
  str-q = record { done = refl; leaves = refl };
}
