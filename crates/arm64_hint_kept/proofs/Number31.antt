-- Number 31 in hints: the words of a hint that is rewritten are without it, by the law of its outcome and by what it is in the machine's words; closed hints
-- by the run itself.
use Rattle.std.specs.Prelude.{Ok, Some}
use mathlib.Core.Path.{◌≡◌, refl, sym, ap, ◌∙◌}
use mathlib.Core.Bool.{Bool, true, false, ◌||◌, false≢true}
use mathlib.Core.List.{List, [], ◌∷◌, map}
use Prim.Native.Nat.{ℕ, ◌+◌}
use native.Mathlib.Omega.{arith}
use lib.Dec.{lit<}
use Rattle.util.specs.Word.{le}
use Rattle.util.proofs.Choice.{neither}
use Rattle.macho.specs.declared.hint.HintInsn.{HintInsn}
use Rattle.macho.specs.declared.hint.HintRecord.{HintRecord}
use Rattle.image.specs.Words.{words_at}
use Rattle.arm64_insn.specs.Links.{links31, adds31, meets31}
use Rattle.arm64_hint_terms.specs.declared.answer.Insns.{Insns}
use Rattle.arm64_hint_terms.specs.declared.answer.Plan.{Plan}
use Rattle.arm64_machine.specs.Machine.{Placed, placed, action, add}
use Rattle.arm64_machine.specs.Examples.{start, idle}
use Rattle.arm64_machine.proofs.Links.{links-is, adds-is}
use Rattle.arm64_hint_places.specs.Hint.{insns_in}
use Rattle.arm64_hint_rules.specs.Rule.{hint_outcome}
use Rattle.arm64_hint_work.specs.Step.{places_of}
use Rattle.arm64_hint_run.proofs.Declines.{not-both, declined-31}
use Rattle.arm64_hint_kept.specs.HintsKept.{codes}
use Rattle.arm64_hint_kept.specs.Number31.{Without31, Number31Declines, Number31Stays}
use Rattle.arm64_hint_kept.proofs.Computing.{runs, machine}
use Rattle.arm64_hint_kept.proofs.Needed.{address}

-- the word is no ADD to 31
not-added : (w : ℕ) → adds31 w ≡ false → (n i : ℕ) → action w ≡ add 31 n i → ⊥
not-added w e n i q = false≢true (sym e ∙ adds-is w q)

-- words that number 31 does not meet, in the machine's words
without : (ws : List Placed) → meets31 (map (λ w. w.word) ws) ≡ false → Without31 ws
without [] e = record { no-link = tt; no_add = tt }
without (w ∷ []) e = record { no-link = tt; no_add = (not-added w.word e, tt) }
without (w ∷ u ∷ ws) e =
    let rest = meets31 (map (λ w. w.word) (u ∷ ws)) in
    let n = neither (links31 w.word u.word) (adds31 w.word || rest) e in
    let m = neither (adds31 w.word) rest n.1 in
    let t = without (u ∷ ws) m.1 in
    record { no-link = (sym (links-is w.word u.word) ∙ n.0, t.no-link); no_add = (not-added w.word m.0, t.no_add) }

module _ (h : HintRecord) (x : List ℕ) where
  -- the words of a hint, without their addresses
  words_of : (l : List HintInsn) → map (λ w. w.word) (map (λ i. placed (le 4 x (h.start + i.off)) i.addr) l)
      ≡ words_at (map (λ at. h.start + at) (map (λ i. i.off) l)) x
  words_of [] = refl
  words_of (i ∷ l) = ap (λ (ws : List ℕ). le 4 x (h.start + i.off) ∷ ws) (words_of l)

  pub rewritten-without-31 : (entries : List ℕ) (p : Plan) (s : Insns)
      → hint_outcome entries h (words_at (places_of h) x) ≡ Some (Ok p, s) → Without31 (codes h x)
  rewritten-without-31 entries p s e =
      without (codes h x) (ap meets31 (words_of (insns_in h)) ∙ go (meets31 (words_at (places_of h) x)) refl)
    where
      go : (t : Bool) → meets31 (words_at (places_of h) x) ≡ t → t ≡ false
      go false f = refl
      go true f = let d = declined-31 h x entries f in absurd (not-both e d)

pub number-31-declines : Number31Declines
unfolding runs machine
number-31-declines = record {
  adrp-ldr = record {
    barred = record { declines = record { done = refl; leaves = refl }; by-rule = refl };
    differ = λ same. let z : ◌≡◌ {A = ℕ} 0x2001 0x1001 = ap address (same.agree idle start).log in omega arith;
  };
  adrp-ldr-high = record { declines = record { done = refl; leaves = refl }; by-rule = refl };
  adrp-add = record {
    barred = record { declines = record { done = refl; leaves = refl }; by-rule = refl };
    differ = λ same. let z : ◌≡◌ {A = ℕ} 0x2010 0x1010 = (same.agree idle start).x 0 (lit< tt) refl in omega arith;
  };
  adrp-add-ldr = record { declines = record { done = refl; leaves = refl }; by-rule = refl };
  adrp-add-str = record { declines = record { done = refl; leaves = refl }; by-rule = refl };
  adrp-ldr-got = record { declines = record { done = refl; leaves = refl }; by-rule = refl };
  adrp-ldr-got-str = record { declines = record { done = refl; leaves = refl }; by-rule = refl };
  adrp-ldr-got-ldr = record { declines = record { done = refl; leaves = refl }; by-rule = refl };
  add = record {
    barred = record { declines = record { done = refl; leaves = refl }; by-rule = refl };
    differ = λ same. let z : ◌≡◌ {A = ℕ} 0x6b010 0x2000 = (same.agree idle start).sp in omega arith;
  };
  add-ldr = record { declines = record { done = refl; leaves = refl }; by-rule = refl };
  add-str = record { declines = record { done = refl; leaves = refl }; by-rule = refl };
  add-got = record { declines = record { done = refl; leaves = refl }; by-rule = refl };
  add-got-ldr = record { declines = record { done = refl; leaves = refl }; by-rule = refl };
  add-got-str = record { declines = record { done = refl; leaves = refl }; by-rule = refl };
  add-ldr-high = record { declines = record { done = refl; leaves = refl }; by-rule = refl };
  got-ldr = record { declines = record { done = refl; leaves = refl }; by-rule = refl };
  got-str = record { declines = record { done = refl; leaves = refl }; by-rule = refl };
  got-ldr-high = record { declines = record { done = refl; leaves = refl }; by-rule = refl };
  got-str-high = record { declines = record { done = refl; leaves = refl }; by-rule = refl };
}

pub number-31-stays : Number31Stays
unfolding runs
number-31-stays = record {
  ldr-got = record { done = refl; leaves = refl };
  add-ldr = record { done = refl; leaves = refl };
  add-str = record { done = refl; leaves = refl };
  got-str-high = record { done = refl; leaves = refl };
}
