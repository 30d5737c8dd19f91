-- A new word keeps the number of bytes, so what fits still fits; and words that are stored place by place are stored in the order of the places.
use Rattle.std.specs.Prelude.{Option, Some, None}
use mathlib.Core.Path.{◌≡◌, refl, sym, ap, ◌∙◌, subst}
use mathlib.Core.List.{List, [], ◌∷◌}
use Prim.Native.Nat.{ℕ, zero, suc, ◌+◌, ◌≤◌, ◌<◌}
use native.Mathlib.Omega.{arith}
use borrow.Author.Tests.{lt-ltb, le-ltb}
use lib.Dec.{ltb}
use lib.ListN.{length, take}
use Rattle.util.proofs.Choice.{choose-true, choose-false, chosen}
use Rattle.util.proofs.Word.{length-put}
use Rattle.macho.specs.declared.hint.HintInsn.{HintInsn}
use Rattle.image.specs.Words.{put_words}
use Rattle.image.proofs.Words.{puts_none, puts_first}
use Rattle.arm64_hint_words.specs.Place.{offsets, place_at, set_in, Fits}

pub length-set-in : (bytes : List ℕ) (insns : List HintInsn) (n i : ℕ) (w : Option ℕ) → length (set_in bytes insns n i w) ≡ length bytes
length-set-in bytes insns n i None = refl
length-set-in bytes insns n i (Some word) =
    chosen (λ (l : List ℕ). length l ≡ length bytes) (ltb i n) _ _ (length-put 4 bytes (place_at insns i).off word) refl

pub still-fits : (bytes : List ℕ) (insns : List HintInsn) (n i : ℕ) (w : Option ℕ) (j : ℕ) → Fits bytes insns n j → Fits (set_in bytes insns n i w) insns n j
still-fits bytes insns n i w j fits = record {
  one = fits.one;
  within = λ lt. subst (λ (m : ℕ). (place_at insns j).off + 4 ≤ m) (sym (length-set-in bytes insns n i w)) (fits.within lt);
}

-- ---- three stores

-- a new word at one place
abbrev put_one : HintInsn → Option ℕ → List ℕ → List ℕ
put_one insn w bytes = put_words (insn.off ∷ []) (w ∷ []) bytes

set_at : (bytes : List ℕ) (insns : List HintInsn) (n i : ℕ) (w : Option ℕ) → i < n → set_in bytes insns n i w ≡ put_one (place_at insns i) w bytes
set_at bytes insns n i None h = refl
set_at bytes insns n i (Some word) h = choose-true (ltb i n) _ _ (lt-ltb i n h)

set_past : (bytes : List ℕ) (insns : List HintInsn) (n i : ℕ) (w : Option ℕ) → n ≤ i → set_in bytes insns n i w ≡ bytes
set_past bytes insns n i None h = refl
set_past bytes insns n i (Some word) h = choose-false (ltb i n) _ _ (le-ltb i n h)

module _ (bytes : List ℕ) (n : ℕ) (a b c : Option ℕ) where
  -- the bytes after the three stores, at each number of words
  abbrev stored : List HintInsn → ℕ → List ℕ
  stored insns n = set_in (set_in (set_in bytes insns n 0 a) insns n 1 b) insns n 2 c

  -- the new words of the places, stored in their order
  abbrev in_order : List HintInsn → List ℕ
  in_order insns = put_words (offsets insns) (a ∷ b ∷ c ∷ []) bytes

  by_count : (i j k : HintInsn) (n : ℕ) → stored (i ∷ j ∷ k ∷ []) n ≡ in_order (take n (i ∷ j ∷ k ∷ []))
  by_count i j k zero =
      let xs : List HintInsn = i ∷ j ∷ k ∷ [] in
      set_past (set_in (set_in bytes xs 0 0 a) xs 0 1 b) xs 0 2 c (omega arith)
      ∙ set_past (set_in bytes xs 0 0 a) xs 0 1 b (omega arith)
      ∙ set_past bytes xs 0 0 a (omega arith)
  by_count i j k (suc zero) =
      let xs : List HintInsn = i ∷ j ∷ k ∷ [] in
      set_past (set_in (set_in bytes xs 1 0 a) xs 1 1 b) xs 1 2 c (omega arith)
      ∙ set_past (set_in bytes xs 1 0 a) xs 1 1 b (omega arith)
      ∙ set_at bytes xs 1 0 a (omega arith)
      ∙ puts_first i.off [] a (b ∷ c ∷ []) bytes
  by_count i j k (suc (suc zero)) =
      let xs : List HintInsn = i ∷ j ∷ k ∷ [] in
      set_past (set_in (set_in bytes xs 2 0 a) xs 2 1 b) xs 2 2 c (omega arith)
      ∙ set_at (set_in bytes xs 2 0 a) xs 2 1 b (omega arith)
      ∙ ap (put_one j b) (set_at bytes xs 2 0 a (omega arith))
      ∙ puts_first j.off [] b (c ∷ []) (put_one i a bytes)
      ∙ puts_first i.off (j.off ∷ []) a (b ∷ c ∷ []) bytes
  by_count i j k (suc (suc (suc n))) =
      let xs : List HintInsn = i ∷ j ∷ k ∷ [] in
      let m : ℕ = suc (suc (suc n)) in
      let rest : List ℕ = offsets (take n []) in
      set_at (set_in (set_in bytes xs m 0 a) xs m 1 b) xs m 2 c (omega arith)
      ∙ ap (put_one k c) (set_at (set_in bytes xs m 0 a) xs m 1 b (omega arith))
      ∙ ap (λ (x : List ℕ). put_one k c (put_one j b x)) (set_at bytes xs m 0 a (omega arith))
      ∙ puts_none rest (put_one k c (put_one j b (put_one i a bytes)))
      ∙ puts_first k.off rest c [] (put_one j b (put_one i a bytes))
      ∙ puts_first j.off (k.off ∷ rest) b (c ∷ []) (put_one i a bytes)
      ∙ puts_first i.off (j.off ∷ k.off ∷ rest) a (b ∷ c ∷ []) bytes

  pub stores : (insns : List HintInsn) → length insns ≡ 3 → stored insns n ≡ put_words (offsets (take n insns)) (a ∷ b ∷ c ∷ []) bytes
  stores [] e = absurd (omega arith)
  stores (i ∷ []) e = absurd (omega arith)
  stores (i ∷ j ∷ []) e = absurd (omega arith)
  stores (i ∷ j ∷ k ∷ []) e = by_count i j k n
  stores (i ∷ j ∷ k ∷ l ∷ more) e = absurd (omega arith)
