-- The three texts of `text_of`; all have at most 4,096 lines of 27 bytes.
use mathlib.Core.Path.{◌≡◌, ◌∙◌}
use mathlib.Core.List.{List}
use Prim.Native.Nat.{ℕ, ◌/◌, ◌%◌, ◌≤◌, ◌<◌}
use native.Mathlib.Omega.{arith}
use borrow.Author.Tests.{lt-ltb, le-ltb, eq-eqb, ne_eqb, ltb-false}
use lib.Dec.{ltb, eqb, lit≤}
use lib.ListN.{length}
use Rattle.util.proofs.Choice.{split, choose-true, choose-false}
use Rattle.lister_text.specs.Text.{lines_of, refused, text_of}
use Rattle.util.specs.Puts.{Puts}
use Rattle.lister_text.proofs.Lines.{lines-length}

module _ (s : List ℕ) where
  pub too_long : 16384 < length s → text_of s ≡ refused 2
  unfolding text_of
  too_long h = choose-true _ _ _ (lt-ltb 16384 (length s) h)

  pub odd-length : length s ≤ 16384 → (length s % 4 ≡ 0 → ⊥) → text_of s ≡ refused 1
  unfolding text_of
  odd-length h n = choose-false _ _ _ (le-ltb 16384 (length s) h) ∙ choose-false _ _ _ (ne_eqb (length s % 4) 0 n)

  pub whole_words : length s ≤ 16384 → length s % 4 ≡ 0 → text_of s ≡ lines_of s (length s / 4)
  unfolding text_of
  whole_words h n = choose-false _ _ _ (le-ltb 16384 (length s) h) ∙ choose-true _ _ _ (eq-eqb (length s % 4) 0 n)

  pub text-length : length (text_of s) ≤ 110592
  unfolding text_of
  text-length =
      split Short (ltb 16384 (length s)) _ _ (λ e. lit≤ tt)
      (λ e. split Short (eqb (length s % 4) 0) _ _ (λ f. omega (arith, lines-length s (length s / 4), ltb-false 16384 (length s) e)) (λ f. lit≤ tt))
    where
      Short : List ℕ → Type 0
      Short t = length t ≤ 110592

  -- the answer counts bytes of the output
  pub counts : {l m : List ℕ} {r : ℕ} → Puts l 0 (text_of s) r m → r ≤ 110592
  counts p = omega (arith, text-length, p.ends)
