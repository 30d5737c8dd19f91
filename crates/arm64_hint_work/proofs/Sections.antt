-- A hint's words in its part are words of the image. Carried by the laws of parts, word by word.
use mathlib.Core.Path.{◌≡◌, refl, ap, ap₂, ◌∙◌}
use mathlib.Core.List.{List, [], ◌∷◌, map}
use Rattle.std.specs.Prelude.{Option, Some, None}
use Prim.Native.Nat.{ℕ, ◌+◌, ◌≤◌}
use native.Mathlib.Omega.{arith}
use lib.ListN.{length}
use Rattle.util.specs.Word.{put}
use Rattle.util.specs.Part.{part, splice}
use Rattle.util.specs.All.{All, empty, more}
use Rattle.util.proofs.Word.{length-put}
use Rattle.util.proofs.Part.{length_part, splice-same, splice-put}
use Rattle.util.proofs.Bytes.{le-part}
use Rattle.image.specs.Words.{words_at, put_words}

module _ (image : List ℕ) (a k : ℕ) where
  -- the words of the part
  pub words-part : {offs : List ℕ} → All (λ at. at + 4 ≤ k) offs → words_at offs (part image a k) ≡ words_at (map (λ at. a + at) offs) image
  words-part empty = refl
  words-part (more {k = at} h rest) = ap₂ (λ (w : ℕ) (ws : List ℕ). w ∷ ws) (le-part 4 image a k at h) (words-part rest)

  -- new words in a part, seen in the whole
  puts-splice : a ≤ length image → {offs : List ℕ} → All (λ at. at + 4 ≤ k) offs → (news : List (Option ℕ)) (ys : List ℕ) → length ys ≡ k
      → splice image a k (put_words offs news ys) ≡ put_words (map (λ at. a + at) offs) news (splice image a k ys)
  puts-splice l empty news ys e = refl
  puts-splice l (more h rest) [] ys e = refl
  puts-splice l (more h rest) (None ∷ news) ys e = puts-splice l rest news ys e
  puts-splice l (more {k = at} {l = offs} h rest) (Some w ∷ news) ys e =
      puts-splice l rest news (put 4 ys at w) (length-put 4 ys at w ∙ e)
      ∙ ap (put_words (map (λ at. a + at) offs) news) (splice-put 4 image a k ys at w l (omega arith))

  -- new words in the image's own part
  pub puts-part : a + k ≤ length image → {offs : List ℕ} → All (λ at. at + 4 ≤ k) offs → (news : List (Option ℕ))
      → splice image a k (put_words offs news (part image a k)) ≡ put_words (map (λ at. a + at) offs) news image
  puts-part l {offs} inside news =
      puts-splice (omega arith) inside news (part image a k) (length_part image a k l)
      ∙ ap (put_words (map (λ at. a + at) offs) news) (splice-same image a k)
