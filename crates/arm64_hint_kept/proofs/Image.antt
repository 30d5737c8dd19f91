-- What stands at places that share no byte after new words are stored there. Carried by stores that leave the bytes of other words.
use Rattle.std.specs.Prelude.{Option, Some, None}
use mathlib.Core.Path.{◌≡◌, refl, ap, ap₂, ◌∙◌}
use mathlib.Core.List.{List, [], ◌∷◌, map}
use Prim.Native.Nat.{ℕ, ◌+◌, ◌≤◌}
use native.Mathlib.Nat.{mod-eq_of_lt}
use native.Mathlib.Omega.{arith}
use lib.ListN.{length}
use Rattle.util.specs.Word.{le, put}
use Rattle.util.specs.All.{All, more}
use Rattle.util.proofs.Word.{length-put, le-ext, le-put}
use Rattle.util.proofs.All.{all_map}
use Rattle.image.specs.Words.{span, in_words, words_at, put_words}
use Rattle.image.specs.Local.{Apart}
use Rattle.image.proofs.Words.{span-in, put-writes, puts-write, words-read}
use Rattle.image.proofs.Local.{apart-sym, leaves}
use Rattle.arm64_hint_laws.proofs.Written.{Fits}
use Rattle.arm64_machine.specs.Premises.{Each}
use Rattle.arm64_hint_kept.specs.HintsKept.{Disjoint}
use Rattle.arm64_hint_kept.specs.Decided.{word_after}

-- the words after new ones are stored, place by place
abbrev pub words_after : List (Option ℕ) → List ℕ → List ℕ
words_after [] ws = ws
words_after (n ∷ ns) [] = []
words_after (n ∷ ns) (w ∷ ws) = word_after n w ∷ words_after ns ws

module _ (at : ℕ) (places : List ℕ) (apart : Apart (span at 4) (in_words places)) where
  -- stores at other places leave a word, and a store of the word leaves the others
  word-stays : (ns : List (Option ℕ)) (x : List ℕ) → le 4 (put_words places ns x) at ≡ le 4 x at
  word-stays ns x =
      le-ext 4 (put_words places ns x) x at at
      (λ i l.
      leaves (span at 4) (in_words places) apart (put_words places ns) (puts-write (in_words places) places ns (λ b h. h)) x
      (at + i) (span-in at 4 (at + i) (omega arith) (omega arith)))

  others-stay : (w : ℕ) (x : List ℕ) → words_at places (put 4 x at w) ≡ words_at places x
  others-stay w x =
      words-read places (put 4 x at w) x
      (leaves (in_words places) (span at 4) (apart-sym apart) (λ x. put 4 x at w) (put-writes (span at 4) at w (λ b h. h)) x)

pub reads-back : (places : List ℕ) (ns : List (Option ℕ)) (x : List ℕ) → Disjoint places → All (λ at. at + 4 ≤ length x) places → Each Fits ns
    → words_at places (put_words places ns x) ≡ words_after ns (words_at places x)
reads-back [] [] x d i f = refl
reads-back [] (n ∷ ns) x d i f = refl
reads-back (at ∷ places) [] x d i f = refl
reads-back (at ∷ places) (None ∷ ns) x d (more h i) f =
    ap₂ (λ (w : ℕ) (ws : List ℕ). w ∷ ws) (word-stays at places d.0 ns x) (reads-back places ns x d.1 i f.1)
reads-back (at ∷ places) (Some w ∷ ns) x d (more h i) f =
    let y = put 4 x at w in
    let inside : All (λ at. at + 4 ≤ length y) places = all_map (λ j l. omega (arith, length-put 4 x at w)) i in
    ap₂ (λ (w : ℕ) (ws : List ℕ). w ∷ ws)
    (word-stays at places d.0 ns y ∙ le-put 4 x at w h ∙ mod-eq_of_lt f.0)
    (reads-back places ns y d.1 inside f.1 ∙ ap (words_after ns) (others-stay at places d.0 w x))
