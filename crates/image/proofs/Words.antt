-- Words at places: read from their bytes alone, and stored in them alone. Carried by the laws of `le` and `put`.
use mathlib.Core.Path.{◌≡◌, refl, sym, ap, ap₂, ◌∙◌}
use mathlib.Core.Logic.{◌⊎◌, inl, inr, ⊎_elim}
use mathlib.Core.Bool.{Bool, true, false, ◌&&◌, ◌||◌, true≢false}
use mathlib.Core.List.{List, [], ◌∷◌}
use Rattle.std.specs.Prelude.{Option, Some, None}
use Prim.Native.Nat.{ℕ, zero, suc, ◌+◌, ◌*◌, ◌/◌, ◌%◌, ◌^◌, ◌≤◌, ◌<◌}
use native.Mathlib.Omega.{arith}
use borrow.Author.Tests.{le-leb, lt-ltb, leb-true, leb-false, ltb-true, ltb-false}
use lib.Dec.{leb, ltb}
use lib.ListN.{length, get_or, set}
use Rattle.util.specs.All.{All, empty, more}
use Rattle.util.specs.Word.{put}
use Rattle.util.proofs.Choice.{both}
use Rattle.util.proofs.Word.{length-put, get_d-put-other, le-ext}
use Rattle.image.specs.Words.{span, in_words, words_at, put_words}
use Rattle.image.specs.Local.{Apart, Reads, Writes}

-- ---- the bytes of a word

pub span-in : (a m b : ℕ) → a ≤ b → b < a + m → span a m b ≡ true
span-in a m b h g = ap₂ (λ (c d : Bool). c && d) (le-leb a b h) (lt-ltb b (a + m) g)

pub span-true : (a m b : ℕ) → span a m b ≡ true → (a ≤ b) × (b < a + m)
span-true a m b e =
    let t = both (leb a b) (ltb b (a + m)) e in
    (leb-true a b t.0, ltb-true b (a + m) t.1)

pub spans_apart : (a m a' m' : ℕ) → (a + m ≤ a') ⊎ (a' + m' ≤ a) → Apart (span a m) (span a' m')
spans_apart a m a' m' h b p q =
    let s = span-true a m b p in
    let t = span-true a' m' b q in
    ⊎_elim (λ g. omega arith) (λ g. omega arith) h

or_left : (a b : Bool) → a ≡ true → (a || b) ≡ true
or_left a b e = ap (λ (c : Bool). c || b) e

or_right : (a b : Bool) → b ≡ true → (a || b) ≡ true
or_right true b e = refl
or_right false b e = e

-- ---- one store

set-agree : (x y : List ℕ) (i v b : ℕ) → length x ≡ length y → get_or x b 0 ≡ get_or y b 0 → get_or (set x i v) b 0 ≡ get_or (set y i v) b 0
set-agree [] [] i v b l e = e
set-agree [] (c ∷ y) i v b l e = absurd (omega arith)
set-agree (c ∷ x) [] i v b l e = absurd (omega arith)
set-agree (c ∷ x) (d ∷ y) zero v zero l e = refl
set-agree (c ∷ x) (d ∷ y) zero v (suc b) l e = e
set-agree (c ∷ x) (d ∷ y) (suc i) v zero l e = e
set-agree (c ∷ x) (d ∷ y) (suc i) v (suc b) l e = set-agree x y i v b (omega arith) e

put-agree : (n : ℕ) (x y : List ℕ) (at v b : ℕ) → length x ≡ length y → get_or x b 0 ≡ get_or y b 0 → get_or (put n x at v) b 0 ≡ get_or (put n y at v) b 0
unfolding put
put-agree zero x y at v b l e = e
put-agree (suc n) x y at v b l e =
    set-agree (put n x at v) (put n y at v) (at + n) (v / 2 ^ (8 * n) % 256) b
    (length-put n x at v ∙ l ∙ sym (length-put n y at v)) (put-agree n x y at v b l e)

module _ (foot : ℕ → Bool) where
  -- a word stored in a footprint
  pub put-writes : (at v : ℕ) → ((b : ℕ) → span at 4 b ≡ true → foot b ≡ true) → Writes foot (λ x. put 4 x at v)
  put-writes at v cover = record {
    size = λ x. length-put 4 x at v;
    stays = λ x b h. get_d-put-other 4 x at v b (apart b h);
    makes = λ x y l a b h. put-agree 4 x y at v b l (a b h);
  }
    where
      apart : (b : ℕ) → foot b ≡ false → (at + 4 ≤ b) ⊎ (b + 1 ≤ at)
      apart b h = go (leb at b) (ltb b (at + 4)) refl refl
        where
          go : (c d : Bool) → leb at b ≡ c → ltb b (at + 4) ≡ d → (at + 4 ≤ b) ⊎ (b + 1 ≤ at)
          go true true p q = absurd (true≢false (sym (cover b (ap₂ (λ (c d : Bool). c && d) p q)) ∙ h))
          go true false p q = inl (ltb-false b (at + 4) q)
          go false d p q = inr (omega (arith, leb-false at b p))

  none-writes : Writes foot (λ x. x)
  none-writes = record { size = λ x. refl; stays = λ x b h. refl; makes = λ x y l a. a }

  -- new words stored in a footprint
  pub puts-write : (places : List ℕ) (news : List (Option ℕ)) → ((b : ℕ) → in_words places b ≡ true → foot b ≡ true) → Writes foot (put_words places news)
  puts-write [] news cover = none-writes
  puts-write (at ∷ places) [] cover = none-writes
  puts-write (at ∷ places) (None ∷ news) cover = puts-write places news (λ b h. cover b (or_right (span at 4 b) (in_words places b) h))
  puts-write (at ∷ places) (Some w ∷ news) cover =
      let f = put-writes at w (λ b h. cover b (or_left (span at 4 b) (in_words places b) h)) in
      let g = puts-write places news (λ b h. cover b (or_right (span at 4 b) (in_words places b) h)) in
      record {
        size = λ x. g.size (put 4 x at w) ∙ f.size x;
        stays = λ x b h. g.stays (put 4 x at w) b h ∙ f.stays x b h;
        makes = λ x y l a. g.makes (put 4 x at w) (put 4 y at w) (f.size x ∙ l ∙ sym (f.size y)) (f.makes x y l a);
      }

-- no new words
pub puts_none : (places x : List ℕ) → x ≡ put_words places [] x
puts_none [] x = refl
puts_none (at ∷ places) x = refl

-- the first place's word is stored first
pub puts_first : (at : ℕ) (places : List ℕ) (new : Option ℕ) (news : List (Option ℕ)) (x : List ℕ)
    → put_words places news (put_words (at ∷ []) (new ∷ []) x) ≡ put_words (at ∷ places) (new ∷ news) x
puts_first at places None news x = refl
puts_first at places (Some w) news x = refl

-- words that stand in the footprint alone
pub words-read : (places : List ℕ) → Reads (in_words places) (words_at places)
words-read [] x y a = refl
words-read (at ∷ places) x y a =
    ap₂ (λ (w : ℕ) (ws : List ℕ). w ∷ ws)
    (le-ext 4 x y at at (λ i h. a (at + i) (or_left (span at 4 (at + i)) (in_words places (at + i)) (span-in at 4 (at + i) (omega arith) (omega arith)))))
    (words-read places x y (λ b h. a b (or_right (span at 4 b) (in_words places b) h)))

-- words inside a part have their bytes in it
pub words_inside : (a m : ℕ) {places : List ℕ} → All (λ at. (a ≤ at) × (at + 4 ≤ a + m)) places → (b : ℕ) → in_words places b ≡ true → span a m b ≡ true
words_inside a m empty b e = absurd (true≢false (sym e))
words_inside a m (more {k = at} {l = places} h rest) b e = go (words_inside a m rest b) (span at 4 b) refl e
  where
    go : (in_words places b ≡ true → span a m b ≡ true) → (c : Bool) → span at 4 b ≡ c → (c || in_words places b) ≡ true → span a m b ≡ true
    go others true p q = let s = span-true at 4 b p in span-in a m b (omega arith) (omega arith)
    go others false p q = others q
