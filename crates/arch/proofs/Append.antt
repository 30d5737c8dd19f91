-- A table read after another: the walk of the whole is the first one's, then the second one's moved, where the steps that are taken agree.
use Rattle.std.specs.Prelude.{Result, Ok, Err}
use mathlib.Core.Path.{◌≡◌, refl, sym, ap, ap₂, ◌∙◌, subst}
use mathlib.Core.List.{List, [], ◌∷◌, map}
use mathlib.Core.Logic.{◌⊎◌, inr, ⊎_elim}
use mathlib.Core.Bool.{Bool, true, false}
use Prim.Native.Nat.{ℕ, zero, suc, ◌+◌, ◌-◌, ◌<◌, ◌≤◌}
use native.Mathlib.Omega.{arith}
use lib.Dec.{ltb}
use borrow.Author.Tests.{lt-ltb, le-ltb, ltb-true, ltb-false}
use Rattle.macho.specs.declared.reloc.Reloc.{Reloc}
use Rattle.arch.specs.Walk.{Reading, refused, entries, before, after, more, read_from, read_all, Fills, Onward}
use Rattle.arch.specs.Join.{joined, mapped, moved}
use Rattle.macho.specs.declared.refusal.Refusal.{Refusal}
use Rattle.arch.proofs.Walk.{Within, onward, done-any, turn_suc}
use Rattle.arch.proofs.Fuel.{from, from_all, from_step}

-- ---- answers

joined-nil : (a : Reading) → joined (entries []) a ≡ a
joined-nil (refused x) = refl
joined-nil (entries es) = refl

joined-before : (e : Reloc) (a b : Reading) → joined (before e a) b ≡ before e (joined a b)
joined-before e (refused x) b = refl
joined-before e (entries es) (refused x) = refl
joined-before e (entries es) (entries fs) = refl

mapped-before : (f : Reloc → Reloc) (e : Reloc) (a : Reading) → mapped f (before e a) ≡ before (f e) (mapped f a)
mapped-before f e (refused x) = refl
mapped-before f e (entries es) = refl

map_same : (es : List Reloc) → map (λ (e : Reloc). e) es ≡ es
map_same [] = refl
map_same (e ∷ es) = ap (λ (l : List Reloc). e ∷ l) (map_same es)

pub mapped-same : (a : Reading) → mapped (λ (e : Reloc). e) a ≡ a
mapped-same (refused x) = refl
mapped-same (entries es) = ap entries (map_same es)

-- a step of a table that does not move
pub moved_none : (s : Result (Reloc × ℕ) Refusal) → moved 0 (λ (e : Reloc). e) s ≡ s
moved_none (Err x) = refl
moved_none (Ok (e, next)) = ap (λ (n : ℕ). Ok (e, n)) (omega arith)

-- ---- a table that stands d records further on

-- a step of it against the same step of the table by itself: where that one reads, both read alike, moved; where it refuses, both refuse alike if P says so.
-- What no walk looks at need not agree: a record after ADDEND is no step of its own, and its offset may be anything
unfoldable pub Follows : Type 0 → ℕ → (Reloc → Reloc) → Result (Reloc × ℕ) Refusal → Result (Reloc × ℕ) Refusal → Type 0
Follows P d f (Err x) u = P → u ≡ Err x
Follows P d f (Ok (e, next)) u = u ≡ Ok (f e, d + next)

-- a step that is moved whole
pub follows-moved : (P : Type 0) (d : ℕ) (f : Reloc → Reloc) (t u : Result (Reloc × ℕ) Refusal) → u ≡ moved d f t → Follows P d f t u
unfolding Follows
follows-moved P d f (Err x) u e = λ _. e
follows-moved P d f (Ok (r, next)) u e = e

fills-rest : {P : Type 0} (e : Reloc) (a : Reading) → P ⊎ Fills (before e a) → P ⊎ Fills a
fills-rest e (refused x) f = f
fills-rest e (entries es) f = inr tt

-- steps that follow walk alike
module _ (P : Type 0) (s t : ℕ → Result (Reloc × ℕ) Refusal) (d m : ℕ) (f : Reloc → Reloc) (follows : (j : ℕ) → j < m → Follows P d f (t j) (s (d + j))) where
  follows-after : (u v : Result (Reloc × ℕ) Refusal) (r q : ℕ → Reading) → Follows P d f u v
      → ((next : ℕ) → P ⊎ Fills (q next) → r (d + next) ≡ mapped f (q next)) → P ⊎ Fills (after u q) → after v r ≡ mapped f (after u q)
  unfolding Follows
  follows-after (Err x) v r q c h g = rw (c (⊎_elim (λ p. p) (λ (b : ⊥). absurd b) g))
  follows-after (Ok (e, next)) v r q c h g = rw c (ap (before (f e)) (h next (fills-rest e (q next) g)) ∙ sym (mapped-before f e (q next)))

  pub shift : (k j : ℕ) → P ⊎ Fills (read_from t m k j) → read_from s (d + m) k (d + j) ≡ mapped f (read_from t m k j)
  unfolding read_from
  shift zero j g = refl
  shift (suc k) j g = at (ltb j m) refl (λ next. shift k next)
    where
      at : (b : Bool) → ltb j m ≡ b
          → ((next : ℕ) → P ⊎ Fills (read_from t m k next) → read_from s (d + m) k (d + next) ≡ mapped f (read_from t m k next))
          → more (ltb (d + j) (d + m)) (s (d + j)) (read_from s (d + m) k) ≡ mapped f (more (ltb j m) (t j) (read_from t m k))
      at true e h =
          let l = ltb-true j m e in
          rw (e, lt-ltb (d + j) (d + m) (omega arith))
          (follows-after (t j) (s (d + j)) (read_from s (d + m) k) (read_from t m k) (follows j l) h
          (subst (λ (a : Reading). P ⊎ Fills a) (turn_suc t m k j l) g))
      at false e h =
          let l = ltb-false j m e in
          rw (e, le-ltb (d + j) (d + m) (omega arith))

-- ---- a table after another

-- a step of the first n records of a longer table against the same step of these n alone: where that one reads, both read alike and end inside;
-- where it refuses, both refuse alike if P says so
unfoldable pub Carries : Type 0 → ℕ → Result (Reloc × ℕ) Refusal → Result (Reloc × ℕ) Refusal → Type 0
Carries P n (Err x) u = P → u ≡ Err x
Carries P n (Ok (e, next)) u = (u ≡ Ok (e, next)) × (next ≤ n)

-- a step that stays as it was, and inside
pub carries_same : (P : Type 0) (n : ℕ) (t u : Result (Reloc × ℕ) Refusal) → u ≡ t → Within n t → Carries P n t u
unfolding Carries Within
carries_same P n (Err x) u e w = λ _. e
carries_same P n (Ok (r, next)) u e w = (e, w)

module _ (P : Type 0) (s t : ℕ → Result (Reloc × ℕ) Refusal) (n m : ℕ) (on : Onward s) (carries : (i : ℕ) → i < n → Carries P n (t i) (s i)) where
  abbrev Whole : ℕ → Reading
  Whole = from s (n + m) on

  -- what a step leaves
  left_after : (i : ℕ) (u : Result (Reloc × ℕ) Refusal) (q : ℕ → Reading) → Carries P n u (s i)
      → ((next : ℕ) → i < next → next ≤ n → P ⊎ Fills (q next) → Whole next ≡ joined (q next) (Whole n))
      → P ⊎ Fills (after u q) → after (s i) Whole ≡ joined (after u q) (Whole n)
  unfolding Carries
  left_after i (Err x) q c h f = rw (c (⊎_elim (λ p. p) (λ (b : ⊥). absurd b) f))
  left_after i (Ok (e, next)) q c h f =
      rw c.0
      (ap (before e) (h next (onward s on i c.0 refl) c.1 (fills-rest e (q next) f)) ∙ sym (joined-before e (q next) (Whole n)))

  left_end : (k i : ℕ) → i ≤ n → n ≤ i → Whole i ≡ joined (read_from t n k i) (Whole n)
  left_end k i h l = rw (done-any t n k i l) (ap Whole {x = i} {y = n} (omega arith) ∙ sym (joined-nil (Whole n)))

  left : (k i : ℕ) → i ≤ n → n ≤ i + k → P ⊎ Fills (read_from t n k i) → Whole i ≡ joined (read_from t n k i) (Whole n)
  left zero i h g f = left_end zero i h (omega arith)
  left (suc k) i h g f = at (ltb i n) refl (λ next a b p. left k next b (omega arith) p)
    where
      at : (b : Bool) → ltb i n ≡ b
          → ((next : ℕ) → i < next → next ≤ n → P ⊎ Fills (read_from t n k next) → Whole next ≡ joined (read_from t n k next) (Whole n))
          → Whole i ≡ joined (read_from t n (suc k) i) (Whole n)
      at false e r = left_end (suc k) i h (ltb-false i n e)
      at true e r =
          let l = ltb-true i n e in
          from_step s (n + m) on i (omega arith)
          ∙ rw (turn_suc t n k i l) (left_after i (t i) (read_from t n k) (carries i l) r (subst (λ (a : Reading). P ⊎ Fills a) (turn_suc t n k i l) f))

-- a table after another: the first one's steps carry over, and the second one's follow
module _ (P Q : Type 0) (s t u : ℕ → Result (Reloc × ℕ) Refusal) (n m : ℕ) (f : Reloc → Reloc) (on : Onward s)
    (carries : (i : ℕ) → i < n → Carries P n (t i) (s i)) (follows : (j : ℕ) → j < m → Follows Q n f (u j) (s (n + j))) where
  pub append : P ⊎ Fills (read_all t n) → Q ⊎ Fills (read_all u m) → read_all s (n + m) ≡ joined (read_all t n) (mapped f (read_all u m))
  unfolding read_all from
  append h g =
      from_all s (n + m) on
      ∙ left P s t n m on carries n 0 (omega arith) (omega arith) h
      ∙ ap (joined (read_from t n n 0))
      (ap₂ (read_from s (n + m)) {x = n + m - n} {y = m} {u = n} {v = n + 0} (omega arith) (omega arith) ∙ shift Q s u n m f follows m 0 g)
