-- Two lists with the same hints of each object in the same order leave the same state, where steps of different objects commute.
-- Carried by pulling the first list's head to the front of the second.
use mathlib.Core.Path.{◌≡◌, refl, sym, ap, ◌∙◌}
use mathlib.Core.Logic.{◌≢◌}
use mathlib.Core.List.{List, [], ◌∷◌}
use Prim.Native.Nat.{ℕ, zero, suc, ◌+◌, ◌<◌}
use native.Mathlib.Omega.{arith}
use borrow.Author.Tests.{eq-eqb, ne_eqb}
use lib.Dec.{eqb}
use lib.ListN.{length}
use Rattle.util.specs.All.{All, more}
use Rattle.util.proofs.Choice.{choose-true, choose-false}
use Rattle.util.proofs.Cases.{same_or}
use Rattle.arm64_hint_order.specs.Lists.{run_list, range, of_obj, Once}
use Rattle.arm64_hint_order.proofs.Lists.{once-inside, once-range, once-same}

-- r is m without its first member of k's object, which is k
data Pull (obj : ℕ → ℕ) (k : ℕ) : List ℕ → List ℕ → Type 0 where
  here : {m : List ℕ} → Pull obj k (k ∷ m) m
  there : {j : ℕ} {m r : List ℕ} → obj j ≢ obj k → Pull obj k m r → Pull obj k (j ∷ m) (j ∷ r)

module _ (obj : ℕ → ℕ) where
  mine : (o k : ℕ) (l : List ℕ) → obj k ≡ o → of_obj obj o (k ∷ l) ≡ k ∷ of_obj obj o l
  mine o k l e = choose-true (eqb (obj k) o) _ _ (eq-eqb (obj k) o e)

  other : (o k : ℕ) (l : List ℕ) → obj k ≢ o → of_obj obj o (k ∷ l) ≡ of_obj obj o l
  other o k l e = choose-false (eqb (obj k) o) _ _ (ne_eqb (obj k) o e)

  -- a list whose hints of k's object begin with k
  pull : (k : ℕ) (r m : List ℕ) → of_obj obj (obj k) m ≡ k ∷ r → (m' : List ℕ) × Pull obj k m m'
  pull k r [] e = let z : ◌≡◌ {A = ℕ} 0 1 = cc in absurd (omega arith)
  pull k r (j ∷ m) e =
      same_or (obj j) (obj k)
      (λ q.
      let f : j ∷ of_obj obj (obj k) m ≡ k ∷ r = sym (mine (obj k) j m q) ∙ e in
      let h : j ≡ k = cc in
      (m, rw h here))
      (λ ne. let t = pull k r m (sym (other (obj k) j m ne) ∙ e) in (j ∷ t.0, there ne t.1))

  -- what is pulled out is the head of its object's hints, and the others' stay
  pulled : (o : ℕ) {k : ℕ} {m r : List ℕ} → Pull obj k m r → of_obj obj o m ≡ of_obj obj o (k ∷ r)
  pulled o here = refl
  pulled o {k} (there {j = j} {m = m} {r = r} ne p) =
      same_or (obj j) o
      (λ e.
      let f : obj k ≢ o = λ q. ne (e ∙ sym q) in
      mine o j m e ∙ ap (λ (x : List ℕ). j ∷ x) (pulled o p ∙ other o k r f) ∙ sym (mine o j r e) ∙ sym (other o k (j ∷ r) f))
      (λ e. other o j m e ∙ pulled o p ∙ same_or (obj k) o
      (λ q. mine o k r q ∙ ap (λ (x : List ℕ). k ∷ x) (sym (other o j r e)) ∙ sym (mine o k (j ∷ r) q))
      (λ q. other o k r q ∙ sym (other o j r e) ∙ sym (other o k (j ∷ r) q)))

  all-pulled : {P : ℕ → Type 0} {k : ℕ} {m r : List ℕ} → Pull obj k m r → All P m → All P r
  all-pulled here (more h a) = a
  all-pulled (there ne p) (more h a) = more h (all-pulled p a)

module _ {S : Type 0} (n : ℕ) (obj : ℕ → ℕ) (step : ℕ → S → S)
    (comm : (i j : ℕ) → i < n → j < n → obj i ≢ obj j → (s : S) → step i (step j s) ≡ step j (step i s)) where
  run-pulled : {k : ℕ} {m r : List ℕ} → Pull obj k m r → k < n → All (λ j. j < n) m → (s : S) → run_list step m s ≡ run_list step r (step k s)
  run-pulled here hk a s = refl
  run-pulled {k} (there {j = j} {r = r} ne p) hk (more h a) s =
      run-pulled p hk a (step j s) ∙ ap (run_list step r) (sym (comm j k h hk ne s))

  -- THE THEOREM: own order kept, the same state
  pub same-run : (l m : List ℕ) → All (λ k. k < n) l → All (λ k. k < n) m → ((o : ℕ) → of_obj obj o l ≡ of_obj obj o m)
      → (s : S) → run_list step l s ≡ run_list step m s
  same-run [] [] a b e s = refl
  same-run [] (k ∷ m) a b e s =
      let f : [] ≡ k ∷ of_obj obj (obj k) m = e (obj k) ∙ mine obj (obj k) k m refl in
      let z : ◌≡◌ {A = ℕ} 0 1 = cc in
      absurd (omega arith)
  same-run (k ∷ l) m (more h a) b e s =
      let t = pull obj k (of_obj obj (obj k) l) m (sym (e (obj k)) ∙ mine obj (obj k) k l refl) in
      same-run l t.0 a (all-pulled obj t.1 b) (λ o. rest o t.0 (e o ∙ pulled obj o t.1)) (step k s)
      ∙ sym (run-pulled t.1 h b s)
    where
      rest : (o : ℕ) (r : List ℕ) → of_obj obj o (k ∷ l) ≡ of_obj obj o (k ∷ r) → of_obj obj o l ≡ of_obj obj o r
      rest o r q =
          same_or (obj k) o
          (λ p.
          let f : k ∷ of_obj obj o l ≡ k ∷ of_obj obj o r = sym (mine obj o k l p) ∙ q ∙ mine obj o k r p in
          cc)
          (λ p. sym (other obj o k l p) ∙ q ∙ other obj o k r p)

-- a list of each hint once has n steps
pub once-length : (n : ℕ) (l : List ℕ) → Once n l → length l ≡ n
once-length n l once =
    let same : run_list (λ _ s. suc s) l 0 ≡ run_list (λ _ s. suc s) (range 0 n) 0
    = same-run n (λ j. j) (λ _ s. suc s) (λ _ _ _ _ _ s. refl) l (range 0 n) (once-inside n l once) (once-inside n (range 0 n) (once-range n))
    (once-same n l (range 0 n) once (once-range n)) 0 in
    omega (arith, steps l 0, steps (range 0 n) 0, length-range 0 n)
  where
    steps : (l : List ℕ) (s : ℕ) → run_list (λ _ s. suc s) l s ≡ length l + s
    steps [] s = omega arith
    steps (k ∷ l) s = omega (arith, steps l (suc s))

    length-range : (lo n : ℕ) → length (range lo n) ≡ n
    length-range lo zero = refl
    length-range lo (suc n) = ap suc (length-range (suc lo) n)
