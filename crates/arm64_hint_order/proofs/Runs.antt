-- Runs of hint steps by a list, each local to its footprint: RULES 9.27 and 9.29 on lists, first for any steps, then for those that read and write the words
-- at their places. Carried by `same-run` and by bytes that no other step writes.
use mathlib.Core.Path.{◌≡◌, refl, ap, ◌∙◌}
use mathlib.Core.Bool.{Bool, true}
use mathlib.Core.List.{List, [], ◌∷◌, ◌++◌}
use Prim.Native.Nat.{ℕ, ◌<◌}
use native.Mathlib.Omega.{arith}
use lib.ListN.{length, get_or}
use Rattle.util.specs.All.{All, empty, more}
use Rattle.util.proofs.All.{all_left}
use Rattle.util.proofs.Cases.{same_or}
use Rattle.image.specs.Words.{words_at}
use Rattle.image.specs.Local.{SameBytes, Writes, Local}
use Rattle.image.specs.Steps.{Work, step_by, Steps, foot_of, answered, written, step_of}
use Rattle.image.proofs.Local.{apart-sym, leaves, local-wide}
use Rattle.image.proofs.Words.{words-read}
use Rattle.image.proofs.Steps.{local-step, step-commute}
use Rattle.arm64_hint_order.specs.Lists.{run_list, count, Once, own_list}
use Rattle.arm64_hint_order.specs.Runs.{answers, add_all, Kept, ObjectsApart, Alone}
use Rattle.arm64_hint_order.proofs.Lists.{count-append, count-here, count-there, once-inside}
use Rattle.arm64_hint_order.proofs.Own.{own-once}
use Rattle.arm64_hint_order.proofs.Commute.{same-run}

-- ---- image and tally of a list

module _ {A T : Type 0} (write : ℕ → List ℕ → List ℕ) (out : ℕ → List ℕ → A) (add : A → T → T) where
  pub run-image : (l : List ℕ) (w : Work T) → (run_list (step_by write out add) l w).image ≡ run_list write l w.image
  run-image [] w = refl
  run-image (k ∷ l) w = run-image l (step_by write out add k w)

  pub run-tally : (l : List ℕ) (w : Work T) → (run_list (step_by write out add) l w).tally ≡ add_all add (answers write out l w.image) w.tally
  run-tally [] w = refl
  run-tally (k ∷ l) w = run-tally l (step_by write out add k w)

-- ---- first half

module _ {A T : Type 0} (write : ℕ → List ℕ → List ℕ) (out : ℕ → List ℕ → A) (add : A → T → T)
    (swap : (a b : A) (t : T) → add a (add b t) ≡ add b (add a t)) (foot : ℕ → ℕ → Bool) (n : ℕ)
    (loc : (k : ℕ) → k < n → Local (foot k) (write k) (out k)) where
  -- own order kept, and different objects apart: the run's image and tally
  pub kept_run : (obj : ℕ → ℕ) (late : ℕ → Bool) → ObjectsApart n obj foot → (l : List ℕ) → Once n l → Kept obj late n l → (w : Work T)
      → run_list (step_by write out add) l w ≡ run_list (step_by write out add) (own_list obj late n) w
  kept_run obj late apart l once kept w =
      same-run n obj (step_by write out add) (λ i j hi hj ne. step-commute write out add swap (foot i) (foot j) i j (loc i hi) (loc j hj) (apart i j hi hj ne))
      l (own_list obj late n) (once-inside n l once) (once-inside n (own_list obj late n) (own-once obj late n)) kept w

-- ---- second half

module _ (write : ℕ → List ℕ → List ℕ) (foot : ℕ → ℕ → Bool) (n : ℕ) (writes : (k : ℕ) → k < n → Writes (foot k) (write k)) where
  module _ (k : ℕ) (hk : k < n) (alone : Alone n foot k) where
    -- steps of a list without k leave its bytes
    untouched : {l : List ℕ} → All (λ j. j < n) l → count k l ≡ 0 → (x : List ℕ) → SameBytes (foot k) (run_list write l x) x
    untouched empty c x b g = refl
    untouched (more {k = j} {l = l} h a) c x b g =
        same_or j k
        (λ e. absurd (omega (arith, count-here j k l e)))
        (λ ne.
        untouched a (omega (arith, count-there j k l ne)) (write j x) b g
        ∙ leaves (foot k) (foot j) (apart-sym (alone j h ne)) (write j) (writes j h) x b g)

    touched : {l : List ℕ} → All (λ j. j < n) l → count k l ≡ 1 → (x : List ℕ) → SameBytes (foot k) (run_list write l x) (write k x)
    touched empty c x b g = absurd (omega arith)
    touched (more {k = j} {l = l} h a) c x b g =
        same_or j k
        (λ e. untouched a (omega (arith, count-here j k l e)) (write j x) b g ∙ ap (λ (i : ℕ). get_or (write i x) b 0) e)
        (λ ne.
        touched a (omega (arith, count-there j k l ne)) (write j x) b g
        ∙ (writes k hk).makes (write j x) x ((writes j h).size x) (leaves (foot k) (foot j) (apart-sym (alone j h ne)) (write j) (writes j h) x) b g)

    -- after any list of each hint once, hint k's bytes are what its own step makes of them in the first image
    pub own-bytes : (l : List ℕ) → Once n l → (x : List ℕ) → SameBytes (foot k) (run_list write l x) (write k x)
    own-bytes l once = touched (once-inside n l once) (once.each k hk)

    -- just before its turn they are those of the first image
    pub own_turn : (a b : List ℕ) → Once n (a ++ k ∷ b) → (x : List ℕ) → SameBytes (foot k) (run_list write a x) x
    own_turn a b once =
        untouched (all_left a (k ∷ b) (once-inside n (a ++ k ∷ b) once))
        (omega (arith, count-append k a (k ∷ b), once.each k hk, count-here k k b refl))

-- ---- steps that read and write the words at their places

module _ {A T : Type 0} (s : Steps A T) (n : ℕ) where
  -- different objects' parts apart, each object's own order kept: image and tally are the run's.
  -- `swap`: the tally does not depend on the order of the answers; `inside`: a hint's words lie in its part
  pub parts : (swap : (a b : A) (t : T) → s.add a (s.add b t) ≡ s.add b (s.add a t))
      → (part : ℕ → ℕ → Bool) (inside : (k : ℕ) → k < n → (b : ℕ) → foot_of s k b ≡ true → part k b ≡ true)
      → (obj : ℕ → ℕ) (late : ℕ → Bool) → ObjectsApart n obj part → (l : List ℕ) → Once n l → Kept obj late n l → (w : Work T)
      → run_list (step_of s) l w ≡ run_list (step_of s) (own_list obj late n) w
  parts swap part inside =
      kept_run (written s) (answered s) s.add swap part n
      (λ k h. local-wide (foot_of s k) (part k) (inside k h) (written s k) (answered s k) (local-step s k))

  -- the image of a list does not depend on the tally
  pub image-of : (l : List ℕ) (w : Work T) → (run_list (step_of s) l w).image ≡ run_list (written s) l w.image
  image-of = run-image (written s) (answered s) s.add

  -- nor does a list change the image's length
  pub size : (l : List ℕ) (x : List ℕ) → length (run_list (written s) l x) ≡ length x
  size [] x = refl
  size (k ∷ l) x = size l (written s k x) ∙ (local-step s k).writes.size x

  module _ (k : ℕ) (hk : k < n) (alone : Alone n (foot_of s) k) where
    -- hint k shares no byte: after any list, its words are what its own step makes of the first image's
    pub ends : (l : List ℕ) → Once n l → (x : List ℕ) → words_at (s.places k) (run_list (written s) l x) ≡ words_at (s.places k) (written s k x)
    ends l once x =
        words-read (s.places k) (run_list (written s) l x) (written s k x)
        (own-bytes (written s) (foot_of s) n (λ j h. (local-step s j).writes) k hk alone l once x)

    -- and at its turn they are the first image's, so that it answers as there
    pub turn : (a b : List ℕ) → Once n (a ++ k ∷ b) → (x : List ℕ) → words_at (s.places k) (run_list (written s) a x) ≡ words_at (s.places k) x
    turn a b once x =
        words-read (s.places k) (run_list (written s) a x) x
        (own_turn (written s) (foot_of s) n (λ j h. (local-step s j).writes) k hk alone a b once x)

    pub own-answer : (a b : List ℕ) → Once n (a ++ k ∷ b) → (x : List ℕ) → answered s k (run_list (written s) a x) ≡ answered s k x
    own-answer a b once x = ap (s.answer k) (turn a b once x)
