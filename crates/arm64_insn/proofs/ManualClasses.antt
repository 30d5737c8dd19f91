-- No word matches two diagrams, by one computed test of all pairs; so the order in which decoding tests them does not matter.
use mathlib.Core.Logic.{◌≢◌}
use mathlib.Core.Path.{◌≡◌, refl, ◌∙◌}
use mathlib.Core.Bool.{Bool, true, false, ◌||◌, not}
use mathlib.Core.List.{List, [], ◌∷◌}
use Prim.Native.Nat.{ℕ, zero, suc, ◌<◌}
use native.Mathlib.Nat.{not-suc-le-zero, le_of_suc-le-suc}
use native.Mathlib.Omega.{arith}
use borrow.Author.Tests.{not-true, ne_eqb}
use lib.Dec.{eqb}
use lib.Bits.{bit_and}
use lib.ListN.{length, get_or}
use Rattle.util.specs.Choice.{choose}
use Rattle.util.specs.Diagram.{Part, matches, mask_of, value_of, sound}
use Rattle.util.proofs.Choice.{choose-true, choose-false}
use Rattle.util.proofs.Below.{every, every-at}
use Rattle.util.proofs.Diagram.{apart}
use Rattle.arm64_insn.specs.Manual.{none, Class, class, classes, form_by, decode}

-- class k of a list
abbrev pub class_at : List Class → ℕ → Class
class_at cs k = get_or cs k (class [] (λ w. none))

-- the diagram of class k
abbrev pub diagram_at : ℕ → List Part
diagram_at k = (class_at classes k).diagram

-- whether two diagrams agree on the bits that both fix
abbrev agree : List Part → List Part → Bool
agree ps qs = eqb (bit_and (value_of ps) (mask_of qs)) (bit_and (value_of qs) (mask_of ps))

all_sound : every (λ i. sound (diagram_at i)) 9 ≡ true
unfolding every choose
all_sound = refl

all-unlike : every (λ i. every (λ j. eqb i j || not (agree (diagram_at i) (diagram_at j))) 9) 9 ≡ true
unfolding every choose
all-unlike = refl

-- no word matches two classes
pub one_class : (i j w : ℕ) → i < 9 → j < 9 → i ≢ j → matches (diagram_at i) w ≡ true → matches (diagram_at j) w ≡ false
one_class i j w hi hj n e =
    let u = every-at (λ j. eqb i j || not (agree (diagram_at i) (diagram_at j))) 9 (every-at _ 9 all-unlike i hi) j hj in
    apart (diagram_at i) (diagram_at j) w (every-at _ 9 all_sound i hi) (every-at _ 9 all_sound j hj) (not-true _ (rw (ne_eqb i j n) at u)) e

module _ (w : ℕ) where
  -- the form by the first class that matches
  first : (cs : List Class) (k : ℕ) → k < length cs → ((j : ℕ) → j < k → matches (class_at cs j).diagram w ≡ false)
      → matches (class_at cs k).diagram w ≡ true → form_by cs w ≡ (class_at cs k).form_of w
  first [] k l f e = absurd (not-suc-le-zero l)
  first (c ∷ cs) zero l f e = choose-true _ _ _ e
  first (c ∷ cs) (suc k) l f e =
      choose-false _ _ _ (f 0 (omega arith)) ∙ first cs k (le_of_suc-le-suc l) (λ j h. f (suc j) (omega arith)) e

  -- a word that matches a class has its form
  pub by-class : (k : ℕ) → k < 9 → matches (diagram_at k) w ≡ true → decode w ≡ (class_at classes k).form_of w
  unfolding decode
  by-class k l e = first classes k l (λ j h. one_class k j w l (omega arith) (λ q. omega arith) e) e
