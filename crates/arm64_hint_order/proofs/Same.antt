-- Two runs over hints that agree: the order of work takes of the hints only their object numbers and which are ADRP_ADRP hints. By induction on lists.
use mathlib.Core.Path.{◌≡◌, refl, ap, ap₂, ◌∙◌}
use mathlib.Core.Bool.{Bool, true, false, ◌&&◌, beq}
use mathlib.Core.List.{List, ◌∷◌, ◌++◌}
use Prim.Native.Nat.{ℕ, zero, suc, ◌-◌, ◌≤◌, ◌<◌, max}
use native.Mathlib.Omega.{arith}
use lib.Dec.{eqb}
use Rattle.util.specs.Choice.{choose}
use Rattle.util.specs.All.{All, empty, more}
use Rattle.util.proofs.All.{all_map}
use Rattle.arm64_hint_order.specs.Lists.{run_list, those, sel, in_pass, order, bound, own_list}
use Rattle.arm64_hint_order.proofs.Lists.{all-range}

-- equal steps
pub run-same : {S : Type 0} (step step' : ℕ → S → S) (n : ℕ) → ((k : ℕ) → k < n → (s : S) → step k s ≡ step' k s) → {l : List ℕ} → All (λ k. k < n) l
    → (s : S) → run_list step l s ≡ run_list step' l s
run-same step step' n same empty s = refl
run-same step step' n same (more {k = k} {l = l} h rest) s = ap (run_list step l) (same k h s) ∙ run-same step step' n same rest (step' k s)

-- equal tests
those-same : (p q : ℕ → Bool) {l : List ℕ} → All (λ k. p k ≡ q k) l → those p l ≡ those q l
those-same p q empty = refl
those-same p q (more {k = k} e rest) = ap₂ (λ (b : Bool) (m : List ℕ). choose b (k ∷ m) m) e (those-same p q rest)

module _ (obj obj' : ℕ → ℕ) (late late' : ℕ → Bool) (n : ℕ) (same_object : (k : ℕ) → k < n → obj k ≡ obj' k)
    (same-pass : (k : ℕ) → k < n → late k ≡ late' k) where
  same-sel : (o : ℕ) (b : Bool) → sel (in_pass obj late o b) 0 n ≡ sel (in_pass obj' late' o b) 0 n
  same-sel o b =
      those-same (in_pass obj late o b) (in_pass obj' late' o b)
      (all_map
      (λ k (l, h). ap₂ (λ (x : ℕ) (y : Bool). eqb x o && beq y b) (same_object k (omega arith)) (same-pass k (omega arith)))
      (all-range 0 (n - 0)))

  same-order : (d o : ℕ) → order obj late n o d ≡ order obj' late' n o d
  same-order zero o = refl
  same-order (suc d) o =
      ap₂ (λ (x y : List ℕ). x ++ y) (ap₂ (λ (x y : List ℕ). x ++ y) (same-sel o false) (same-sel o true)) (same-order d (suc o))

  same-bound : (m : ℕ) → m ≤ n → bound obj m ≡ bound obj' m
  same-bound zero h = refl
  same-bound (suc m) h = ap₂ (λ (x y : ℕ). max x (suc y)) (same-bound m (omega arith)) (same_object m h)

  pub own_same : own_list obj late n ≡ own_list obj' late' n
  own_same = ap (λ (d : ℕ). order obj late n 0 (d - 0)) (same-bound n (omega arith)) ∙ same-order (bound obj' n - 0) 0
