-- Lists of hint positions, and the order of work of a run (RULES 8.27: objects by rising number, in each the two passes
-- by list position). `obj` gives a hint's object number, `late` whether it is an ADRP_ADRP hint, n is the number of hints.
use Rattle.std.specs.Prelude.{◌≡◌, Bool, true, false, ◌&&◌, List, [], ◌∷◌, ◌++◌, ℕ, zero, suc, ◌-◌, ◌≤◌, ◌<◌, max, eqb, length}
use Rattle.std.specs.Bool.{beq}
use Rattle.util.specs.Choice.{choose}

-- the state after the steps of a list, the first of the list first
abbrev pub run_list : {S : Type 0} → (ℕ → S → S) → List ℕ → S → S
run_list step [] s = s
run_list step (k ∷ l) s = run_list step l (step k s)

-- the n numbers from lo on
abbrev pub range : ℕ → ℕ → List ℕ
range lo zero = []
range lo (suc n) = lo ∷ range (suc lo) n

-- the members that pass a test, in the list's order
abbrev pub those : (ℕ → Bool) → List ℕ → List ℕ
those p [] = []
those p (k ∷ l) = choose (p k) (k ∷ those p l) (those p l)

-- how often k stands in a list
abbrev pub count : ℕ → List ℕ → ℕ
count k l = length (those (λ j. eqb j k) l)

-- the hints of the object o, in the list's order
abbrev pub of_obj : (ℕ → ℕ) → ℕ → List ℕ → List ℕ
of_obj obj o = those (λ k. eqb (obj k) o)

-- each of the n hints once, and nothing else
pub record Once (n : ℕ) (l : List ℕ) : Type 0 where
  pub each : (k : ℕ) → k < n → count k l ≡ 1
  pub none : (k : ℕ) → n ≤ k → count k l ≡ 0

-- the positions from lo up to hi that pass a test
abbrev pub sel : (ℕ → Bool) → ℕ → ℕ → List ℕ
sel p lo hi = those p (range lo (hi - lo))

-- whether hint k is one of the object o's first pass (b is false) or second pass
abbrev pub in_pass : (ℕ → ℕ) → (ℕ → Bool) → ℕ → Bool → ℕ → Bool
in_pass obj late o b k = eqb (obj k) o && beq (late k) b

-- the two passes over the hints of the object o
abbrev pub passes : (ℕ → ℕ) → (ℕ → Bool) → ℕ → ℕ → List ℕ
passes obj late n o = sel (in_pass obj late o false) 0 n ++ sel (in_pass obj late o true) 0 n

-- the work of d objects by rising number, from o on
abbrev pub order : (ℕ → ℕ) → (ℕ → Bool) → ℕ → ℕ → ℕ → List ℕ
order obj late n o zero = []
order obj late n o (suc d) = passes obj late n o ++ order obj late n (suc o) d

-- one more than the largest object number
abbrev pub bound : (ℕ → ℕ) → ℕ → ℕ
bound obj zero = 0
bound obj (suc n) = max (bound obj n) (suc (obj n))

-- the work of the objects from o on
abbrev pub own_from : (ℕ → ℕ) → (ℕ → Bool) → ℕ → ℕ → List ℕ
own_from obj late n o = order obj late n o (bound obj n - o)

-- the whole run's order of work
abbrev pub own_list : (ℕ → ℕ) → (ℕ → Bool) → ℕ → List ℕ
own_list obj late n = own_from obj late n 0
