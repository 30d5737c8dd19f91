-- What the parts of a cursor's walk find: the contracts of the functions behind `first` and `next` (RULES 8.31).
use Rattle.std.specs.Prelude.{◌≡◌, Bool, true, ◌&&◌, List, [], ◌∷◌, ℕ, zero, suc, ◌+◌, ◌≤◌, ◌<◌, leb, Option, Some, None}
use Rattle.macho.specs.Hint.{hint_count}
use Rattle.arm64_hint_order.specs.declared.Cursor.{Cursor}
use Rattle.arm64_hint_order.specs.Lists.{passes}
use Rattle.arm64_hint_order.specs.Cursor.{object_at, late_at, pass_of, left_in, rest, Cut, Sound}

-- whether the object numbers of the n first hints never fall
abbrev pub grouped : (ℕ → ℕ) → ℕ → Bool
grouped obj zero = true
grouped obj (suc zero) = true
grouped obj (suc (suc n)) = grouped obj (suc n) && leb (obj n) (obj (suc n))

-- the object number of the hint before position k, 0 before the first
abbrev pub last_of : (ℕ → ℕ) → ℕ → ℕ
last_of obj zero = 0
last_of obj (suc k) = obj k

-- p is a position of the least object number from o on among the first m hints
pub record LeastAt (s : List ℕ) (o m p : ℕ) : Type 0 where
  pub within : p < hint_count s
  pub reached : o ≤ object_at s p
  pub least : (k : ℕ) → k < m → o ≤ object_at s k → object_at s p ≤ object_at s k

-- such a position, none where the first m hints have no object number from o on
abbrev pub Least : List ℕ → ℕ → ℕ → Option ℕ → Type 0
Least s o m (Some p) = LeastAt s o m p
Least s o m None = (k : ℕ) → k < m → object_at s k < o

-- the same among all, and where the list is taken as grouped the object's hints begin there
pub record Positioned (s : List ℕ) (grouped : Bool) (o : ℕ) (r : Option ℕ) : Type 0 where
  pub found : Least s o (hint_count s) r
  pub begins : (p : ℕ) → grouped ≡ true → r ≡ Some p → Cut s (object_at s p) p

-- the hints from p up to e have p's object, and the one at e has not
pub record GroupEnd (s : List ℕ) (p e : ℕ) : Type 0 where
  pub within : e ≤ hint_count s
  pub past : p < e
  pub same : (k : ℕ) → p ≤ k → k < e → object_at s k ≡ object_at s p
  pub other : e < hint_count s → object_at s e ≡ object_at s p → ⊥

-- r is the first position of a pass from lo on and below hi, none where the pass has no such position
abbrev pub Found : List ℕ → ℕ → Bool → ℕ → ℕ → Option ℕ → Type 0
Found s o b lo hi (Some r) = (r < hi) × (pass_of s o b lo hi ≡ r ∷ pass_of s o b (r + 1) hi)
Found s o b lo hi None = pass_of s o b lo hi ≡ []

-- c stands at the start of the object of position p
pub record Entered (s : List ℕ) (p : ℕ) (c : Cursor) : Type 0 where
  pub object : c.object ≡ object_at s p
  pub whole : left_in s c ≡ passes (object_at s) (late_at s) (hint_count s) (object_at s p)
  pub sound : Sound s c

-- what a step in the cursor's object tells: the hint and the cursor after it, or that nothing of the object is left
abbrev pub StepsIn : List ℕ → Cursor → Option (ℕ × Cursor) → Type 0
StepsIn s c (Some (k, d)) = k ∷ rest s d ≡ rest s c
StepsIn s c None = left_in s c ≡ []
