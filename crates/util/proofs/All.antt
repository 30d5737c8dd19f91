-- What every member of a list has, member by member.
use Rattle.std.proofs.Common.{◌≡◌, ℕ, List, [], ◌∷◌, ◌++◌, refl}
use Rattle.util.specs.All.{All, empty, more}

module _ {P : ℕ → Type 0} where
  pub all_append : {l m : List ℕ} → All P l → All P m → All P (l ++ m)
  all_append empty b = b
  all_append (more h a) b = more h (all_append a b)

  pub all_left : (l m : List ℕ) → All P (l ++ m) → All P l
  all_left [] m a = empty
  all_left (k ∷ l) m (more h a) = more h (all_left l m a)

  pub all_map : {Q : ℕ → Type 0} → ((k : ℕ) → P k → Q k) → {l : List ℕ} → All P l → All Q l
  all_map f empty = empty
  all_map f (more {k = k} h a) = more (f k h) (all_map f a)

  pub all-empty : ((k : ℕ) → P k → ⊥) → {l : List ℕ} → All P l → l ≡ []
  all-empty f empty = refl
  all-empty f (more {k = k} h a) = absurd (f k h)
