-- The order of work as a cursor over the lent hint records (RULES 2.22, 8.31).
use Rattle.std.specs.Prelude.{◌≡◌, Bool, true, List, [], ◌∷◌, ◌++◌, ℕ, suc, ◌+◌, ◌≤◌, ◌<◌, eqb, Option, Some, None}
use Rattle.util.specs.Choice.{choose}
use Rattle.macho.specs.Types.{MCLOH_AdrpAdrp}
use Rattle.macho.specs.Hint.{hint_count, hint_of}
use Rattle.arm64_hint_order.specs.declared.Cursor.{Cursor}
use Rattle.arm64_hint_order.specs.Lists.{sel, in_pass, own_from, own_list}

-- a hint's object number
abbrev pub object_at : List ℕ → ℕ → ℕ
object_at s k = (hint_of s k).object

-- whether a hint is one of the second pass: an ADRP_ADRP hint
abbrev pub late_at : List ℕ → ℕ → Bool
late_at s k = eqb (hint_of s k).kind MCLOH_AdrpAdrp

-- the work of the objects from o on
abbrev pub work_from : List ℕ → ℕ → List ℕ
work_from s = own_from (object_at s) (late_at s) (hint_count s)

-- the order of work of the lent hints
abbrev pub order_of : List ℕ → List ℕ
order_of s = own_list (object_at s) (late_at s) (hint_count s)

-- the hints of a pass from lo up to hi
abbrev pub pass_of : List ℕ → ℕ → Bool → ℕ → ℕ → List ℕ
pass_of s o b lo hi = sel (in_pass (object_at s) (late_at s) o b) lo hi

-- the work that is left of the cursor's object: of the pass at hand, and the second pass where that is still to come
abbrev pub left_in : List ℕ → Cursor → List ℕ
left_in s c = pass_of s c.object c.late c.at c.hi ++ choose c.late [] (pass_of s c.object true c.lo c.hi)

-- the work that is left: of the cursor's object, and that of the later ones
abbrev pub rest : List ℕ → Cursor → List ℕ
rest s c = left_in s c ++ work_from s (suc c.object)

-- an answer as the list that it stands for
abbrev pub following : List ℕ → Option (ℕ × Cursor) → List ℕ
following s (Some (k, c)) = k ∷ rest s c
following s None = []

-- the object numbers never fall, and those from o on begin at position p
pub record Cut (s : List ℕ) (o p : ℕ) : Type 0 where
  pub rises : (i j : ℕ) → i ≤ j → j < hint_count s → object_at s i ≤ object_at s j
  pub below : (k : ℕ) → k < p → object_at s k < o
  pub above : (k : ℕ) → p ≤ k → k < hint_count s → o ≤ object_at s k

-- a cursor over these hints: its object's stand from lo up to hi, and where it takes the list as grouped the later objects' from hi on
pub record Sound (s : List ℕ) (c : Cursor) : Type 0 where
  pub ends : c.hi ≤ hint_count s
  pub holds : (k : ℕ) → k < hint_count s → object_at s k ≡ c.object → (c.lo ≤ k) × (k < c.hi)
  pub cut : c.grouped ≡ true → Cut s (c.object + 1) c.hi

-- a position in the list, with a cursor over it
abbrev pub SoundNext : List ℕ → Option (ℕ × Cursor) → Type 0
SoundNext s (Some (k, c)) = (k < hint_count s) × Sound s c
SoundNext s None = Unit {0}
