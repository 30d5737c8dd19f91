-- Slots, byte by byte.
use mathlib.Core.Path.{◌≡◌, ◌∙◌}
use mathlib.Core.Logic.{⊎_elim}
use mathlib.Core.List.{List, []}
use Prim.Native.Nat.{ℕ, ◌+◌, ◌≤◌, ◌<◌}
use native.Mathlib.Omega.{arith}
use native.Mathlib.Nat.{eq-or-lt_of_le}
use borrow.Author.Tests.{le-ltb}
use lib.ListN.{length, get_or, set}
use lib.Seq.{get_or-set_same, get_or-set_other}
use Rattle.util.specs.Choice.{choose}
use Rattle.replay_list.specs.Lent.{pattern_at, due_at}

-- the slots below i are as is due
abbrev pub Due : List ℕ → List ℕ → ℕ → Type 0
Due slots records i = (k : ℕ) → k < i → get_or slots k 0 ≡ due_at records k

-- with no record the pattern is due
pub due-pattern : (i : ℕ) → due_at [] i ≡ pattern_at i
unfolding due_at choose
due-pattern i = simp (le-ltb i 0 (omega arith))

-- one slot more is as is due
pub due-more : (slots records : List ℕ) (i : ℕ) → Due slots records i → get_or slots i 0 ≡ due_at records i → Due slots records (i + 1)
due-more slots records i h e k l =
    ⊎_elim (λ (q : k ≡ i). rw q e) (λ (w : k < i). h k w) (eq-or-lt_of_le (let le : k ≤ i = omega arith in le))

-- and one that is stored
pub due-stored : (slots records : List ℕ) (i v : ℕ) → i < length slots → Due slots records i → v ≡ due_at records i
    → Due (set slots i v) records (i + 1)
due-stored slots records i v b h e =
    due-more (set slots i v) records i
    (λ k l. get_or-set_other slots i k v 0 (λ q. omega arith) ∙ h k l)
    (get_or-set_same slots i v 0 b ∙ e)
