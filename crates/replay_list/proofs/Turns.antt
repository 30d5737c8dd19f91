-- A turn of a replay.
use Rattle.std.proofs.Common.{ℕ, List, ◌++◌, ◌≡◌, subst, Option, IfOk, OnOk, Result, Ok, Err}
use Rattle.std.specs.Io.KnownBytes.{Appends}
use Rattle.std.proofs.KnownBytes.{Appends-trans}
use Rattle.replay_list.specs.declared.seen.Seen.{Seen}
use Rattle.replay_list.specs.Replay.{Turn, turn_text}

-- of what is answered, by what holds of each answer and what holds on each
pub each_ok : {A E : Type 0} (r : Result A E) (P Q : A → Type 0) (S : Type 0) → OnOk r S → IfOk r P → ((x : A) → S → P x → Q x) → IfOk r Q
each_ok (Ok x) P Q S s p f = f x s p
each_ok (Err x) P Q S s p f = tt

-- what a turn writes comes after what those before it wrote
pub one_more : (a b c : Option (List ℕ)) (bs : List ℕ) {s s' : Seen} (t : Turn) → s ≡ s' → Appends a b bs → Appends b c (turn_text s t)
    → Appends a c (bs ++ turn_text s' t)
one_more a b c bs t e p q = subst (λ x. Appends a c (bs ++ turn_text x t)) e (Appends-trans a b c bs _ p q)
