-- Words that run closely as others run as they do. Carried by what is spared for a replaced word being spared for any.
use mathlib.Core.Path.{◌≡◌, refl}
use mathlib.Core.Bool.{Bool, true, false, not, ◌&&◌, ◌||◌, true≢false}
use mathlib.Core.List.{List, [], ◌∷◌}
use Prim.Native.Nat.{ℕ}
use lib.Dec.{eqb}
use Rattle.arm64_machine.specs.Machine.{Placed, action}
use Rattle.arm64_machine.specs.SameRun.{writes_or, wrote_before, last_writes, replaced_before, spared, spared_by, SameRun, CloseRun}
use Rattle.arm64_machine.proofs.Agree.{weaken}

-- what a replaced word wrote, an earlier word wrote
wrote : (old new : List Placed) (r : ℕ) → wrote_before old r ≡ false → replaced_before old new r ≡ false
wrote [] new r h = refl
wrote (w ∷ []) new r h = refl
wrote (w ∷ u ∷ ws) [] r h = h
wrote (w ∷ u ∷ ws) (n ∷ ns) r h = go (wrote_before (u ∷ ws) r) (not (eqb w.word n.word)) (writes_or false (action w.word) r) h (wrote (u ∷ ws) ns r)
  where
    go : {b : Bool} (a c x : Bool) → (a || x) ≡ false → (a ≡ false → b ≡ false) → (b || (c && x)) ≡ false
    go true c x h f = absurd (true≢false h)
    go false true x h f = rw (f refl) h
    go false false x h f = rw (f refl)

pub closer : (old new : List Placed) (r : ℕ) → spared old r ≡ false → spared_by old new r ≡ false
closer old new r h = go (wrote_before old r) (last_writes old r) h (wrote old new r)
  where
    go : {b : Bool} (a x : Bool) → (a && not x) ≡ false → (a ≡ false → b ≡ false) → (b && not x) ≡ false
    go {b} true x h f = none b (not x) h
      where
        none : (b x : Bool) → x ≡ false → (b && x) ≡ false
        none true x e = e
        none false x e = refl
    go false x h f = rw (f refl)

pub close-same : {old new : List Placed} → CloseRun old new → SameRun old new
close-same {old} {new} c = record { agree = λ o s. weaken (closer old new) (c.agree o s) }
