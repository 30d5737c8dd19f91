-- Equal states but for some general registers: what one side may write, and that one access on both sides keeps them equal.
-- Carried by what a register holds after it is set (`set_at`), and by cases of an access.
use mathlib.Core.Path.{◌≡◌, refl, sym, ap, ◌∙◌}
use mathlib.Core.Bool.{Bool, true, false, not, ◌&&◌, true≢false}
use Prim.Native.Nat.{ℕ, ◌<◌}
use native.Mathlib.Omega.{arith}
use lib.Dec.{eqb}
use borrow.Author.Tests.{eqb-true, eqb-false, ne_eqb, lt-ltb}
use Rattle.util.specs.Choice.{choose}
use Rattle.util.proofs.Choice.{choose-true, choose-false}
use Rattle.arm64_insn.specs.LoadStoreTable as Table
use Rattle.arm64_insn.specs.LoadStoreTable.{Row, Mnemonic, Registers, general, vector}
use Rattle.arm64_machine.specs.Machine.{AccessKind, load, store, State, read, with, set_x, set_v, set_memory, listed, base, source, moved}
use Rattle.arm64_machine.specs.SameRun.{loads_to, Agree}
use Rattle.arm64_machine.specs.Premises.{stores_of}

-- a state agrees with itself
pub same : (f : ℕ → Bool) (s : State) → Agree f s s
same f s = record { log = refl; memory = refl; sp = refl; v = λ r. refl; x = λ r l h. refl }

-- states that agree on more registers agree on fewer
pub weaken : {f g : ℕ → Bool} {s t : State} → ((r : ℕ) → g r ≡ false → f r ≡ false) → Agree f s t → Agree g s t
weaken h a = record { log = a.log; memory = a.memory; sp = a.sp; v = a.v; x = λ r l e. a.x r l (h r e) }

-- what general register r holds after register d is set
pub set_at : (d u r : ℕ) (s : State) → r < 31 → (set_x d u s).x r ≡ with d u s.x r
unfolding set_x choose
set_at d u r s l = go (eqb d 31) refl
  where
    go : (t : Bool) → eqb d 31 ≡ t → choose t s.x (with d u s.x) r ≡ with d u s.x r
    go true e = let q = eqb-true d 31 e in rw (ne_eqb r d (λ z. omega arith))
    go false e = refl

-- a register that may differ is written on one side only
pub left : (f : ℕ → Bool) (d u : ℕ) {s t : State} → f d ≡ true → Agree f s t → Agree f (set_x d u s) t
left f d u {s} {t} h a =
    unfold set_x in record { log = a.log; memory = a.memory; sp = a.sp; v = a.v; x = λ r l g. set_at d u r s l ∙ go r l g (eqb r d) refl }
  where
    go : (r : ℕ) → r < 31 → f r ≡ false → (b : Bool) → eqb r d ≡ b → with d u s.x r ≡ t.x r
    go r l g true e = absurd (true≢false (sym h ∙ ap f (sym (eqb-true r d e)) ∙ g))
    go r l g false e = choose-false _ _ _ e ∙ a.x r l g

pub flip : {f : ℕ → Bool} {s t : State} → Agree f s t → Agree f t s
flip a = record { log = sym a.log; memory = sym a.memory; sp = sym a.sp; v = λ r. sym (a.v r); x = λ r l h. sym (a.x r l h) }

-- two states that agree with a third agree
pub through-one : {f : ℕ → Bool} {s t u : State} → Agree f s t → Agree f s u → Agree f t u
through-one a b =
    record {
      log = sym a.log ∙ b.log;
      memory = sym a.memory ∙ b.memory;
      sp = sym a.sp ∙ b.sp;
      v = λ r. sym (a.v r) ∙ b.v r;
      x = λ r l h. sym (a.x r l h) ∙ b.x r l h;
    }

pub right : (f : ℕ → Bool) (d u : ℕ) {s t : State} → f d ≡ true → Agree f s t → Agree f s (set_x d u t)
right f d u h a = flip (left f d u h (flip a))

-- of two tests that do not both hold, one that holds
pub and-false : (a b : Bool) → (a && not b) ≡ false → b ≡ false → a ≡ false
and-false true true h e = e
and-false true false h e = h
and-false false b h e = refl

-- a register that is written on both sides agrees
pub sides : (f : ℕ → Bool) (d u : ℕ) {s t : State} → Agree f s t → Agree (λ r. f r && not (eqb r d)) (set_x d u s) (set_x d u t)
sides f d u {s} {t} a =
    unfold set_x in record {
      log = a.log;
      memory = a.memory;
      sp = a.sp;
      v = a.v;
      x = λ r l g. set_at d u r s l ∙ go r l g (eqb r d) refl ∙ sym (set_at d u r t l);
    }
  where
    go : (r : ℕ) → r < 31 → (f r && not (eqb r d)) ≡ false → (b : Bool) → eqb r d ≡ b → with d u s.x r ≡ with d u t.x r
    go r l g true e = choose-true _ _ _ e ∙ sym (choose-true _ _ _ e)
    go r l g false e = choose-false _ _ _ e ∙ a.x r l (and-false (f r) (eqb r d) g e) ∙ sym (choose-false _ _ _ e)

-- so does a vector register
pub vectors : (f : ℕ → Bool) (d u : ℕ) {s t : State} → Agree f s t → Agree f (set_v d u s) (set_v d u t)
unfolding set_v
vectors f d u a = record { log = a.log; memory = a.memory; sp = a.sp; v = λ r. ap (choose (eqb r d) u) (a.v r); x = a.x }

-- one access listed, and one value stored, on both sides
pub lists : (f : ℕ → Bool) (k : AccessKind) (a n u : ℕ) {s t : State} → Agree f s t → Agree f (listed k a n u s) (listed k a n u t)
unfolding listed
lists f k a n u h = record { log = rw h.log; memory = h.memory; sp = h.sp; v = h.v; x = h.x }

pub writes : (f : ℕ → Bool) (n a u : ℕ) {s t : State} → Agree f s t → Agree f (set_memory n a u s) (set_memory n a u t)
unfolding set_memory
writes f n a u h = record { log = h.log; memory = rw h.memory; sp = h.sp; v = h.v; x = h.x }

-- a register that does not differ is the same base, and the same data
pub base_same : (f : ℕ → Bool) (n : ℕ) {s t : State} → n < 32 → (n < 31 → f n ≡ false) → Agree f s t → base n s ≡ base n t
unfolding base
base_same f n {s} {t} l h a = go (eqb n 31) refl
  where
    go : (b : Bool) → eqb n 31 ≡ b → choose (eqb n 31) s.sp (s.x n) ≡ choose (eqb n 31) t.sp (t.x n)
    go true e = choose-true _ _ _ e ∙ a.sp ∙ sym (choose-true _ _ _ e)
    go false e = let q = eqb-false n 31 e in choose-false _ _ _ e ∙ a.x n (omega arith) (h (omega arith)) ∙ sym (choose-false _ _ _ e)

pub source-same : (f : ℕ → Bool) (m : Mnemonic) (c : Registers) (n r : ℕ) {s t : State} → r < 32 → stores_of (Table.store m c n) r f ≡ false → Agree f s t
    → source c r s ≡ source c r t
source-same f m vector n r l h a = a.v r
source-same f m general n r {s} {t} l h a = go (eqb r 31) refl
  where
    go : (b : Bool) → eqb r 31 ≡ b → choose (eqb r 31) 0 (s.x r) ≡ choose (eqb r 31) 0 (t.x r)
    go true e = choose-true _ _ _ e ∙ sym (choose-true _ _ _ e)
    go false e =
        let q = eqb-false r 31 e in
        let i : r < 31 = omega arith in
        choose-false _ _ _ e ∙ a.x r i (rw (lt-ltb r 31 i) at h) ∙ sym (choose-false _ _ _ e)

read_same : (f : ℕ → Bool) (n a : ℕ) {s t : State} → Agree f s t → read n s.memory a ≡ read n t.memory a
read_same f n a h = ap (λ (m : ℕ → ℕ). read n m a) h.memory

and-true : (b : Bool) → (b && true) ≡ false → b ≡ false
and-true b h = and-false b false h refl

-- one access of register t on both sides: what it loads agrees, and what it stores must
pub accesses : (f : ℕ → Bool) (row : Row) (t a : ℕ) {s u : State} → t < 32 → stores_of row t f ≡ false → Agree f s u
    → Agree (λ r. f r && not (loads_to row t r)) (moved row t a s) (moved row t a u)
unfolding moved
accesses f (Table.load m general n g) t a l h k = rw (read_same f n a k) (sides f t _ (lists f load a n _ k))
accesses f (Table.load m vector n g) t a l h k =
    rw (read_same f n a k) (weaken (λ r e. and-true (f r) e) (vectors f t _ (lists f load a n _ k)))
accesses f (Table.store m c n) t a l h k =
    rw (source-same f m c n t l h k) (weaken (λ r e. and-true (f r) e) (writes f n a _ (lists f store a n _ k)))
accesses f (Table.prefetch m) t a l h k = weaken (λ r e. and-true (f r) e) k
accesses f Table.unallocated t a l h k = weaken (λ r e. and-true (f r) e) k

-- an access leaves every general register that it does not load
pub moved_keeps : (row : Row) (t a r : ℕ) (s : State) → r < 31 → loads_to row t r ≡ false → (moved row t a s).x r ≡ s.x r
unfolding moved listed set_v set_memory
moved_keeps (Table.load m general n g) t a r s l h = set_at t _ r _ l ∙ choose-false _ _ _ h
moved_keeps (Table.load m vector n g) t a r s l h = refl
moved_keeps (Table.store m c n) t a r s l h = refl
moved_keeps (Table.prefetch m) t a r s l h = refl
moved_keeps Table.unallocated t a r s l h = refl
