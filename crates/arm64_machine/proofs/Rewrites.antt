-- Each rewrite of a hint rule runs as the words that it replaces. Carried by `accesses`: the rewritten words make the same address, and what
-- they leave unmade is a register that a replaced word wrote.
use mathlib.Core.Path.{◌≡◌, refl, sym, ap, ◌∙◌}
use mathlib.Core.Bool.{Bool, true, false, not, ◌&&◌, ◌||◌, true≢false}
use mathlib.Core.List.{List, [], ◌∷◌}
use Prim.Native.Nat.{ℕ, ◌<◌}
use native.Mathlib.Omega.{arith}
use lib.Dec.{eqb, ltb}
use borrow.Author.Tests.{eq-eqb, ne_eqb}
use Rattle.util.specs.Choice.{choose}
use Rattle.util.proofs.Choice.{choose-true, choose-false}
use Rattle.arm64_insn.specs.LoadStoreTable.{Row, load, store, prefetch, unallocated, Mnemonic, general, vector, Widening}
use Rattle.arm64_insn.specs.ManualTargets.{adr_target, literal_target, access_address, add_value}
use Rattle.arm64_insn.specs.Page.{adrp_page}
use Rattle.arm64_machine.specs.Machine.{Action, adr, adrp, add, access, literal, nop, action}
use Rattle.arm64_machine.specs.Machine.{State, Placed, placed, Other, set_x, base, moved, run}
use Rattle.arm64_machine.specs.SameRun.{loads_to, last_writes, spared_by, Agree, CloseRun}
use Rattle.arm64_machine.specs.Premises.{stores_of}
use Rattle.arm64_machine.proofs.Agree.{same, weaken, set_at, left, right, sides, base_same, accesses, moved_keeps}

-- words run as themselves
pub unchanged : (ws : List Placed) → CloseRun ws ws
unchanged ws = record { agree = λ o s. same (spared_by ws ws) (run o ws s) }

-- a destination below 31 is no stack pointer
not-31 : (d : ℕ) → d < 31 → eqb d 31 ≡ false
not-31 d l = ne_eqb d 31 (λ q. omega arith)

-- the base of an access is a register below 31 that was just set
pub base-set : (d u : ℕ) (s : State) → d < 31 → base d (set_x d u s) ≡ u
unfolding base
base-set d u s l = choose-false _ _ _ (not-31 d l) ∙ set_at d u d s l ∙ choose-true _ _ _ (eq-eqb d d refl)

-- a number is equal to itself
pub one : (d : ℕ) → eqb d d ≡ true
one d = eq-eqb d d refl

-- words of different actions are different
unlike : (a b : ℕ) {x y : Action} → action a ≡ x → action b ≡ y → (x ≡ y → ◌≡◌ {A = ℕ} 0 1) → eqb a b ≡ false
unlike a b ea eb clash = ne_eqb a b (λ q. let z = clash (sym ea ∙ ap action q ∙ eb) in omega arith)

-- by states that agree but for registers that are spared
by-states : {old new : List Placed} (f : ℕ → Bool) → ((r : ℕ) → spared_by old new r ≡ false → f r ≡ false)
    → ((o : Other) (s : State) → Agree f (run o old s) (run o new s)) → CloseRun old new
by-states f h a = record { agree = λ o s. weaken h (a o s) }

no_both : (b : Bool) → (b && not b) ≡ false
no_both true = refl
no_both false = refl

-- ADRP, ADRP: the second, which makes the same page in the same register, becomes NOP
pub second-dropped : {a b n p q d k l : ℕ} → action a ≡ adrp d k → action b ≡ adrp d l → action n ≡ nop → adrp_page k p ≡ adrp_page l q
    → CloseRun (placed a p ∷ placed b q ∷ []) (placed a p ∷ placed n q ∷ [])
second-dropped {d = d} ea eb en h =
    by-states (λ r. eqb r d && not (eqb r d)) (λ r _. no_both (eqb r d))
    (λ o s. rw (ea, eb, en, ← h) (sides (λ r. eqb r d) d _ (left (λ r. eqb r d) d _ (one d) (same _ s))))

-- ADRP, load: NOP and a literal load
pub load-literal : {a b n b' p q d k t i j : ℕ} {row : Row} → action a ≡ adrp d k → action b ≡ access row t d i → action n ≡ nop
    → action b' ≡ literal row t j → d < 31 → t < 32 → stores_of row t (λ r. eqb r d) ≡ false → access_address row (adrp_page k p) i ≡ literal_target j q
    → CloseRun (placed a p ∷ placed b q ∷ []) (placed n p ∷ placed b' q ∷ [])
load-literal {a} {n = n} {p = p} {d = d} {k = k} {t = t} {row = row} ea eb en el hd ht kept h =
    by-states (λ r. eqb r d && not (loads_to row t r)) (λ r e. rw (unlike a n ea en (λ q. cc), ea, eb) at e)
    (λ o s.
    rw (ea, eb, en, el, base-set d (adrp_page k p) s hd, h)
    (accesses (λ r. eqb r d) row t _ ht kept (left (λ r. eqb r d) d _ (one d) (same _ s))))

-- ADRP, ADD: ADR and NOP
pub add-adr : {a b a' n p q d k e i j : ℕ} → action a ≡ adrp d k → action b ≡ add e d i → action a' ≡ adr e j → action n ≡ nop
    → d < 31 → e < 31 → add_value 1 0 (adrp_page k p) i ≡ adr_target j p
    → CloseRun (placed a p ∷ placed b q ∷ []) (placed a' p ∷ placed n q ∷ [])
unfolding choose
add-adr {a} {a' = a'} {p = p} {d = d} {k = k} {e = e} ea eb er en hd he h =
    by-states (λ r. eqb r d && not (eqb r e)) (λ r z. rw (unlike a a' ea er (λ q. cc), ea, eb) at z)
    (λ o s.
    rw (ea, eb, er, en, base-set d (adrp_page k p) s hd, h, not-31 e he)
    (sides (λ r. eqb r d) e _ (left (λ r. eqb r d) d _ (one d) (same _ s))))

or-true : (b c : Bool) → c ≡ true → (b || c) ≡ true
or-true true c h = refl
or-true false c h = h

or-false : (b : Bool) → (b || false) ≡ b
or-false true = refl
or-false false = refl

-- the two registers that ADRP and ADD make
abbrev pub made : ℕ → ℕ → ℕ → Bool
made d e r = eqb r e || eqb r d

made-d : (d e : ℕ) → made d e d ≡ true
made-d d e = or-true (eqb d e) _ (one d)

made-e : (d e : ℕ) → made d e e ≡ true
made-e d e = rw (one e)

-- a store of neither of two sets of registers
pub of-neither : (row : Row) (t : ℕ) (f g : ℕ → Bool) → stores_of row t f ≡ false → stores_of row t g ≡ false → stores_of row t (λ r. g r || f r) ≡ false
of-neither (load m c n z) t f g p q = refl
of-neither (store m general n) t f g p q = go (ltb t 31) (f t) (g t) p q
  where
    go : (l x y : Bool) → (l && x) ≡ false → (l && y) ≡ false → (l && (y || x)) ≡ false
    go true x y p q = rw q p
    go false x y p q = refl
of-neither (store m vector n) t f g p q = refl
of-neither (prefetch m) t f g p q = refl
of-neither unallocated t f g p q = refl

-- ADRP, ADD on what it made, and an access through what ADD made, which stores neither
pub record Chain (a b c d k e i t j : ℕ) (row : Row) : Type 0 where
  pub adrp-a : action a ≡ adrp d k
  pub add-b : action b ≡ add e d i
  pub access-c : action c ≡ access row t e j
  pub low-d : d < 31
  pub low-e : e < 31
  pub low-t : t < 32
  pub kept-d : stores_of row t (λ m. eqb m d) ≡ false
  pub kept-e : stores_of row t (λ m. eqb m e) ≡ false

module _ {a b c d k e i t j : ℕ} {row : Row} (h : Chain a b c d k e i t j row) where
  -- words that make the same access, from a state that differs in the registers f only
  alike : (p q r : ℕ) (new : List Placed) (f : ℕ → Bool) (z : State → State) → stores_of row t f ≡ false
      → ((o : Other) (s : State) → run o new s ≡ moved row t (access_address row (add_value 1 0 (adrp_page k p) i) j) (z s))
      → ((s : State) → Agree f (set_x e (add_value 1 0 (adrp_page k p) i) (set_x d (adrp_page k p) s)) (z s))
      → (o : Other) (s : State)
      → Agree (λ m. f m && not (last_writes (placed a p ∷ placed b q ∷ placed c r ∷ []) m)) (run o (placed a p ∷ placed b q ∷ placed c r ∷ []) s) (run o new s)
  unfolding choose
  alike p q r new f z kept g y o s =
      rw (
        h.adrp-a,
        h.add-b,
        h.access-c,
        base-set d (adrp_page k p) s h.low-d,
        not-31 e h.low-e,
        base-set e (add_value 1 0 (adrp_page k p) i) (set_x d (adrp_page k p) s) h.low-e,
        g o s,
      )
      (accesses f row t _ h.low-t kept (y s))

  -- by words that replace both ADRP and ADD
  by_both : {p q r n m : ℕ} {new : List Placed} (z : State → State) → eqb a n ≡ false → eqb b m ≡ false
      → ((o : Other) (s : State) → run o (placed n p ∷ placed m q ∷ new) s ≡ moved row t (access_address row (add_value 1 0 (adrp_page k p) i) j) (z s))
      → ((s : State) → Agree (made d e) s (z s))
      → CloseRun (placed a p ∷ placed b q ∷ placed c r ∷ []) (placed n p ∷ placed m q ∷ new)
  by_both {p} {q} {r} {n} {m} {new} z first second g y =
      by-states _ (λ j w. rw (first, second, h.adrp-a, h.add-b) at w)
      (alike p q r (placed n p ∷ placed m q ∷ new) (made d e) z (of-neither row t (λ m. eqb m d) (λ m. eqb m e) h.kept-d h.kept-e) g
      (λ s. left (made d e) e _ (made-e d e) (left (made d e) d _ (made-d d e) (y s))))

  -- NOP, NOP and a literal load
  pub add-literal : {n c' p q r l : ℕ} → action n ≡ nop → action c' ≡ literal row t l → access_address row (add_value 1 0 (adrp_page k p) i) j ≡ literal_target l r
      → CloseRun (placed a p ∷ placed b q ∷ placed c r ∷ []) (placed n p ∷ placed n q ∷ placed c' r ∷ [])
  add-literal {n} en el w =
      by_both (λ s. s) (unlike a n h.adrp-a en (λ q. cc)) (unlike b n h.add-b en (λ q. cc)) (λ o s. rw (en, el, w)) (λ s. same _ s)

  -- ADR, NOP and the access through ADR's register
  pub add-adr-access : {a' n c' p q r l j' : ℕ} → action a' ≡ adr e l → action n ≡ nop → action c' ≡ access row t e j'
      → access_address row (add_value 1 0 (adrp_page k p) i) j ≡ access_address row (adr_target l p) j'
      → CloseRun (placed a p ∷ placed b q ∷ placed c r ∷ []) (placed a' p ∷ placed n q ∷ placed c' r ∷ [])
  add-adr-access {a'} {n} {p = p} {l = l} er en el w =
      by_both (λ s. set_x e (adr_target l p) s) (unlike a a' h.adrp-a er (λ q. cc)) (unlike b n h.add-b en (λ q. cc))
      (λ o s. rw (er, en, el, base-set e (adr_target l p) s h.low-e, w))
      (λ s. right (made d e) e _ (made-e d e) (same _ s))

  -- ADRP, NOP and the access through ADRP's register: alike but for the ADD's
  pub folded-alike : (n c' p q r : ℕ) {j' : ℕ} → action n ≡ nop → action c' ≡ access row t d j'
      → access_address row (add_value 1 0 (adrp_page k p) i) j ≡ access_address row (adrp_page k p) j'
      → (o : Other) (s : State)
      → Agree (λ m. eqb m e && not (last_writes (placed a p ∷ placed b q ∷ placed c r ∷ []) m))
      (run o (placed a p ∷ placed b q ∷ placed c r ∷ []) s) (run o (placed a p ∷ placed n q ∷ placed c' r ∷ []) s)
  folded-alike n c' p q r en el w =
      alike p q r (placed a p ∷ placed n q ∷ placed c' r ∷ []) (λ m. eqb m e) (λ s. set_x d (adrp_page k p) s) h.kept-e
      (λ o s. rw (h.adrp-a, en, el, base-set d (adrp_page k p) s h.low-d, w))
      (λ s. left (λ m. eqb m e) e _ (one e) (same _ (set_x d (adrp_page k p) s)))

  -- of the two words before the last only the ADD is replaced
  pub folded : {n c' p q r j' : ℕ} → action n ≡ nop → action c' ≡ access row t d j'
      → access_address row (add_value 1 0 (adrp_page k p) i) j ≡ access_address row (adrp_page k p) j'
      → CloseRun (placed a p ∷ placed b q ∷ placed c r ∷ []) (placed a p ∷ placed n q ∷ placed c' r ∷ [])
  folded {n} {c'} {p} {q} {r} en el w =
      by-states _ (λ m z. rw (one a, unlike b n h.add-b en (λ q. cc), h.add-b, or-false (eqb m e)) at z) (folded-alike n c' p q r en el w)

  -- which leaves its page in ADRP's register, unless the access loads that
  pub folded-page : (n c' p q r : ℕ) {j' : ℕ} → action n ≡ nop → action c' ≡ access row t d j'
      → last_writes (placed a p ∷ placed b q ∷ placed c r ∷ []) d ≡ false
      → (o : Other) (s : State) → (run o (placed a p ∷ placed n q ∷ placed c' r ∷ []) s).x d ≡ adrp_page k p
  folded-page n c' p q r en el w o s =
      rw (h.adrp-a, en, el)
      (moved_keeps row t _ d (set_x d (adrp_page k p) s) h.low-d (rw h.access-c at w) ∙ set_at d _ d s h.low-d ∙ choose-true _ _ _ (one d))

neither : (a b c : Bool) → (a || b) ≡ false → (b && c) ≡ false
neither true b c h = absurd (true≢false h)
neither false b c h = rw h

pub never : (a b : Bool) → b ≡ true → (a && not b) ≡ false
never true b h = rw h
never false b h = refl

-- ADRP, a load of a GOT slot, and an access through what it loaded: NOP, a literal load of the slot, and the access as it was
pub slot-literal : {a b c n b' p q r d k e i l t j z : ℕ} {m : Mnemonic} {g : Widening} {row : Row} → action a ≡ adrp d k
    → action b ≡ access (load m general z g) e d i → action c ≡ access row t e j → action n ≡ nop → action b' ≡ literal (load m general z g) e l
    → d < 31 → e < 32 → t < 32 → stores_of row t (made d e) ≡ false → access_address (load m general z g) (adrp_page k p) i ≡ literal_target l q
    → CloseRun (placed a p ∷ placed b q ∷ placed c r ∷ []) (placed n p ∷ placed b' q ∷ placed c r ∷ [])
slot-literal {a} {b} {n = n} {b' = b'} {p = p} {q = q} {d = d} {k = k} {e = e} {l = l} {t = t} {z = z} {m = m} {g = g} {row = row}
    ea eb ec en el hd he ht kept h =
    by-states (λ j. made d e j && not (loads_to row t j))
    (λ j w. rw (unlike a n ea en (λ q. cc), unlike b b' eb el (λ q. cc), ea, eb, ec) at w)
    (λ o s.
    rw (ea, eb, ec, en, el, base-set d (adrp_page k p) s hd, h, base_same loaded e he (λ l. never (eqb e d) (eqb e e) (one e)) (ends s))
    (accesses (made d e) row t _ ht kept (weaken (λ j w. neither (eqb j e) (eqb j d) _ w) (ends s))))
  where
    loaded : ℕ → Bool
    loaded j = eqb j d && not (eqb j e)

    slot : State → State
    slot s = moved (load m general z g) e (literal_target l q) s

    ends : (s : State) → Agree loaded (slot (set_x d (adrp_page k p) s)) (slot s)
    ends s = accesses (λ j. eqb j d) (load m general z g) e _ he refl (left (λ j. eqb j d) d _ (one d) (same _ s))
