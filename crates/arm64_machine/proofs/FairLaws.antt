-- The rewrites of fair words, where number 31 does not link them and no ADD among them makes it. Carried by taking the tests of a list apart.
use mathlib.Core.Path.{◌≡◌, refl, sym, ap₂, ◌∙◌}
use mathlib.Core.Logic.{◌≢◌}
use mathlib.Core.Bool.{Bool, true, false, ◌&&◌}
use mathlib.Core.List.{List, [], ◌∷◌}
use Prim.Native.Nat.{ℕ, ◌<◌}
use native.Mathlib.Omega.{arith}
use lib.Dec.{eqb}
use borrow.Author.Tests.{eqb-false}
use Rattle.arm64_insn.specs.LoadStoreTable.{Row, load, Mnemonic, general, Widening}
use Rattle.arm64_insn.specs.ManualTargets.{adr_target, literal_target, access_address, add_value}
use Rattle.arm64_insn.specs.Page.{adrp_page}
use Rattle.arm64_insn.specs.Links.{links31, adds31}
use Rattle.arm64_machine.specs.Machine.{Action, adr, adrp, add, access, literal, nop, action, State, Placed, placed, Other}
use Rattle.arm64_machine.specs.SameRun.{writes_or, CloseRun}
use Rattle.arm64_machine.specs.Premises.{reads, stores_any, stores_made, FairWords, WordPremises}
use Rattle.arm64_machine.proofs.Actions.{ranged}
use Rattle.arm64_machine.proofs.Links.{links-is, adds-is}
use Rattle.arm64_machine.proofs.Rewrites as Rewrites
use Rattle.arm64_machine.proofs.Rewrites.{Chain, of-neither}

-- all premises (RULES 9.13 to 9.20) give those that are needed
pub fair : {ws : List Placed} {o : Other} {s : State} → WordPremises ws o s → FairWords ws
fair p = record { aligned = p.aligned; no_store = p.no_store }

-- a register number that is not 31
below-31 : (d : ℕ) → d < 32 → eqb 31 d ≡ false → d < 31
below-31 d l h = let q : d ≢ 31 = λ e. eqb-false 31 d h (sym e) in omega arith

twice : (t : Bool) → (t && t) ≡ false → t ≡ false
twice true h = h
twice false h = refl

-- what ADRP makes for the next word is no register 31
linked-low : (a b d : ℕ) {k : ℕ} → links31 a b ≡ false → action a ≡ adrp d k → reads (action b) 31 ≡ eqb 31 d → d < 31
linked-low a b d h ea eb = below-31 d (ranged a ea) (twice (eqb 31 d) (rw (ea, eb) at (sym (links-is a b) ∙ h)))

-- nor is what ADD makes
added-low : (b : ℕ) {e n i : ℕ} → adds31 b ≡ false → action b ≡ add e n i → e < 31
added-low b {e = e} h eb = below-31 e (ranged b eb).0 (sym (adds-is b eb) ∙ h)

-- what the next word or the one after it does not store
unmade : (w u : ℕ) {x y : Action} → stores_made w u ≡ false → action w ≡ x → action u ≡ y → stores_any y (writes_or false x) ≡ false
unfolding stores_made
unmade w u h ex ey = sym (ap₂ (λ (x y : Action). stores_any y (writes_or false x)) ex ey) ∙ h

-- ADRP, load: NOP and a literal load
pub load-literal : {a b n b' p q d k t i j : ℕ} {row : Row} → links31 a b ≡ false → FairWords (placed a p ∷ placed b q ∷ [])
    → action a ≡ adrp d k → action b ≡ access row t d i
    → action n ≡ nop → action b' ≡ literal row t j → access_address row (adrp_page k p) i ≡ literal_target j q
    → CloseRun (placed a p ∷ placed b q ∷ []) (placed n p ∷ placed b' q ∷ [])
load-literal {a} {b} {d = d} link h ea eb en el e =
    Rewrites.load-literal ea eb en el (linked-low a b d link ea (rw eb)) (ranged b eb).0 (unmade a b h.no_store.0.0 ea eb) e

-- ADRP, ADD: ADR and NOP
pub add-adr : {a b a' n p q d k e i j : ℕ} → links31 a b ≡ false → adds31 b ≡ false → action a ≡ adrp d k → action b ≡ add e d i
    → action a' ≡ adr e j → action n ≡ nop → add_value 1 0 (adrp_page k p) i ≡ adr_target j p
    → CloseRun (placed a p ∷ placed b q ∷ []) (placed a' p ∷ placed n q ∷ [])
add-adr {a} {b} {d = d} link made ea eb er en e =
    Rewrites.add-adr ea eb er en (linked-low a b d link ea (rw eb)) (added-low b made eb) e

-- ADRP, ADD and an access: what the rewrites of all three want
pub chain : {a b c p q r d k e i t j : ℕ} {row : Row} → links31 a b ≡ false → adds31 b ≡ false
    → FairWords (placed a p ∷ placed b q ∷ placed c r ∷ []) → action a ≡ adrp d k → action b ≡ add e d i
    → action c ≡ access row t e j → Chain a b c d k e i t j row
chain {a} {b} {c} {d = d} {e = e} {t = t} {row = row} link made h ea eb ec =
    record {
      adrp-a = ea;
      add-b = eb;
      access-c = ec;
      low-d = linked-low a b d link ea (rw eb);
      low-e = added-low b made eb;
      low-t = (ranged c ec).0;
      kept-d = unmade a c h.no_store.0.1.0 ea ec;
      kept-e = unmade b c h.no_store.1.0.0 eb ec;
    }

-- ADRP, a load of a GOT slot, and an access through what it loaded: NOP, a literal load of the slot, and the access as it was
pub slot-literal : {a b c n b' p q r d k e i l t j z : ℕ} {m : Mnemonic} {g : Widening} {row : Row} → links31 a b ≡ false
    → FairWords (placed a p ∷ placed b q ∷ placed c r ∷ [])
    → action a ≡ adrp d k → action b ≡ access (load m general z g) e d i → action c ≡ access row t e j → action n ≡ nop
    → action b' ≡ literal (load m general z g) e l → access_address (load m general z g) (adrp_page k p) i ≡ literal_target l q
    → CloseRun (placed a p ∷ placed b q ∷ placed c r ∷ []) (placed n p ∷ placed b' q ∷ placed c r ∷ [])
slot-literal {a} {b} {c} {d = d} {e = e} {t = t} {row = row} link h ea eb ec en el w =
    Rewrites.slot-literal ea eb ec en el (linked-low a b d link ea (rw eb)) (ranged b eb).0 (ranged c ec).0
    (of-neither row t (λ r. eqb r d) (λ r. eqb r e) (unmade a c h.no_store.0.1.0 ea ec) (unmade b c h.no_store.1.0.0 eb ec)) w
