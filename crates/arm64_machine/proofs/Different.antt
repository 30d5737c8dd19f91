-- Rewrites that do not run alike: each is refuted from one state and one meaning of other words. Carried by the entry that an access lists
-- and by what a register holds after it is set.
use mathlib.Core.Path.{◌≡◌, refl, sym, ap, ◌∙◌}
use mathlib.Core.Logic.{◌≢◌}
use mathlib.Core.Bool.{true, true≢false}
use mathlib.Core.List.{List, [], ◌∷◌}
use Prim.Native.Nat.{ℕ, suc, ◌<◌}
use native.Mathlib.Omega.{arith}
use lib.Dec.{eqb}
use Rattle.util.specs.Choice.{choose}
use Rattle.util.proofs.Choice.{choose-true}
use Rattle.arm64_insn.specs.LoadStoreTable as Table
use Rattle.arm64_insn.specs.LoadStoreTable.{Row, Mnemonic, general, vector, Widening, zeros, sign64, moves, widened}
use Rattle.arm64_insn.specs.ManualTargets.{literal_target, access_address}
use Rattle.arm64_insn.specs.Page.{adrp_page}
use Rattle.arm64_machine.specs.Machine.{Access, adrp, access, literal, nop, other, action, State, placed, Other}
use Rattle.arm64_machine.specs.Machine.{set_x, set_v, set_memory, listed, read, moved}
use Rattle.arm64_machine.specs.SameRun.{SameRun}
use Rattle.arm64_machine.proofs.Agree.{set_at}
use Rattle.arm64_machine.proofs.Actions.{ranged}
use Rattle.arm64_machine.proofs.Rewrites.{base-set, one, never}

-- a state whose general registers all hold u and whose bytes all hold b
abbrev filled : ℕ → ℕ → State
filled u b = record { x = λ r. u; sp = 0; v = λ r. 0; memory = λ a. b; log = [] }

-- other words that do nothing
abbrev idle : Other
idle w p x sp v memory = record { x = x; sp = sp; v = v; memory = memory; log = [] }

-- one more than the address of the first access; 0 where there is none
abbrev first : List Access → ℕ
first [] = 0
first (e ∷ l) = suc e.address

-- an access is listed at its address
listed_at : (row : Row) (t a : ℕ) (s : State) → moves row ≡ true → s.log ≡ [] → first (moved row t a s).log ≡ suc a
unfolding moved listed set_x set_v set_memory
listed_at (Table.load m general n g) t a s h e = rw e
listed_at (Table.load m vector n g) t a s h e = rw e
listed_at (Table.store m c n) t a s h e = rw e
listed_at (Table.prefetch m) t a s h e = absurd (true≢false (sym h))
listed_at Table.unallocated t a s h e = absurd (true≢false (sym h))

-- a load or store, and NOP
pub access-dropped : (w n : ℕ) {p rt rn i : ℕ} {row : Row} → action w ≡ access row rt rn i → action n ≡ nop → SameRun (placed w p ∷ []) (placed n p ∷ []) → ⊥
access-dropped w n {row = row} ew en h =
    let e = (h.agree idle (filled 0 0)).log in
    let z = sym (listed_at row _ _ (filled 0 0) (ranged w ew).2 refl) ∙ ap first (rw (ew, en) at e) in
    omega arith

-- setting a register lists nothing, and changes no memory
set-log : (d u : ℕ) (s : State) → (set_x d u s).log ≡ s.log
unfolding set_x
set-log d u s = refl

set-memory : (d u : ℕ) (s : State) → (set_x d u s).memory ≡ s.memory
unfolding set_x
set-memory d u s = refl

-- ADRP and a load or store; NOP and the literal load of another address
pub literal-elsewhere : (a b n l : ℕ) {p q d k t i j : ℕ} {row : Row} → action a ≡ adrp d k → action b ≡ access row t d i → action n ≡ nop
    → action l ≡ literal row t j → d < 31 → access_address row (adrp_page k p) i ≢ literal_target j q
    → SameRun (placed a p ∷ placed b q ∷ []) (placed n p ∷ placed l q ∷ []) → ⊥
literal-elsewhere a b n l {p = p} {q = q} {d = d} {k = k} {t = t} {i = i} {j = j} {row = row} ea eb en el hd ne h =
    let s = filled 0 0 in
    let z : suc (access_address row (adrp_page k p) i) ≡ suc (literal_target j q) =
    sym (listed_at row t _ (set_x d (adrp_page k p) s) (ranged b eb).2 (set-log d _ s))
    ∙ ap first (rw (ea, eb, en, el, base-set d (adrp_page k p) s hd) at (h.agree idle s).log)
    ∙ listed_at row t _ s (ranged b eb).2 refl in
    ne (omega arith)

-- a register that is set holds what it was set to
set_here : (d u : ℕ) (s : State) → d < 31 → (set_x d u s).x d ≡ u
set_here d u s l = set_at d u d s l ∙ choose-true _ _ _ (one d)

-- ADRP, and NOP
pub adrp-dropped : (w n : ℕ) {p d k : ℕ} → action w ≡ adrp d k → action n ≡ nop → d < 31 → SameRun (placed w p ∷ []) (placed n p ∷ []) → ⊥
adrp-dropped w n {p = p} {d = d} {k = k} ew en hd h =
    let s = filled (suc (adrp_page k p)) 0 in
    let z : adrp_page k p ≡ suc (adrp_page k p) = sym (set_here d (adrp_page k p) s hd) ∙ (rw (ew, en) at ((h.agree idle s).x d hd refl)) in
    omega arith

-- ADRP before another word, and NOP before it: the other word may have read the register, so nothing is spared
pub adrp-dropped-before : (w n u : ℕ) {p q d k : ℕ} → action w ≡ adrp d k → action n ≡ nop → action u ≡ other → d < 31
    → SameRun (placed w p ∷ placed u q ∷ []) (placed n p ∷ placed u q ∷ []) → ⊥
adrp-dropped-before w n u {p = p} {d = d} {k = k} ew en eu hd h =
    let s = filled (suc (adrp_page k p)) 0 in
    let z : adrp_page k p ≡ suc (adrp_page k p) =
    sym (set_here d (adrp_page k p) s hd) ∙ (rw (ew, en, eu) at ((h.agree idle s).x d hd (rw (ew, eu) (never (eqb d d) true refl)))) in
    omega arith

-- other words that put themselves in the stack pointer
abbrev told : Other
told w p x sp v memory = record { x = x; sp = w; v = v; memory = memory; log = [] }

-- one other word, and another
pub other-replaced : (w u : ℕ) {p : ℕ} → action w ≡ other → action u ≡ other → w ≢ u → SameRun (placed w p ∷ []) (placed u p ∷ []) → ⊥
other-replaced w u ew eu ne h = ne (rw (ew, eu) at (h.agree told (filled 0 0)).sp)

-- what a load leaves in a general register
loaded : (m : Mnemonic) (n : ℕ) (g : Widening) (t a : ℕ) (s : State) → t < 31
    → (moved (Table.load m general n g) t a s).x t ≡ widened g n (read n s.memory a)
unfolding moved
loaded m n g t a s l = set_here t _ _ l

-- ADRP and LDRSW; NOP and LDR of a literal word, which does not extend the sign
pub sign-lost : (a b n l : ℕ) {p q d k t i j : ℕ} {m m' : Mnemonic} → action a ≡ adrp d k → action b ≡ access (Table.load m general 4 sign64) t d i
    → action n ≡ nop → action l ≡ literal (Table.load m' general 4 zeros) t j → t < 31
    → SameRun (placed a p ∷ placed b q ∷ []) (placed n p ∷ placed l q ∷ []) → ⊥
unfolding read choose
sign-lost a b n l {p = p} {d = d} {k = k} {t = t} {m = m} {m' = m'} ea eb en el ht h =
    let s = filled 0 255 in
    let z : ◌≡◌ {A = ℕ} 0xffffffffffffffff 0xffffffff =
    sym (loaded m 4 sign64 t _ (set_x d (adrp_page k p) s) ht ∙ rw (set-memory d (adrp_page k p) s))
    ∙ (rw (ea, eb, en, el) at ((h.agree idle s).x t ht (rw (ea, eb) (never (eqb t d) (eqb t t) (one t)))))
    ∙ loaded m' 4 zeros t _ s ht in
    omega arith
