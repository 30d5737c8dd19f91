-- The premises of RULES 9.13 to 9.21: tests of words, the premises that the theorems need (FairWords), and all of them (WordPremises).
-- FairWords supposes nothing of number 31: no_store leaves it out. Of the others only no-vector-link can meet it, where an ADRP's number is 31.
-- That the words share no image byte is said of a hint's places, above this crate.
use Rattle.std.specs.Prelude.{ℕ, ◌+◌, ◌*◌, ◌%◌, ◌^◌, ◌≡◌, Bool, true, false, ◌&&◌, List, [], ◌∷◌, eqb, ltb, leb}
use Rattle.util.specs.Bits.{extend}
use Rattle.util.specs.Wrap.{sum, diff}
use Rattle.arm64_insn.specs.LoadStoreTable.{Row, load, store, prefetch, unallocated, general, vector, moved_by}
use Rattle.arm64_insn.specs.Manual as Manual
use Rattle.arm64_insn.specs.Page.{page_of}
use Rattle.arm64_machine.specs.Machine.{Access, Action, adr, adrp, add, access, literal, nop, other, action}
use Rattle.arm64_machine.specs.Machine.{State, Placed, Other, base, step, run}
use Rattle.arm64_machine.specs.SameRun.{writes_or}

-- P holds of each element of a list
abbrev pub Each : {A : Type 0} → (A → Type 0) → List A → Type 0
Each P [] = Unit {0}
Each P (a ∷ l) = P a × Each P l

-- P holds of each word and the next
abbrev pub Next : (ℕ → ℕ → Type 0) → List Placed → Type 0
Next P [] = Unit {0}
Next P (w ∷ []) = Unit {0}
Next P (w ∷ u ∷ ws) = P w.word u.word × Next P (u ∷ ws)

-- P holds of each word and each later one
abbrev pub Later : (ℕ → ℕ → Type 0) → List Placed → Type 0
Later P [] = Unit {0}
Later P (w ∷ ws) = Each (λ u. P w.word u.word) ws × Later P ws

-- whether number r is the base of an action, or the source of its ADD
abbrev pub reads : Action → ℕ → Bool
reads (adr rd k) r = false
reads (adrp rd k) r = false
reads (add rd rn k) r = eqb r rn
reads (access row rt rn k) r = eqb r rn
reads (literal row rt k) r = false
reads nop r = false
reads other r = false

-- whether a load or store of register t stores a general register that `made` names; number 31 is a zero there, which nothing makes
abbrev pub stores_of : Row → ℕ → (ℕ → Bool) → Bool
stores_of (load m c n g) t made = false
stores_of (store m general n) t made = ltb t 31 && made t
stores_of (store m vector n) t made = false
stores_of (prefetch m) t made = false
stores_of unallocated t made = false

-- whether an action does
abbrev pub stores_any : Action → (ℕ → Bool) → Bool
stores_any (adr rd k) made = false
stores_any (adrp rd k) made = false
stores_any (add rd rn k) made = false
stores_any (access row rt rn k) made = stores_of row rt made
stores_any (literal row rt k) made = stores_of row rt made
stores_any nop made = false
stores_any other made = false

-- whether word u stores a general register that word w makes
unfoldable pub stores_made : ℕ → ℕ → Bool
stores_made w u = stores_any (action u) (writes_or false (action w))

-- what the theorems suppose of the words of a hint
pub record FairWords (ws : List Placed) : Type 0 where
  pub aligned : Each (λ w. w.address % 4 ≡ 0) ws
  pub no_store : Later (λ w u. stores_made w u ≡ false) ws

-- whether an access touches the byte at address b
abbrev pub touches : Access → ℕ → Bool
touches a b = ltb (diff b a.address) a.width

-- whether address a and the signed number whose 64 bits are d add up to more than 2^64 - 1
abbrev pub passes : ℕ → ℕ → Bool
passes a d = ltb d (2 ^ 63) && leb (2 ^ 64) (a + d)

-- whether the address sum of an action at p passes 2^64 - 1
abbrev pub sum_passes : Action → ℕ → State → Bool
sum_passes (adr rd imm21) p s = passes p (extend imm21 21)
sum_passes (adrp rd imm21) p s = passes (page_of p) (extend imm21 21 * 2 ^ 12 % 2 ^ 64)
sum_passes (add rd rn imm12) p s = passes (base rn s) imm12
sum_passes (access row rt rn imm12) p s = passes (base rn s) (imm12 * moved_by row)
sum_passes (literal row rt imm19) p s = passes p (extend (imm19 * 2 ^ 2) 21)
sum_passes nop p s = false
sum_passes other p s = false

-- no address sum of a run does
abbrev pub NoSumPasses : Other → List Placed → State → Type 0
NoSumPasses o [] s = Unit {0}
NoSumPasses o (w ∷ ws) s = (sum_passes (action w.word) w.address s ≡ false) × NoSumPasses o ws (step o w s)

-- whether a load or store of register t loads vector register r
abbrev pub loads_vector : Row → ℕ → ℕ → Bool
loads_vector (load m general n g) t r = false
loads_vector (load m vector n g) t r = eqb r t
loads_vector (store m c n) t r = false
loads_vector (prefetch m) t r = false
loads_vector unallocated t r = false

-- whether vector register r is an action's destination
abbrev pub makes_vector : Action → ℕ → Bool
makes_vector (adr rd k) r = false
makes_vector (adrp rd k) r = false
makes_vector (add rd rn k) r = false
makes_vector (access row rt rn k) r = loads_vector row rt r
makes_vector (literal row rt k) r = loads_vector row rt r
makes_vector nop r = false
makes_vector other r = false

-- whether a vector register, by its plain number d, links word w to the next word u
unfoldable pub links_vector : ℕ → ℕ → ℕ → Bool
links_vector d w u = makes_vector (action w) d && reads (action u) d

-- every premise (RULES 9.2, 9.13 to 9.20) that speaks of the words, of one run of them from state s
pub record WordPremises (ws : List Placed) (o : Other) (s : State) : Type 0 where
  pub empty-at-first : s.log ≡ []
  pub allocated : Each (λ w. Manual.allocated w.word ≡ true) ws
  pub none-data : Each (λ a. Each (λ w. Each (λ k. touches a (sum w.address k) ≡ false) (0 ∷ 1 ∷ 2 ∷ 3 ∷ [])) ws) (run o ws s).log
  pub aligned : Each (λ w. w.address % 4 ≡ 0) ws
  pub no-sum-passes : NoSumPasses o ws s
  pub no-vector-link : Each (λ a. (d k : ℕ) → action a.word ≡ adrp d k → Next (λ w u. links_vector d w u ≡ false) ws) ws
  pub no_store : Later (λ w u. stores_made w u ≡ false) ws
