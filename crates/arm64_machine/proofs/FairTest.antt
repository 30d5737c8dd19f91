-- Whether words are fair, and whether they meet every premise, as tests: on closed words they are computed. Carried by taking the test of a list apart.
use mathlib.Core.Path.{◌≡◌, subst}
use mathlib.Core.Bool.{Bool, true, false, not, ◌&&◌}
use mathlib.Core.List.{List, [], ◌∷◌}
use Prim.Native.Nat.{ℕ, ◌%◌}
use lib.Dec.{eqb}
use borrow.Author.Tests.{eqb-true, not-true}
use Rattle.util.specs.Wrap.{sum}
use Rattle.util.proofs.Choice.{both}
use Rattle.arm64_insn.specs.Manual as Manual
use Rattle.arm64_machine.specs.Machine.{Access, Action, adr, adrp, add, access, literal, nop, other, action, Placed, State, Other, step, run}
use Rattle.arm64_machine.specs.Premises.{Each, Next, Later, stores_made, FairWords}
use Rattle.arm64_machine.specs.Premises.{touches, sum_passes, NoSumPasses, links_vector, WordPremises}
use Rattle.arm64_machine.specs.Tests.{each, next, later}

pub each-by : {A : Type 0} (t : A → Bool) (P : A → Type 0) → ((a : A) → t a ≡ true → P a) → (l : List A) → each t l ≡ true → Each P l
each-by t P h [] e = tt
each-by t P h (a ∷ l) e = let b = both (t a) (each t l) e in (h a b.0, each-by t P h l b.1)

module _ (t : ℕ → ℕ → Bool) (P : ℕ → ℕ → Type 0) (h : (w u : ℕ) → t w u ≡ true → P w u) where
  next-by : (ws : List Placed) → next t ws ≡ true → Next P ws
  next-by [] e = tt
  next-by (w ∷ []) e = tt
  next-by (w ∷ u ∷ ws) e = let b = both (t w.word u.word) (next t (u ∷ ws)) e in (h _ _ b.0, next-by (u ∷ ws) b.1)

  later-by : (ws : List Placed) → later t ws ≡ true → Later P ws
  later-by [] e = tt
  later-by (w ∷ ws) e =
      let b = both (each (λ u. t w.word u.word) ws) (later t ws) e in
      (each-by _ _ (λ u. h w.word u.word) ws b.0, later-by ws b.1)

-- each premise of FairWords as a test of the list
pub fair-by : {ws : List Placed} → each (λ w. eqb (w.address % 4) 0) ws ≡ true
    → later (λ w u. not (stores_made w u)) ws ≡ true → FairWords ws
fair-by {ws} a b =
    record {
      aligned = each-by _ _ (λ w h. eqb-true (w.address % 4) 0 h) ws a;
      no_store = later-by _ _ (λ w u h. not-true (stores_made w u) h) ws b;
    }

-- ---- the premises that FairWords leaves out

-- whether an access touches no byte of the words at some addresses
abbrev pub misses : {A : Type 0} → (A → ℕ) → List A → Access → Bool
misses at l a = each (λ w. each (λ k. not (touches a (sum (at w) k))) (0 ∷ 1 ∷ 2 ∷ 3 ∷ [])) l

pub misses-by : {A : Type 0} (at : A → ℕ) (l : List A) (log : List Access) → each (misses at l) log ≡ true
    → Each (λ a. Each (λ w. Each (λ k. touches a (sum (at w) k) ≡ false) (0 ∷ 1 ∷ 2 ∷ 3 ∷ [])) l) log
misses-by at l =
    each-by _ _ (λ a. each-by _ _ (λ w. each-by _ _ (λ k h. not-true (touches a (sum (at w) k)) h) (0 ∷ 1 ∷ 2 ∷ 3 ∷ [])) l)

-- whether no address sum of a run passes 2^64 - 1
abbrev pub no_sum_passes : Other → List Placed → State → Bool
no_sum_passes o [] s = true
no_sum_passes o (w ∷ ws) s = not (sum_passes (action w.word) w.address s) && no_sum_passes o ws (step o w s)

sums_by : (o : Other) (ws : List Placed) (s : State) → no_sum_passes o ws s ≡ true → NoSumPasses o ws s
sums_by o [] s e = tt
sums_by o (w ∷ ws) s e =
    let b = both (not (sum_passes (action w.word) w.address s)) (no_sum_passes o ws (step o w s)) e in
    (not-true (sum_passes (action w.word) w.address s) b.0, sums_by o ws (step o w s) b.1)

-- whether, where an action is an ADRP, no vector register of its number links two words
abbrev pub no_vector_link : List Placed → Action → Bool
no_vector_link ws (adr rd k) = true
no_vector_link ws (adrp rd k) = next (λ w u. not (links_vector rd w u)) ws
no_vector_link ws (add rd rn k) = true
no_vector_link ws (access row rt rn k) = true
no_vector_link ws (literal row rt k) = true
no_vector_link ws nop = true
no_vector_link ws other = true

vector-by : (ws : List Placed) (x : Action) → no_vector_link ws x ≡ true → (d k : ℕ) → x ≡ adrp d k → Next (λ w u. links_vector d w u ≡ false) ws
vector-by ws x e d k q =
    next-by _ _ (λ w u h. not-true (links_vector d w u) h) ws (subst (λ (y : Action). no_vector_link ws y ≡ true) q e)

-- all of them
abbrev pub left_out : List Placed → Other → State → Bool
left_out ws o s =
    each (λ w. Manual.allocated w.word) ws
    && (each (misses (λ (w : Placed). w.address) ws) (run o ws s).log && (no_sum_passes o ws s && each (λ a. no_vector_link ws (action a.word)) ws))

pub premises-by : (ws : List Placed) (o : Other) (s : State) → FairWords ws → s.log ≡ [] → left_out ws o s ≡ true → WordPremises ws o s
premises-by ws o s fair empty e =
    let vectors : Bool = each (λ a. no_vector_link ws (action a.word)) ws in
    let missed : Bool = each (misses (λ (w : Placed). w.address) ws) (run o ws s).log in
    let a = both (each (λ w. Manual.allocated w.word) ws) (missed && (no_sum_passes o ws s && vectors)) e in
    let b = both missed (no_sum_passes o ws s && vectors) a.1 in
    let c = both (no_sum_passes o ws s) vectors b.1 in
    record {
      empty-at-first = empty;
      allocated = each-by _ _ (λ w h. h) ws a.0;
      none-data = misses-by (λ (w : Placed). w.address) ws (run o ws s).log b.0;
      aligned = fair.aligned;
      no-sum-passes = sums_by o ws s c.0;
      no-vector-link = each-by _ _ (λ a. vector-by ws (action a.word)) ws c.1;
      no_store = fair.no_store;
    }
