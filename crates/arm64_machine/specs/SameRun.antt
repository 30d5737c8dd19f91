-- When new words run as the old ones did (RULES 1.9, 9.9 to 9.11).
use Rattle.std.specs.Prelude.{ℕ, ◌<◌, ◌≡◌, Bool, true, false, not, ◌&&◌, ◌||◌, List, [], ◌∷◌, eqb}
use Rattle.arm64_insn.specs.LoadStoreTable.{Row}
use Rattle.arm64_insn.specs.Links.{loads_general}
use Rattle.arm64_machine.specs.Machine.{Action, adr, adrp, add, access, literal, nop, other, action, State, Placed, Other, run}

-- whether a load or store of register t has general register r as its destination
abbrev pub loads_to : Row → ℕ → ℕ → Bool
loads_to row t r = loads_general row && eqb r t

-- whether general number r is an action's destination; what another word writes is not known, and counts as `unknown` says
abbrev pub writes_or : Bool → Action → ℕ → Bool
writes_or unknown (adr rd k) r = eqb r rd
writes_or unknown (adrp rd k) r = eqb r rd
writes_or unknown (add rd rn k) r = eqb r rd
writes_or unknown (access row rt rn k) r = loads_to row rt r
writes_or unknown (literal row rt k) r = loads_to row rt r
writes_or unknown nop r = false
writes_or unknown other r = unknown

-- whether a word before the last is known to write r
abbrev pub wrote_before : List Placed → ℕ → Bool
wrote_before [] r = false
wrote_before (w ∷ []) r = false
wrote_before (w ∷ u ∷ ws) r = wrote_before (u ∷ ws) r || writes_or false (action w.word) r

-- whether the last word writes r, or may write it
abbrev pub last_writes : List Placed → ℕ → Bool
last_writes [] r = false
last_writes (w ∷ []) r = writes_or true (action w.word) r
last_writes (w ∷ u ∷ ws) r = last_writes (u ∷ ws) r

-- the general registers that may differ at the end: an earlier word wrote them, and the last does not
abbrev pub spared : List Placed → ℕ → Bool
spared ws = λ r. wrote_before ws r && not (last_writes ws r)

-- whether a word before the last that the new words do not keep is known to write r
abbrev pub replaced_before : (old new : List Placed) → ℕ → Bool
replaced_before [] new r = false
replaced_before (w ∷ []) new r = false
replaced_before (w ∷ u ∷ ws) [] r = wrote_before (w ∷ u ∷ ws) r
replaced_before (w ∷ u ∷ ws) (n ∷ ns) r = replaced_before (u ∷ ws) ns r || (not (eqb w.word n.word) && writes_or false (action w.word) r)

-- of the spared registers, those that such a word wrote: an earlier word that stays makes what it made
abbrev pub spared_by : (old new : List Placed) → ℕ → Bool
spared_by old new = λ r. replaced_before old new r && not (last_writes old r)

-- equal states, but for the general registers that `but` names: the accesses in order, kind, address, width and value; data memory; registers
pub record Agree (but : ℕ → Bool) (a b : State) : Type 0 where
  pub log : a.log ≡ b.log
  pub memory : a.memory ≡ b.memory
  pub sp : a.sp ≡ b.sp
  pub v : (r : ℕ) → a.v r ≡ b.v r
  pub x : (r : ℕ) → r < 31 → but r ≡ false → a.x r ≡ b.x r

-- from every state, and whatever other words do, the new words end as the old ones do
pub record SameRun (old new : List Placed) : Type 0 where
  pub agree : (o : Other) (s : State) → Agree (spared old) (run o old s) (run o new s)

-- and but for fewer registers: those alone that a word which is replaced wrote
pub record CloseRun (old new : List Placed) : Type 0 where
  pub agree : (o : Other) (s : State) → Agree (spared_by old new) (run o old s) (run o new s)
