-- A table read by steps: what the check walk and the fill walk of every machine's reader come to (RULES 3.2, 4.2, 2.25).
use Rattle.std.specs.Prelude.{ℕ, zero, suc, ◌*◌, ◌<◌, Bool, true, false, List, [], ◌∷◌, ◌++◌, length, drop, ltb, Result, Ok, Err, ⊤}
use Rattle.macho.specs.Record.{list_bytes}
use Rattle.macho.specs.Reloc.{reloc_size, reloc_bytes}
use Rattle.macho.specs.declared.refusal.Refusal.{Refusal}
use Rattle.macho.specs.declared.reloc.Reloc.{Reloc}

-- a refusal of a record's check, else the step that follows it
abbrev pub passing : Result ⊤ Refusal → Result (Reloc × ℕ) Refusal → Result (Reloc × ℕ) Refusal
passing (Ok tt) s = s
passing (Err x) s = Err x

-- a step that refuses nothing
abbrev pub Reads : Result (Reloc × ℕ) Refusal → Type 0
Reads (Err x) = ⊥
Reads (Ok (e, next)) = Unit {0}

-- the number of the record after a step, or its refusal
abbrev pub next_of : Result (Reloc × ℕ) Refusal → Result ℕ Refusal
next_of (Ok (e, next)) = Ok next
next_of (Err x) = Err x

-- a step at record i that reads ends at a later record
unfoldable pub Later : ℕ → Result (Reloc × ℕ) Refusal → Type 0
Later i (Err x) = Unit {0}
Later i (Ok (e, next)) = i < next

-- each step goes on
abbrev pub Onward : (ℕ → Result (Reloc × ℕ) Refusal) → Type 0
Onward step = (i : ℕ) → Later i (step i)

-- what a table reads to: the first refusal, or the entries in the order of their records
pub data Reading : Type 0 where
  refused : Refusal → Reading
  entries : List Reloc → Reading

-- an entry, then what the rest reads to
abbrev pub before : Reloc → Reading → Reading
before e (refused x) = refused x
before e (entries es) = entries (e ∷ es)

-- a step, then what the rest reads to from the record at which the step ends
abbrev pub after : Result (Reloc × ℕ) Refusal → (ℕ → Reading) → Reading
after (Err x) rest = refused x
after (Ok (e, next)) rest = before e (rest next)

-- the same where a record is left, else no entry
abbrev pub more : Bool → Result (Reloc × ℕ) Refusal → (ℕ → Reading) → Reading
more true s rest = after s rest
more false s rest = entries []

-- of n records those from i on, in at most k steps
unfoldable pub read_from : (ℕ → Result (Reloc × ℕ) Refusal) → ℕ → ℕ → ℕ → Reading
read_from step n zero i = entries []
read_from step n (suc k) i = more (ltb i n) (step i) (read_from step n k)

-- all n records: each step takes at least one of them, so n steps are enough
unfoldable pub read_all : (ℕ → Result (Reloc × ℕ) Refusal) → ℕ → Reading
read_all step n = read_from step n n 0

-- a refusal of a check, else an answer: a reader's lengths are checked before its records
abbrev pub checked : Result ⊤ Refusal → Reading → Reading
checked (Ok tt) a = a
checked (Err x) a = refused x

-- an answer that refuses nothing
abbrev pub Fills : Reading → Type 0
Fills (refused x) = ⊥
Fills (entries es) = Unit {0}

-- what a reader answers: how many entries, or the refusal
abbrev pub answer_of : Reading → Result ℕ Refusal
answer_of (refused x) = Err x
answer_of (entries es) = Ok (length es)

-- the slots at its end: the entries, then the bytes that were there; a refusal leaves all
abbrev pub slots_after : Reading → List ℕ → List ℕ
slots_after (refused x) slots = slots
slots_after (entries es) slots = list_bytes reloc_bytes es ++ drop (reloc_size * length es) slots
