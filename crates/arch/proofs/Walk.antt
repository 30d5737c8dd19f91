-- Laws of a table read by steps, over any step: what is left of the records reads to what is left of the answer.
use Rattle.std.specs.Prelude.{Result, Ok, Err, ⊤}
use mathlib.Core.Path.{◌≡◌, refl, sym, ap, ◌∙◌, subst}
use mathlib.Core.List.{List, [], ◌∷◌}
use mathlib.Core.Bool.{Bool, true, false}
use Prim.Native.Nat.{ℕ, zero, suc, zero-le, ◌+◌, ◌-◌, ◌*◌, ◌/◌, ◌%◌, ◌^◌, ◌<◌, ◌≤◌}
use native.Mathlib.Omega.{arith}
use lib.ListN.{length, get_or}
use lib.Seq.{sets}
use lib.Dec.{ltb, eqb}
use borrow.Author.Tests.{lt-ltb, le-ltb, ltb-false}
use Rattle.util.proofs.Choice.{split, chosen}
use Rattle.util.proofs.Bytes.{sets-append}
use Rattle.util.proofs.Puts.{put_front}
use Rattle.macho.specs.Reloc.{reloc_bytes}
use Rattle.macho.specs.Record.{list_bytes}
use Rattle.macho.proofs.RoundTrip.{reloc, length-image}
use Rattle.macho.proofs.Stored.{length-list}
use Rattle.macho.specs.declared.refusal.Refusal.{Refusal}
use Rattle.macho.specs.declared.mach_rel.MachRel.{MachRel}
use Rattle.macho.specs.declared.reloc.Reloc.{Reloc}
use Rattle.arch.specs.Entry.{enter, targeted}
use Rattle.arch.specs.Table.{lengths_of}
use Rattle.arch.specs.Target.{target_of}
use Rattle.arch.specs.Walk.{Reading, refused, entries, before, after, more, read_from, read_all, Fills, answer_of, slots_after}
use Rattle.arch.specs.Walk.{passing, Reads, next_of, Later, Onward}

-- ---- a step goes on

pub refused-later : (i : ℕ) (x : Refusal) → Later i (Err x)
unfolding Later
refused-later i x = tt

-- a step that reads ends at record n at most
unfoldable pub Within : ℕ → Result (Reloc × ℕ) Refusal → Type 0
Within n (Err x) = Unit {0}
Within n (Ok (e, next)) = next ≤ n

pub refused-within : (n : ℕ) (x : Refusal) → Within n (Err x)
unfolding Within
refused-within n x = tt

-- a step that reads ends at this record
unfoldable pub Ends : ℕ → Result (Reloc × ℕ) Refusal → Type 0
Ends m (Err x) = Unit {0}
Ends m (Ok (e, next)) = next ≡ m

pub ends-later : (i m : ℕ) → i < m → (s : Result (Reloc × ℕ) Refusal) → Ends m s → Later i s
unfolding Later Ends
ends-later i m h (Err x) e = tt
ends-later i m h (Ok (r, next)) e = omega arith

pub ends-within : (n m : ℕ) → m ≤ n → (s : Result (Reloc × ℕ) Refusal) → Ends m s → Within n s
unfolding Within Ends
ends-within n m h (Err x) e = tt
ends-within n m h (Ok (r, next)) e = omega arith

-- a check before a step: what passes ends where the step does, and reads what the step reads
pub passing-ends : (m : ℕ) (c : Result ⊤ Refusal) (s : Result (Reloc × ℕ) Refusal) → Ends m s → Ends m (passing c s)
unfolding Ends
passing-ends m (Ok tt) s h = h
passing-ends m (Err x) s h = tt

pub passing-reads : (c : Result ⊤ Refusal) (s : Result (Reloc × ℕ) Refusal) → Reads (passing c s) → s ≡ passing c s
passing-reads (Ok tt) s h = refl
passing-reads (Err x) s h = absurd h

-- the step of a record with its target ends where it is told
pub targeted-ends : (sections : List ℕ) (r : MachRel) (subtracted : Bool) (offset addend next : ℕ)
    → Ends next (targeted sections r subtracted offset addend next)
unfolding targeted
targeted-ends sections r subtracted offset addend next = go (target_of sections r addend)
  where
    go : (t : Result (ℕ × ℕ) Refusal) → Ends next (enter r subtracted offset next t)
    go (Ok (target, own)) = unfold Ends in refl
    go (Err x) = unfold Ends in tt

pub onward : (step : ℕ → Result (Reloc × ℕ) Refusal) → Onward step → (i : ℕ) {s : Result (Reloc × ℕ) Refusal} {e : Reloc} {next : ℕ} → s ≡ Ok (e, next) → s ≡ step i → i < next
unfolding Later
onward step on i p q = subst (Later i) (sym q ∙ p) (on i)

pub next-onward : (step : ℕ → Result (Reloc × ℕ) Refusal) → Onward step → (i : ℕ) {next : ℕ} → next_of (step i) ≡ Ok next → i < next
next-onward step on i {next} p = go (step i) refl p
  where
    go : (s : Result (Reloc × ℕ) Refusal) → s ≡ step i → next_of s ≡ Ok next → i < next
    go (Ok (e, m)) q p = let z : m ≡ next = cc in onward step on i (ap (λ (k : ℕ). Ok (e, k)) z) q
    go (Err x) q p = let z : ◌≡◌ {A = ℕ} 0 1 = cc in absurd (omega arith)

-- ---- what is left

module _ (step : ℕ → Result (Reloc × ℕ) Refusal) (n : ℕ) where
  -- the records from i on where `count` entries were read before them
  abbrev pub Rest : ℕ → ℕ → Reading
  Rest count i = read_from step n (n - count) i

  pub turn_suc : (k i : ℕ) → i < n → read_from step n (suc k) i ≡ after (step i) (read_from step n k)
  unfolding read_from
  turn_suc k i h = simp (lt-ltb _ _ h)

  -- a turn
  pub turn : (count i : ℕ) {s t : Result (Reloc × ℕ) Refusal} → count ≤ i → i < n → s ≡ t → s ≡ step i → Rest count i ≡ after t (Rest (count + 1))
  turn count i {s} {t} le lt p q =
      let k : n - count ≡ suc (n - (count + 1)) = omega arith in
      rw k (turn_suc _ i lt ∙ ap (λ (x : Result (Reloc × ℕ) Refusal). after x (Rest (count + 1))) (sym q ∙ p))

  pub done-any : (k i : ℕ) → n ≤ i → read_from step n k i ≡ entries []
  unfolding read_from
  done-any zero i h = refl
  done-any (suc k) i h = simp (le-ltb _ _ h)

  -- no record is left
  pub done : (count i : ℕ) → n ≤ i → Rest count i ≡ entries []
  done count i h = done-any _ i h

  -- at the first record everything is left
  pub start : Rest 0 0 ≡ read_all step n
  unfolding read_all
  start = ap (λ (k : ℕ). read_from step n k 0) (omega arith)

-- ---- the check walk: what the call returns, with a count of entries before the rest

abbrev pub counted : ℕ → Reading → Result ℕ Refusal
counted c (refused x) = Err x
counted c (entries es) = Ok (c + length es)

counted-zero : (a : Reading) → counted 0 a ≡ answer_of a
counted-zero (refused x) = refl
counted-zero (entries es) = ap Ok (omega arith)

counted-before : (c : ℕ) (e : Reloc) (a : Reading) → counted c (before e a) ≡ counted (c + 1) a
counted-before c e (refused x) = refl
counted-before c e (entries es) = ap Ok (omega arith)

module _ (step : ℕ → Result (Reloc × ℕ) Refusal) (n : ℕ) where
  pub check-start : counted 0 (Rest step n 0 0) ≡ answer_of (read_all step n)
  check-start = ap (counted 0) (start step n) ∙ counted-zero (read_all step n)

  pub check-read : (count i : ℕ) {s : Result (Reloc × ℕ) Refusal} {e : Reloc} {next : ℕ} → count ≤ i → i < n → s ≡ Ok (e, next) → s ≡ step i
      → counted (count + 1) (Rest step n (count + 1) next) ≡ counted count (Rest step n count i)
  check-read count i {e = e} {next = next} le lt p q =
      sym (ap (counted count) (turn step n count i le lt p q) ∙ counted-before count e (Rest step n (count + 1) next))

  pub check-refused : (count i : ℕ) {s : Result (Reloc × ℕ) Refusal} {x : Refusal} → count ≤ i → i < n → s ≡ Err x → s ≡ step i
      → Err x ≡ counted count (Rest step n count i)
  check-refused count i le lt p q = sym (ap (counted count) (turn step n count i le lt p q))

  -- a turn by the number of the record after it alone
  pub check-next : (count i : ℕ) {next : ℕ} → count ≤ i → i < n → next_of (step i) ≡ Ok next
      → counted (count + 1) (Rest step n (count + 1) next) ≡ counted count (Rest step n count i)
  check-next count i {next} le lt p = go (step i) refl p
    where
      go : (s : Result (Reloc × ℕ) Refusal) → s ≡ step i → next_of s ≡ Ok next
          → counted (count + 1) (Rest step n (count + 1) next) ≡ counted count (Rest step n count i)
      go (Ok (e, m)) q p = let z : m ≡ next = cc in check-read count i le lt (ap (λ (k : ℕ). Ok (e, k)) z) q
      go (Err x) q p = let z : ◌≡◌ {A = ℕ} 0 1 = cc in absurd (omega arith)

  pub check-stopped : (count i : ℕ) {x : Refusal} → count ≤ i → i < n → next_of (step i) ≡ Err x → Err x ≡ counted count (Rest step n count i)
  check-stopped count i {x} le lt p = go (step i) refl p
    where
      go : (s : Result (Reloc × ℕ) Refusal) → s ≡ step i → next_of s ≡ Err x → Err x ≡ counted count (Rest step n count i)
      go (Ok (e, m)) q p = let z : ◌≡◌ {A = ℕ} 0 1 = cc in absurd (omega arith)
      go (Err y) q p = let z : y ≡ x = cc in check-refused count i le lt (ap Err z) q

  pub check_done : (count i : ℕ) → n ≤ i → Ok count ≡ counted count (Rest step n count i)
  check_done count i h =
      let z : count ≡ count + 0 = omega arith in
      ap Ok z ∙ sym (ap (counted count) (done step n count i h))

-- ---- how many entries

-- an answer has at most k entries
unfoldable pub AtMost : ℕ → Reading → Type 0
AtMost k (refused x) = Unit {0}
AtMost k (entries es) = length es ≤ k

more-few : (k : ℕ) (b : Bool) (s : Result (Reloc × ℕ) Refusal) (rest : ℕ → Reading) → ((i : ℕ) → AtMost k (rest i)) → AtMost (suc k) (more b s rest)
unfolding AtMost
more-few k false s rest h = zero-le
more-few k true (Err x) rest h = tt
more-few k true (Ok (e, next)) rest h = go (rest next) (h next)
  where
    go : (a : Reading) → AtMost k a → AtMost (suc k) (before e a)
    go (refused x) f = tt
    go (entries es) f = omega arith

few-steps : (step : ℕ → Result (Reloc × ℕ) Refusal) (n k i : ℕ) → AtMost k (read_from step n k i)
unfolding AtMost read_from
few-steps step n zero i = zero-le
few-steps step n (suc k) i = more-few k (ltb i n) (step i) (read_from step n k) (few-steps step n k)

-- entries never exceed records
pub few : (step : ℕ → Result (Reloc × ℕ) Refusal) (n : ℕ) (es : List Reloc) → read_all step n ≡ entries es → length es ≤ n
unfolding read_all AtMost
few step n es e = subst (AtMost n) e (few-steps step n n 0)

-- ---- the fill walk: the slots, with the entries of an answer stored from entry c on

abbrev pub stored : ℕ → Reading → List ℕ → List ℕ
stored c (refused x) s = s
stored c (entries es) s = sets s (24 * c) (list_bytes reloc_bytes es)

-- an entry has 24 bytes
pub length-reloc_bytes : (e : Reloc) → length (reloc_bytes e) ≡ 24
length-reloc_bytes e = length-image reloc e

pub length-entries : (es : List Reloc) → length (list_bytes reloc_bytes es) ≡ 24 * length es
length-entries es = length-list reloc es

stored-all : (k : ℕ) (a : Reading) (s : List ℕ) → AtMost k a → 24 * k ≤ length s → stored 0 a s ≡ slots_after a s
unfolding AtMost
stored-all k (refused x) s f h = refl
stored-all k (entries es) s f h =
    put_front (list_bytes reloc_bytes es) s (24 * length es) (length-entries es) (omega arith)

stored-before : (c : ℕ) (e : Reloc) (a : Reading) (s : List ℕ) → Fills a
    → stored (c + 1) a (sets s (24 * c) (reloc_bytes e)) ≡ stored c (before e a) s
unfolding list_bytes
stored-before c e (refused x) s f = absurd f
stored-before c e (entries es) s f =
    sym (sets-append (reloc_bytes e) (list_bytes reloc_bytes es) s (24 * c) (24 * (c + 1)) (omega (arith, length-reloc_bytes e)))

fills-rest : (e : Reloc) (a : Reading) → Fills (before e a) → Fills a
fills-rest e (refused x) f = f
fills-rest e (entries es) f = tt

module _ (step : ℕ → Result (Reloc × ℕ) Refusal) (n : ℕ) where
  pub fill_start : (s : List ℕ) → 24 * n ≤ length s → stored 0 (Rest step n 0 0) s ≡ slots_after (read_all step n) s
  unfolding read_all
  fill_start s h = ap (λ (a : Reading). stored 0 a s) (start step n) ∙ stored-all n (read_all step n) s (few-steps step n n 0) h

  pub fill-fills : Fills (read_all step n) → Fills (Rest step n 0 0)
  fill-fills f = subst (λ (a : Reading). Fills a) (sym (start step n)) f

  pub fill-read : (count i : ℕ) {s : Result (Reloc × ℕ) Refusal} {e : Reloc} {next : ℕ} → count ≤ i → i < n → s ≡ Ok (e, next) → s ≡ step i
      → Fills (Rest step n count i) → Fills (Rest step n (count + 1) next)
  fill-read count i {e = e} {next = next} le lt p q f =
      fills-rest e (Rest step n (count + 1) next) (subst (λ (a : Reading). Fills a) (turn step n count i le lt p q) f)

  pub fill-stored : (count i : ℕ) {s : Result (Reloc × ℕ) Refusal} {e : Reloc} {next : ℕ} (l : List ℕ) → count ≤ i → i < n → s ≡ Ok (e, next) → s ≡ step i
      → Fills (Rest step n count i)
      → stored (count + 1) (Rest step n (count + 1) next) (sets l (24 * count) (reloc_bytes e)) ≡ stored count (Rest step n count i) l
  fill-stored count i {e = e} {next = next} l le lt p q f =
      stored-before count e (Rest step n (count + 1) next) l (fill-read count i le lt p q f)
      ∙ ap (λ (a : Reading). stored count a l) (sym (turn step n count i le lt p q))

  pub fill-refused : (count i : ℕ) {s : Result (Reloc × ℕ) Refusal} {x : Refusal} → count ≤ i → i < n → s ≡ Err x → s ≡ step i
      → Fills (Rest step n count i) → ⊥
  fill-refused count i le lt p q f = subst (λ (a : Reading). Fills a) (turn step n count i le lt p q) f

  -- in a table that fills, each step from which a walk goes on reads
  pub fill-reads : (count i : ℕ) → count ≤ i → i < n → Fills (Rest step n count i) → Reads (step i)
  fill-reads count i c l f = go (step i) refl
    where
      go : (s : Result (Reloc × ℕ) Refusal) → s ≡ step i → Reads s
      go (Err x) e = fill-refused count i c l refl e f
      go (Ok (r, next)) e = tt

  pub fill_done : (count i : ℕ) (l : List ℕ) → n ≤ i → stored count (Rest step n count i) l ≡ l
  unfolding list_bytes
  fill_done count i l h = ap (λ (a : Reading). stored count a l) (done step n count i h)

-- ---- from what is returned to the answer

-- where entries are filled, nothing is refused
pub fills_of : (a : Reading) (n : ℕ) → Ok n ≡ answer_of a → Fills a
fills_of (entries es) n e = tt
fills_of (refused x) n e = let z : ◌≡◌ {A = ℕ} 0 1 = cc in omega arith

-- a refusal leaves the slots
pub kept_of : (a : Reading) (x : Refusal) (s : List ℕ) → Err x ≡ answer_of a → s ≡ slots_after a s
kept_of (refused y) x s e = refl
kept_of (entries es) x s e = let z : ◌≡◌ {A = ℕ} 0 1 = cc in absurd (omega arith)

-- ---- the lengths that a reader is lent

-- lengths that fit leave room for an entry a record
unfoldable pub Room : ℕ → ℕ → Result ⊤ Refusal → Type 0
Room records slots (Err x) = Unit {0}
Room records slots (Ok tt) = 24 * (records / 8) ≤ slots

room : (records sections slots : ℕ) → Room records slots (lengths_of records sections slots)
unfolding lengths_of Room
room records sections slots =
    split R (eqb (records % 8) 0) _ _
    (λ _.
    chosen R (ltb (2 ^ 32 - 1) (records / 8)) _ _ tt
    (chosen R (ltb (2 ^ 32 - 1) sections) _ _ tt
    (split R (ltb slots (24 * (records / 8))) _ _ (λ _. tt) (λ e. ltb-false slots (24 * (records / 8)) e))))
    (λ _. tt)
  where
    R : Result ⊤ Refusal → Type 0
    R = Room records slots

pub fit-room : (records sections slots : ℕ) → lengths_of records sections slots ≡ Ok tt → 24 * (records / 8) ≤ slots
unfolding Room
fit-room records sections slots e = subst (Room records slots) e (room records sections slots)

-- ---- what holds of the entry that each step reads holds of each entry of the walk

module _ (P : Reloc → Type 0) (none : Reloc) where
  -- of the entry that a step reads, and of each that a walk reads
  unfoldable pub Gives : Result (Reloc × ℕ) Refusal → Type 0
  Gives (Err x) = Unit {0}
  Gives (Ok (e, next)) = P e

  pub gives-refused : (x : Refusal) → Gives (Err x)
  unfolding Gives
  gives-refused x = tt

  unfoldable pub Each : Reading → Type 0
  Each (refused x) = Unit {0}
  Each (entries es) = (k : ℕ) → k < length es → P (get_or es k none)

  each-before : (e : Reloc) (a : Reading) → P e → Each a → Each (before e a)
  unfolding Each
  each-before e (refused x) p f = tt
  each-before e (entries es) p f = at
    where
      at : (k : ℕ) → k < suc (length es) → P (get_or (e ∷ es) k none)
      at zero l = p
      at (suc k) l = f k (omega arith)

  each_more : (b : Bool) (s : Result (Reloc × ℕ) Refusal) (rest : ℕ → Reading) → Gives s → ((next : ℕ) → Each (rest next)) → Each (more b s rest)
  unfolding Gives Each
  each_more false s rest p f = λ k l. absurd (omega arith)
  each_more true (Err x) rest p f = tt
  each_more true (Ok (e, next)) rest p f = each-before e (rest next) p (f next)

  pub each_from : (step : ℕ → Result (Reloc × ℕ) Refusal) → ((i : ℕ) → Gives (step i)) → (n k i : ℕ) → Each (read_from step n k i)
  unfolding read_from Each
  each_from step h n zero i = λ k l. absurd (omega arith)
  each_from step h n (suc k) i = each_more (ltb i n) (step i) (read_from step n k) (h i) (λ next. each_from step h n k next)
