-- What a table reads to, record by record: an entry for each where none has a number, else the number of the first that has one. By induction over the list,
-- whose first record is read before the rest (`read-append`).
use Rattle.std.specs.Prelude.{Result, Ok, Err, ⊤}
use mathlib.Core.Path.{◌≡◌, refl, sym, ap, ◌∙◌}
use mathlib.Core.Bool.{Bool, false}
use mathlib.Core.List.{List, [], ◌∷◌, ◌++◌}
use Prim.Native.Nat.{ℕ, suc, ◌/◌}
use native.Mathlib.Omega.{arith}
use lib.ListN.{length}
use Rattle.util.specs.Choice.{choose}
use Rattle.macho.specs.declared.mach_rel.MachRel.{MachRel}
use Rattle.macho.specs.declared.reloc.Reloc.{Reloc}
use Rattle.macho.specs.declared.refusal.Refusal.{Refusal}
use Rattle.arch.specs.Join.{joined}
use Rattle.arch.specs.Table.{records_of, subtracted_at}
use Rattle.arch.specs.Walk.{Reading, refused, entries, passing, before, after, read_from, read_all, answer_of}
use Rattle.arch.proofs.Records.{length-records}
use Rattle.x86_64_reader.specs.Record.{check_reloc, entry_in, entry_at, step_at}
use Rattle.x86_64_reader.specs.Read.{read_records, read_table}
use Rattle.x86_64_reader.specs.Fields.{is_subtractor, entries_of, AllFit}
use Rattle.x86_64_reader.proofs.Tables.{read-append}

module _ (contents sections : List ℕ) (address : ℕ) where
  abbrev Check' : MachRel → Result ⊤ Refusal
  Check' r = check_reloc (length contents) (length sections) r

  abbrev Read' : Bool → List MachRel → Reading
  Read' first rs = read_records contents sections address first rs

  -- no record, and one record
  pub read-nil : (first : Bool) → Read' first [] ≡ entries []
  unfolding read_records read_all read_from
  read-nil first = refl

  read_one : (first : Bool) (r : MachRel)
      → Read' first (r ∷ []) ≡ after (passing (Check' r) (Ok (entry_in contents sections address r first, 1))) (λ _. entries [])
  unfolding read_records read_all read_from step_at entry_at subtracted_at choose
  read_one first r = refl

  after-joined : (s : Result ⊤ Refusal) (e : Reloc) (a : Reading)
      → joined (after (passing s (Ok (e, 1))) (λ _. entries [])) a ≡ after (passing s (Ok (e, 1))) (λ _. a)
  after-joined (Ok tt) e (refused x) = refl
  after-joined (Ok tt) e (entries es) = refl
  after-joined (Err x) e a = refl

  -- a first record, then the rest
  pub read-cons : (first : Bool) (r : MachRel) (rs : List MachRel)
      → Read' first (r ∷ rs) ≡ after (passing (Check' r) (Ok (entry_in contents sections address r first, 1))) (λ _. Read' (is_subtractor r) rs)
  unfolding subtracted_at choose
  read-cons first r rs =
      read-append contents sections address first (r ∷ []) rs
      ∙ ap (λ (a : Reading). joined a (Read' (is_subtractor r) rs)) (read_one first r)
      ∙ after-joined (Check' r) (entry_in contents sections address r first) (Read' (is_subtractor r) rs)

  -- records that have no number: an entry for each
  pub reads : (first : Bool) (rs : List MachRel) → AllFit (length contents) (length sections) rs
      → Read' first rs ≡ entries (entries_of contents sections address first rs)
  reads first [] h = read-nil first
  reads first (r ∷ rs) h =
      read-cons first r rs
      ∙ rw h.0 (ap (before (entry_in contents sections address r first)) (reads (is_subtractor r) rs h.1))

  -- the first that has one decides
  pub first-refused : (first : Bool) (xs : List MachRel) (r : MachRel) (ys : List MachRel) (x : Refusal) → AllFit (length contents) (length sections) xs
      → Check' r ≡ Err x → Read' first (xs ++ (r ∷ ys)) ≡ refused x
  first-refused first [] r ys x h e = read-cons first r ys ∙ rw e
  first-refused first (q ∷ xs) r ys x h e =
      read-cons first q (xs ++ (r ∷ ys))
      ∙ rw h.0 (ap (before (entry_in contents sections address q first)) (first-refused (is_subtractor q) xs r ys x h.1 e))

  -- and nothing else is read
  before-entries : (e : Reloc) (a : Reading) (es : List Reloc) → before e a ≡ entries es → {P : Type 0}
      → ((fs : List Reloc) → a ≡ entries fs → es ≡ e ∷ fs → P) → P
  before-entries e (refused x) es h k = let z : ◌≡◌ {A = ℕ} 0 1 = cc in absurd (omega arith)
  before-entries e (entries fs) es h k = k fs refl (cc)

  pub reads_only : (first : Bool) (rs : List MachRel) (es : List Reloc) → Read' first rs ≡ entries es
      → AllFit (length contents) (length sections) rs × (es ≡ entries_of contents sections address first rs)
  reads_only first [] es h = (tt, cc (read-nil first))
  reads_only first (r ∷ rs) es h = go (Check' r) refl (sym (read-cons first r rs) ∙ h) (λ fs a. reads_only (is_subtractor r) rs fs a)
    where
      E : Reloc
      E = entry_in contents sections address r first

      go : (c : Result ⊤ Refusal) → Check' r ≡ c → after (passing (Check' r) (Ok (E, 1))) (λ _. Read' (is_subtractor r) rs) ≡ entries es
          → ((fs : List Reloc) → Read' (is_subtractor r) rs ≡ entries fs
          → AllFit (length contents) (length sections) rs × (fs ≡ entries_of contents sections address (is_subtractor r) rs))
          → AllFit (length contents) (length sections) (r ∷ rs) × (es ≡ entries_of contents sections address first (r ∷ rs))
      go (Err x) e p f = let q = rw e at p in let z : ◌≡◌ {A = ℕ} 0 1 = cc in absurd (omega arith)
      go (Ok tt) e p f =
          before-entries E (Read' (is_subtractor r) rs) es (rw e at p)
          (λ fs a b.
          let t = f fs a in
          ((e, t.0), b ∙ ap (λ (l : List Reloc). E ∷ l) t.1))

  length-entries : (first : Bool) (rs : List MachRel) → length (entries_of contents sections address first rs) ≡ length rs
  length-entries first [] = refl
  length-entries first (r ∷ rs) = omega (arith, length-entries (is_subtractor r) rs)

  -- as many entries as records
  pub count : (first : Bool) (rs : List MachRel) (es : List Reloc) → Read' first rs ≡ entries es → length es ≡ length rs
  count first rs es h = ap length (reads_only first rs es h).1 ∙ length-entries first rs

  pub table-count : (records : List ℕ) (es : List Reloc) → read_table contents records sections address ≡ entries es → length es ≡ length records / 8
  table-count records es h = count false (records_of records) es h ∙ length-records records

-- ---- numbers and counts are by lengths alone

before_same : (e f : Reloc) (a b : Reading) → answer_of a ≡ answer_of b → answer_of (before e a) ≡ answer_of (before f b)
before_same e f (refused x) (refused y) h = h
before_same e f (refused x) (entries fs) h = let z : ◌≡◌ {A = ℕ} 0 1 = cc in absurd (omega arith)
before_same e f (entries es) (refused y) h = let z : ◌≡◌ {A = ℕ} 0 1 = cc in absurd (omega arith)
before_same e f (entries es) (entries fs) h = let z : length es ≡ length fs = cc in ap Ok (ap suc z)

module _ (contents others sections addresses : List ℕ) (address elsewhere : ℕ) (size : length contents ≡ length others)
    (ordinals : length sections ≡ length addresses) where
  pub by_lengths : (first second : Bool) (rs : List MachRel)
      → answer_of (read_records contents sections address first rs) ≡ answer_of (read_records others addresses elsewhere second rs)
  by_lengths first second [] = ap answer_of (read-nil contents sections address first ∙ sym (read-nil others addresses elsewhere second))
  by_lengths first second (r ∷ rs) =
      ap answer_of (read-cons contents sections address first r rs)
      ∙ go (check_reloc (length others) (length addresses) r) refl (by_lengths (is_subtractor r) (is_subtractor r) rs)
      ∙ sym (ap answer_of (read-cons others addresses elsewhere second r rs))
    where
      go : (c : Result ⊤ Refusal) → check_reloc (length others) (length addresses) r ≡ c
          → answer_of (read_records contents sections address (is_subtractor r) rs) ≡ answer_of (read_records others addresses elsewhere (is_subtractor r) rs)
          → answer_of
          (after (passing (check_reloc (length contents) (length sections) r) (Ok (entry_in contents sections address r first, 1)))
          (λ _. read_records contents sections address (is_subtractor r) rs))
          ≡ answer_of
          (after (passing (check_reloc (length others) (length addresses) r) (Ok (entry_in others addresses elsewhere r second, 1)))
          (λ _. read_records others addresses elsewhere (is_subtractor r) rs))
      go (Ok tt) e h = rw (size, ordinals, e) (before_same (entry_in contents sections address r first) (entry_in others addresses elsewhere r second) (read_records contents sections address (is_subtractor r) rs)
          (read_records others addresses elsewhere (is_subtractor r) rs) h)
      go (Err x) e h = rw (size, ordinals, e)
