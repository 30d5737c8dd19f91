-- The step at a record by what its check says, and the walk over a table of bytes: each step takes one record.
use Rattle.std.specs.Prelude.{Result, Ok, Err, ⊤}
use mathlib.Core.Path.{◌≡◌, refl, sym, ap, subst, ◌∙◌}
use mathlib.Core.Bool.{Bool, true, false}
use mathlib.Core.List.{List}
use Prim.Native.Nat.{ℕ, ◌+◌, ◌/◌, ◌<◌, ◌≤◌}
use native.Mathlib.Omega.{arith}
use borrow.Author.Tests.{ltb-false}
use lib.Dec.{eqb, ltb, lit≤}
use lib.ListN.{length}
use Rattle.util.specs.Choice.{choose}
use Rattle.util.proofs.Choice.{split, chosen, choose-true}
use Rattle.macho.specs.MachRel.{p2size_of}
use Rattle.macho.specs.Types.{X86_64_RELOC_SUBTRACTOR}
use Rattle.macho.specs.declared.mach_rel.MachRel.{MachRel}
use Rattle.macho.specs.declared.reloc.Reloc.{Reloc}
use Rattle.macho.specs.declared.refusal.Refusal.{Refusal}
use Rattle.macho.specs.declared.refusal.Refusal.TheVariants.{Bounds, Unsupported, NoSection}
use Rattle.arch.specs.Entry.{targeted}
use Rattle.arch.specs.Table.{records_of, record_at, subtracted_at}
use Rattle.arch.specs.Target.{is_there}
use Rattle.arch.specs.Walk.{passing, Reads, read_all}
use Rattle.arch.proofs.Records.{length-records}
use Rattle.arch.proofs.Targets.{targeted-is}
use Rattle.arch.proofs.Walk.{Within, ends-within}
use Rattle.x86_64_reader.specs.Support.{supported_of}
use Rattle.x86_64_reader.specs.Addend.{width_of, added_by}
use Rattle.x86_64_reader.specs.Onward.{step-ends}
use Rattle.x86_64_reader.specs.Record.{check_reloc, entry_at, step_at}
use Rattle.x86_64_reader.specs.Read.{read_records, read_table}

-- at most 8 bytes are read
pub width_most : (p2size : ℕ) → width_of p2size ≤ 8
unfolding width_of
width_most p2size =
    chosen (λ (n : ℕ). n ≤ 8) (eqb p2size 0) _ _ (lit≤ tt) (chosen (λ (n : ℕ). n ≤ 8) (eqb p2size 2) _ _ (lit≤ tt) (lit≤ tt))

-- ---- a record that fits

-- what a check that says so has found
Found : ℕ → ℕ → MachRel → Result ⊤ Refusal → Type 0
Found size count r (Ok tt) = (supported_of r ≡ true) × (r.offset + width_of (p2size_of r.bits) ≤ size) × (is_there count r ≡ true)
Found size count r (Err x) = Unit {0}

found : (size count : ℕ) (r : MachRel) → Found size count r (check_reloc size count r)
unfolding check_reloc Found
found size count r =
    split P (supported_of r) _ _
    (λ s.
    split P (ltb size (r.offset + width_of (p2size_of r.bits))) _ _ (λ _. tt)
    (λ b. split P (is_there count r) _ _ (λ t. (s, ltb-false _ _ b, t)) (λ _. tt)))
    (λ _. tt)
  where
    P : Result ⊤ Refusal → Type 0
    P = Found size count r

pub fit_found : (size count : ℕ) (r : MachRel) → check_reloc size count r ≡ Ok tt
    → (supported_of r ≡ true) × (r.offset + width_of (p2size_of r.bits) ≤ size) × (is_there count r ≡ true)
unfolding Found
fit_found size count r e = subst (Found size count r) e (found size count r)

-- ---- the step at record i

module _ (contents sections : List ℕ) (address : ℕ) (before : Bool) (rs : List MachRel) (i : ℕ) where
  abbrev check : Result ⊤ Refusal
  check = check_reloc (length contents) (length sections) (record_at rs i)

  pub fit_is : check ≡ Ok tt → step_at contents sections address before rs i ≡ Ok (entry_at contents sections address before rs i, i + 1)
  unfolding step_at
  fit_is e = rw e

  -- one that reads has been found fit
  pub reads_fit : Reads (step_at contents sections address before rs i) → check ≡ Ok tt
  unfolding step_at
  reads_fit h = go check refl h
    where
      go : (c : Result ⊤ Refusal) → check ≡ c → Reads (passing c (Ok (entry_at contents sections address before rs i, i + 1))) → check ≡ Ok tt
      go (Ok tt) e h = e
      go (Err x) e h = absurd h

  -- and what it reads is its target's entry, without the check
  pub entered-is : Reads (step_at contents sections address before rs i)
      → targeted sections (record_at rs i) (subtracted_at X86_64_RELOC_SUBTRACTOR before rs i) (record_at rs i).offset
      (added_by contents address (record_at rs i)) (i + 1)
      ≡ step_at contents sections address before rs i
  unfolding entry_at
  entered-is h =
      let f = reads_fit h in
      targeted-is sections (record_at rs i) _ _ _ _
      ∙ choose-true _ _ _ (fit_found (length contents) (length sections) (record_at rs i) f).2
      ∙ sym (fit_is f)

  -- a step in the terms of every reader: 5, 3, then the target
  pub step-targeted : step_at contents sections address before rs i
      ≡ choose (supported_of (record_at rs i))
      (choose (ltb (length contents) ((record_at rs i).offset + width_of (p2size_of (record_at rs i).bits))) (Err Bounds)
      (targeted sections (record_at rs i) (subtracted_at X86_64_RELOC_SUBTRACTOR before rs i) (record_at rs i).offset
      (added_by contents address (record_at rs i)) (i + 1)))
      (Err Unsupported)
  unfolding step_at entry_at check_reloc choose
  step-targeted =
      rw (targeted-is sections (record_at rs i) (subtracted_at X86_64_RELOC_SUBTRACTOR before rs i) (record_at rs i).offset
      (added_by contents address (record_at rs i)) (i + 1))
      (go (supported_of (record_at rs i)) (ltb (length contents) ((record_at rs i).offset + width_of (p2size_of (record_at rs i).bits)))
      (is_there (length sections) (record_at rs i)) _)
    where
      go : (a b c : Bool) (s : Result (Reloc × ℕ) Refusal)
          → passing (choose a (choose b (Err Bounds) (choose c (Ok tt) (Err NoSection))) (Err Unsupported)) s
          ≡ choose a (choose b (Err Bounds) (choose c s (Err NoSection))) (Err Unsupported)
      go true true c s = refl
      go true false true s = refl
      go true false false s = refl
      go false b c s = refl

module _ (contents sections : List ℕ) (address : ℕ) (before : Bool) (rs : List MachRel) where
  pub step-within : (i : ℕ) → i < length rs → Within (length rs) (step_at contents sections address before rs i)
  step-within i h = ends-within (length rs) (i + 1) (omega arith) _ (step-ends contents sections address before rs i)

-- ---- a table of bytes

module _ (contents records sections : List ℕ) (address : ℕ) where
  abbrev pub table_step : ℕ → Result (Reloc × ℕ) Refusal
  table_step = step_at contents sections address false (records_of records)

  pub table_is : read_table contents records sections address ≡ read_all table_step (length records / 8)
  unfolding read_records
  table_is = ap (read_all table_step) (length-records records)
