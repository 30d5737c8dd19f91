-- The append law: a list of records read after another. A step looks at its own record and at the type of the one before, so the steps of the whole are
-- those of the two lists, and `arch` joins the walks.
use Rattle.std.specs.Prelude.{Result, Ok, Err, ⊤}
use mathlib.Core.Path.{◌≡◌, refl, ap, ◌∙◌}
use mathlib.Core.Logic.{inl}
use mathlib.Core.Bool.{Bool, false}
use mathlib.Core.List.{List, ◌++◌}
use Prim.Native.Nat.{ℕ, ◌+◌, ◌%◌, ◌<◌}
use native.Mathlib.Omega.{arith}
use lib.ListN.{length, length-append}
use Rattle.macho.specs.Types.{X86_64_RELOC_SUBTRACTOR}
use Rattle.macho.specs.declared.mach_rel.MachRel.{MachRel}
use Rattle.macho.specs.declared.reloc.Reloc.{Reloc}
use Rattle.macho.specs.declared.refusal.Refusal.{Refusal}
use Rattle.arch.specs.Join.{joined, moved}
use Rattle.arch.specs.Table.{records_of, record_at, ends_in}
use Rattle.arch.specs.Walk.{passing, read_all}
use Rattle.arch.proofs.Records.{records-append, left_at, right-at, left-subtracted, right-subtracted}
use Rattle.arch.proofs.Append.{carries_same, follows-moved, append, mapped-same}
use Rattle.x86_64_reader.specs.Record.{check_reloc, entry_at, step_at}
use Rattle.x86_64_reader.specs.Read.{read_records, read_table}
use Rattle.x86_64_reader.specs.Onward.{step-onward}
use Rattle.x86_64_reader.proofs.Steps.{step-within}

-- a checked step that stands d records further on
passing-moved : (d : ℕ) (c : Result ⊤ Refusal) (e : Reloc) (m n : ℕ) → m ≡ d + n → passing c (Ok (e, m)) ≡ moved d (λ (x : Reloc). x) (passing c (Ok (e, n)))
passing-moved d (Ok tt) e m n h = ap (λ (k : ℕ). Ok (e, k)) h
passing-moved d (Err x) e m n h = refl

module _ (contents sections : List ℕ) (address : ℕ) (before : Bool) (xs ys : List MachRel) where
  -- a step of the first list
  left-alike : (i : ℕ) → i < length xs → step_at contents sections address before (xs ++ ys) i ≡ step_at contents sections address before xs i
  unfolding step_at entry_at
  left-alike i h = rw (left_at xs ys i h, left-subtracted X86_64_RELOC_SUBTRACTOR before xs ys i (omega arith))

  -- a step of the second
  right-alike : (j : ℕ)
      → step_at contents sections address before (xs ++ ys) (length xs + j)
      ≡ moved (length xs) (λ (x : Reloc). x) (step_at contents sections address (ends_in X86_64_RELOC_SUBTRACTOR before xs) ys j)
  unfolding step_at entry_at
  right-alike j =
      rw (right-at xs ys j (length xs + j) refl, right-subtracted X86_64_RELOC_SUBTRACTOR before xs ys j)
      (passing-moved (length xs) (check_reloc (length contents) (length sections) (record_at ys j)) _ (length xs + j + 1) (j + 1) (omega arith))

  -- the entries of the first list, then those of the second, or the first refusal
  pub read-append : read_records contents sections address before (xs ++ ys)
      ≡ joined (read_records contents sections address before xs)
      (read_records contents sections address (ends_in X86_64_RELOC_SUBTRACTOR before xs) ys)
  unfolding read_records
  read-append =
      ap (read_all (step_at contents sections address before (xs ++ ys))) (length-append xs ys)
      ∙ append (Unit {0}) (Unit {0}) (step_at contents sections address before (xs ++ ys)) (step_at contents sections address before xs)
      (step_at contents sections address (ends_in X86_64_RELOC_SUBTRACTOR before xs) ys) (length xs) (length ys) (λ (x : Reloc). x)
      (step-onward contents sections address before (xs ++ ys))
      (λ i h. carries_same (Unit {0}) (length xs) _ _ (left-alike i h) (step-within contents sections address before xs i h))
      (λ j l. follows-moved (Unit {0}) (length xs) _ _ _ (right-alike j)) (inl tt) (inl tt)
      ∙ ap (joined (read_records contents sections address before xs)) (mapped-same _)

-- the same of the bytes of two tables, of which the first has whole records
pub table-append : (contents sections : List ℕ) (address : ℕ) (records more : List ℕ) → length records % 8 ≡ 0
    → read_table contents (records ++ more) sections address
    ≡ joined (read_table contents records sections address)
    (read_records contents sections address (ends_in X86_64_RELOC_SUBTRACTOR false (records_of records)) (records_of more))
table-append contents sections address records more w =
    ap (read_records contents sections address false) (records-append records more w)
    ∙ read-append contents sections address false (records_of records) (records_of more)
