-- The append law of the reader: a list of records read after another. Its steps agree with those of the two lists, and `arch` joins the walks.
use Rattle.std.specs.Prelude.{Result, Err}
use mathlib.Core.Path.{◌≡◌, refl, sym, ap, subst, ◌∙◌}
use mathlib.Core.Logic.{◌⊎◌, inl}
use mathlib.Core.Bool.{Bool, true, false}
use mathlib.Core.List.{List, ◌++◌}
use Prim.Native.Nat.{ℕ, ◌+◌, ◌-◌, ◌%◌, ◌<◌, ◌≤◌}
use native.Mathlib.Omega.{arith}
use borrow.Author.Tests.{lt-ltb, le-ltb, ltb-true, ltb-false, eqb-true, eqb-false}
use lib.ListN.{length, drop, length-append}
use lib.Dec.{eqb, ltb}
use Rattle.macho.specs.MachRel.{type_of}
use Rattle.macho.specs.Reloc.{with_signing}
use Rattle.macho.specs.Types.{ARM64_RELOC_SUBTRACTOR, ARM64_RELOC_ADDEND}
use Rattle.macho.specs.declared.mach_rel.MachRel.{MachRel}
use Rattle.macho.specs.declared.reloc.Reloc.{Reloc}
use Rattle.macho.specs.declared.refusal.Refusal.{Refusal}
use Rattle.macho.specs.declared.refusal.Refusal.TheVariants.{Bounds, LoneAddend}
use Rattle.arch.specs.Entry.{entry_of}
use Rattle.arch.specs.Join.{joined, moved}
use Rattle.arch.specs.Table.{records_of, record_at}
use Rattle.arch.specs.Walk.{read_all, Fills}
use Rattle.arch.proofs.Records.{records-append, left_at, right-at, left-subtracted, right-subtracted}
use Rattle.arch.proofs.Append.{Carries, carries_same, follows-moved, append, mapped-same, moved_none}
use Rattle.arm64_reader.specs.Record.{step_at}
use Rattle.arm64_reader.specs.Read.{read_records, ends_in, NoLastAddend, read_table}
use Rattle.arm64_reader.specs.Onward.{step-onward}
use Rattle.arm64_reader.proofs.Steps.{past_is, lone_is, step-within}
use Rattle.arm64_reader.proofs.Moves.{step-moved}

module _ (contents sections : List ℕ) (before : Bool) (xs ys : List MachRel) where
  -- a step of the first list, unless it is an ADDEND record at the end
  pub left-alike : (i : ℕ) → i < length xs → (type_of (record_at xs i).bits ≡ ARM64_RELOC_ADDEND → i + 1 < length xs)
      → step_at contents sections before (xs ++ ys) i ≡ step_at contents sections before xs i
  left-alike i h g =
      let e = left_at xs ys i h in
      step-moved 0 (λ (x : Reloc). x) contents contents sections before before (xs ++ ys) xs i i
      (record {
        number = omega arith;
        shifts = λ r s t a x. ap (λ (q : MachRel). with_signing (entry_of r s q.offset t a) x) (sym e);
        inside = ap (λ (q : MachRel). ltb (length contents) q.offset) e;
        loc = ap (λ (q : MachRel). drop q.offset contents) e;
        bits = ap (λ (q : MachRel). q.bits) e;
        subtracted = left-subtracted ARM64_RELOC_SUBTRACTOR before xs ys i (omega arith);
        more = λ t.
            let l = g t in
            lt-ltb (i + 1) (length (xs ++ ys)) (simp length-append (omega arith)) ∙ sym (lt-ltb (i + 1) (length xs) l);
        own = λ l. ap (λ (q : MachRel). q.bits) (left_at xs ys (i + 1) l);
      })
      ∙ moved_none (step_at contents sections before xs i)

  left-carries : (i : ℕ) → i < length xs
      → Carries (NoLastAddend xs) (length xs) (step_at contents sections before xs i) (step_at contents sections before (xs ++ ys) i)
  left-carries i h = go (ltb (i + 1) (length xs)) refl (eqb (type_of (record_at xs i).bits) ARM64_RELOC_ADDEND) refl
    where
      t : Result (Reloc × ℕ) Refusal
      t = step_at contents sections before xs i

      u : Result (Reloc × ℕ) Refusal
      u = step_at contents sections before (xs ++ ys) i

      alike : (type_of (record_at xs i).bits ≡ ARM64_RELOC_ADDEND → i + 1 < length xs) → Carries (NoLastAddend xs) (length xs) t u
      alike g = carries_same (NoLastAddend xs) (length xs) t u (left-alike i h g) (step-within contents sections before xs i h)

      refuses : (x : Refusal) → t ≡ Err x → (NoLastAddend xs → ⊥) → Carries (NoLastAddend xs) (length xs) t u
      refuses x e n = subst (λ (v : Result (Reloc × ℕ) Refusal). Carries (NoLastAddend xs) (length xs) v u) (sym e) (unfold Carries in λ p. absurd (n p))

      last : i + 1 ≡ length xs → type_of (record_at xs i).bits ≡ ARM64_RELOC_ADDEND → NoLastAddend xs → ⊥
      last e a f = f (ap (λ (k : ℕ). type_of (record_at xs k).bits) {x = length xs - 1} {y = i} (omega arith) ∙ a)

      ends : (w : Bool) → ltb (length contents) (record_at xs i).offset ≡ w → length xs ≤ i + 1 → type_of (record_at xs i).bits ≡ ARM64_RELOC_ADDEND
          → Carries (NoLastAddend xs) (length xs) t u
      ends true e l a = refuses Bounds (past_is contents sections before xs i (ltb-true _ _ e)) (last (omega arith) a)
      ends false e l a = refuses LoneAddend (lone_is contents sections before xs i (ltb-false _ _ e) a l) (last (omega arith) a)

      go : (y : Bool) → ltb (i + 1) (length xs) ≡ y → (z : Bool) → eqb (type_of (record_at xs i).bits) ARM64_RELOC_ADDEND ≡ z
          → Carries (NoLastAddend xs) (length xs) t u
      go true p z q = alike (λ _. ltb-true (i + 1) (length xs) p)
      go false p false q = alike (λ e. absurd (eqb-false _ _ q e))
      go false p true q = ends (ltb (length contents) (record_at xs i).offset) refl (ltb-false (i + 1) (length xs) p) (eqb-true _ _ q)

  -- a step of the second list
  pub right-alike : (j : ℕ) → j < length ys
      → step_at contents sections before (xs ++ ys) (length xs + j)
      ≡ moved (length xs) (λ (x : Reloc). x) (step_at contents sections (ends_in before xs) ys j)
  right-alike j h =
      let e = right-at xs ys j (length xs + j) refl in
      step-moved (length xs) (λ (x : Reloc). x) contents contents sections before (ends_in before xs) (xs ++ ys) ys (length xs + j) j
      (record {
        number = refl;
        shifts = λ r s t a x. ap (λ (q : MachRel). with_signing (entry_of r s q.offset t a) x) (sym e);
        inside = ap (λ (q : MachRel). ltb (length contents) q.offset) e;
        loc = ap (λ (q : MachRel). drop q.offset contents) e;
        bits = ap (λ (q : MachRel). q.bits) e;
        subtracted = right-subtracted ARM64_RELOC_SUBTRACTOR before xs ys j;
        more = λ _. longer (ltb (j + 1) (length ys)) refl;
        own = λ _. ap (λ (q : MachRel). q.bits) (right-at xs ys (j + 1) (length xs + j + 1) (omega arith));
      })
    where
      longer : (t : Bool) → ltb (j + 1) (length ys) ≡ t → ltb (length xs + j + 1) (length (xs ++ ys)) ≡ ltb (j + 1) (length ys)
      longer true e =
          let l = ltb-true (j + 1) (length ys) e in
          lt-ltb (length xs + j + 1) (length (xs ++ ys)) (simp length-append (omega arith)) ∙ sym e
      longer false e =
          let l = ltb-false (j + 1) (length ys) e in
          le-ltb (length xs + j + 1) (length (xs ++ ys)) (simp length-append (omega arith)) ∙ sym e

  -- the entries of the first list, then those of the second, or the first refusal: where the first list's last record is no ADDEND, and wherever
  -- the first list has no refusal
  pub read-append : NoLastAddend xs ⊎ Fills (read_records contents sections before xs)
      → read_records contents sections before (xs ++ ys)
      ≡ joined (read_records contents sections before xs) (read_records contents sections (ends_in before xs) ys)
  unfolding read_records
  read-append h =
      ap (read_all (step_at contents sections before (xs ++ ys))) (length-append xs ys)
      ∙ append (NoLastAddend xs) (Unit {0}) (step_at contents sections before (xs ++ ys)) (step_at contents sections before xs)
      (step_at contents sections (ends_in before xs) ys) (length xs) (length ys) (λ (x : Reloc). x)
      (step-onward contents sections before (xs ++ ys)) left-carries (λ j l. follows-moved (Unit {0}) (length xs) _ _ _ (right-alike j l)) h (inl tt)
      ∙ ap (joined (read_records contents sections before xs)) (mapped-same (read_records contents sections (ends_in before xs) ys))

-- the same of the bytes of two tables, of which the first has whole records
pub table-append : (contents sections records more : List ℕ) → length records % 8 ≡ 0
    → NoLastAddend (records_of records) ⊎ Fills (read_table contents records sections)
    → read_table contents (records ++ more) sections
    ≡ joined (read_table contents records sections) (read_records contents sections (ends_in false (records_of records)) (records_of more))
table-append contents sections records more w h =
    ap (read_records contents sections false) (records-append records more w) ∙ read-append contents sections false (records_of records) (records_of more) h
