-- The step at a record in each of its cases: past the contents, an ADDEND record with and without a record after it, any other record.
use Rattle.std.specs.Prelude.{Result, Ok, Err}
use mathlib.Core.Path.{◌≡◌, refl, sym, ap, subst, ◌∙◌}
use mathlib.Core.Bool.{Bool, true, false}
use mathlib.Core.List.{List}
use Prim.Native.Nat.{ℕ, ◌+◌, ◌-◌, ◌/◌, ◌<◌, ◌≤◌}
use native.Mathlib.Omega.{arith}
use borrow.Author.Tests.{eq-eqb, ne_eqb, lt-ltb, le-ltb, ltb-true}
use lib.ListN.{length, drop}
use lib.Dec.{ltb}
use Rattle.util.specs.Bits.{extend}
use Rattle.util.specs.Choice.{choose}
use Rattle.util.proofs.Choice.{split, chosen, choose-true}
use Rattle.macho.specs.MachRel.{idx_of, type_of}
use Rattle.macho.specs.Types.{ARM64_RELOC_SUBTRACTOR}
use Rattle.macho.specs.Types.{ARM64_RELOC_ADDEND}
use Rattle.macho.specs.declared.mach_rel.MachRel.{MachRel}
use Rattle.macho.specs.declared.reloc.Reloc.{Reloc}
use Rattle.macho.specs.declared.refusal.Refusal.TheVariants.{Bounds, LoneAddend}
use Rattle.arch.specs.Entry.{entry_of}
use Rattle.arch.specs.Table.{records_of, record_at, subtracted_at}
use Rattle.arch.specs.Walk.{read_all}
use Rattle.macho.specs.declared.refusal.Refusal.{Refusal}
use Rattle.arch.proofs.Records.{length-records}
use Rattle.arch.proofs.Walk.{Within, Ends, refused-within, ends-within}
use Rattle.arch.proofs.Walk.{passing-reads}
use Rattle.arm64_reader.specs.Check.{check_reloc}
use Rattle.arch.specs.Walk.{Reads}
use Rattle.arm64_reader.specs.Onward.{record-ends}
use Rattle.arm64_reader.specs.Record.{entered, record_of, own_at, step_at}
use Rattle.arm64_reader.specs.Plain.{plain_of}
use Rattle.arm64_reader.proofs.PlainRecords.{plain-reads}
use Rattle.arm64_reader.specs.Fields.{is_addend, own_of, given_of}
use Rattle.arm64_reader.specs.Read.{read_records, read_table}

-- the record after one that is no SUBTRACTOR is not subtracted
pub after-other : (before : Bool) (rs : List MachRel) (i : ℕ) → (type_of (record_at rs i).bits ≡ ARM64_RELOC_SUBTRACTOR → ⊥)
    → subtracted_at ARM64_RELOC_SUBTRACTOR before rs (i + 1) ≡ false
unfolding subtracted_at choose
after-other before rs i h =
    let z : i + 1 - 1 ≡ i = omega arith in
    rw (ne_eqb (i + 1) 0 (omega arith), z) (ne_eqb _ _ h)

module _ (contents sections : List ℕ) (before : Bool) (rs : List MachRel) (i : ℕ) where
  abbrev off : ℕ
  off = (record_at rs i).offset

  pub past_is : length contents < off → step_at contents sections before rs i ≡ Err Bounds
  unfolding step_at choose
  past_is h = simp (lt-ltb _ _ h)

  pub lone_is : off ≤ length contents → type_of (record_at rs i).bits ≡ ARM64_RELOC_ADDEND → length rs ≤ i + 1
      → step_at contents sections before rs i ≡ Err LoneAddend
  unfolding step_at choose
  lone_is h t l = simp (le-ltb _ _ h, eq-eqb _ _ t, le-ltb _ _ l)

  pub pair_is : off ≤ length contents → type_of (record_at rs i).bits ≡ ARM64_RELOC_ADDEND → i + 1 < length rs
      → step_at contents sections before rs i
      ≡ record_of (drop off contents) sections (record_at rs (i + 1)) false off (extend (idx_of (record_at rs i).bits) 24) (i + 1 + 1)
  unfolding step_at choose
  pair_is h t l =
      let n : type_of (record_at rs i).bits ≡ ARM64_RELOC_SUBTRACTOR → ⊥ = λ e. omega arith in
      simp (le-ltb _ _ h, eq-eqb _ _ t, lt-ltb _ _ l, after-other before rs i n)

  pub other-is : off ≤ length contents → (type_of (record_at rs i).bits ≡ ARM64_RELOC_ADDEND → ⊥)
      → step_at contents sections before rs i ≡ own_at contents sections before rs i off 0
  unfolding step_at choose
  other-is h t = simp (le-ltb _ _ h, ne_eqb _ _ t)

  -- an entry that has its own record, with an ADDEND record before that or without
  pub own_is : off ≤ length contents → own_of rs i < length rs
      → step_at contents sections before rs i ≡ own_at contents sections before rs (own_of rs i) off (given_of rs i)
  unfolding step_at choose
  own_is h l = go (is_addend (record_at rs i)) refl
    where
      go : (b : Bool) → is_addend (record_at rs i) ≡ b
          → step_at contents sections before rs i ≡ own_at contents sections before rs (own_of rs i) off (given_of rs i)
      go true e =
          let m : i + 1 < length rs = rw e at l in
          simp (le-ltb _ _ h, e, lt-ltb _ _ m)
      go false e = simp (le-ltb _ _ h, e)

  -- and one that has none
  pub none_is : off ≤ length contents → i < length rs → length rs ≤ own_of rs i → step_at contents sections before rs i ≡ Err LoneAddend
  unfolding step_at choose
  none_is h k l = go (is_addend (record_at rs i)) refl
    where
      go : (b : Bool) → is_addend (record_at rs i) ≡ b → step_at contents sections before rs i ≡ Err LoneAddend
      go true e =
          let m : length rs ≤ i + 1 = rw e at l in
          simp (le-ltb _ _ h, e, le-ltb _ _ m)
      go false e =
          let m : length rs ≤ i = rw e at l in
          absurd (omega arith)

  -- a record that reads whatever stands at its place
  pub plain-is : off ≤ length contents → plain_of (record_at rs i) ≡ true
      → step_at contents sections before rs i
      ≡ Ok (entry_of (record_at rs i) (subtracted_at ARM64_RELOC_SUBTRACTOR before rs i) off (idx_of (record_at rs i).bits) 0, i + 1)
  plain-is h p =
      let q = plain-reads (record_at rs i) p in
      other-is h q.0 ∙ q.1 (drop off contents) sections (subtracted_at ARM64_RELOC_SUBTRACTOR before rs i) off (i + 1)

-- ---- what a reader has before it: record i read as r, and the number j of the entry's own record

pub offset-within : (contents : List ℕ) {r m : MachRel} → r ≡ m → r.offset ≤ length contents → m.offset ≤ length contents
offset-within contents e h = subst (λ (x : MachRel). x.offset ≤ length contents) e h

pub own-there : (records : List ℕ) (i : ℕ) {j : ℕ} → j ≡ own_of (records_of records) i → j < length records / 8
    → own_of (records_of records) i < length (records_of records)
own-there records i e h = omega (arith, length-records records, e)

pub own-missing : (contents records sections : List ℕ) (i : ℕ) {r : MachRel} {j : ℕ} → r ≡ record_at (records_of records) i → r.offset ≤ length contents
    → i < length records / 8 → j ≡ own_of (records_of records) i → length records / 8 ≤ j
    → Err LoneAddend ≡ step_at contents sections false (records_of records) i
own-missing contents records sections i f h k e l =
    sym
    (none_is contents sections false (records_of records) i (offset-within contents f h) (omega (arith, length-records records))
    (omega (arith, length-records records, e)))

-- a step that reads does so without the check
pub entered-is : (contents sections : List ℕ) (before : Bool) (rs : List MachRel) (i : ℕ)
    → (record_at rs i).offset ≤ length contents → own_of rs i < length rs
    → Reads (step_at contents sections before rs i)
    → entered (drop (record_at rs i).offset contents) sections (record_at rs (own_of rs i)) (subtracted_at ARM64_RELOC_SUBTRACTOR before rs (own_of rs i))
    (record_at rs i).offset (given_of rs i) (own_of rs i + 1)
    ≡ step_at contents sections before rs i
unfolding record_of
entered-is contents sections before rs i h l r =
    let e = own_is contents sections before rs i h l in
    passing-reads (check_reloc (record_at rs (own_of rs i)) (subtracted_at ARM64_RELOC_SUBTRACTOR before rs (own_of rs i)) (drop (record_at rs i).offset contents)) _
    (subst Reads e r)
    ∙ sym e

-- ---- where a step ends

module _ (contents sections : List ℕ) (before : Bool) (rs : List MachRel) where
  -- no step goes past the list
  pub step-within : (i : ℕ) → i < length rs → Within (length rs) (step_at contents sections before rs i)
  unfolding step_at
  step-within i h =
      let n = length rs in
      chosen (Within n) _ _ _ (refused-within n Bounds)
      (chosen (Within n) _ _ _
      (split (Within n) (ltb (i + 1) n) _ _
      (λ e. let l = ltb-true (i + 1) n e in ends-within n (i + 1 + 1) (omega arith) _ (record-ends _ _ _ _ _ _ (i + 1 + 1)))
      (λ _. refused-within n LoneAddend))
      (ends-within n (i + 1) (omega arith) _ (record-ends _ _ _ _ _ _ (i + 1))))

  -- the step of an ADDEND record ends after the record after it
  pub pair_ends : (i : ℕ) → type_of (record_at rs i).bits ≡ ARM64_RELOC_ADDEND → Ends (i + 1 + 1) (step_at contents sections before rs i)
  unfolding step_at Ends
  pair_ends i t =
      let e = eq-eqb (type_of (record_at rs i).bits) ARM64_RELOC_ADDEND t in
      chosen (Ends (i + 1 + 1)) _ _ _ tt
      (rw (choose-true _ _ _ e) (chosen (Ends (i + 1 + 1)) _ _ _ (record-ends _ _ _ _ _ _ (i + 1 + 1)) tt))

-- ---- a table of bytes

module _ (contents records sections : List ℕ) where
  abbrev pub table_step : ℕ → Result (Reloc × ℕ) Refusal
  table_step = step_at contents sections false (records_of records)

  pub table_is : read_table contents records sections ≡ read_all table_step (length records / 8)
  unfolding read_records
  table_is = ap (read_all table_step) (length-records records)
