-- Which number: the examples that each call's crate computed; the first entry or hint that has one, by induction over those before it; the lengths, by the
-- choices of their checks.
use Rattle.std.specs.Prelude.{Result, Ok, Err, ⊤}
use mathlib.Core.Path.{◌≡◌, refl, ap, ◌∙◌}
use mathlib.Core.Bool.{Bool, true, false, ◌||◌, not}
use mathlib.Core.Logic.{⊎_elim}
use mathlib.Core.List.{List}
use Prim.Native.Nat.{ℕ, zero, suc, ◌*◌, ◌/◌, ◌%◌, ◌^◌, ◌≤◌, ◌<◌}
use native.Mathlib.Omega.{arith}
use native.Mathlib.Nat.{not-suc-le-zero, eq-or-lt_of_le, le_of_suc-le-suc}
use borrow.Author.Tests.{eq-eqb, ne_eqb, le-ltb, lt-ltb}
use lib.Dec.{eqb, ltb}
use lib.ListN.{length, get_or}
use Rattle.util.specs.Choice.{choose}
use Rattle.util.specs.Word.{le, bytes}
use Rattle.macho.specs.MachRel.{mach_rel_at}
use Rattle.macho.specs.Record.{bytes_of, most_records}
use Rattle.macho.specs.Reloc.{reloc_size, reloc_at, reloc_bytes}
use Rattle.macho.specs.Resolved.{resolved_size, resolved_at, resolved_bytes, well_formed}
use Rattle.macho.specs.Report.{report_size}
use Rattle.macho.specs.Hint.{hint_count, hint_of, hint_bytes}
use Rattle.macho.specs.Refusal.{number_of, answer_number}
use Rattle.macho.specs.declared.refusal.Refusal.{Refusal}
use Rattle.arch.specs.Entry.{targeted}
use Rattle.arch.specs.Table.{records_from, records_of, subtracted_at, lengths_of}
use Rattle.arch.specs.Target.{target_of}
use Rattle.arch.specs.Walk.{Reading, read_from, read_all, answer_of}
use Rattle.arm64_reader.specs.Support.{forms_of, supported_of}
use Rattle.arm64_reader.specs.Check.{pointer32, check_reloc}
use Rattle.arm64_reader.specs.Record.{addend_of, record_of, step_at}
use Rattle.arm64_reader.specs.Read.{read_records, read_table, read_relocs}
use Rattle.arm64_reader.proofs.Examples.{turned_down, tlvp-words, first-number}
use Rattle.arch.proofs.Lengths as Lengths
use Rattle.arm64_fixup_entry.specs.Target.{width_of}
use Rattle.arm64_fixup_entry.specs.Check.{check_of}
use Rattle.arm64_fixup.specs.Walk.{entry_count, consumed, check_at, check_to}
use Rattle.arm64_fixup.specs.Answer as Answer
use Rattle.arm64_fixup.specs.Answer.{disagree, bases_of, outcome_of}
use Rattle.arm64_fixup.proofs.Examples as Fix
use Rattle.arm64_hint_check.specs.Check as HintCheck
use Rattle.arm64_hint_check.specs.Check.{check_all, is_list, check_lists, check_slots, check_listed}
use Rattle.arm64_hint_run.specs.Run.{run_number, run_of}
use Rattle.arm64_hint_listed.specs.Listed.{listed_of}
use Rattle.arm64_hint_kept.specs.Examples.{pair}
use Rattle.arm64_hint_run.proofs.Examples as Hints
use Rattle.arm64_hint_run.proofs.Answers.{number_is}
use Rattle.arm64_hint_run.proofs.Lengths as HintLengths
use Rattle.hauklivo.specs.Reader as Reader
use Rattle.hauklivo.specs.Fixup as Fixup
use Rattle.claims.specs.Numbers.{entry_one, Numbers}

-- one of a list of equal numbers
at : {l m : List ℕ} (k : ℕ) → l ≡ m → get_or l k 0 ≡ get_or m k 0
at k e = ap (λ (l : List ℕ). get_or l k 0) e

-- ---- the first that has a number

-- of checks in order: one more after fit ones is its own, one more after a refusal changes nothing
module _ (each upto : ℕ → Result ⊤ Refusal) (none : upto 0 ≡ Ok tt) (onward : (k : ℕ) → upto k ≡ Ok tt → upto (suc k) ≡ each k)
    (stays : (k : ℕ) (x : Refusal) → upto k ≡ Err x → upto (suc k) ≡ Err x) where
  all_fit : (i : ℕ) → ((j : ℕ) → j < i → each j ≡ Ok tt) → upto i ≡ Ok tt
  all_fit zero fit = none
  all_fit (suc i) fit = onward i (all_fit i (λ j l. fit j (omega arith))) ∙ fit i (omega arith)

  earliest : (i : ℕ) (x : Refusal) → ((j : ℕ) → j < i → each j ≡ Ok tt) → each i ≡ Err x → (k : ℕ) → i < k → upto k ≡ Err x
  earliest i x fit e zero h = absurd (not-suc-le-zero h)
  earliest i x fit e (suc k) h =
      ⊎_elim (λ (q : i ≡ k). rw (← q) (onward i (all_fit i fit) ∙ e)) (λ (l : i < k). stays k x (earliest i x fit e k l))
      (eq-or-lt_of_le (le_of_suc-le-suc h))

fix-up-earliest : (section : List ℕ) (base tls image : ℕ) (entries targets slots : List ℕ) (i : ℕ) (x : Refusal)
    → Answer.check_lists (length entries) (length targets) (length slots) ≡ Ok tt → i < entry_count entries
    → ((j : ℕ) → j < i → check_at (length section) (bases_of base tls image) entries targets j ≡ Ok tt)
    → check_at (length section) (bases_of base tls image) entries targets i ≡ Err x
    → Fixup.number_to section base tls image entries targets slots ≡ number_of x
unfolding outcome_of check_to
fix-up-earliest section base tls image entries targets slots i x lists h fit e =
    let found : check_to (length section) (bases_of base tls image) entries targets (entry_count entries) ≡ Err x =
    earliest (check_at (length section) (bases_of base tls image) entries targets) (check_to (length section) (bases_of base tls image) entries targets)
    refl (λ k q. rw q) (λ k y q. rw q) i x fit e (entry_count entries) h in
    rw (lists, found)

hint-run-earliest : (image hints entries : List ℕ) (k : ℕ) (x : Refusal)
    → HintCheck.check_lists (length hints) (length entries) ≡ Ok tt → k < hint_count hints
    → ((j : ℕ) → j < k → HintCheck.check_hint (length image) (length entries / reloc_size) (hint_of hints j) ≡ Ok tt)
    → HintCheck.check_hint (length image) (length entries / reloc_size) (hint_of hints k) ≡ Err x
    → run_number (run_of image hints entries) ≡ number_of x
unfolding check_all HintCheck.check_to
hint-run-earliest image hints entries k x lists h fit e =
    let found : HintCheck.check_to (length image) (length entries / reloc_size) hints (hint_count hints) ≡ Err x =
    earliest (λ j. HintCheck.check_hint (length image) (length entries / reloc_size) (hint_of hints j))
    (HintCheck.check_to (length image) (length entries / reloc_size) hints) refl (λ k q. rw q) (λ k y q. rw q) k x fit e (hint_count hints) h in
    number_is image hints entries ∙ rw (lists, found)

-- ---- lengths

-- the number of what a reader reads to
pub numbered : {a b : Reading} → a ≡ b → answer_number (answer_of a) ≡ answer_number (answer_of b)
numbered e = ap (λ (a : Reading). answer_number (answer_of a)) e

module _ (contents records sections slots : List ℕ) where
  not-whole : (length records % 8 ≡ 0 → ⊥) → Reader.number_to contents records sections slots ≡ 1
  unfolding read_relocs
  not-whole w = numbered (Lengths.not-whole (length records) (length sections) (length slots) (read_table contents records sections) w)

  many-records : 2 ^ 32 ≤ length records / 8 → Reader.number_to contents records sections slots ≡ 1
  unfolding read_relocs
  many-records h = numbered (Lengths.many-records (length records) (length sections) (length slots) (read_table contents records sections) h)

  many-sections : 2 ^ 32 ≤ length sections → Reader.number_to contents records sections slots ≡ 1
  unfolding read_relocs
  many-sections h = numbered (Lengths.many-sections (length records) (length sections) (length slots) (read_table contents records sections) h)

  few-slots : length records % 8 ≡ 0 → length records / 8 < 2 ^ 32 → length sections < 2 ^ 32 → length slots < 24 * (length records / 8)
      → Reader.number_to contents records sections slots ≡ 2
  unfolding read_relocs
  few-slots w n m h = numbered (Lengths.few-slots (length records) (length sections) (length slots) (read_table contents records sections) w n m h)

-- one of four tests holds
second : (a b c d : Bool) → b ≡ true → (a || b || c || d) ≡ true
second true b c d e = refl
second false b c d e = rw e

third : (a b c d : Bool) → c ≡ true → (a || b || c || d) ≡ true
third true b c d e = refl
third false true c d e = refl
third false false c d e = rw e

fourth : (a b c d : Bool) → d ≡ true → (a || b || c || d) ≡ true
fourth true b c d e = refl
fourth false true c d e = refl
fourth false false true d e = refl
fourth false false false d e = e

module _ (section : List ℕ) (base tls image : ℕ) (entries targets slots : List ℕ) where
  disagreeing : disagree (length entries) (length targets) ≡ true → Fixup.number_to section base tls image entries targets slots ≡ 1
  unfolding outcome_of Answer.check_lists choose
  disagreeing e = rw e

  -- the four tests
  abbrev cut : Bool
  cut = not (eqb (length entries % reloc_size) 0)

  abbrev targets_cut : Bool
  targets_cut = not (eqb (length targets % resolved_size) 0)

  abbrev many : Bool
  many = ltb most_records (length entries / reloc_size)

  abbrev differ : Bool
  differ = not (eqb (length entries / reloc_size) (length targets / resolved_size))

  entries-not-whole : (length entries % reloc_size ≡ 0 → ⊥) → Fixup.number_to section base tls image entries targets slots ≡ 1
  entries-not-whole h = disagreeing (rw (ne_eqb (length entries % reloc_size) 0 h))

  targets-not-whole : (length targets % resolved_size ≡ 0 → ⊥) → Fixup.number_to section base tls image entries targets slots ≡ 1
  targets-not-whole h = disagreeing (second cut targets_cut many differ (rw (ne_eqb (length targets % resolved_size) 0 h)))

  many-fix-up-entries : 2 ^ 32 ≤ length entries / reloc_size → Fixup.number_to section base tls image entries targets slots ≡ 1
  many-fix-up-entries h = disagreeing (third cut targets_cut many differ (lt-ltb most_records (length entries / reloc_size) (omega arith)))

  counts-differ : (length entries / reloc_size ≡ length targets / resolved_size → ⊥) → Fixup.number_to section base tls image entries targets slots ≡ 1
  counts-differ h = disagreeing (fourth cut targets_cut many differ (rw (ne_eqb (length entries / reloc_size) (length targets / resolved_size) h)))

  few-report-slots : length entries % reloc_size ≡ 0 → length targets % resolved_size ≡ 0 → length entries / reloc_size < 2 ^ 32
      → length entries / reloc_size ≡ length targets / resolved_size → length slots < report_size * (length entries / reloc_size)
      → Fixup.number_to section base tls image entries targets slots ≡ 2
  unfolding outcome_of Answer.check_lists choose
  few-report-slots e f l q h =
      simp (
        eq-eqb (length entries % 24) 0 e,
        eq-eqb (length targets % 48) 0 f,
        le-ltb most_records (length entries / 24) (omega arith),
        eq-eqb (length entries / 24) (length targets / 48) q,
        lt-ltb (length slots) (24 * (length entries / 24)) h,
      )

-- one hint, and 15 bytes of slots
listed-short : run_number (listed_of (bytes 8 0) entry_one pair (bytes 15 0)) ≡ 2
unfolding bytes bytes_of reloc_bytes hint_bytes is_list check_lists check_slots check_listed choose listed_of
listed-short = refl

pub numbers : Numbers
unfolding reloc_bytes resolved_bytes bytes_of bytes outcome_of Answer.check_lists check_to check_at check_of consumed reloc_at resolved_at le well_formed width_of choose
    read_relocs read_records read_all read_from lengths_of records_of records_from mach_rel_at subtracted_at step_at record_of check_reloc supported_of forms_of pointer32
    addend_of targeted target_of
numbers =
    let r = turned_down in
    let q = first-number in
    let f = Fix.numbers in
    let o = Fix.order in
    let h = Hints.numbers in
    record {
      number-1 = (at 0 r, f.0, h.0, h.1);
      number-2 = (at 1 r, f.1);
      number-2-listed = listed-short;
      number-3 = (at 2 r, f.2, h.2, h.3);
      number-4 = at 3 r;
      number-5 = (at 4 r, f.3);
      number-6 = at 5 r;
      number-6-unallocated = (at 0 tlvp-words, at 1 tlvp-words, at 2 tlvp-words);
      number-6-loads = (at 3 tlvp-words, at 4 tlvp-words, at 5 tlvp-words, at 6 tlvp-words, at 7 tlvp-words, at 8 tlvp-words);
      number-7 = at 6 r;
      number-8 = f.4;
      number-9 = f.5;
      number-10 = f.6;
      number-11 = (f.7, f.8, f.9);
      number-12 = h.4;
      reader-first = (at 0 q, at 1 q, at 2 q, at 3 q, at 4 q, at 5 q, at 6 q, at 7 q, at 8 q, at 9 q);
      fix-up-first = o;
      fix-up-passed-over = refl;
      fix-up-earliest = fix-up-earliest;
      hint-run-first = (h.5, h.6, h.7, h.8);
      hint-run-left-out = (h.9, h.10, h.11);
      hint-run-earliest = hint-run-earliest;
      records-not-whole = not-whole;
      many-records = many-records;
      many-sections = many-sections;
      entries-not-whole = entries-not-whole;
      targets-not-whole = targets-not-whole;
      many-fix-up-entries = many-fix-up-entries;
      counts-differ = counts-differ;
      hint-lengths = HintLengths.lengths;
      hint-lengths-only = HintLengths.lengths-only;
      few-entry-slots = few-slots;
      few-report-slots = few-report-slots;
      at-the-end = (refl, refl, refl, refl);
    }
