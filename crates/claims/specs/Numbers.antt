-- Which number a refused call answers (RULES 3.1, 3.3 to 3.6, 3.9 to 3.11): the examples of RULES 3.1, which comes first where several apply, and the
-- lengths. That a refused call leaves all is in Calls, the numbers of stub and thunk entries in Fixup, those of the lister in Lister, those of payloads in
-- Payloads, those of authenticated pointers in Authenticated, those of the listed hint run but for an example in Listed.
use Rattle.std.specs.Prelude.{◌≡◌, List, [], ◌++◌, ℕ, ◌-◌, ◌*◌, ◌/◌, ◌%◌, ◌^◌, ◌≤◌, ◌<◌, length, replicate, Ok, Err}
use Rattle.util.specs.Word.{bytes}
use Rattle.macho.specs.Types.{MCLOH_AdrpLdr, ARM64_RELOC_UNSIGNED, ARM64_RELOC_SUBTRACTOR, ARM64_RELOC_PAGE21}
use Rattle.macho.specs.Types.{ARM64_RELOC_POINTER_TO_GOT, ARM64_RELOC_ADDEND}
use Rattle.macho.specs.MachRel.{mach_rel_size}
use Rattle.macho.specs.Reloc.{reloc_size}
use Rattle.macho.specs.Resolved.{resolved_size}
use Rattle.macho.specs.Report.{report_size}
use Rattle.macho.specs.Hint.{hint_size, no_entry, hint_count, hint_of}
use Rattle.macho.specs.Refusal.{number_of}
use Rattle.macho.specs.declared.refusal.Refusal.{Refusal}
use Rattle.arm64_fixup.specs.Walk.{entry_count, check_at}
use Rattle.arm64_fixup.specs.Answer.{bases_of}
use Rattle.arm64_fixup.specs.Answer as Answer
use Rattle.arm64_hint_check.specs.Check as HintCheck
use Rattle.arm64_hint_run.specs.Run.{run_of, run_number}
use Rattle.arm64_hint_listed.specs.Listed.{listed_of}
use Rattle.hauklivo.specs.Reader as Reader
use Rattle.hauklivo.specs.Fixup as Fixup
use Rattle.arm64_hint_kept.specs.Examples.{half, pair, place}
use Rattle.claims.specs.Lent.{nop, mach_rel, entry, resolved, hint, plain}

-- the number of the reader without sections
abbrev pub reader : (contents records slots : List ℕ) → ℕ
reader contents records slots = Reader.number_to contents records [] slots

-- of the fix-up
abbrev pub fix_up : (section : List ℕ) (base : ℕ) (entries targets slots : List ℕ) → ℕ
fix_up section base entries targets slots = Fixup.number_to section base 0 0 entries targets slots

-- of a hint run on an image of so many zeros
abbrev pub hint_run : (size : ℕ) (hints entries : List ℕ) → ℕ
hint_run size hints entries = run_number (run_of (bytes size 0) hints entries)

-- n zeros
abbrev pub zeros : ℕ → List ℕ
zeros n = replicate n 0

-- of a TLVP page offset on a word
abbrev pub tlvp_on : ℕ → ℕ
tlvp_on word = reader (bytes 4 word) (mach_rel 0 0x9c000000) (zeros 24)

-- a hint whose second word ends past its part
abbrev pub past_part : List ℕ
past_part = hint MCLOH_AdrpLdr 2 0 8 (place 0 0 0) (place 5 0 0) (place 0 0 0)

-- a hint that names the entries 0 and 1
abbrev pub entry_one : List ℕ
entry_one = plain MCLOH_AdrpLdr 2 0

-- the numbers of refused calls: an example of each, and their order
pub record Numbers : Type 0 where
  -- RULES 3.1: 7 bytes of relocation records; 7 bytes of entries; 7 bytes of hints; 23 bytes of entries in a hint run
  pub number-1 : (reader [] (zeros 7) (zeros 24) ≡ 1)
      × (fix_up [] 0 (bytes 7 0) [] [] ≡ 1)
      × (hint_run 8 (bytes 7 0) [] ≡ 1)
      × (hint_run 8 [] (bytes 23 0) ≡ 1)
  -- one record or one entry, and 23 bytes of slots
  pub number-2 : (reader [] (mach_rel 0 0x3d000000) (zeros 23) ≡ 2)
      × (fix_up (bytes 8 0) 0 (entry ARM64_RELOC_UNSIGNED 0 0) (resolved 0 0) (bytes 23 0) ≡ 2)
  -- one hint, and 15 bytes of slots
  pub number-2-listed : run_number (listed_of (bytes 8 0) entry_one pair (bytes 15 0)) ≡ 2
  -- an 8-byte UNSIGNED at offset 4 of 8 bytes, as a record and as an entry; a part of 8 bytes in an image of 7; a word at offset 5 of a part of 8
  pub number-3 : (reader (zeros 8) (mach_rel 4 0x0e000000) (zeros 24) ≡ 3)
      × (fix_up (bytes 8 0) 0 (entry ARM64_RELOC_UNSIGNED 4 0) (resolved 0 0) (bytes 24 0) ≡ 3)
      × (hint_run 7 entry_one pair ≡ 3)
      × (hint_run 8 past_part pair ≡ 3)
  -- one record with the bits 0xa4000000
  pub number-4 : reader [] (mach_rel 0 0xa4000000) (zeros 24) ≡ 4
  -- one record with the bits 0x0c000000; an entry of type 10
  pub number-5 : (reader (zeros 8) (mach_rel 0 0x0c000000) (zeros 24) ≡ 5)
      × (fix_up (bytes 8 0) 0 (entry ARM64_RELOC_ADDEND 0 0) (resolved 0 0) (bytes 24 0) ≡ 5)
  -- a TLVP page offset on NOP
  pub number-6 : reader nop (mach_rel 0 0x9c000000) (zeros 24) ≡ 6
  -- RULES 4.8: one on the unallocated words 7d800000, 7dc00000 and bd800000; with ldrsh x0, ldrsh w0, ldrsw x0, ldr q0, ldr h0 and ldr s0 the record is read
  pub number-6-unallocated : (tlvp_on 0x7d800000 ≡ 6) × (tlvp_on 0x7dc00000 ≡ 6) × (tlvp_on 0xbd800000 ≡ 6)
  pub number-6-loads : (tlvp_on 0x79800000 ≡ 0)
      × (tlvp_on 0x79c00000 ≡ 0)
      × (tlvp_on 0xb9800000 ≡ 0)
      × (tlvp_on 0x3dc00000 ≡ 0)
      × (tlvp_on 0x7d400000 ≡ 0)
      × (tlvp_on 0xbd400000 ≡ 0)
  -- ordinal 0
  pub number-7 : reader (zeros 8) (mach_rel 0 0x06000000) (zeros 24) ≡ 7
  -- one SUBTRACTOR entry
  pub number-8 : fix_up (bytes 8 0) 0 (entry ARM64_RELOC_SUBTRACTOR 0 0) (resolved 0 0) (bytes 24 0) ≡ 8
  -- base 2^64 - 1 and offset 1
  pub number-9 : fix_up (bytes 8 0) (2 ^ 64 - 1) (entry ARM64_RELOC_UNSIGNED 1 0) (resolved 0 0) (bytes 24 0) ≡ 9
  -- POINTER_TO_GOT with bit 31 of the target set
  pub number-10 : fix_up (bytes 8 0) 0 (entry ARM64_RELOC_POINTER_TO_GOT 0 (2 ^ 31)) (resolved 0 0) (bytes 24 0) ≡ 10
  -- flags 0x200; flags 0x180; byte 47 not zero
  pub number-11 : (fix_up (bytes 8 0) 0 (entry ARM64_RELOC_UNSIGNED 0 0) (resolved 0 0x200) (bytes 24 0) ≡ 11)
      × (fix_up (bytes 8 0) 0 (entry ARM64_RELOC_UNSIGNED 0 0) (resolved 0 0x180) (bytes 24 0) ≡ 11)
      × (fix_up (bytes 8 0) 0 (entry ARM64_RELOC_UNSIGNED 0 0) (bytes 47 0 ++ bytes 1 1) (bytes 24 0) ≡ 11)
  -- entry 1 of a list of 1
  pub number-12 : hint_run 8 entry_one (half ARM64_RELOC_PAGE21) ≡ 12
  -- RULES 3.4: 9 bytes and no slot; past the contents and 23 bytes; past the contents, ADDEND the last; past the contents, a form that its type does not take;
  -- ADDEND the last, of such a form; such a form, and no word there; the same, and no pointer there; the same, and ordinal 0; no pointer there, and ordinal 0;
  -- ordinal 0, and after it a record past the contents
  pub reader-first : (reader [] (zeros 9) [] ≡ 1)
      × (reader [] (mach_rel 1 0x3d000000) (zeros 23) ≡ 2)
      × (reader [] (mach_rel 1 0xa4000000) (zeros 24) ≡ 3)
      × (reader [] (mach_rel 1 0x3c000000) (zeros 24) ≡ 3)
      × (reader [] (mach_rel 0 0xaf000000) (zeros 24) ≡ 4)
      × (reader [] (mach_rel 0 0x94000000) (zeros 24) ≡ 5)
      × (reader (zeros 7) (mach_rel 0 0x0f000000) (zeros 24) ≡ 5)
      × (reader (zeros 8) (mach_rel 0 0x07000000) (zeros 24) ≡ 5)
      × (reader (zeros 7) (mach_rel 0 0x06000000) (zeros 24) ≡ 3)
      × (reader (zeros 8) (mach_rel 0 0x06000000 ++ mach_rel 9 0x3d000000) (zeros 24 ++ zeros 24) ≡ 7)
  -- RULES 3.5: 1 before 2 before 3; an offset's 3 before 11 before 9 before 5, 8 and 10, and these before the last 3; the first entry's before the second's
  pub fix-up-first : (fix_up [] 0 (bytes 25 0) [] [] ≡ 1)
      × (fix_up (bytes 8 0) 0 (entry ARM64_RELOC_UNSIGNED 9 0) (resolved 0 0) (bytes 23 0) ≡ 2)
      × (fix_up (bytes 8 0) 0 (entry ARM64_RELOC_UNSIGNED 9 0) (resolved 0 0x200) (bytes 24 0) ≡ 3)
      × (fix_up (bytes 8 0) (2 ^ 64 - 1) (entry ARM64_RELOC_UNSIGNED 1 0) (resolved 0 0x200) (bytes 24 0) ≡ 11)
      × (fix_up (bytes 8 0) (2 ^ 64 - 1) (entry ARM64_RELOC_ADDEND 1 0) (resolved 0 0) (bytes 24 0) ≡ 9)
      × (fix_up (bytes 8 0) (2 ^ 64 - 1) (entry ARM64_RELOC_SUBTRACTOR 1 0) (resolved 0 0) (bytes 24 0) ≡ 9)
      × (fix_up (bytes 8 0) (2 ^ 64 - 1) (entry ARM64_RELOC_POINTER_TO_GOT 1 (2 ^ 31)) (resolved 0 0) (bytes 24 0) ≡ 9)
      × (fix_up (bytes 8 0) 0 (entry ARM64_RELOC_ADDEND 8 0) (resolved 0 0) (bytes 24 0) ≡ 5)
      × (fix_up (bytes 8 0) 0 (entry ARM64_RELOC_SUBTRACTOR 8 0) (resolved 0 0) (bytes 24 0) ≡ 8)
      × (fix_up (bytes 8 0) 0 (entry ARM64_RELOC_POINTER_TO_GOT 8 (2 ^ 31)) (resolved 0 0) (bytes 24 0) ≡ 10)
      × (fix_up (bytes 8 0) 0 (entry ARM64_RELOC_UNSIGNED 4 0 ++ entry ARM64_RELOC_UNSIGNED 0 0) (resolved 0 0 ++ resolved 0 0x200) (bytes 48 0) ≡ 3)
  -- an entry that a SUBTRACTOR takes is passed over, whatever is wrong with it
  pub fix-up-passed-over : fix_up (bytes 8 0) 0 (entry ARM64_RELOC_SUBTRACTOR 0 0 ++ entry ARM64_RELOC_ADDEND 9 0)
      (resolved 0 0 ++ resolved 0 0x200) (bytes 48 0) ≡ 0
  -- RULES 3.3, 3.5: where the lengths are fit, the number is that of the first entry that has one
  pub fix-up-earliest : (section : List ℕ) (base tls image : ℕ) (entries targets slots : List ℕ) (i : ℕ) (x : Refusal)
      → Answer.check_lists (length entries) (length targets) (length slots) ≡ Ok tt → i < entry_count entries
      → ((j : ℕ) → j < i → check_at (length section) (bases_of base tls image) entries targets j ≡ Ok tt)
      → check_at (length section) (bases_of base tls image) entries targets i ≡ Err x
      → Fixup.number_to section base tls image entries targets slots ≡ number_of x
  -- RULES 3.6: a hint's part and its words before its entries; by list position between two hints
  pub hint-run-first : (hint_run 7 entry_one (half ARM64_RELOC_PAGE21) ≡ 3)
      × (hint_run 8 (hint MCLOH_AdrpLdr 2 0 8 (place 0 1 0) (place 5 1 0) (place 0 0 0)) (half ARM64_RELOC_PAGE21) ≡ 3)
      × (hint_run 8 (entry_one ++ past_part) (half ARM64_RELOC_PAGE21) ≡ 12)
      × (hint_run 8 (past_part ++ entry_one) (half ARM64_RELOC_PAGE21) ≡ 3)
  -- a skipped hint is not checked (no such kind, a wrong word count), nor is a third place of a hint of two words
  pub hint-run-left-out : (hint_run 0 (hint 9 2 1 1 (place 1 1 0) (place 1 1 0) (place 1 1 0)) [] ≡ 0)
      × (hint_run 0 (hint MCLOH_AdrpLdr 3 1 1 (place 1 1 0) (place 1 1 0) (place 1 1 0)) [] ≡ 0)
      × (hint_run 8 (hint MCLOH_AdrpLdr 2 0 8 (place 0 no_entry 0) (place 4 no_entry 0) (place 8 7 0)) [] ≡ 0)
  -- RULES 3.3, 3.6: where the lengths are fit, the number is that of the first hint that has one
  pub hint-run-earliest : (image hints entries : List ℕ) (k : ℕ) (x : Refusal)
      → HintCheck.check_lists (length hints) (length entries) ≡ Ok tt → k < hint_count hints
      → ((j : ℕ) → j < k → HintCheck.check_hint (length image) (length entries / reloc_size) (hint_of hints j) ≡ Ok tt)
      → HintCheck.check_hint (length image) (length entries / reloc_size) (hint_of hints k) ≡ Err x
      → run_number (run_of image hints entries) ≡ number_of x
  -- RULES 3.9: 1, of the reader: no whole records, 2^32 of them or more, as many section addresses
  pub records-not-whole : (contents records sections slots : List ℕ) → (length records % mach_rel_size ≡ 0 → ⊥)
      → Reader.number_to contents records sections slots ≡ 1
  pub many-records : (contents records sections slots : List ℕ) → 2 ^ 32 ≤ length records / mach_rel_size
      → Reader.number_to contents records sections slots ≡ 1
  pub many-sections : (contents records sections slots : List ℕ) → 2 ^ 32 ≤ length sections → Reader.number_to contents records sections slots ≡ 1
  -- of the fix-up: no whole entries, no whole targets, 2^32 entries or more, not as many targets
  pub entries-not-whole : (section : List ℕ) (base tls image : ℕ) (entries targets slots : List ℕ) → (length entries % reloc_size ≡ 0 → ⊥)
      → Fixup.number_to section base tls image entries targets slots ≡ 1
  pub targets-not-whole : (section : List ℕ) (base tls image : ℕ) (entries targets slots : List ℕ) → (length targets % resolved_size ≡ 0 → ⊥)
      → Fixup.number_to section base tls image entries targets slots ≡ 1
  pub many-fix-up-entries : (section : List ℕ) (base tls image : ℕ) (entries targets slots : List ℕ) → 2 ^ 32 ≤ length entries / reloc_size
      → Fixup.number_to section base tls image entries targets slots ≡ 1
  pub counts-differ : (section : List ℕ) (base tls image : ℕ) (entries targets slots : List ℕ)
      → (length entries / reloc_size ≡ length targets / resolved_size → ⊥) → Fixup.number_to section base tls image entries targets slots ≡ 1
  -- of the hint run: just where its hints or its entries are no list
  pub hint-lengths : (image hints entries : List ℕ) → (HintCheck.IsList (length hints) hint_size × HintCheck.IsList (length entries) reloc_size → ⊥)
      → run_number (run_of image hints entries) ≡ 1
  pub hint-lengths-only : (image hints entries : List ℕ) → HintCheck.IsList (length hints) hint_size × HintCheck.IsList (length entries) reloc_size
      → run_number (run_of image hints entries) ≡ 1 → ⊥
  -- RULES 3.10: 2, where there is no 1: fewer bytes of slots than an entry for each record, ADDEND too; than a report for each entry, taken ones too
  pub few-entry-slots : (contents records sections slots : List ℕ) → length records % mach_rel_size ≡ 0 → length records / mach_rel_size < 2 ^ 32
      → length sections < 2 ^ 32 → length slots < reloc_size * (length records / mach_rel_size) → Reader.number_to contents records sections slots ≡ 2
  pub few-report-slots : (section : List ℕ) (base tls image : ℕ) (entries targets slots : List ℕ) → length entries % reloc_size ≡ 0
      → length targets % resolved_size ≡ 0 → length entries / reloc_size < 2 ^ 32 → length entries / reloc_size ≡ length targets / resolved_size
      → length slots < report_size * (length entries / reloc_size) → Fixup.number_to section base tls image entries targets slots ≡ 2
  -- RULES 3.11: an offset that is the length of the bytes: of a PAGE21 record, whose word is not looked at, and of a stored pointer; of a PAGE21
  -- entry whose target has no address, and of a pointer
  pub at-the-end : (reader (zeros 8) (mach_rel 8 0x3d000000) (zeros 24) ≡ 0)
      × (reader (zeros 8) (mach_rel 8 0x0e000000) (zeros 24) ≡ 3)
      × (fix_up (bytes 8 0) 0 (entry ARM64_RELOC_PAGE21 8 0) (resolved 0 0) (bytes 24 0) ≡ 0)
      × (fix_up (bytes 8 0) 0 (entry ARM64_RELOC_UNSIGNED 8 0) (resolved 0 0) (bytes 24 0) ≡ 3)
