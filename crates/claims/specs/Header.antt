-- Relocation records (RULES 1.5, 1.6, 2, 4): records and their bytes; what a table means, by Apple's headers where they speak and else by the forms that the
-- linker applies, against what the reader reads; tables one after the other.
use Rattle.std.specs.Prelude.{◌≡◌, Bool, true, false, ◌⊎◌, List, [], ◌∷◌, ◌++◌, map, ℕ, ◌+◌, ◌*◌, ◌/◌, ◌%◌, ◌^◌, ◌≤◌, ◌<◌, length, get_or, set, replicate}
use Rattle.util.specs.Part.{part}
use Rattle.util.specs.Word.{put}
use Rattle.macho.specs.Record.{Field, Fits, Zeros}
use Rattle.macho.specs.MachRel.{mach_rel_size, mach_rel_at, mach_rel_fields, mach_rel_bytes, idx_of, pcrel_of, p2size_of, extern_of, type_of, form_of, bits_of}
use Rattle.macho.specs.Reloc.{reloc_size, reloc_at, reloc_fields, reloc_bytes, with_signing}
use Rattle.macho.specs.Resolved.{resolved_size, resolved_at, resolved_fields, resolved_bytes}
use Rattle.macho.specs.Report.{report_size, report_at, report_fields, report_bytes}
use Rattle.macho.specs.RuleRecord.{rule_record_size, rule_record_at, rule_record_fields, rule_record_bytes}
use Rattle.macho.specs.Hint.{hint_size, hint_at, hint_fields, hint_bytes}
use Rattle.macho.specs.declared.mach_rel.MachRel.{MachRel}
use Rattle.macho.specs.declared.reloc.Reloc.{Reloc}
use Rattle.macho.specs.declared.refusal.Refusal.{Refusal}
use Rattle.macho.specs.declared.refusal.Refusal.TheVariants.{Unsupported, Unfit}
use Rattle.macho.specs.Refusal.{filled_of}
use Rattle.arch.specs.Table.{records_of}
use Rattle.arch.specs.Join.{joined, mapped, record_later, entry_later}
use Rattle.arch.specs.Walk.{refused, entries, answer_of, Fills}
use Rattle.arm64_reader.specs.Read.{read_records, read_table, read_relocs, ends_in, NoLastAddend}
use Rattle.arch.specs.Form.{applied_below}
use Rattle.arm64_reader.specs.Support.{forms, supported_of}
use Rattle.arm64_reader.specs.Fields.{starts, pairs, entry_from}
use Rattle.arm64_reader.specs.Header.{Relocation, symbol, nothing, not-signed, Meaning, undefined, relocations, meaning_of, Present, has_lone_pointer32}
use Rattle.arm64_reader.specs.Header.{in_header, Reason, is_tolerated, not-in-header, not-applied}
use Rattle.arm64_reader.specs.Header.{subtractor-last, subtractor-type, subtractor-place, subtractor-size}
use Rattle.arm64_reader.specs.Header.{addend-form, addend-last, addend-type, addend-place, not-authenticated}
use Rattle.arm64_reader.specs.Said.{said}
use Rattle.hauklivo.specs.Reader as Reader
use Rattle.claims.specs.Lent.{nop, mach_rel}

-- a kind of record: the value of the bytes of a value is the value, wherever they stand; the bytes of the value of bytes are the bytes, where the unused
-- ones are zero
abbrev pub RoundTrip : {A : Type 0} (size : ℕ) (value : List ℕ → ℕ → A) (fields : A → List Field) (image : A → List ℕ) → Type 0
RoundTrip {A} size value fields image =
    ((a : A) (xs ys : List ℕ) → Fits (fields a) → value (xs ++ (image a ++ ys)) (length xs) ≡ a)
    × ((s : List ℕ) (at : ℕ) → ((i : ℕ) → get_or s i 0 < 256) → at + size ≤ length s → Zeros (fields (value s at)) s at → image (value s at) ≡ part s at size)

-- what records mean, and how many entries the reader fills
abbrev pub reads : (contents records : List ℕ) → Meaning × ℕ
reads contents records = (meaning_of contents [] (records_of records), filled_of (answer_of (read_relocs contents records [] (replicate 48 0))))

-- what records mean, and the number that the reader answers
abbrev pub refuses : (contents records : List ℕ) → Meaning × ℕ
refuses contents records = (meaning_of contents [] (records_of records), Reader.number_to contents records [] (replicate 24 0))

-- records, what a table of them means, and what is read
pub record Header : Type 0 where
  -- RULES 2.10, 2.15, 2.17, 2.20, 2.22, 16.2: the six records
  pub relocation-record : RoundTrip mach_rel_size mach_rel_at mach_rel_fields mach_rel_bytes
  pub entry : RoundTrip reloc_size reloc_at reloc_fields reloc_bytes
  pub resolved-target : RoundTrip resolved_size resolved_at resolved_fields resolved_bytes
  pub report : RoundTrip report_size report_at report_fields report_bytes
  pub hint : RoundTrip hint_size hint_at hint_fields hint_bytes
  pub rule-record : RoundTrip rule_record_size rule_record_at rule_record_fields rule_record_bytes
  -- RULES 2.10, 2.11: the bit fields of a relocation record taken apart and put together; its form
  pub packed : (i p l e t : ℕ) → i < 2 ^ 24 → p < 2 → l < 4 → e < 2 → t < 16
      → (idx_of (bits_of i p l e t) ≡ i) × (pcrel_of (bits_of i p l e t) ≡ p) × (p2size_of (bits_of i p l e t) ≡ l)
      × (extern_of (bits_of i p l e t) ≡ e) × (type_of (bits_of i p l e t) ≡ t)
  pub unpacked : (bits : ℕ) → bits < 2 ^ 32 → bits_of (idx_of bits) (pcrel_of bits) (p2size_of bits) (extern_of bits) (type_of bits) ≡ bits
  pub form-fields : (bits : ℕ) → form_of bits ≡ pcrel_of bits + 2 * p2size_of bits + 8 * extern_of bits
  -- RULES 2.8: unused bytes of a report and of a hint change nothing; bytes 12 to 15 of an entry are its field `signing` alone
  pub report-ignores : (s : List ℕ) (at u v : ℕ) → report_at (set (set s (at + 6) u) (at + 7) v) at ≡ report_at s at
  pub hint-ignores : (s : List ℕ) (at u v : ℕ) → hint_at (set (set s (at + 2) u) (at + 3) v) at ≡ hint_at s at
  pub entry-signing : (s : List ℕ) (at v : ℕ) → at + 16 ≤ length s → reloc_at (put 4 s (at + 12) v) at ≡ with_signing (reloc_at s at) (v % 2 ^ 32)
  -- RULES 4.6: the records that the linker applies, by type and form
  pub applied : applied_below forms 256
      ≡ 0x04 ∷ 0x06 ∷ 0x0c ∷ 0x0e ∷ 0x1c ∷ 0x1e ∷ 0x2d ∷ 0x3d ∷ 0x4c ∷ 0x5d ∷ 0x6c ∷ 0x7d ∷ 0x8d ∷ 0x9c ∷ 0xa4 ∷ 0xbe ∷ []
  -- RULES 4.16: the headers have each of them
  pub applied-in-header : (r : MachRel) → supported_of r ≡ true → in_header r ≡ true
  -- RULES 4.21: where a table is defined and read, the entries say what it means
  pub same-meaning : (contents sections : List ℕ) (rs : List MachRel) (ms : List Relocation) (es : List Reloc)
      → meaning_of contents sections rs ≡ relocations ms → read_records contents sections false rs ≡ entries es → said es ≡ ms
  -- RULES 4.22: where a table is defined whose places and sections are there, it is refused only by an unfit word or a lone 4-byte pointer
  pub refused-only : (contents sections : List ℕ) (rs : List MachRel) (ms : List Relocation) (x : Refusal)
      → meaning_of contents sections rs ≡ relocations ms → Present (length contents) (length sections) ms
      → read_records contents sections false rs ≡ refused x → (x ≡ Unfit) ⊎ ((x ≡ Unsupported) × (has_lone_pointer32 ms ≡ true))
  -- the same of a call that is lent whole records and slots enough
  pub call-refused-only : (contents records sections slots : List ℕ) (ms : List Relocation) (x : Refusal)
      → length records % mach_rel_size ≡ 0 → length records / mach_rel_size < 2 ^ 32 → length sections < 2 ^ 32
      → reloc_size * (length records / mach_rel_size) ≤ length slots
      → meaning_of contents sections (records_of records) ≡ relocations ms → Present (length contents) (length sections) ms
      → read_relocs contents records sections slots ≡ refused x → (x ≡ Unfit) ⊎ ((x ≡ Unsupported) × (has_lone_pointer32 ms ≡ true))
  -- RULES 4.20: where a table is read that is not defined, the reason is one of the seven
  pub tolerated-only : (contents sections : List ℕ) (rs : List MachRel) (y : Reason) (es : List Reloc)
      → meaning_of contents sections rs ≡ undefined y → read_records contents sections false rs ≡ entries es → is_tolerated y ≡ true
  -- each of the seven occurs: SUBTRACTOR alone; before BRANCH26; before UNSIGNED at another place; of another size; ADDEND with another type's fields;
  -- before BRANCH26; before PAGE21 at another place
  pub tolerated : reads (replicate 16 0) (mach_rel 0 0x1e000000)
      ∷ reads (replicate 16 0) (mach_rel 0 0x1e000000 ++ mach_rel 0 0x2d000000)
      ∷ reads (replicate 16 0) (mach_rel 0 0x1e000000 ++ mach_rel 8 0x0e000000)
      ∷ reads (replicate 16 0) (mach_rel 0 0x1e000000 ++ mach_rel 0 0x0c000000)
      ∷ reads (replicate 16 0) (mach_rel 0 0xaf000000 ++ mach_rel 0 0x3d000000)
      ∷ reads (replicate 16 0) (mach_rel 0 0xa4000000 ++ mach_rel 0 0x2d000000)
      ∷ reads (replicate 16 0) (mach_rel 0 0xa4000000 ++ mach_rel 4 0x3d000000)
      ∷ []
      ≡ (undefined subtractor-last, 1)
      ∷ (undefined subtractor-type, 2)
      ∷ (undefined subtractor-place, 2)
      ∷ (undefined subtractor-size, 2)
      ∷ (undefined addend-form, 1)
      ∷ (undefined addend-type, 1)
      ∷ (undefined addend-place, 1)
      ∷ []
  -- RULES 4.19: and so do the other four, refused by 5, 4 and 15: PAGE21 that is not pc-relative, type 12; POINTER_TO_GOT of 8 bytes (`.quad _g@GOT`),
  -- UNSIGNED of 2, PAGEOFF12 scaled by 8, type 11 of 4 bytes; ADDEND the last record; zeros under an authenticated pointer
  pub not-tolerated : refuses (replicate 8 0) (mach_rel 0 0x3c000000)
      ∷ refuses (replicate 8 0) (mach_rel 0 0xcc000000)
      ∷ refuses (replicate 8 0) (mach_rel 0 0x7e000000)
      ∷ refuses (replicate 8 0) (mach_rel 0 0x0a000000)
      ∷ refuses (replicate 8 0) (mach_rel 0 0x4e000000)
      ∷ refuses (replicate 8 0) (mach_rel 0 0xbc000000)
      ∷ refuses (replicate 8 0) (mach_rel 0 0xa4000000)
      ∷ refuses (replicate 8 0) (mach_rel 0 0xbe000000)
      ∷ []
      ≡ (undefined not-in-header, 5)
      ∷ (undefined not-in-header, 5)
      ∷ (undefined not-applied, 5)
      ∷ (undefined not-applied, 5)
      ∷ (undefined not-applied, 5)
      ∷ (undefined not-applied, 5)
      ∷ (undefined addend-last, 4)
      ∷ (undefined not-authenticated, 15)
      ∷ []
  -- RULES 4.22: both refusals of defined tables occur: a TLVP page offset on NOP, a pointer of 4 bytes alone
  pub defined-refused : refuses nop (mach_rel 0 0x9c000000)
      ∷ refuses nop (mach_rel 0 0x0c000000)
      ∷ []
      ≡ (relocations (record { ty = 9; place = 0; size = 4; target = symbol 0; addend = 0; minus = nothing; signing = not-signed } ∷ []), 6)
      ∷ (relocations (record { ty = 0; place = 0; size = 4; target = symbol 0; addend = 0xffffffff_d503201f; minus = nothing; signing = not-signed } ∷ []), 5)
      ∷ []
  -- RULES 4.2 to 4.12, 4.24: each entry of a table that is read is the function of its records that Fields has
  pub fields : (contents sections : List ℕ) (first : Bool) (rs : List MachRel) (es : List Reloc)
      → read_records contents sections first rs ≡ entries es → es ≡ map (entry_from contents sections first rs) (starts 0 false rs)
  -- RULES 4.14: as many entries as records, less the ADDEND records that head a pair
  pub count : (contents sections : List ℕ) (first : Bool) (rs : List MachRel) (es : List Reloc)
      → read_records contents sections first rs ≡ entries es → length es + pairs false rs ≡ length rs
  -- RULES 4.15: records after others are read as a table of their own, after the first one's last record; of lists and of bytes
  pub append : (contents sections : List ℕ) (first : Bool) (xs ys : List MachRel) → NoLastAddend xs ⊎ Fills (read_records contents sections first xs)
      → read_records contents sections first (xs ++ ys) ≡ joined (read_records contents sections first xs) (read_records contents sections (ends_in first xs) ys)
  pub append-bytes : (contents sections records more : List ℕ) → length records % mach_rel_size ≡ 0
      → NoLastAddend (records_of records) ⊎ Fills (read_table contents records sections)
      → read_table contents (records ++ more) sections
      ≡ joined (read_table contents records sections) (read_records contents sections (ends_in false (records_of records)) (records_of more))
  -- RULES 4.23: a section after another, and bytes between them, with its records moved: the entries of the first, then those of the second, moved
  pub join : (c pad e sections : List ℕ) (first : Bool) (xs ys : List MachRel) → length c + length pad + length e < 2 ^ 32
      → Fills (read_records c sections first xs) → Fills (read_records e sections (ends_in first xs) ys)
      → read_records (c ++ (pad ++ e)) sections first (xs ++ map (record_later (length c + length pad)) ys)
      ≡ joined (read_records c sections first xs) (mapped (entry_later (length c + length pad)) (read_records e sections (ends_in first xs) ys))
  -- records that are moved twice are moved by the sum
  pub moved_twice : (d e : ℕ) (rs : List MachRel) → map (record_later d) (map (record_later e) rs) ≡ map (record_later (d + e)) rs
