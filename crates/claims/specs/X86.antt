-- The reader of x86_64 relocation records (RULES 1.32, 15): which number, what the entries hold, tables one after the other, what is not looked at, and the
-- sections of tools/records/worked.s.
use Rattle.std.specs.Prelude.{◌≡◌, Bool, true, false, List, [], ◌∷◌, ◌++◌, ℕ, ◌+◌, ◌*◌, ◌-◌, ◌/◌, ◌%◌, ◌^◌, ◌≤◌, ◌<◌, ltb, length, get_or, replicate, Err}
use Rattle.util.specs.Choice.{choose}
use Rattle.util.specs.Wrap.{sum}
use Rattle.macho.specs.MachRel.{mach_rel_size, idx_of, pcrel_of, p2size_of, extern_of, type_of}
use Rattle.macho.specs.Reloc.{reloc_size}
use Rattle.macho.specs.Types.{X86_64_RELOC_SUBTRACTOR, X86_64_RELOC_SIGNED_1, X86_64_RELOC_SIGNED_2, X86_64_RELOC_SIGNED_4}
use Rattle.macho.specs.declared.mach_rel.MachRel.{MachRel}
use Rattle.macho.specs.declared.reloc.Reloc.{Reloc}
use Rattle.macho.specs.declared.refusal.Refusal.{Refusal}
use Rattle.macho.specs.declared.refusal.Refusal.TheVariants.{Unsupported, Bounds}
use Rattle.arch.specs.Entry.{targeted}
use Rattle.arch.specs.Form.{applied_below}
use Rattle.arch.specs.Join.{joined}
use Rattle.arch.specs.Table.{records_of, record_at, subtracted_at, ends_in}
use Rattle.arch.specs.Target.{addend_in}
use Rattle.arch.specs.Walk.{refused, entries, answer_of}
use Rattle.x86_64_reader.specs.Support.{forms, supported_of}
use Rattle.x86_64_reader.specs.Addend.{width_of, bias_of, embedded_at, added_by, displacement}
use Rattle.x86_64_reader.specs.Record.{check_reloc, step_at}
use Rattle.x86_64_reader.specs.Read.{read_records, read_table, read_relocs}
use Rattle.x86_64_reader.specs.Fields.{entries_of, AllFit, Alike}
use Rattle.x86_64_reader.specs.Worked.{addresses, text_bytes, text_records, far_bytes, far_records, table_bytes, table_records}
use Rattle.x86_64_reader.specs.Examples.{entry, symbol, section}
use Rattle.hauklivo.specs.ReaderX86 as ReaderX86
use Rattle.claims.specs.Lent.{mach_rel}

-- the number that the call returns to one record, in a section at 0x1000, with one section in the list
abbrev pub one : List ℕ → List ℕ → ℕ
one contents table = ReaderX86.number_to contents table (0x1000 ∷ []) 0x1000 (replicate 24 0)

-- the reader of x86_64
pub record X86 : Type 0 where
  -- RULES 15.4: the records that the linker applies, by type and form
  pub applied : applied_below forms 256
      ≡ 0x04 ∷ 0x06 ∷ 0x0c ∷ 0x0e ∷ 0x15 ∷ 0x1d ∷ 0x25 ∷ 0x29 ∷ 0x2d ∷ 0x3d ∷ 0x4d ∷ 0x5c ∷ 0x5e ∷ 0x65 ∷ 0x6d ∷ 0x75 ∷ 0x7d ∷ 0x85 ∷ 0x8d ∷ 0x9d ∷ []
  -- RULES 15.5: each reads as many bytes as its entry's size says
  pub width : (r : MachRel) → supported_of r ≡ true → width_of (p2size_of r.bits) ≡ 2 ^ p2size_of r.bits
  -- RULES 15.3: a step in the terms of both readers: 5, then 3, then the target, which is 7 where it is not there
  pub step : (contents sections : List ℕ) (address : ℕ) (first : Bool) (rs : List MachRel) (i : ℕ)
      → step_at contents sections address first rs i
      ≡ choose (supported_of (record_at rs i))
      (choose (ltb (length contents) ((record_at rs i).offset + width_of (p2size_of (record_at rs i).bits))) (Err Bounds)
      (targeted sections (record_at rs i) (subtracted_at X86_64_RELOC_SUBTRACTOR first rs i) (record_at rs i).offset
      (added_by contents address (record_at rs i)) (i + 1)))
      (Err Unsupported)
  -- RULES 15.6: the bias of each type
  pub biased : bias_of X86_64_RELOC_SIGNED_1 ∷ bias_of X86_64_RELOC_SIGNED_2 ∷ bias_of X86_64_RELOC_SIGNED_4 ∷ [] ≡ 1 ∷ 2 ∷ 4 ∷ []
  pub unbiased : (ty : ℕ) → (ty ≡ X86_64_RELOC_SIGNED_1 → ⊥) → (ty ≡ X86_64_RELOC_SIGNED_2 → ⊥) → (ty ≡ X86_64_RELOC_SIGNED_4 → ⊥) → bias_of ty ≡ 0
  -- RULES 3.9, 3.10, 15.1: 1 and 2 by the lengths that are lent, else what the table reads to
  pub records-not-whole : (contents records sections : List ℕ) (address : ℕ) (slots : List ℕ) → (length records % mach_rel_size ≡ 0 → ⊥)
      → ReaderX86.number_to contents records sections address slots ≡ 1
  pub many-records : (contents records sections : List ℕ) (address : ℕ) (slots : List ℕ) → 2 ^ 32 ≤ length records / mach_rel_size
      → ReaderX86.number_to contents records sections address slots ≡ 1
  pub many-sections : (contents records sections : List ℕ) (address : ℕ) (slots : List ℕ) → 2 ^ 32 ≤ length sections
      → ReaderX86.number_to contents records sections address slots ≡ 1
  pub few-slots : (contents records sections : List ℕ) (address : ℕ) (slots : List ℕ) → length records % mach_rel_size ≡ 0
      → length records / mach_rel_size < 2 ^ 32 → length sections < 2 ^ 32 → length slots < reloc_size * (length records / mach_rel_size)
      → ReaderX86.number_to contents records sections address slots ≡ 2
  pub enough : (contents records sections : List ℕ) (address : ℕ) (slots : List ℕ) → length records % mach_rel_size ≡ 0
      → length records / mach_rel_size < 2 ^ 32 → length sections < 2 ^ 32 → reloc_size * (length records / mach_rel_size) ≤ length slots
      → read_relocs contents records sections address slots ≡ read_table contents records sections address
  -- RULES 15.2, 15.8: where no record has a number, an entry for each, in their order
  pub reads : (contents sections : List ℕ) (address : ℕ) (first : Bool) (rs : List MachRel) → AllFit (length contents) (length sections) rs
      → read_records contents sections address first rs ≡ entries (entries_of contents sections address first rs)
  -- and what is read is that
  pub reads_only : (contents sections : List ℕ) (address : ℕ) (first : Bool) (rs : List MachRel) (es : List Reloc)
      → read_records contents sections address first rs ≡ entries es
      → AllFit (length contents) (length sections) rs × (es ≡ entries_of contents sections address first rs)
  -- RULES 15.3: else the number of the first record that has one
  pub first-refused : (contents sections : List ℕ) (address : ℕ) (first : Bool) (xs : List MachRel) (r : MachRel) (ys : List MachRel) (x : Refusal)
      → AllFit (length contents) (length sections) xs → check_reloc (length contents) (length sections) r ≡ Err x
      → read_records contents sections address first (xs ++ (r ∷ ys)) ≡ refused x
  -- RULES 15.11: which number, and how many entries, is by lengths and records alone: no byte of the contents and no address matters
  pub by_lengths : (contents others sections addresses : List ℕ) (address elsewhere : ℕ) → length contents ≡ length others
      → length sections ≡ length addresses → (first second : Bool) (rs : List MachRel)
      → answer_of (read_records contents sections address first rs) ≡ answer_of (read_records others addresses elsewhere second rs)
  -- RULES 15.9: as many entries as records; of a call
  pub count : (contents records sections : List ℕ) (address : ℕ) (slots : List ℕ) (es : List Reloc)
      → read_relocs contents records sections address slots ≡ entries es → length es ≡ length records / mach_rel_size
  -- RULES 15.10: records after others are read as a table of their own, after the first one's last record; of lists and of bytes
  pub append : (contents sections : List ℕ) (address : ℕ) (first : Bool) (xs ys : List MachRel)
      → read_records contents sections address first (xs ++ ys)
      ≡ joined (read_records contents sections address first xs) (read_records contents sections address (ends_in X86_64_RELOC_SUBTRACTOR first xs) ys)
  pub append-bytes : (contents sections : List ℕ) (address : ℕ) (records more : List ℕ) → length records % mach_rel_size ≡ 0
      → read_table contents (records ++ more) sections address
      ≡ joined (read_table contents records sections address)
      (read_records contents sections address (ends_in X86_64_RELOC_SUBTRACTOR false (records_of records)) (records_of more))
  -- RULES 15.11: no records give no entries; no byte of the slots is looked at
  pub no-records : (contents sections : List ℕ) (address : ℕ) (slots : List ℕ) → length sections < 2 ^ 32
      → read_relocs contents [] sections address slots ≡ entries []
  pub slots-ignored : (contents records sections : List ℕ) (address : ℕ) (slots others : List ℕ) → length slots ≡ length others
      → read_relocs contents records sections address slots ≡ read_relocs contents records sections address others
  -- nor contents outside the bytes of the records, nor addresses of sections that no record names, nor the section's own where no record counts from it
  pub contents-ignored : (contents others sections addresses : List ℕ) (address elsewhere : ℕ) (first : Bool) (rs : List MachRel)
      → length contents ≡ length others → length sections ≡ length addresses
      → ((i : ℕ) → i < length rs → Alike contents others sections addresses address elsewhere (record_at rs i))
      → read_records contents sections address first rs ≡ read_records others addresses elsewhere first rs
  -- RULES 15.12: what a pc-relative record of a section says is where its displacement points: with everything where the reader was
  -- told, it is written back, whatever the bias
  pub displacement-kept : (contents sections : List ℕ) (address : ℕ) (r : MachRel) → extern_of r.bits ≡ 0 → pcrel_of r.bits ≡ 1
      → get_or sections (idx_of r.bits - 1) 0 < 2 ^ 64
      → displacement (type_of r.bits) (sum address r.offset)
      (sum (get_or sections (idx_of r.bits - 1) 0) (addend_in sections r (added_by contents address r)))
      ≡ embedded_at contents r.offset (p2size_of r.bits)
  -- RULES 15.3: each number: 7 bytes of records; one record, 23 bytes of slots; an 8-byte pointer at 1 of 8, a displacement at 1 of 4, a short branch at 4 of
  -- 4, an offset of 2^32 - 1; type 10, a pointer of 2 bytes, a short branch of a section, GOT_LOAD of a section, a SIGNED that is not pc-relative, a SUBTRACTOR of a
  -- section; ordinal 0, and 2 of 1, of a pointer and of a displacement
  pub turned_down :
      ReaderX86.number_to [] (replicate 7 0) [] 0 (replicate 24 0)
      ∷ ReaderX86.number_to (replicate 8 0) (mach_rel 0 0x0e000000) [] 0 (replicate 23 0)
      ∷ one (replicate 8 0) (mach_rel 1 0x0e000000)
      ∷ one (replicate 4 0) (mach_rel 1 0x1d000000)
      ∷ one (replicate 4 0) (mach_rel 4 0x29000000)
      ∷ one (replicate 4 0) (mach_rel 0xffffffff 0x1d000000)
      ∷ one (replicate 8 0) (mach_rel 0 0xad000000)
      ∷ one (replicate 8 0) (mach_rel 0 0x0a000000)
      ∷ one (replicate 8 0) (mach_rel 0 0x21000001)
      ∷ one (replicate 8 0) (mach_rel 0 0x35000001)
      ∷ one (replicate 8 0) (mach_rel 0 0x1c000000)
      ∷ one (replicate 8 0) (mach_rel 0 0x56000001)
      ∷ one (replicate 8 0) (mach_rel 0 0x06000000)
      ∷ one (replicate 8 0) (mach_rel 0 0x06000002)
      ∷ one (replicate 8 0) (mach_rel 0 0x15000002)
      ∷ []
      ≡ 1 ∷ 2 ∷ 3 ∷ 3 ∷ 3 ∷ 3 ∷ 5 ∷ 5 ∷ 5 ∷ 5 ∷ 5 ∷ 5 ∷ 7 ∷ 7 ∷ 7 ∷ []
  -- and records that have none: a pointer of 4 bytes alone, the last bytes of a section, a short branch of a symbol there, a SUBTRACTOR that is the last record,
  -- the last section, a displacement to a section
  pub fit :
      one (replicate 4 0) (mach_rel 0 0x0c000000)
      ∷ one (replicate 8 0) (mach_rel 4 0x1d000000)
      ∷ one (replicate 8 0) (mach_rel 7 0x29000000)
      ∷ one (replicate 8 0) (mach_rel 0 0x5e000000)
      ∷ one (replicate 8 0) (mach_rel 0 0x06000001)
      ∷ one (replicate 8 0) (mach_rel 4 0x85000001)
      ∷ []
      ≡ 0 ∷ 0 ∷ 0 ∷ 0 ∷ 0 ∷ 0 ∷ []
  -- where two apply, the earlier of 1, 2, then by record 5, 3, 7: 9 bytes and no slot; a record of no form, 23 bytes of slots; a record of no form past the
  -- contents, or of no section; past the contents and of no section; of no section, and after it one of no form; past the contents, and after it one of no form
  pub first-number :
      ReaderX86.number_to [] (replicate 9 0) [] 0 []
      ∷ ReaderX86.number_to [] (mach_rel 1 0xad000000) [] 0 (replicate 23 0)
      ∷ one [] (mach_rel 1 0xad000000)
      ∷ one (replicate 8 0) (mach_rel 0 0xa5000000)
      ∷ one [] (mach_rel 1 0x06000000)
      ∷ ReaderX86.number_to (replicate 8 0) (mach_rel 0 0x06000000 ++ mach_rel 0 0xad000000) [] 0 (replicate 48 0)
      ∷ ReaderX86.number_to (replicate 8 0) (mach_rel 9 0x1d000000 ++ mach_rel 0 0xad000000) [] 0 (replicate 48 0)
      ∷ []
      ≡ 1 ∷ 2 ∷ 5 ∷ 5 ∷ 3 ∷ 7 ∷ 3 ∷ []
  -- RULES 15.14: what the sections of tools/records/worked.s read to, each entry with its instruction or pointer
  pub worked-text : read_relocs text_bytes text_records addresses 0 (replicate (24 * 10) 0)
      ≡ entries (entry 0x40 9 4 1 0 (symbol 2) 0  -- movq _foo@TLVP(%rip), %rdi
      ∷ entry 0x35 8 4 1 0 (symbol 2) 0  -- movl $0x12345678, _foo(%rip)
      ∷ entry 0x2d 7 4 1 0 (symbol 2) 0  -- movw $0x1234, _foo(%rip)
      ∷ entry 0x25 6 4 1 0 (symbol 2) 0  -- movb $0x12, _foo(%rip)
      ∷ entry 0x1f 1 4 1 0 (symbol 2) 4  -- movl _foo+4(%rip), %eax
      ∷ entry 0x19 1 4 1 0 (symbol 2) 0  -- movl _foo(%rip), %eax
      ∷ entry 0x13 4 4 1 0 (symbol 2) 0  -- pushq _foo@GOTPCREL(%rip)
      ∷ entry 0x0d 3 4 1 0 (symbol 2) 0  -- movq _foo@GOTPCREL(%rip), %rax
      ∷ entry 0x06 2 4 1 0 (symbol 2) 4  -- callq _foo+4
      ∷ entry 0x01 2 4 1 0 (symbol 2) 0  -- callq _foo
      ∷ [])
  pub worked-far : read_relocs far_bytes far_records addresses 0x44 (replicate (24 * 8) 0)
      ≡ entries (entry 0x36 2 1 1 0 (symbol 2) (2 ^ 64 - 3)  -- loop _foo-3
      ∷ entry 0x31 2 4 1 0 (section 2) 0  -- callq L2
      ∷ entry 0x2c 2 4 1 0 (symbol 0) 0  -- callq _code
      ∷ entry 0x23 7 4 1 0 (section 4) 8  -- movl $0x12345678, L0+2(%rip), to which LLVM gives SIGNED_2
      ∷ entry 0x19 8 4 1 0 (section 4) 8  -- movl $0x12345678, L0(%rip)
      ∷ entry 0x11 7 4 1 0 (section 4) 8  -- movw $0x1234, L0(%rip)
      ∷ entry 0x09 6 4 1 0 (section 4) 8  -- movb $0x12, L0(%rip)
      ∷ entry 0x03 1 4 1 0 (section 4) 8  -- leaq L0(%rip), %rax
      ∷ [])
  pub worked-table : read_relocs table_bytes table_records addresses 0x7c (replicate (24 * 12) 0)
      ≡ entries (entry 0x38 0 4 0 0 (section 4) 7  -- .long L0-1
      ∷ entry 0x30 0 8 0 0 (section 1) 1  -- .quad L1+1
      ∷ entry 0x28 0 8 0 0 (section 4) 8  -- .quad L0
      ∷ entry 0x24 0 4 0 0 (symbol 2) (2 ^ 64 - 1)  -- .long _foo-1
      ∷ entry 0x20 5 4 0 0 (symbol 1) 0  -- .long _code - _bar
      ∷ entry 0x20 0 4 0 1 (symbol 0) 0
      ∷ entry 0x18 5 8 0 0 (symbol 1) 4  -- .quad _code - _bar + 4
      ∷ entry 0x18 0 8 0 1 (symbol 0) 4
      ∷ entry 0x10 5 8 0 0 (symbol 1) 0  -- .quad _code - _bar
      ∷ entry 0x10 0 8 0 1 (symbol 0) 0
      ∷ entry 0x08 0 8 0 0 (symbol 2) 4  -- .quad _foo+4
      ∷ entry 0x00 0 8 0 0 (symbol 2) 0  -- .quad _foo
      ∷ [])
