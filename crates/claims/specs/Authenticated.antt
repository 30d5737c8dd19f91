-- Authenticated pointers (RULES 2.29 to 2.31, 4.24, 5.28): their word, what one is read to, what the fix-up makes of it, what stays from the one to the other,
-- and their numbers. What the fix-up writes for one that stands alone is in Fixup, too; what is not looked at, of any list, in Ignored.
use Rattle.std.specs.Prelude.{◌≡◌, Bool, true, false, ◌&&◌, List, [], ◌∷◌, ◌++◌, ℕ, ◌+◌, ◌-◌, ◌*◌, ◌%◌, ◌^◌, ◌≤◌, ◌<◌, eqb, length, get_or, replicate, Ok, Err}
use Rattle.util.specs.Bits.{field, extend}
use Rattle.util.specs.Choice.{choose}
use Rattle.util.specs.Diagram.{matches}
use Rattle.util.specs.Word.{le, bytes}
use Rattle.macho.specs.Authenticated.{authenticated, signing_in, authenticated_word}
use Rattle.macho.specs.MachRel.{idx_of, type_of}
use Rattle.macho.specs.Reloc.{reloc_size, reloc_at, with_signing}
use Rattle.macho.specs.Types.{ARM64_RELOC_AUTHENTICATED_POINTER, ARM64_RELOC_SUBTRACTOR}
use Rattle.macho.specs.declared.mach_rel.MachRel.{MachRel}
use Rattle.macho.specs.declared.reloc.Reloc.{Reloc}
use Rattle.macho.specs.declared.refusal.Refusal.TheVariants.{NotAuthenticated}
use Rattle.arch.specs.Entry.{entry_of}
use Rattle.arch.specs.Form.{form, form_in, same_form}
use Rattle.arch.specs.Walk.{entries}
use Rattle.arm64_reader.specs.Support.{supported_of}
use Rattle.arm64_reader.specs.Record.{record_of}
use Rattle.arm64_reader.specs.Header.{symbol, nothing, signed, undefined, relocations, subtractor-type, addend-type}
use Rattle.arm64_reader.specs.Read.{read_records, read_relocs, slots_to}
use Rattle.arm64_fixup_entry.specs.Target.{imported_symbol}
use Rattle.arm64_fixup_entry.specs.declared.target.Bases.{Bases}
use Rattle.arm64_fixup.specs.Walk.{lent_entry, lent_target, Fixed}
use Rattle.arm64_fixup.specs.Footprint.{Lone, pointer_at}
use Rattle.arm64_fixup.specs.Answer.{bases_of, Outcome, fixed, outcome_of}
use Rattle.hauklivo.specs.Reader.{number_to}
use Rattle.hauklivo.specs.Fixup as Fixup
use Rattle.claims.specs.Lent.{mach_rel, entry, resolved}
use Rattle.claims.specs.Header as Header

-- the slot after a record of symbol 2 on a stored word
abbrev pub slot_of : ℕ → List ℕ
slot_of word = slots_to (bytes 8 word) (mach_rel 0 0xbe000002) [] (replicate 24 0)

-- the 24 bytes of an entry, one field after another
abbrev pub entry_bytes : (ty size offset target diversity address_diversity key addend : ℕ) → List ℕ
entry_bytes ty size offset target diversity address_diversity key addend =
    bytes 4 offset ++ (ty ∷ size ∷ 0 ∷ 0 ∷ []) ++ bytes 4 target ++ bytes 2 diversity ++ (address_diversity ∷ key ∷ []) ++ bytes 8 addend

-- those of an authenticated pointer of diversity 0xd9bf, address diversity 1 and key 2, at an offset, with its target field
abbrev pub pointer : ℕ → ℕ → List ℕ
pointer offset target = entry_bytes 11 8 offset target 0xd9bf 1 2 0

-- a call on 8 bytes at 0x1000 with one entry, thread-local storage from 0x40 on and the image from 0x100000000 on
abbrev pub one_pointer : ℕ → List ℕ → List ℕ → Outcome
one_pointer word e t = outcome_of (bytes 8 word) (bases_of 0x1000 0x40 0x100000000) e t (bytes 24 0)

-- 8 bytes with no report
abbrev pub becomes : ℕ → Outcome
becomes word = fixed (record { section = bytes 8 word; reports = [] })

-- the number of a call on 8 bytes with one entry
abbrev pub number : (base image : ℕ) → List ℕ → List ℕ → ℕ
number base image e t = Fixup.number_to (bytes 8 0) base 0 image e t (bytes 24 0)

-- what is claimed of authenticated pointers
pub record Authenticated : Type 0 where
  -- RULES 2.29: a stored word has zeros in bits 51 to 62 and a one in bit 63
  pub stored : (word : ℕ) → matches authenticated word ≡ (eqb (field word 51 12) 0 && eqb (field word 63 1) 1)
  -- RULES 2.30: the bytes of an entry for it: diversity u16, address diversity u8, key u8
  pub entry-bytes : (word : ℕ)
      → (field (signing_in word) 0 16 ≡ field word 32 16)
      × (field (signing_in word) 16 8 ≡ field word 48 1)
      × (field (signing_in word) 24 8 ≡ field word 49 2)
      × (signing_in word < 2 ^ 32)
  -- RULES 2.31: a finished word is one, with the distance and of the bytes the diversity, the low bit of address diversity, the low two of key
  pub finished : (distance signing : ℕ) → distance < 2 ^ 32
      → let w = authenticated_word distance signing in
      (matches authenticated w ≡ true) × (w < 2 ^ 64) × (field w 0 32 ≡ distance) × (field w 32 16 ≡ field signing 0 16)
      × (field w 48 1 ≡ field signing 16 8 % 2) × (field w 49 2 ≡ field signing 24 8 % 4) × (field w 51 12 ≡ 0) × (field w 63 1 ≡ 1)
  -- from its own 32 bits and its own bytes each stored word comes back
  pub again : (word : ℕ) → word < 2 ^ 64 → matches authenticated word ≡ true → authenticated_word (field word 0 32) (signing_in word) ≡ word
  -- RULES 4.6: a record of type 11 is applied in one form, not pc-relative, 8 bytes, extern; one of a later type in none
  pub one_form : (r : MachRel) → type_of r.bits ≡ ARM64_RELOC_AUTHENTICATED_POINTER → supported_of r ≡ same_form (form_in r) (form 0 3 1)
  pub no-later-type : (r : MachRel) → ARM64_RELOC_AUTHENTICATED_POINTER < type_of r.bits → supported_of r ≡ false
  -- RULES 4.24: an own record of that form, with 8 bytes at its place: by the stored word alone the entry, or 15
  pub reads : (loc sections : List ℕ) (r : MachRel) (subtracted : Bool) (offset given next : ℕ)
      → type_of r.bits ≡ ARM64_RELOC_AUTHENTICATED_POINTER → supported_of r ≡ true → 8 ≤ length loc
      → let word = le 8 loc 0 in
      record_of loc sections r subtracted offset given next
      ≡ choose (matches authenticated word)
      (Ok (with_signing (entry_of r subtracted offset (idx_of r.bits) (extend word 32)) (signing_in word), next)) (Err NotAuthenticated)
  -- an entry that is read of type 11 has its 8 bytes in the contents; they are a stored word, and give its addend and its four bytes
  pub read : (contents sections : List ℕ) (first : Bool) (rs : List MachRel) (es : List Reloc) (k : ℕ) (d : Reloc)
      → read_records contents sections first rs ≡ entries es → k < length es → (get_or es k d).ty ≡ ARM64_RELOC_AUTHENTICATED_POINTER
      → let w = le 8 contents (get_or es k d).offset in
      ((get_or es k d).offset + 8 ≤ length contents) × (matches authenticated w ≡ true) × ((get_or es k d).signing ≡ signing_in w)
      × ((get_or es k d).addend ≡ extend w 32)
  -- RULES 2.30: of any other type they are zero
  pub other-types : (contents sections : List ℕ) (first : Bool) (rs : List MachRel) (es : List Reloc) (k : ℕ) (d : Reloc)
      → read_records contents sections first rs ≡ entries es → k < length es → ((get_or es k d).ty ≡ ARM64_RELOC_AUTHENTICATED_POINTER → ⊥)
      → (get_or es k d).signing ≡ 0
  -- what a call stores in slot k is entry k, as the fix-up reads it
  pub in-slot : (contents records sections slots : List ℕ) (es : List Reloc) (k : ℕ) (d : Reloc)
      → read_relocs contents records sections slots ≡ entries es → k < length es
      → reloc_at (slots_to contents records sections slots) (reloc_size * k) ≡ get_or es k d
  -- RULES 5.28: read, and fixed up in the section that it was read from, by a list whose entry k is what the reader stored in slot j: bits 32 to 63 stay as
  -- they were stored
  pub kept : (section records sections slots : List ℕ) (es : List Reloc) (j : ℕ) → read_relocs section records sections slots ≡ entries es → j < length es
      → (b : Bases) (list targets reports : List ℕ) (f : Fixed) (k : ℕ) → Lone section b list targets reports f k
      → lent_entry list k ≡ reloc_at (slots_to section records sections slots) (reloc_size * j)
      → (lent_entry list k).ty ≡ ARM64_RELOC_AUTHENTICATED_POINTER → imported_symbol (lent_entry list k) (lent_target targets k) ≡ false
      → field (pointer_at list f.section k) 32 32 ≡ field (pointer_at list section k) 32 32
  -- such an entry: the reader stores it in slot 0 for the word 0x8005d9bf00000000 of symbol 2, and alone in its list it stands alone
  pub kept-occurs : (slot_of 0x8005d9bf_00000000 ≡ pointer 0 2)
      × Lone (bytes 8 0x8005d9bf_00000000) (bases_of 0x1000 0x40 0x100000000) (pointer 0 2) (resolved 0x100008010 4) (bytes 24 0)
      (record { section = bytes 8 0x8005d9bf_00008010; reports = [] }) 0
  -- RULES 3.1: eight zero bytes under a record with the bits 0xbe000000
  pub number-15 : number_to (replicate 8 0) (mach_rel 0 0xbe000000) [] (replicate 24 0) ≡ 15
  -- `.quad _g@AUTH(ia,42,addr)`, `.quad (_g+7)@AUTH(db,0)` and `.quad (_g-3)@AUTH(da,65535)` as clang assembles them: offset; type, 8 bytes, not
  -- pc-relative, not subtracted; symbol; diversity, address diversity, key; addend
  pub assembled : slot_of 0x8001002a_00000000
      ∷ slot_of 0x80060000_00000007
      ∷ slot_of 0x8004ffff_fffffffd
      ∷ []
      ≡ (bytes 4 0 ++ (11 ∷ 8 ∷ 0 ∷ 0 ∷ []) ++ bytes 4 2 ++ (42 ∷ 0 ∷ 1 ∷ 0 ∷ []) ++ bytes 8 0)
      ∷ (bytes 4 0 ++ (11 ∷ 8 ∷ 0 ∷ 0 ∷ []) ++ bytes 4 2 ++ (0 ∷ 0 ∷ 0 ∷ 3 ∷ []) ++ bytes 8 7)
      ∷ (bytes 4 0 ++ (11 ∷ 8 ∷ 0 ∷ 0 ∷ []) ++ bytes 4 2 ++ (0xff ∷ 0xff ∷ 0 ∷ 2 ∷ []) ++ bytes 8 (2 ^ 64 - 3))
      ∷ []
  -- RULES 4.24: after an ADDEND record the offset is that record's, and the stored addend takes the place of the given one; 15 is asked there, too
  pub after-addend : (read_relocs (replicate 8 0 ++ bytes 8 0x80060000_00000007) (mach_rel 8 0xa4000005 ++ mach_rel 0 0xbe000002) [] (replicate 48 0)
      ≡ entries (record { offset = 8; ty = 11; size = 8; is_pcrel = 0; is_subtracted = 0; target = 2; signing = 0x03000000; addend = 7 } ∷ []))
      × (number_to (replicate 8 0 ++ bytes 8 0x8001002a_00000000) (mach_rel 0 0xa4000005 ++ mach_rel 8 0xbe000002) [] (replicate 48 0) ≡ 15)
  -- RULES 4.12: after a SUBTRACTOR record it has the mark
  pub after-subtractor : read_relocs (bytes 8 0x8001002a_00000000) (mach_rel 0 0x1e000001 ++ mach_rel 0 0xbe000002) [] (replicate 48 0)
      ≡ entries (record { offset = 0; ty = 1; size = 8; is_pcrel = 0; is_subtracted = 0; target = 1; signing = 0; addend = 0 }
      ∷ record { offset = 0; ty = 11; size = 8; is_pcrel = 0; is_subtracted = 1; target = 2; signing = 0x0001002a; addend = 0 } ∷ [])
  -- RULES 4.17, 4.18: what it means alone; SUBTRACTOR or ADDEND before it the headers do not define
  pub means : Header.reads (bytes 8 0x8001002a_00000000) (mach_rel 0 0xbe000002)
      ∷ Header.reads (bytes 8 0x8001002a_00000000) (mach_rel 0 0x1e000001 ++ mach_rel 0 0xbe000002)
      ∷ Header.reads (bytes 8 0x8001002a_00000000) (mach_rel 0 0xa4000005 ++ mach_rel 0 0xbe000002)
      ∷ []
      ≡ (relocations (record { ty = 11; place = 0; size = 8; target = symbol 2; addend = 0; minus = nothing; signing = signed 42 1 0 } ∷ []), 1)
      ∷ (undefined subtractor-type, 2)
      ∷ (undefined addend-type, 1)
      ∷ []
  -- RULES 3.4: past the contents, and a form of no type; a form of no type, and 7 bytes there; 7 bytes there, which with a zero, or with any byte, would be no
  -- such word; no such word, and after it ordinal 0; the other way round; no such word, and after it a record past the contents; the other way round
  pub reader-order : number_to [] (mach_rel 1 0xbf000000) [] (replicate 24 0)
      ∷ number_to (replicate 7 0) (mach_rel 0 0xb6000000) [] (replicate 24 0)
      ∷ number_to (replicate 7 0) (mach_rel 0 0xbe000000) [] (replicate 24 0)
      ∷ number_to (replicate 7 0xff) (mach_rel 0 0xbe000000) [] (replicate 24 0)
      ∷ number_to (replicate 8 0) (mach_rel 0 0xbe000000 ++ mach_rel 0 0x06000000) [] (replicate 48 0)
      ∷ number_to (replicate 8 0) (mach_rel 0 0x06000000 ++ mach_rel 0 0xbe000000) [] (replicate 48 0)
      ∷ number_to (replicate 8 0) (mach_rel 0 0xbe000000 ++ mach_rel 9 0xbe000000) [] (replicate 48 0)
      ∷ number_to (replicate 8 0) (mach_rel 9 0xbe000000 ++ mach_rel 0 0xbe000000) [] (replicate 48 0)
      ∷ []
      ≡ 3 ∷ 5 ∷ 3 ∷ 3 ∷ 15 ∷ 7 ∷ 15 ∷ 3 ∷ []
  -- RULES 5.28: S 0x100008010; the same with an addend of -16; S + A at the image base, and 2^32 - 1 above it; diversity, address diversity and key each by
  -- itself; address diversity 0xff and key 0xff, of which one bit and two count
  pub values : (one_pointer 0 (pointer 0 0) (resolved 0x100008010 4) ≡ becomes 0x8005d9bf_00008010)
      × (one_pointer 0 (entry_bytes 11 8 0 0 0xd9bf 1 2 (2 ^ 64 - 16)) (resolved 0x100008010 4) ≡ becomes 0x8005d9bf_00008000)
      × (one_pointer 0 (pointer 0 0) (resolved 0x100000000 4) ≡ becomes 0x8005d9bf_00000000)
      × (one_pointer 0 (pointer 0 0) (resolved 0x1ffffffff 4) ≡ becomes 0x8005d9bf_ffffffff)
      × (one_pointer 0 (entry_bytes 11 8 0 0 0xffff 0 0 0) (resolved 0x100008010 4) ≡ becomes 0x8000ffff_00008010)
      × (one_pointer 0 (entry_bytes 11 8 0 0 0 1 0 0) (resolved 0x100008010 4) ≡ becomes 0x80010000_00008010)
      × (one_pointer 0 (entry_bytes 11 8 0 0 0 0 3 0) (resolved 0x100008010 4) ≡ becomes 0x80060000_00008010)
      × (one_pointer 0 (entry_bytes 11 8 0 0 0xd9bf 0xff 0xff 0) (resolved 0x100008010 4) ≡ becomes 0x8007d9bf_00008010)
  -- whatever stood there, whatever the size field, with the thread-local flag and without has-address
  pub not-looked-at : (one_pointer (2 ^ 64 - 1) (pointer 0 0) (resolved 0x100008010 4) ≡ becomes 0x8005d9bf_00008010)
      × (one_pointer 0 (entry_bytes 11 4 0 0 0xd9bf 1 2 0) (resolved 0x100008010 4) ≡ becomes 0x8005d9bf_00008010)
      × (one_pointer 0 (pointer 0 0) (resolved 0x100008010 6) ≡ becomes 0x8005d9bf_00008010)
      × (one_pointer 0 (pointer 0 0) (resolved 0x100008010 0) ≡ becomes 0x8005d9bf_00008010)
  -- an imported symbol, far from the image, at the section's start and at its end: no number, and nothing is written
  pub imported : (one_pointer 0x11223344_55667788 (pointer 0 0) (resolved 0 1) ≡ becomes 0x11223344_55667788)
      × (one_pointer 0x11223344_55667788 (pointer 8 0) (resolved 0 1) ≡ becomes 0x11223344_55667788)
  -- one that a SUBTRACTOR takes, of a section, far from the image and past the section's end, has no number: its S + A counts, 0x30 less 0x10
  pub taken : outcome_of (bytes 8 0) (bases_of 0x1000 0 0x100000000) (entry ARM64_RELOC_SUBTRACTOR 0 0 ++ pointer 9 (2 ^ 31))
      (resolved 0x10 4 ++ resolved 0x30 4) (bytes 48 0)
      ≡ becomes 0x20
  -- RULES 5.6: 16 where the image base is one above S, where S + A is 2^32 above it, and where it is 0 and S + A past 2^32 - 1; not where S + A wraps
  -- to it, nor where it is 2^64 - 1 and S 0, which is 1 from there
  pub far : (number 0 0x100008011 (pointer 0 0) (resolved 0x100008010 4) ≡ 16)
      × (number 0 0x100000000 (pointer 0 0) (resolved 0x200000000 4) ≡ 16)
      × (number 0 0 (pointer 0 0) (resolved 0x100008010 4) ≡ 16)
      × (number 0 0 (entry_bytes 11 8 0 0 0xd9bf 1 2 1) (resolved (2 ^ 64 - 1) 4) ≡ 0)
      × (number 0 (2 ^ 64 - 1) (pointer 0 0) (resolved 0 4) ≡ 0)
  -- where two numbers apply: 11, 9 and 10 before 16, 10 also near, with the imported flag and with a helper; 16 before the last 3;
  -- near there, and past the section, 3; types 10 and 12 are 5, near and far
  pub order : (number 0 0 (pointer 0 0) (resolved 0x100008010 0x200) ≡ 11)
      × (number (2 ^ 64 - 1) 0 (pointer 1 0) (resolved 0x100008010 4) ≡ 9)
      × (number 0 0 (pointer 0 (2 ^ 31)) (resolved 0x100008010 4) ≡ 10)
      × (number 0 0x100000000 (pointer 0 (2 ^ 31)) (resolved 0x100008010 4) ≡ 10)
      × (number 0 0x100000000 (pointer 0 (2 ^ 31)) (resolved 0x100008010 1) ≡ 10)
      × (number 0 0x100000000 (pointer 0 (2 ^ 31)) (resolved 0x100008010 0x20) ≡ 10)
      × (number 0 0 (pointer 8 0) (resolved 0x100008010 4) ≡ 16)
      × (number 0 0x100000000 (pointer 8 0) (resolved 0x100008010 4) ≡ 3)
      × (number 0 0x100000000 (pointer 1 0) (resolved 0x100008010 4) ≡ 3)
      × (number 0 0 (pointer 9 0) (resolved 0x100008010 4) ≡ 3)
      × (number 0 0x100000000 (entry_bytes 10 8 0 0 0xd9bf 1 2 0) (resolved 0x100008010 4) ≡ 5)
      × (number 0 0x100000000 (entry_bytes 12 8 0 0 0xd9bf 1 2 0) (resolved 0x100008010 4) ≡ 5)
      × (number 0 0 (entry_bytes 12 8 0 (2 ^ 31) 0xd9bf 1 2 0) (resolved 0x100008010 4) ≡ 5)
