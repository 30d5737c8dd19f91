-- Authenticated pointers as clang's assembler writes them, and the numbers that they meet, each before its neighbours (RULES 3.1): each is computed.
use mathlib.Core.Path.{◌≡◌, refl}
use mathlib.Core.Bool.{true, ◌||◌}
use mathlib.Core.List.{List, [], ◌∷◌, ◌++◌}
use Prim.Native.Nat.{ℕ, ◌+◌, ◌*◌, ◌-◌, ◌^◌}
use lib.Dec.{eqb}
use lib.ListN.{replicate}
use Rattle.util.specs.Choice.{choose}
use Rattle.util.specs.Word.{le, bytes}
use Rattle.util.proofs.Below.{every}
use Rattle.macho.specs.Authenticated.{signing_in}
use Rattle.macho.specs.MachRel.{mach_rel_at}
use Rattle.macho.specs.Record as Record
use Rattle.macho.specs.Reloc.{reloc_bytes}
use Rattle.arch.specs.Entry.{targeted}
use Rattle.arch.specs.Table.{records_from, records_of, subtracted_at, lengths_of}
use Rattle.arch.specs.Target.{section_target, target_of}
use Rattle.arch.specs.Walk.{entries, read_from, read_all}
use Rattle.arm64_reader.specs.Support.{forms_of, supported_of}
use Rattle.arm64_reader.specs.Check.{pointer32, check_reloc}
use Rattle.arm64_reader.specs.Record.{addend_of, authenticated_record, record_of, step_at}
use Rattle.arm64_reader.specs.Read.{read_records, read_relocs, slots_to}
use Rattle.arm64_reader.specs.Header.{symbol, signed, nothing, is_defined, undefined, relocations, meaning_from}
use Rattle.arm64_reader.specs.Header.{subtractor-type, addend-type, turn_alone, turn_minus, turn_plus}
use Rattle.arm64_reader.proofs.Examples.{raw_record_of, number, slot, reads}

-- the slot after a record of symbol 2 on a stored word
abbrev slot_of : ℕ → List ℕ
slot_of word = slots_to (bytes 8 word) (raw_record_of 0 0xbe000002) [] slot

-- `_g@AUTH(ia,42,addr)`, `(_g+7)@AUTH(db,0)` and `(_g-3)@AUTH(da,65535)`: offset; type, 8 bytes, not pc-relative, not subtracted; symbol; diversity, address
-- diversity, key; addend
pub assembled :
    slot_of 0x8001002a_00000000 ∷ slot_of 0x80060000_00000007 ∷ slot_of 0x8004ffff_fffffffd ∷ []
    ≡ (bytes 4 0 ++ (11 ∷ 8 ∷ 0 ∷ 0 ∷ []) ++ bytes 4 2 ++ (42 ∷ 0 ∷ 1 ∷ 0 ∷ []) ++ bytes 8 0)
    ∷ (bytes 4 0 ++ (11 ∷ 8 ∷ 0 ∷ 0 ∷ []) ++ bytes 4 2 ++ (0 ∷ 0 ∷ 0 ∷ 3 ∷ []) ++ bytes 8 7)
    ∷ (bytes 4 0 ++ (11 ∷ 8 ∷ 0 ∷ 0 ∷ []) ++ bytes 4 2 ++ (0xff ∷ 0xff ∷ 0 ∷ 2 ∷ []) ++ bytes 8 (2 ^ 64 - 3))
    ∷ []
unfolding read_relocs read_records read_all read_from choose lengths_of records_of records_from mach_rel_at le bytes subtracted_at step_at record_of check_reloc
    supported_of forms_of pointer32 authenticated_record signing_in Record.list_bytes reloc_bytes Record.bytes_of
assembled = refl

-- one of address diversity 1 and key 2, whose bytes the fix-up's examples have
pub stored-slot : slot_of 0x8005d9bf_00000000 ≡ bytes 4 0 ++ (11 ∷ 8 ∷ 0 ∷ 0 ∷ []) ++ bytes 4 2 ++ bytes 2 0xd9bf ++ (1 ∷ 2 ∷ []) ++ bytes 8 0
unfolding read_relocs read_records read_all read_from choose lengths_of records_of records_from mach_rel_at le bytes subtracted_at step_at record_of check_reloc
    supported_of forms_of pointer32 authenticated_record signing_in Record.list_bytes reloc_bytes Record.bytes_of
stored-slot = refl

-- a good word, and what a record with these bits 24 to 31 meets on it
abbrev word : List ℕ
word = bytes 8 0x8001002a_00000000

abbrev formed : ℕ → ℕ
formed k = number word (raw_record_of 0 (k * 2 ^ 24)) [] slot

-- of the forms of type 11 one is read, and each other is 5; so is every form of types 12 to 15
pub forms-of-11 : (formed 0xbe ≡ 0) × (every (λ k. eqb k 14 || eqb (formed (0xb0 + k)) 5) 16 ≡ true) × (every (λ k. eqb (formed (0xc0 + k)) 5) 64 ≡ true)
unfolding read_relocs read_records read_all read_from choose lengths_of records_of records_from mach_rel_at le bytes subtracted_at step_at record_of check_reloc
    supported_of forms_of pointer32 authenticated_record signing_in every
forms-of-11 = (refl, refl, refl)

-- a record of type 11 on a stored word
abbrev stored : ℕ → ℕ
stored w = number (bytes 8 w) (raw_record_of 0 0xbe000000) [] slot

-- the bits that are fixed: each of 51 to 62 set is 15, bit 63 clear is 15; all others set and all clear
pub fixed-bits : (every (λ k. eqb (stored (2 ^ 63 + 2 ^ (51 + k))) 15) 12 ≡ true)
    × (stored 0x00010000_00000000 ∷ stored 0x8007ffff_ffffffff ∷ stored 0x80000000_00000000 ∷ [] ≡ 15 ∷ 0 ∷ 0 ∷ [])
unfolding read_relocs read_records read_all read_from choose lengths_of records_of records_from mach_rel_at le bytes subtracted_at step_at record_of check_reloc
    supported_of forms_of pointer32 authenticated_record signing_in every
fixed-bits = (refl, refl)

-- eight zero bytes
pub zeros-refused : number (replicate 8 0) (raw_record_of 0 0xbe000000) [] slot ≡ 15
unfolding read_relocs read_records read_all read_from choose lengths_of records_of records_from mach_rel_at le bytes subtracted_at step_at record_of check_reloc
    supported_of forms_of pointer32 authenticated_record
zeros-refused = refl

-- where two numbers apply: past the contents, and a form of no type; a form of no type, and 7 bytes there; 7 bytes there, which with a zero, or with any
-- byte, would be no such word; no such word, and after it ordinal 0; the other way round; no such word, and after it a record past the contents; the other
-- way round
pub first-number :
    number [] (raw_record_of 1 0xbf000000) [] slot
    ∷ number (replicate 7 0) (raw_record_of 0 0xb6000000) [] slot
    ∷ number (replicate 7 0) (raw_record_of 0 0xbe000000) [] slot
    ∷ number (replicate 7 0xff) (raw_record_of 0 0xbe000000) [] slot
    ∷ number (replicate 8 0) (raw_record_of 0 0xbe000000 ++ raw_record_of 0 0x06000000) [] (slot ++ slot)
    ∷ number (replicate 8 0) (raw_record_of 0 0x06000000 ++ raw_record_of 0 0xbe000000) [] (slot ++ slot)
    ∷ number (replicate 8 0) (raw_record_of 0 0xbe000000 ++ raw_record_of 9 0xbe000000) [] (slot ++ slot)
    ∷ number (replicate 8 0) (raw_record_of 9 0xbe000000 ++ raw_record_of 0 0xbe000000) [] (slot ++ slot)
    ∷ []
    ≡ 3 ∷ 5 ∷ 3 ∷ 3 ∷ 15 ∷ 7 ∷ 15 ∷ 3 ∷ []
unfolding read_relocs read_records read_all read_from choose lengths_of records_of records_from mach_rel_at le bytes subtracted_at step_at record_of check_reloc
    supported_of forms_of pointer32 authenticated_record addend_of targeted target_of section_target
first-number = refl

-- ADDEND before it, whose offset is the entry's: the stored addend replaces it; the word at that offset is looked at, and not the one at its own
pub after-addend : (read_relocs (replicate 8 0 ++ bytes 8 0x80060000_00000007) (raw_record_of 8 0xa4000005 ++ raw_record_of 0 0xbe000002) [] (slot ++ slot)
    ≡ entries (record {
      offset = 8;
      ty = 11;
      size = 8;
      is_pcrel = 0;
      is_subtracted = 0;
      target = 2;
      signing = 0x03000000;
      addend = 7;
    } ∷ []))
    × (number (replicate 8 0 ++ word) (raw_record_of 0 0xa4000005 ++ raw_record_of 8 0xbe000002) [] (slot ++ slot) ≡ 15)
unfolding read_relocs read_records read_all read_from choose lengths_of records_of records_from mach_rel_at le bytes subtracted_at step_at record_of check_reloc
    supported_of forms_of pointer32 authenticated_record signing_in
after-addend = (refl, refl)

-- SUBTRACTOR before it: its entry is marked
pub after-subtractor : read_relocs word (raw_record_of 0 0x1e000001 ++ raw_record_of 0 0xbe000002) [] (slot ++ slot)
    ≡ entries (record {
      offset = 0;
      ty = 1;
      size = 8;
      is_pcrel = 0;
      is_subtracted = 0;
      target = 1;
      signing = 0;
      addend = 0;
    } ∷ record {
      offset = 0;
      ty = 11;
      size = 8;
      is_pcrel = 0;
      is_subtracted = 1;
      target = 2;
      signing = 0x0001002a;
      addend = 0;
    } ∷ [])
unfolding read_relocs read_records read_all read_from choose lengths_of records_of records_from mach_rel_at le bytes subtracted_at step_at record_of check_reloc
    supported_of forms_of pointer32 authenticated_record addend_of targeted target_of signing_in
after-subtractor = refl

-- what it means alone, after SUBTRACTOR and after ADDEND, and how many entries are filled
pub authenticated-means :
    reads word (raw_record_of 0 0xbe000002)
    ∷ reads word (raw_record_of 0 0x1e000001 ++ raw_record_of 0 0xbe000002)
    ∷ reads word (raw_record_of 0 0xa4000005 ++ raw_record_of 0 0xbe000002)
    ∷ []
    ≡ (relocations (record { ty = 11; place = 0; size = 8; target = symbol 2; addend = 0; minus = nothing; signing = signed 42 1 0 } ∷ []), 1)
    ∷ (undefined subtractor-type, 2)
    ∷ (undefined addend-type, 1)
    ∷ []
unfolding read_relocs read_records read_all read_from choose lengths_of records_of records_from mach_rel_at le bytes subtracted_at step_at record_of check_reloc
    supported_of forms_of pointer32 authenticated_record addend_of targeted target_of
    meaning_from turn_alone turn_minus turn_plus is_defined
authenticated-means = refl
