-- Example 12 (RULES 11.12), and the examples of numbers 1 to 7 (RULES 3.1): each is computed.
use mathlib.Core.Path.{◌≡◌, refl}
use mathlib.Core.List.{List, [], ◌∷◌, ◌++◌}
use Prim.Native.Nat.{ℕ, ◌-◌, ◌^◌}
use lib.ListN.{replicate}
use Rattle.util.specs.Choice.{choose}
use Rattle.util.specs.Word.{le, bytes}
use Rattle.macho.specs.MachRel.{mach_rel_at}
use Rattle.arch.specs.Entry.{targeted}
use Rattle.arch.specs.Table.{records_from, records_of, subtracted_at, lengths_of}
use Rattle.arch.specs.Target.{section_target, target_of}
use Rattle.macho.specs.Refusal.{answer_number, filled_of}
use Rattle.arch.specs.Walk.{entries, read_from, read_all, answer_of}
use Rattle.arm64_insn.specs.LoadStore.{load_store_of}
use Rattle.arm64_insn.specs.LoadStoreTable.{row_of}
use Rattle.arm64_reader.specs.Support.{forms_of, supported_of}
use Rattle.arm64_reader.specs.Check.{loaded_bytes, got_fits, tlvp_fits, pointer32, word_check, check_reloc}
use Rattle.arm64_reader.specs.Record.{addend_of, authenticated_record, record_of, step_at}
use Rattle.arm64_reader.specs.Read.{read_records, read_relocs}
use Rattle.arm64_reader.specs.Header.{symbol, not-signed, nothing, is_defined, Meaning, undefined, relocations, meaning_from, meaning_of}
use Rattle.arm64_reader.specs.Header.{not-in-header, not-applied, subtractor-last, subtractor-type, subtractor-place, subtractor-size}
use Rattle.arm64_reader.specs.Header.{addend-form, addend-last, addend-type, addend-place, not-authenticated}
use Rattle.arm64_reader.specs.Header.{turn_alone, turn_minus, turn_plus}

-- a record's bytes
abbrev pub raw_record_of : ℕ → ℕ → List ℕ
raw_record_of offset bits = bytes 4 offset ++ bytes 4 bits

-- 12. Bits 0xa4ffffff, 0x3d000005: one PAGE21 entry, symbol 5, addend -1
pub piece12 : read_relocs (replicate 4 0) (raw_record_of 0 0xa4ffffff ++ raw_record_of 0 0x3d000005) [] (replicate 48 0)
    ≡ entries (record {
      offset = 0;
      ty = 3;
      size = 4;
      is_pcrel = 1;
      is_subtracted = 0;
      target = 5;
      signing = 0;
      addend = 2 ^ 64 - 1;
    } ∷ [])
unfolding read_relocs read_records read_all read_from choose lengths_of records_of records_from mach_rel_at le bytes subtracted_at step_at record_of check_reloc
    supported_of forms_of pointer32 addend_of targeted target_of
piece12 = refl

-- the number that a call returns
abbrev pub number : List ℕ → List ℕ → List ℕ → List ℕ → ℕ
number contents records sections slots = answer_number (answer_of (read_relocs contents records sections slots))

-- slots for one record, and a NOP
abbrev pub slot : List ℕ
slot = replicate 24 0

abbrev nop : List ℕ
nop = bytes 4 0xd503201f

-- the examples of the table: 7 bytes of MachRel; one record, 23 bytes; 8-byte UNSIGNED at 4 of 8; one record 0xa4000000; lone 0x0c000000;
-- TLVP page offset on NOP; ordinal 0
pub turned_down :
    number [] (replicate 7 0) [] slot
    ∷ number [] (raw_record_of 0 0x3d000000) [] (replicate 23 0)
    ∷ number (replicate 8 0) (raw_record_of 4 0x0e000000) [] slot
    ∷ number [] (raw_record_of 0 0xa4000000) [] slot
    ∷ number (replicate 8 0) (raw_record_of 0 0x0c000000) [] slot
    ∷ number nop (raw_record_of 0 0x9c000000) [] slot
    ∷ number (replicate 8 0) (raw_record_of 0 0x06000000) [] slot
    ∷ []
    ≡ 1 ∷ 2 ∷ 3 ∷ 4 ∷ 5 ∷ 6 ∷ 7 ∷ []
unfolding read_relocs read_records read_all read_from choose lengths_of records_of records_from mach_rel_at le bytes subtracted_at step_at record_of check_reloc
    supported_of forms_of pointer32 addend_of targeted target_of section_target word_check got_fits tlvp_fits loaded_bytes load_store_of
turned_down = refl

-- a TLVP page offset on a word
abbrev tlvp : ℕ → ℕ
tlvp word = number (bytes 4 word) (raw_record_of 0 0x9c000000) [] slot

-- on the unallocated words 7d800000, 7dc00000 and bd800000; on ldrsh x0, ldrsh w0, ldrsw x0, ldr q0, ldr h0 and ldr s0
pub tlvp-words :
    tlvp 0x7d800000 ∷ tlvp 0x7dc00000 ∷ tlvp 0xbd800000
    ∷ tlvp 0x79800000 ∷ tlvp 0x79c00000 ∷ tlvp 0xb9800000 ∷ tlvp 0x3dc00000 ∷ tlvp 0x7d400000 ∷ tlvp 0xbd400000
    ∷ []
    ≡ 6 ∷ 6 ∷ 6 ∷ 0 ∷ 0 ∷ 0 ∷ 0 ∷ 0 ∷ 0 ∷ []
unfolding read_relocs read_records read_all read_from choose lengths_of records_of records_from mach_rel_at le bytes subtracted_at step_at record_of check_reloc
    supported_of forms_of pointer32 addend_of targeted target_of section_target word_check got_fits tlvp_fits loaded_bytes load_store_of row_of
tlvp-words = refl

-- where two numbers apply, the earlier in the order 1, 2, by record 3 (offset), 4, 5, 3 (word), 6, 3 (pointer), 7 is returned: 9 bytes and no slot;
-- an offset past the contents and 23 bytes; past the contents, and ADDEND the last record; past the contents, and a form of no type; ADDEND the last record,
-- of a form of no type; a form of no type, and no word there; the same, and no pointer there; the same, and ordinal 0; no pointer there, and ordinal 0;
-- ordinal 0, and after it a record past the contents
pub first-number :
    number [] (replicate 9 0) [] []
    ∷ number [] (raw_record_of 1 0x3d000000) [] (replicate 23 0)
    ∷ number [] (raw_record_of 1 0xa4000000) [] slot
    ∷ number [] (raw_record_of 1 0x3c000000) [] slot
    ∷ number [] (raw_record_of 0 0xaf000000) [] slot
    ∷ number [] (raw_record_of 0 0x94000000) [] slot
    ∷ number (replicate 7 0) (raw_record_of 0 0x0f000000) [] slot
    ∷ number (replicate 8 0) (raw_record_of 0 0x07000000) [] slot
    ∷ number (replicate 7 0) (raw_record_of 0 0x06000000) [] slot
    ∷ number (replicate 8 0) (raw_record_of 0 0x06000000 ++ raw_record_of 9 0x3d000000) [] (slot ++ slot)
    ∷ []
    ≡ 1 ∷ 2 ∷ 3 ∷ 3 ∷ 4 ∷ 5 ∷ 5 ∷ 5 ∷ 3 ∷ 7 ∷ []
unfolding read_relocs read_records read_all read_from choose lengths_of records_of records_from mach_rel_at le bytes subtracted_at step_at record_of check_reloc
    supported_of forms_of pointer32 addend_of targeted target_of section_target word_check got_fits tlvp_fits loaded_bytes load_store_of
first-number = refl

-- ---- tables that are not defined, one for each reason

-- what a table means, and how many entries are filled
abbrev pub reads : List ℕ → List ℕ → Meaning × ℕ
reads contents records = (meaning_of contents [] (records_of records), filled_of (answer_of (read_relocs contents records [] (replicate 48 0))))

-- read all the same: SUBTRACTOR alone; before BRANCH26; before UNSIGNED at another place; before UNSIGNED of another size; ADDEND with the fields of another
-- type; before BRANCH26; before PAGE21 at another place
pub undefined-read :
    reads (replicate 16 0) (raw_record_of 0 0x1e000000)
    ∷ reads (replicate 16 0) (raw_record_of 0 0x1e000000 ++ raw_record_of 0 0x2d000000)
    ∷ reads (replicate 16 0) (raw_record_of 0 0x1e000000 ++ raw_record_of 8 0x0e000000)
    ∷ reads (replicate 16 0) (raw_record_of 0 0x1e000000 ++ raw_record_of 0 0x0c000000)
    ∷ reads (replicate 16 0) (raw_record_of 0 0xaf000000 ++ raw_record_of 0 0x3d000000)
    ∷ reads (replicate 16 0) (raw_record_of 0 0xa4000000 ++ raw_record_of 0 0x2d000000)
    ∷ reads (replicate 16 0) (raw_record_of 0 0xa4000000 ++ raw_record_of 4 0x3d000000)
    ∷ []
    ≡ (undefined subtractor-last, 1)
    ∷ (undefined subtractor-type, 2)
    ∷ (undefined subtractor-place, 2)
    ∷ (undefined subtractor-size, 2)
    ∷ (undefined addend-form, 1)
    ∷ (undefined addend-type, 1)
    ∷ (undefined addend-place, 1)
    ∷ []
unfolding read_relocs read_records read_all read_from choose lengths_of records_of records_from mach_rel_at le bytes subtracted_at step_at record_of check_reloc
    supported_of forms_of pointer32 addend_of targeted target_of section_target word_check got_fits tlvp_fits loaded_bytes load_store_of
    meaning_from turn_alone turn_minus turn_plus is_defined
undefined-read = refl

-- what a table means, and the number that is returned
abbrev refuses : List ℕ → List ℕ → Meaning × ℕ
refuses contents records = (meaning_of contents [] (records_of records), number contents records [] slot)

-- refused, by 5, 4 and 15: PAGE21 that is not pc-relative, and type 12, which the headers do not have; POINTER_TO_GOT of 8 bytes (`.quad _g@GOT`), UNSIGNED
-- of 2, PAGEOFF12 scaled by 8, an authenticated pointer of 4, which they have and the linker does not apply; ADDEND the last record; an authenticated
-- pointer on zeros
pub undefined-refused :
    refuses (replicate 8 0) (raw_record_of 0 0x3c000000)
    ∷ refuses (replicate 8 0) (raw_record_of 0 0xcc000000)
    ∷ refuses (replicate 8 0) (raw_record_of 0 0x7e000000)
    ∷ refuses (replicate 8 0) (raw_record_of 0 0x0a000000)
    ∷ refuses (replicate 8 0) (raw_record_of 0 0x4e000000)
    ∷ refuses (replicate 8 0) (raw_record_of 0 0xbc000000)
    ∷ refuses (replicate 8 0) (raw_record_of 0 0xa4000000)
    ∷ refuses (replicate 8 0) (raw_record_of 0 0xbe000000)
    ∷ []
    ≡ (undefined not-in-header, 5)
    ∷ (undefined not-in-header, 5)
    ∷ (undefined not-applied, 5)
    ∷ (undefined not-applied, 5)
    ∷ (undefined not-applied, 5)
    ∷ (undefined not-applied, 5)
    ∷ (undefined addend-last, 4)
    ∷ (undefined not-authenticated, 15)
    ∷ []
unfolding read_relocs read_records read_all read_from choose lengths_of records_of records_from mach_rel_at le bytes subtracted_at step_at record_of check_reloc
    supported_of forms_of pointer32 authenticated_record meaning_from turn_alone is_defined
undefined-refused = refl

-- ---- tables that are defined and refused, by 6 and by 5: a TLVP page offset on NOP, a pointer of 4 bytes alone
pub defined-refused :
    refuses nop (raw_record_of 0 0x9c000000)
    ∷ refuses nop (raw_record_of 0 0x0c000000)
    ∷ []
    ≡ (relocations (record { ty = 9; place = 0; size = 4; target = symbol 0; addend = 0; minus = nothing; signing = not-signed } ∷ []), 6)
    ∷ (relocations (record { ty = 0; place = 0; size = 4; target = symbol 0; addend = 0xffffffff_d503201f; minus = nothing; signing = not-signed } ∷ []), 5)
    ∷ []
unfolding read_relocs read_records read_all read_from choose lengths_of records_of records_from mach_rel_at le bytes subtracted_at step_at record_of check_reloc
    supported_of forms_of pointer32 addend_of targeted target_of section_target word_check got_fits tlvp_fits loaded_bytes load_store_of
    meaning_from turn_alone turn_minus turn_plus is_defined
defined-refused = refl
