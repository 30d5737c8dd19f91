-- The numbers of the call on small tables, and which comes first where two apply (RULES 15.3): each is computed.
use mathlib.Core.Path.{◌≡◌, refl}
use mathlib.Core.List.{List, [], ◌∷◌, ◌++◌}
use Prim.Native.Nat.{ℕ}
use lib.ListN.{replicate}
use Rattle.util.specs.Choice.{choose}
use Rattle.util.specs.Word.{le, bytes}
use Rattle.macho.specs.MachRel.{mach_rel_at}
use Rattle.macho.specs.Refusal.{answer_number}
use Rattle.arch.specs.Table.{records_from, records_of, subtracted_at, lengths_of}
use Rattle.arch.specs.Walk.{read_from, read_all}
use Rattle.x86_64_reader.specs.Support.{supported_of}
use Rattle.x86_64_reader.specs.Addend.{width_of}
use Rattle.x86_64_reader.specs.Record.{check_reloc, entry_at, step_at}
use Rattle.x86_64_reader.specs.Read.{read_records, read_relocs, answer_to}

-- the bytes of a record: its offset, and the bits of its second word
abbrev mach_rel : ℕ → ℕ → List ℕ
mach_rel offset bits = bytes 4 offset ++ bytes 4 bits

-- the number that a call returns
abbrev number : List ℕ → List ℕ → List ℕ → ℕ → List ℕ → ℕ
number contents records sections address slots = answer_number (answer_to contents records sections address slots)

-- of one record, in a section at 0x1000, with one section in the list
abbrev one : List ℕ → List ℕ → ℕ
one contents table = number contents table (0x1000 ∷ []) 0x1000 (replicate 24 0)

-- each number: 7 bytes of records; one record, 23 bytes of slots; an 8-byte pointer at 1 of 8, a displacement at 1 of 4, a short branch at 4 of 4, an offset of
-- 2^32 - 1; type 10, a pointer of 2 bytes, a short branch of a section, GOT_LOAD of a section, a SIGNED that is not pc-relative, a SUBTRACTOR of a section;
-- ordinal 0, and 2 of 1, of a pointer and of a displacement
pub turned_down :
    number [] (replicate 7 0) [] 0 (replicate 24 0)
    ∷ number (replicate 8 0) (mach_rel 0 0x0e000000) [] 0 (replicate 23 0)
    ∷ one (replicate 8 0) (mach_rel 1 0x0e000000)
    ∷ one (replicate 4 0) (mach_rel 1 0x1d000000)
    ∷ one (replicate 4 0) (mach_rel 4 0x29000000)
    ∷ one (replicate 4 0) (mach_rel 0xffffffff 0x1d000000)
    ∷ one (replicate 8 0) (mach_rel 0 0xad000000)
    ∷ one (replicate 8 0) (mach_rel 0 0x0a000000)
    ∷ one (replicate 8 0) (mach_rel 0 0x21000001)
    ∷ one (replicate 8 0) (mach_rel 0 0x35000001)
    ∷ one (replicate 8 0) (mach_rel 0 0x1c000000)
    ∷ one (replicate 8 0) (mach_rel 0 0x56000001)
    ∷ one (replicate 8 0) (mach_rel 0 0x06000000)
    ∷ one (replicate 8 0) (mach_rel 0 0x06000002)
    ∷ one (replicate 8 0) (mach_rel 0 0x15000002)
    ∷ []
    ≡ 1 ∷ 2 ∷ 3 ∷ 3 ∷ 3 ∷ 3 ∷ 5 ∷ 5 ∷ 5 ∷ 5 ∷ 5 ∷ 5 ∷ 7 ∷ 7 ∷ 7 ∷ []
unfolding read_relocs read_records read_all read_from choose lengths_of records_of records_from mach_rel_at le bytes subtracted_at step_at entry_at check_reloc
    supported_of width_of
turned_down = refl

-- and records that have none: a pointer of 4 bytes alone, the last bytes of a section, a short branch of a symbol there, a SUBTRACTOR that is the last record,
-- the last section, a displacement to a section
pub fit :
    one (replicate 4 0) (mach_rel 0 0x0c000000)
    ∷ one (replicate 8 0) (mach_rel 4 0x1d000000)
    ∷ one (replicate 8 0) (mach_rel 7 0x29000000)
    ∷ one (replicate 8 0) (mach_rel 0 0x5e000000)
    ∷ one (replicate 8 0) (mach_rel 0 0x06000001)
    ∷ one (replicate 8 0) (mach_rel 4 0x85000001)
    ∷ []
    ≡ 0 ∷ 0 ∷ 0 ∷ 0 ∷ 0 ∷ 0 ∷ []
unfolding read_relocs read_records read_all read_from choose lengths_of records_of records_from mach_rel_at le bytes subtracted_at step_at entry_at check_reloc
    supported_of width_of
fit = refl

-- where two apply, the earlier of 1, 2, then by record 5, 3, 7: 9 bytes and no slot; a record of no form, 23 bytes of slots; a record of no form past the
-- contents, or of no section; past the contents and of no section; of no section, and after it one of no form; past the contents, and after it one of no form
pub first-number :
    number [] (replicate 9 0) [] 0 []
    ∷ number [] (mach_rel 1 0xad000000) [] 0 (replicate 23 0)
    ∷ one [] (mach_rel 1 0xad000000)
    ∷ one (replicate 8 0) (mach_rel 0 0xa5000000)
    ∷ one [] (mach_rel 1 0x06000000)
    ∷ number (replicate 8 0) (mach_rel 0 0x06000000 ++ mach_rel 0 0xad000000) [] 0 (replicate 48 0)
    ∷ number (replicate 8 0) (mach_rel 9 0x1d000000 ++ mach_rel 0 0xad000000) [] 0 (replicate 48 0)
    ∷ []
    ≡ 1 ∷ 2 ∷ 5 ∷ 5 ∷ 3 ∷ 7 ∷ 3 ∷ []
unfolding read_relocs read_records read_all read_from choose lengths_of records_of records_from mach_rel_at le bytes subtracted_at step_at entry_at check_reloc
    supported_of width_of
first-number = refl
