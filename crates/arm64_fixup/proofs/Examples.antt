-- Examples through the call: 9 to 11 (RULES 11.9 to 11.11), those of the numbers 1 to 3, 5 and 8 to 11 (RULES 3.1), their order, and
-- what is passed over; entries that stand alone. Each is computed.
use mathlib.Core.Path.{◌≡◌, refl}
use mathlib.Core.List.{List, [], ◌∷◌, ◌++◌}
use Prim.Native.Nat.{ℕ, zero, suc, ◌-◌, ◌^◌, ◌<◌}
use native.Mathlib.Omega.{arith}
use lib.Dec.{lit<}
use Rattle.util.specs.Choice.{choose}
use Rattle.util.specs.Word.{le, put, bytes}
use Rattle.util.specs.Wrap.{in_range}
use Rattle.macho.specs.Types.{ARM64_RELOC_UNSIGNED, ARM64_RELOC_SUBTRACTOR, ARM64_RELOC_BRANCH26, ARM64_RELOC_PAGE21, ARM64_RELOC_PAGEOFF12}
use Rattle.macho.specs.Types.{ARM64_RELOC_GOT_LOAD_PAGEOFF12, ARM64_RELOC_POINTER_TO_GOT, ARM64_RELOC_ADDEND}
use Rattle.macho.specs.Refusal.{answer_number}
use Rattle.macho.specs.Record.{bytes_of}
use Rattle.macho.specs.Reloc.{reloc_at, reloc_bytes}
use Rattle.macho.specs.Resolved.{resolved_at, resolved_bytes, well_formed}
use Rattle.arm64_insn.specs.Branch.{branch_reaches, branch_word}
use Rattle.arm64_insn.specs.Fix.{adrp_with, scale_of, offset_with, relaxed_word}
use Rattle.arm64_insn.specs.Page.{page_of}
use Rattle.arm64_insn.specs.Reach.{page_imm, page_offset, adrp_reaches}
use Rattle.arm64_insn.specs.Manual.{ADRP, ADD, instruction, decode}
use Rattle.arm64_fixup_entry.specs.Target.{target_of, width_of}
use Rattle.arm64_fixup_entry.specs.Check.{check_of}
use Rattle.arm64_fixup_entry.specs.Change.{branch_target, dtrace_site_insn, branch, page21, pageoff12, relaxed, got_pageoff12, word_change, change_of}
use Rattle.arm64_fixup_entry.specs.Roles as Roles
use Rattle.arm64_fixup_entry.specs.Roles.{Page, Offset}
use Rattle.arm64_fixup.specs.Walk.{lent_entry, lent_target, consumed, check_at, check_to, Fixed, work_at, fix_to}
use Rattle.arm64_fixup.specs.Footprint.{width_at, Touches, written_at, Writes, Lone, word_at}
use Rattle.arm64_fixup.specs.Answer.{check_lists, bases_of, Outcome, fixed, outcome_of, answer_of}

-- an entry of a type, at an offset, with its target field; the other fields are zeros
abbrev pub entry : ℕ → ℕ → ℕ → List ℕ
entry ty offset target =
    reloc_bytes
    (record { offset = offset; ty = ty; size = 8; is_pcrel = 0; is_subtracted = 0; target = target; signing = 0; addend = 0 })

-- a resolved target at an address, its branch target the same, with flags
abbrev pub resolved : ℕ → ℕ → List ℕ
resolved addr flags =
    resolved_bytes (record { addr = addr; got = 0; branch = addr; thunk = 0; helper = 0; flags = flags; zero = 0 })

-- the number of a call
abbrev pub number : List ℕ → ℕ → List ℕ → List ℕ → List ℕ → ℕ
number section base entries targets slots = answer_number (answer_of (outcome_of section (bases_of base 0 0) entries targets slots))

-- a call on one word at 0x1000 with one entry
abbrev pub one_word : ℕ → ℕ → ℕ → ℕ → Outcome
one_word word ty addr flags = outcome_of (bytes 4 word) (bases_of 0x1000 0 0) (entry ty 0 0) (resolved addr flags) (bytes 24 0)

-- a word with no report, and one with a report of alignment
abbrev pub becomes : ℕ → Outcome
becomes word = fixed (record { section = bytes 4 word; reports = [] })

abbrev pub misaligned : ℕ → ℕ → Outcome
misaligned size word = fixed (record { section = bytes 4 word; reports = record { entry = 0; kind = 3; size = size; place = 0; target = 0 } ∷ [] })

-- 9 with a target of 0x1238 and of 0x1234, 10, and 11 with a target that can be relaxed
pub pieces : (one_word 0xf9400000 ARM64_RELOC_PAGEOFF12 0x1238 4 ≡ becomes 0xf9411c00)
    × (one_word 0xf9400000 ARM64_RELOC_PAGEOFF12 0x1234 4 ≡ misaligned 8 0xf9400000)
    × (one_word 0x94000000 ARM64_RELOC_BRANCH26 0xffc 4 ≡ becomes 0x97ffffff)
    × (one_word 0xf9400000 ARM64_RELOC_GOT_LOAD_PAGEOFF12 0x1234 8 ≡ becomes 0x9108d000)
unfolding reloc_bytes resolved_bytes bytes_of bytes outcome_of check_lists check_to check_at check_of consumed reloc_at resolved_at le well_formed
    width_of fix_to work_at change_of word_change pageoff12 target_of offset_with scale_of put choose branch_target dtrace_site_insn branch
    branch_reaches in_range branch_word got_pageoff12 relaxed relaxed_word
pieces = (refl, refl, refl, refl)

-- PAGEOFF12 on the unallocated words of loads and stores 7d800000, 7dc00000 and bd800000: their size field scales the offset
pub unallocated-scaled : (one_word 0x7d800000 ARM64_RELOC_PAGEOFF12 0x1236 4 ≡ becomes 0x7d846c00)
    × (one_word 0x7d800000 ARM64_RELOC_PAGEOFF12 0x1235 4 ≡ misaligned 2 0x7d800000)
    × (one_word 0x7dc00000 ARM64_RELOC_PAGEOFF12 0x1236 4 ≡ becomes 0x7dc46c00)
    × (one_word 0x7dc00000 ARM64_RELOC_PAGEOFF12 0x1235 4 ≡ misaligned 2 0x7dc00000)
    × (one_word 0xbd800000 ARM64_RELOC_PAGEOFF12 0x1234 4 ≡ becomes 0xbd823400)
    × (one_word 0xbd800000 ARM64_RELOC_PAGEOFF12 0x1236 4 ≡ misaligned 4 0xbd800000)
unfolding reloc_bytes resolved_bytes bytes_of bytes outcome_of check_lists check_to check_at check_of consumed reloc_at resolved_at le well_formed
    width_of fix_to work_at change_of word_change pageoff12 target_of offset_with scale_of put choose
unallocated-scaled = (refl, refl, refl, refl, refl, refl)

-- 7 bytes of entries; one entry with 23 bytes of slots; an 8-byte UNSIGNED at 4 of 8; a type of 10; one SUBTRACTOR;
-- base 2^64 - 1 with offset 1; POINTER_TO_GOT with target bit 31; flags 0x200, probe with is-enabled, and a last byte that is not zero
pub numbers : (number [] 0 (bytes 7 0) [] [] ≡ 1)
    × (number (bytes 8 0) 0 (entry ARM64_RELOC_UNSIGNED 0 0) (resolved 0 0) (bytes 23 0) ≡ 2)
    × (number (bytes 8 0) 0 (entry ARM64_RELOC_UNSIGNED 4 0) (resolved 0 0) (bytes 24 0) ≡ 3)
    × (number (bytes 8 0) 0 (entry ARM64_RELOC_ADDEND 0 0) (resolved 0 0) (bytes 24 0) ≡ 5)
    × (number (bytes 8 0) 0 (entry ARM64_RELOC_SUBTRACTOR 0 0) (resolved 0 0) (bytes 24 0) ≡ 8)
    × (number (bytes 8 0) (2 ^ 64 - 1) (entry ARM64_RELOC_UNSIGNED 1 0) (resolved 0 0) (bytes 24 0) ≡ 9)
    × (number (bytes 8 0) 0 (entry ARM64_RELOC_POINTER_TO_GOT 0 (2 ^ 31)) (resolved 0 0) (bytes 24 0) ≡ 10)
    × (number (bytes 8 0) 0 (entry ARM64_RELOC_UNSIGNED 0 0) (resolved 0 0x200) (bytes 24 0) ≡ 11)
    × (number (bytes 8 0) 0 (entry ARM64_RELOC_UNSIGNED 0 0) (resolved 0 0x180) (bytes 24 0) ≡ 11)
    × (number (bytes 8 0) 0 (entry ARM64_RELOC_UNSIGNED 0 0) (bytes 47 0 ++ bytes 1 1) (bytes 24 0) ≡ 11)
unfolding reloc_bytes resolved_bytes bytes_of bytes outcome_of check_lists check_to check_at check_of consumed reloc_at resolved_at le well_formed width_of choose
numbers = (refl, refl, refl, refl, refl, refl, refl, refl, refl, refl)

-- where two numbers apply: 1 before 2 before 3; an offset's 3 before 11 before 9 before 5, 8 and 10, and these before the last 3; and the first
-- entry's number before the second's
pub order : (number [] 0 (bytes 25 0) [] [] ≡ 1)
    × (number (bytes 8 0) 0 (entry ARM64_RELOC_UNSIGNED 9 0) (resolved 0 0) (bytes 23 0) ≡ 2)
    × (number (bytes 8 0) 0 (entry ARM64_RELOC_UNSIGNED 9 0) (resolved 0 0x200) (bytes 24 0) ≡ 3)
    × (number (bytes 8 0) (2 ^ 64 - 1) (entry ARM64_RELOC_UNSIGNED 1 0) (resolved 0 0x200) (bytes 24 0) ≡ 11)
    × (number (bytes 8 0) (2 ^ 64 - 1) (entry ARM64_RELOC_ADDEND 1 0) (resolved 0 0) (bytes 24 0) ≡ 9)
    × (number (bytes 8 0) (2 ^ 64 - 1) (entry ARM64_RELOC_SUBTRACTOR 1 0) (resolved 0 0) (bytes 24 0) ≡ 9)
    × (number (bytes 8 0) (2 ^ 64 - 1) (entry ARM64_RELOC_POINTER_TO_GOT 1 (2 ^ 31)) (resolved 0 0) (bytes 24 0) ≡ 9)
    × (number (bytes 8 0) 0 (entry ARM64_RELOC_ADDEND 8 0) (resolved 0 0) (bytes 24 0) ≡ 5)
    × (number (bytes 8 0) 0 (entry ARM64_RELOC_SUBTRACTOR 8 0) (resolved 0 0) (bytes 24 0) ≡ 8)
    × (number (bytes 8 0) 0 (entry ARM64_RELOC_POINTER_TO_GOT 8 (2 ^ 31)) (resolved 0 0) (bytes 24 0) ≡ 10)
    × (number (bytes 8 0) 0 (entry ARM64_RELOC_UNSIGNED 4 0 ++ entry ARM64_RELOC_UNSIGNED 0 0) (resolved 0 0 ++ resolved 0 0x200) (bytes 48 0) ≡ 3)
unfolding reloc_bytes resolved_bytes bytes_of bytes outcome_of check_lists check_to check_at check_of consumed reloc_at resolved_at le well_formed width_of choose
order = (refl, refl, refl, refl, refl, refl, refl, refl, refl, refl, refl)

-- RULES 3.9, 3.10: 47 bytes of targets; one entry and no target; a SUBTRACTOR, the entry that it takes, and slots for one
pub lengths : (number (bytes 8 0) 0 (entry ARM64_RELOC_UNSIGNED 0 0) (bytes 47 0) (bytes 24 0) ≡ 1)
    × (number (bytes 8 0) 0 (entry ARM64_RELOC_UNSIGNED 0 0) [] (bytes 24 0) ≡ 1)
    × (number (bytes 8 0) 0 (entry ARM64_RELOC_SUBTRACTOR 0 0 ++ entry ARM64_RELOC_UNSIGNED 0 0) (resolved 0 0 ++ resolved 0 0) (bytes 47 0) ≡ 2)
unfolding reloc_bytes resolved_bytes bytes_of bytes outcome_of check_lists choose
lengths = (refl, refl, refl)

-- RULES 3.5, 3.11, 5.5: a taken entry past the section, of type 10, with flags that no target has; of three SUBTRACTORs the last takes nothing;
-- an imported symbol's UNSIGNED at the section's end
pub passed_over : (number (bytes 8 0) 0 (entry ARM64_RELOC_SUBTRACTOR 0 0 ++ entry ARM64_RELOC_ADDEND 9 0) (resolved 0 0 ++ resolved 0 0x200) (bytes 48 0) ≡ 0)
    × (number (bytes 8 0) 0 (entry ARM64_RELOC_SUBTRACTOR 0 0 ++ entry ARM64_RELOC_SUBTRACTOR 0 0 ++ entry ARM64_RELOC_SUBTRACTOR 0 0)
    (resolved 0 0 ++ resolved 0 0 ++ resolved 0 0) (bytes 72 0) ≡ 8)
    × (number (bytes 8 0) 0 (entry ARM64_RELOC_UNSIGNED 8 0) (resolved 0 1) (bytes 24 0) ≡ 0)
unfolding reloc_bytes resolved_bytes bytes_of bytes outcome_of check_lists check_to check_at check_of consumed reloc_at resolved_at le well_formed width_of choose
passed_over = (refl, refl, refl)

-- two PAGEOFF12 on the word of example 9: to 0x1234, which is reported and writes nothing, and to 0x1238
abbrev pub two_entries : List ℕ
two_entries = entry ARM64_RELOC_PAGEOFF12 0 0 ++ entry ARM64_RELOC_PAGEOFF12 0 0

abbrev pub two_targets : List ℕ
two_targets = resolved 0x1234 4 ++ resolved 0x1238 4

abbrev pub twice : Fixed
twice = record { section = bytes 4 0xf9411c00; reports = record { entry = 0; kind = 3; size = 8; place = 0; target = 0 } ∷ [] }

-- so the second is one whose bytes no other entry writes, although both read the word
pub second-lone : Lone (bytes 4 0xf9400000) (bases_of 0x1000 0 0) two_entries two_targets (bytes 48 0) twice 1
unfolding reloc_bytes resolved_bytes bytes_of bytes outcome_of check_lists check_to check_at check_of consumed reloc_at resolved_at le well_formed
    width_of fix_to work_at change_of word_change pageoff12 target_of offset_with scale_of put choose written_at
second-lone =
    record {
      accepted = refl;
      listed = lit< tt;
      worked = refl;
      alone = λ i p l ne t w. first-writes-nothing i p l ne w;
    }
  where
    first-writes-nothing : (i p : ℕ) → i < 2 → (i ≡ 1 → ⊥) → Writes (bytes 4 0xf9400000) (bases_of 0x1000 0 0) two_entries two_targets i p → ⊥
    first-writes-nothing zero p l ne w = absurd (omega arith)
    first-writes-nothing (suc zero) p l ne w = ne refl
    first-writes-nothing (suc (suc i)) p l ne w = absurd (omega arith)

-- PAGE21 on "adrp x0, 0" and PAGEOFF12 on "add x0, x0, #0" after it, at 0x1000, both to 0x5678
abbrev pub pair_words : List ℕ
pair_words = bytes 4 0x90000000 ++ bytes 4 0x91000000

abbrev pub pair_entries : List ℕ
pair_entries = entry ARM64_RELOC_PAGE21 0 0 ++ entry ARM64_RELOC_PAGEOFF12 4 0

abbrev pub pair_targets : List ℕ
pair_targets = resolved 0x5678 4 ++ resolved 0x5678 4

abbrev pub pair_fixed : Fixed
pair_fixed = record { section = bytes 4 0x90000020 ++ bytes 4 0x9119e000; reports = [] }

accepts-pair : outcome_of pair_words (bases_of 0x1000 0 0) pair_entries pair_targets (bytes 48 0) ≡ fixed pair_fixed
unfolding reloc_bytes resolved_bytes bytes_of bytes outcome_of check_lists check_to check_at check_of consumed reloc_at resolved_at le well_formed
    width_of fix_to work_at change_of word_change page21 adrp_reaches page_of page_imm page_offset in_range adrp_with pageoff12 target_of offset_with scale_of put choose
accepts-pair = refl

apart : (k i p : ℕ) → k < 2 → i < 2 → (i ≡ k → ⊥) → Touches pair_entries pair_targets k p
    → Writes pair_words (bases_of 0x1000 0 0) pair_entries pair_targets i p → ⊥
unfolding reloc_bytes resolved_bytes bytes_of bytes consumed reloc_at resolved_at le width_of width_at fix_to work_at change_of word_change page21
    adrp_reaches page_of page_imm page_offset in_range adrp_with pageoff12 target_of offset_with scale_of put choose written_at
apart zero zero p l m ne t w = ne refl
apart zero (suc zero) p l m ne t w = absurd (omega arith)
apart (suc zero) zero p l m ne t w = absurd (omega arith)
apart (suc zero) (suc zero) p l m ne t w = ne refl
apart (suc (suc k)) i p l m ne t w = absurd (omega arith)
apart zero (suc (suc i)) p l m ne t w = absurd (omega arith)
apart (suc zero) (suc (suc i)) p l m ne t w = absurd (omega arith)

-- both stand alone
pub both-lone : Lone pair_words (bases_of 0x1000 0 0) pair_entries pair_targets (bytes 48 0) pair_fixed 0
    × Lone pair_words (bases_of 0x1000 0 0) pair_entries pair_targets (bytes 48 0) pair_fixed 1
unfolding reloc_bytes bytes_of bytes consumed reloc_at le
both-lone = (
  record { accepted = accepts-pair; listed = lit< tt; worked = refl; alone = λ i p l ne t w. apart 0 i p (lit< tt) l ne t w },
  record { accepted = accepts-pair; listed = lit< tt; worked = refl; alone = λ i p l ne t w. apart 1 i p (lit< tt) l ne t w },
)

-- what the entries are, and their words
pub both-roles : Page (lent_entry pair_entries 0) (lent_target pair_targets 0) 0x5678
    × Offset (lent_entry pair_entries 1) (lent_target pair_targets 1) 0x5678
    × (decode (word_at pair_entries pair_words 0) ≡ instruction (ADRP 0 0))
    × (decode (word_at pair_entries pair_words 1) ≡ instruction (ADD 1 0 0 0 0))
unfolding reloc_bytes resolved_bytes bytes_of bytes reloc_at resolved_at le target_of decode choose
both-roles = (Roles.page refl refl, Roles.offset refl refl, refl, refl)
