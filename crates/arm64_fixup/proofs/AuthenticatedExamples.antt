-- Authenticated pointers through the call: values, number 16 and its place in the order, and what is not looked at. Each is computed.
use mathlib.Core.Path.{◌≡◌, refl}
use mathlib.Core.List.{List, [], ◌∷◌, ◌++◌}
use Prim.Native.Nat.{ℕ, ◌-◌, ◌^◌}
use native.Mathlib.Omega.{arith}
use lib.Dec.{lit<}
use Rattle.util.specs.Choice.{choose}
use Rattle.util.specs.Word.{le, put, bytes}
use Rattle.macho.specs.Types.{ARM64_RELOC_SUBTRACTOR, ARM64_RELOC_ADDEND, ARM64_RELOC_AUTHENTICATED_POINTER}
use Rattle.macho.specs.Authenticated.{authenticated_word}
use Rattle.macho.specs.Record.{bytes_of}
use Rattle.macho.specs.Refusal.{answer_number}
use Rattle.macho.specs.Reloc.{reloc_at, reloc_bytes}
use Rattle.macho.specs.Resolved.{resolved_at, resolved_bytes, well_formed}
use Rattle.arm64_fixup_entry.specs.Target.{target_of, from_image, width_of}
use Rattle.arm64_fixup_entry.specs.Check.{check_of}
use Rattle.arm64_fixup_entry.specs.Change.{authenticated_value, subtractor_value, difference, change_of}
use Rattle.arm64_fixup.specs.Walk.{consumed, check_at, check_to, work_at, fix_to}
use Rattle.arm64_fixup.specs.Answer.{check_lists, bases_of, Outcome, fixed, outcome_of, answer_of}
use Rattle.arm64_fixup.specs.Footprint.{Lone}
use Rattle.arm64_fixup.proofs.Examples.{entry, resolved}

-- the 24 bytes of an entry, one by one
abbrev pub signed : (ty size offset target diversity address_diversity key addend : ℕ) → List ℕ
signed ty size offset target diversity address_diversity key addend =
    bytes 4 offset ++ (ty ∷ size ∷ 0 ∷ 0 ∷ []) ++ bytes 4 target ++ bytes 2 diversity ++ (address_diversity ∷ key ∷ []) ++ bytes 8 addend

-- an authenticated pointer of diversity 0xd9bf, address diversity 1 and key 2, at an offset, with its target field
abbrev pub pointer : ℕ → ℕ → List ℕ
pointer offset target = signed ARM64_RELOC_AUTHENTICATED_POINTER 8 offset target 0xd9bf 1 2 0

-- a call on 8 bytes at 0x1000 with one entry, thread-local storage from 0x40 on and the image from 0x100000000 on
abbrev pub one_pointer : ℕ → List ℕ → List ℕ → Outcome
one_pointer word e t = outcome_of (bytes 8 word) (bases_of 0x1000 0x40 0x100000000) e t (bytes 24 0)

-- 8 bytes with no report
abbrev pub becomes : ℕ → Outcome
becomes word = fixed (record { section = bytes 8 word; reports = [] })

-- the number of a call on 8 bytes with one entry
abbrev pub number : (base image : ℕ) → List ℕ → List ℕ → ℕ
number base image e t = answer_number (answer_of (outcome_of (bytes 8 0) (bases_of base 0 image) e t (bytes 24 0)))

-- S 0x100008010; the same with an addend of -16; S + A at the image base, and 2^32 - 1 above it; diversity, address diversity and key each by itself;
-- address diversity 0xff and key 0xff, of which one bit and two count
pub values : (one_pointer 0 (pointer 0 0) (resolved 0x100008010 4) ≡ becomes 0x8005d9bf00008010)
    × (one_pointer 0 (signed ARM64_RELOC_AUTHENTICATED_POINTER 8 0 0 0xd9bf 1 2 (2 ^ 64 - 16)) (resolved 0x100008010 4) ≡ becomes 0x8005d9bf00008000)
    × (one_pointer 0 (pointer 0 0) (resolved 0x100000000 4) ≡ becomes 0x8005d9bf00000000)
    × (one_pointer 0 (pointer 0 0) (resolved 0x1ffffffff 4) ≡ becomes 0x8005d9bfffffffff)
    × (one_pointer 0 (signed ARM64_RELOC_AUTHENTICATED_POINTER 8 0 0 0xffff 0 0 0) (resolved 0x100008010 4) ≡ becomes 0x8000ffff00008010)
    × (one_pointer 0 (signed ARM64_RELOC_AUTHENTICATED_POINTER 8 0 0 0 1 0 0) (resolved 0x100008010 4) ≡ becomes 0x8001000000008010)
    × (one_pointer 0 (signed ARM64_RELOC_AUTHENTICATED_POINTER 8 0 0 0 0 3 0) (resolved 0x100008010 4) ≡ becomes 0x8006000000008010)
    × (one_pointer 0 (signed ARM64_RELOC_AUTHENTICATED_POINTER 8 0 0 0xd9bf 0xff 0xff 0) (resolved 0x100008010 4) ≡ becomes 0x8007d9bf00008010)
unfolding reloc_bytes resolved_bytes bytes_of bytes outcome_of check_lists check_to check_at check_of consumed reloc_at resolved_at le well_formed
    width_of fix_to work_at change_of authenticated_value authenticated_word from_image target_of put choose
values = (refl, refl, refl, refl, refl, refl, refl, refl)

-- the old word, bits 51 to 63 of it too; the size field; the thread-local flag and a missing has-address flag
pub not-looked-at : (one_pointer (2 ^ 64 - 1) (pointer 0 0) (resolved 0x100008010 4) ≡ becomes 0x8005d9bf00008010)
    × (one_pointer 0 (signed ARM64_RELOC_AUTHENTICATED_POINTER 4 0 0 0xd9bf 1 2 0) (resolved 0x100008010 4) ≡ becomes 0x8005d9bf00008010)
    × (one_pointer 0 (pointer 0 0) (resolved 0x100008010 6) ≡ becomes 0x8005d9bf00008010)
    × (one_pointer 0 (pointer 0 0) (resolved 0x100008010 0) ≡ becomes 0x8005d9bf00008010)
unfolding reloc_bytes resolved_bytes bytes_of bytes outcome_of check_lists check_to check_at check_of consumed reloc_at resolved_at le well_formed
    width_of fix_to work_at change_of authenticated_value authenticated_word from_image target_of put choose
not-looked-at = (refl, refl, refl, refl)

-- 16: an image base one above S; S + A 2^32 above the base; and the base 0 of an address past 2^32 - 1. No 16: S + A that wraps to the base; a base
-- one below 0, from which S is 1 away
pub far : (number 0 0x100008011 (pointer 0 0) (resolved 0x100008010 4) ≡ 16)
    × (number 0 0x100000000 (pointer 0 0) (resolved 0x200000000 4) ≡ 16)
    × (number 0 0 (pointer 0 0) (resolved 0x100008010 4) ≡ 16)
    × (number 0 0 (signed ARM64_RELOC_AUTHENTICATED_POINTER 8 0 0 0xd9bf 1 2 1) (resolved (2 ^ 64 - 1) 4) ≡ 0)
    × (number 0 (2 ^ 64 - 1) (pointer 0 0) (resolved 0 4) ≡ 0)
unfolding reloc_bytes resolved_bytes bytes_of bytes outcome_of check_lists check_to check_at check_of consumed reloc_at resolved_at le well_formed
    width_of fix_to work_at change_of authenticated_value authenticated_word from_image target_of put choose
far = (refl, refl, refl, refl, refl)

-- where two numbers apply: 11, 9 and 10 before 16, 10 also near, with the imported flag and with a helper; 16 before the last 3;
-- near there, and past the section, 3; types 10 and 12 are 5, near and far
pub order : (number 0 0 (pointer 0 0) (resolved 0x100008010 0x200) ≡ 11)
    × (number (2 ^ 64 - 1) 0 (pointer 1 0) (resolved 0x100008010 4) ≡ 9)
    × (number 0 0 (pointer 0 (2 ^ 31)) (resolved 0x100008010 4) ≡ 10)
    × (number 0 0x100000000 (pointer 0 (2 ^ 31)) (resolved 0x100008010 4) ≡ 10)
    × (number 0 0x100000000 (pointer 0 (2 ^ 31)) (resolved 0x100008010 1) ≡ 10)
    × (number 0 0x100000000 (pointer 0 (2 ^ 31)) (resolved 0x100008010 0x20) ≡ 10)
    × (number 0 0 (pointer 8 0) (resolved 0x100008010 4) ≡ 16)
    × (number 0 0x100000000 (pointer 8 0) (resolved 0x100008010 4) ≡ 3)
    × (number 0 0x100000000 (pointer 1 0) (resolved 0x100008010 4) ≡ 3)
    × (number 0 0 (pointer 9 0) (resolved 0x100008010 4) ≡ 3)
    × (number 0 0x100000000 (signed ARM64_RELOC_ADDEND 8 0 0 0xd9bf 1 2 0) (resolved 0x100008010 4) ≡ 5)
    × (number 0 0x100000000 (signed 12 8 0 0 0xd9bf 1 2 0) (resolved 0x100008010 4) ≡ 5)
    × (number 0 0 (signed 12 8 0 (2 ^ 31) 0xd9bf 1 2 0) (resolved 0x100008010 4) ≡ 5)
unfolding reloc_bytes resolved_bytes bytes_of bytes outcome_of check_lists check_to check_at check_of consumed reloc_at resolved_at le well_formed
    width_of from_image target_of choose
order = (refl, refl, refl, refl, refl, refl, refl, refl, refl, refl, refl, refl, refl)

-- an imported symbol, far from the image, at the section's start and at its end: no number, and nothing is written
pub imported : (one_pointer 0x1122334455667788 (pointer 0 0) (resolved 0 1) ≡ becomes 0x1122334455667788)
    × (one_pointer 0x1122334455667788 (pointer 8 0) (resolved 0 1) ≡ becomes 0x1122334455667788)
unfolding reloc_bytes resolved_bytes bytes_of bytes outcome_of check_lists check_to check_at check_of consumed reloc_at resolved_at le well_formed
    width_of fix_to work_at change_of from_image target_of put choose
imported = (refl, refl)

-- one that a SUBTRACTOR consumes, of a section, far from the image and past the section's end, has no number: its S + A counts, 0x30 less 0x10
pub taken : outcome_of (bytes 8 0) (bases_of 0x1000 0 0x100000000) (entry ARM64_RELOC_SUBTRACTOR 0 0 ++ pointer 9 (2 ^ 31)) (resolved 0x10 4 ++ resolved 0x30 4)
    (bytes 48 0)
    ≡ becomes 0x20
unfolding reloc_bytes resolved_bytes bytes_of bytes outcome_of check_lists check_to check_at check_of consumed reloc_at resolved_at le well_formed
    width_of fix_to work_at change_of subtractor_value difference from_image target_of put choose
taken = refl

-- an entry that the reader makes of the word 0x8005d9bf00000000 of symbol 2, alone in its list
pub lone : Lone (bytes 8 0x8005d9bf_00000000) (bases_of 0x1000 0x40 0x100000000) (pointer 0 2) (resolved 0x100008010 4) (bytes 24 0)
    (record { section = bytes 8 0x8005d9bf_00008010; reports = [] }) 0
unfolding reloc_bytes resolved_bytes bytes_of bytes outcome_of check_lists check_to check_at check_of consumed reloc_at resolved_at le well_formed
    width_of fix_to work_at change_of authenticated_value authenticated_word from_image target_of put choose
lone = record { accepted = refl; listed = lit< tt; worked = refl; alone = λ i p l ne t w. ne (omega arith) }
