-- The numbers of relocation types and of linker optimization hint kinds: Apple's mach-o/arm64/reloc.h (ARM64-RELOC) and
-- mach-o/x86_64/reloc.h (X86-64-RELOC), LLVM's MCLinkerOptimizationHint.h (MCLOH; RULES 2.13, 2.14, 8.2).
use Rattle.std.specs.Prelude.{ℕ}

-- a pointer
abbrev pub ARM64_RELOC_UNSIGNED : ℕ
ARM64_RELOC_UNSIGNED = 0

-- what is taken off the next record's pointer
abbrev pub ARM64_RELOC_SUBTRACTOR : ℕ
ARM64_RELOC_SUBTRACTOR = 1

-- a B or BL with its displacement of 26 bits
abbrev pub ARM64_RELOC_BRANCH26 : ℕ
ARM64_RELOC_BRANCH26 = 2

-- pages from the place to the target's page
abbrev pub ARM64_RELOC_PAGE21 : ℕ
ARM64_RELOC_PAGE21 = 3

-- the target's offset in its page
abbrev pub ARM64_RELOC_PAGEOFF12 : ℕ
ARM64_RELOC_PAGEOFF12 = 4

-- pages from the place to the GOT slot's page
abbrev pub ARM64_RELOC_GOT_LOAD_PAGE21 : ℕ
ARM64_RELOC_GOT_LOAD_PAGE21 = 5

-- the GOT slot's offset in its page
abbrev pub ARM64_RELOC_GOT_LOAD_PAGEOFF12 : ℕ
ARM64_RELOC_GOT_LOAD_PAGEOFF12 = 6

-- a pointer to the GOT slot
abbrev pub ARM64_RELOC_POINTER_TO_GOT : ℕ
ARM64_RELOC_POINTER_TO_GOT = 7

-- pages from the place to the thread-local pointer's page
abbrev pub ARM64_RELOC_TLVP_LOAD_PAGE21 : ℕ
ARM64_RELOC_TLVP_LOAD_PAGE21 = 8

-- the thread-local pointer's offset in its page
abbrev pub ARM64_RELOC_TLVP_LOAD_PAGEOFF12 : ℕ
ARM64_RELOC_TLVP_LOAD_PAGEOFF12 = 9

-- the next record's addend
abbrev pub ARM64_RELOC_ADDEND : ℕ
ARM64_RELOC_ADDEND = 10

-- an authenticated pointer of arm64e, in newer headers
abbrev pub ARM64_RELOC_AUTHENTICATED_POINTER : ℕ
ARM64_RELOC_AUTHENTICATED_POINTER = 11

-- an absolute address
abbrev pub X86_64_RELOC_UNSIGNED : ℕ
X86_64_RELOC_UNSIGNED = 0

-- a signed displacement of 32 bits
abbrev pub X86_64_RELOC_SIGNED : ℕ
X86_64_RELOC_SIGNED = 1

-- a CALL or JMP with its displacement of 32 bits
abbrev pub X86_64_RELOC_BRANCH : ℕ
X86_64_RELOC_BRANCH = 2

-- a MOVQ load of a GOT slot
abbrev pub X86_64_RELOC_GOT_LOAD : ℕ
X86_64_RELOC_GOT_LOAD = 3

-- another reference to a GOT slot
abbrev pub X86_64_RELOC_GOT : ℕ
X86_64_RELOC_GOT = 4

-- what is taken off the next record's address
abbrev pub X86_64_RELOC_SUBTRACTOR : ℕ
X86_64_RELOC_SUBTRACTOR = 5

-- a signed displacement of 32 bits with one more byte of the instruction after it
abbrev pub X86_64_RELOC_SIGNED_1 : ℕ
X86_64_RELOC_SIGNED_1 = 6

-- the same with two more bytes
abbrev pub X86_64_RELOC_SIGNED_2 : ℕ
X86_64_RELOC_SIGNED_2 = 7

-- the same with four more bytes
abbrev pub X86_64_RELOC_SIGNED_4 : ℕ
X86_64_RELOC_SIGNED_4 = 8

-- a thread-local variable
abbrev pub X86_64_RELOC_TLV : ℕ
X86_64_RELOC_TLV = 9

-- two ADRPs of one register
abbrev pub MCLOH_AdrpAdrp : ℕ
MCLOH_AdrpAdrp = 1

-- ADRP and LDR of a page and its offset
abbrev pub MCLOH_AdrpLdr : ℕ
MCLOH_AdrpLdr = 2

-- ADRP and ADD of a page and its offset, then LDR
abbrev pub MCLOH_AdrpAddLdr : ℕ
MCLOH_AdrpAddLdr = 3

-- ADRP and LDR of a GOT slot, then LDR
abbrev pub MCLOH_AdrpLdrGotLdr : ℕ
MCLOH_AdrpLdrGotLdr = 4

-- ADRP and ADD of a page and its offset, then STR
abbrev pub MCLOH_AdrpAddStr : ℕ
MCLOH_AdrpAddStr = 5

-- ADRP and LDR of a GOT slot, then STR
abbrev pub MCLOH_AdrpLdrGotStr : ℕ
MCLOH_AdrpLdrGotStr = 6

-- ADRP and ADD of a page and its offset
abbrev pub MCLOH_AdrpAdd : ℕ
MCLOH_AdrpAdd = 7

-- ADRP and LDR of a GOT slot
abbrev pub MCLOH_AdrpLdrGot : ℕ
MCLOH_AdrpLdrGot = 8
