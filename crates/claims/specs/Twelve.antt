-- The twelve examples (RULES 11). 6 to 8 go through the hint run, 9 to 11 through the fix-up, 12 through the reader.
use Rattle.std.specs.Prelude.{◌≡◌, true, List, [], ◌∷◌, ◌++◌, ℕ, ◌-◌, ◌*◌, ◌^◌, length, replicate, Ok, Option, Some, None}
use Rattle.macho.specs.Types.{MCLOH_AdrpLdr, MCLOH_AdrpAddStr, MCLOH_AdrpAdd, ARM64_RELOC_PAGE21}
use Rattle.macho.specs.Types.{ARM64_RELOC_BRANCH26, ARM64_RELOC_PAGEOFF12, ARM64_RELOC_GOT_LOAD_PAGEOFF12}
use Rattle.macho.specs.Reloc.{reloc_size}
use Rattle.macho.specs.Resolved.{has_address, can_relax_got}
use Rattle.arch.specs.Walk.{entries}
use Rattle.arm64_insn.specs.Page.{adrp_page}
use Rattle.arm64_insn.specs.Adrp.{adrp_of, adr_word}
use Rattle.arm64_insn.specs.LoadStore.{load_store_of}
use Rattle.arm64_insn.specs.Literal.{literal_word}
use Rattle.arm64_insn.specs.declared.adrp.Adrp.{Adrp}
use Rattle.arm64_insn.specs.declared.ldst.LoadStore.{LoadStore}
use Rattle.arm64_reader.specs.Read.{read_relocs}
use Rattle.arm64_hint_run.specs.Run.{run_of, image_of}
use Rattle.arm64_hint_kept.specs.Examples.{words, pair}
use Rattle.claims.specs.Lent.{mach_rel, has_address_bit, can_relax_got_bit, target, fix_up, becomes, misaligned, plain}

-- the page that a decoded ADRP makes at pc
abbrev pub page_made : Option Adrp → ℕ → ℕ
page_made (Some a) pc = adrp_page a.imm pc
page_made None pc = 1

-- the literal form of a decoded load
abbrev pub literal_made : Option LoadStore → ℕ → ℕ → ℕ
literal_made (Some l) target pc = literal_word l target pc
literal_made None target pc = 0

-- the run of one hint on these words at 0x1000 counts one rewritten, and leaves those words
abbrev pub Rewrites : (kind : ℕ) (old new : List ℕ) → Type 0
Rewrites kind old new =
    (run_of (words old) (plain kind (length old) 0x1000) pair ≡ Ok (record { rewritten = 1; skipped = 0; declined = 0; turned_down = 0 }))
    × (image_of (words old) (plain kind (length old) 0x1000) pair ≡ words new)

-- the twelve examples of RULES 11
pub record Twelve : Type 0 where
  -- RULES 11.1: ADR X0 to 0x1008 from 0x1000 is 10000040
  pub example-1 : adr_word 0 0x1008 0x1000 ≡ 0x10000040
  -- RULES 11.2: ADR X1 to 0xfff from 0x1000 is 70ffffe1
  pub example-2 : adr_word 1 0xfff 0x1000 ≡ 0x70ffffe1
  -- RULES 11.3: the literal form of a load of X1 (f9400001), of 0x1010 from 0x1004, is 58000061
  pub example-3 : literal_made (load_store_of 0xf9400001) 0x1010 0x1004 ≡ 0x58000061
  -- RULES 11.4: the ADRP b0000000 at 0x1234 makes 0x2000
  pub example-4 : page_made (adrp_of 0xb0000000) 0x1234 ≡ 0x2000
  -- RULES 11.5: the ADRP f0ffffe0 at 0x1234 makes 0
  pub example-5 : page_made (adrp_of 0xf0ffffe0) 0x1234 ≡ 0
  -- RULES 11.6: ADRP_LDR on 90000000, f9400401 leaves d503201f, 58000021
  pub example-6 : Rewrites MCLOH_AdrpLdr (0x90000000 ∷ 0xf9400401 ∷ []) (0xd503201f ∷ 0x58000021 ∷ [])
  -- RULES 11.7: ADRP_ADD on 90000000, 91000c00 leaves 70000000, d503201f
  pub example-7 : Rewrites MCLOH_AdrpAdd (0x90000000 ∷ 0x91000c00 ∷ []) (0x70000000 ∷ 0xd503201f ∷ [])
  -- RULES 11.8: ADRP_ADD_STR on 90001000, 91004000, f9000001 leaves 90001000, d503201f, f9000801
  pub example-8 : Rewrites MCLOH_AdrpAddStr (0x90001000 ∷ 0x91004000 ∷ 0xf9000001 ∷ []) (0x90001000 ∷ 0xd503201f ∷ 0xf9000801 ∷ [])
  -- RULES 11.9: PAGEOFF12 of 0x1238 makes f9411c00 of f9400000; of 0x1234 it leaves f9400000 and reports alignment 8
  pub example-9 : (fix_up 0xf9400000 ARM64_RELOC_PAGEOFF12 0x1238 has_address_bit ≡ becomes 0xf9411c00)
      × (fix_up 0xf9400000 ARM64_RELOC_PAGEOFF12 0x1234 has_address_bit ≡ misaligned 8 0xf9400000)
  -- RULES 11.10: BRANCH26 of 0xffc makes 97ffffff of 94000000 at 0x1000
  pub example-10 : fix_up 0x94000000 ARM64_RELOC_BRANCH26 0xffc has_address_bit ≡ becomes 0x97ffffff
  -- RULES 11.11: a relaxed GOT_LOAD_PAGEOFF12 of 0x1234 makes 9108d000 of f9400000
  pub example-11 : fix_up 0xf9400000 ARM64_RELOC_GOT_LOAD_PAGEOFF12 0x1234 can_relax_got_bit ≡ becomes 0x9108d000
  -- RULES 11.12: the bits 0xa4ffffff and 0x3d000005 give one entry: PAGE21, symbol 5, addend -1
  pub example-12 : read_relocs (replicate 4 0) (mach_rel 0 0xa4ffffff ++ mach_rel 0 0x3d000005) [] (replicate (2 * reloc_size) 0)
      ≡ entries (record {
        offset = 0;
        ty = ARM64_RELOC_PAGE21;
        size = 4;
        is_pcrel = 1;
        is_subtracted = 0;
        target = 5;
        signing = 0;
        addend = 2 ^ 64 - 1;
      } ∷ [])
  -- RULES 2.18: the flags of examples 9 to 11 are macho's
  pub flags : (has_address (target 0x1238 has_address_bit) ≡ true) × (can_relax_got (target 0x1234 can_relax_got_bit) ≡ true)
