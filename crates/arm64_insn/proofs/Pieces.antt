-- Examples 1 to 5 and 9 to 11 (RULES 11), and the limits of `within_1mb` (RULES 7.15). All are computed.
use Rattle.std.specs.Prelude.{Ok, Err, Option, Some, None}
use mathlib.Core.Path.{◌≡◌, refl}
use mathlib.Core.Bool.{true, false}
use Prim.Native.Nat.{ℕ}
use Rattle.util.specs.Choice.{choose}
use Rattle.util.specs.Wrap.{diff, in_range}
use Rattle.arm64_insn.specs.LoadStoreTable.{row_of}
use Rattle.arm64_insn.specs.Page.{page_of, adrp_page}
use Rattle.arm64_insn.specs.Reach.{within1mb}
use Rattle.arm64_insn.specs.Adrp.{adrp_of, adr_word}
use Rattle.arm64_insn.specs.LoadStore.{load_store_of}
use Rattle.arm64_insn.specs.Literal.{literal_opc, literal_v, literal_word}
use Rattle.arm64_insn.specs.Branch.{branch_word}
use Rattle.arm64_insn.specs.Fix.{scale_of, offset_with, relaxed_word}
use Rattle.arm64_insn.specs.declared.adrp.Adrp.{Adrp}
use Rattle.arm64_insn.specs.declared.ldst.LoadStore.{LoadStore}

-- the page that a decoded ADRP makes, and the literal form of a decoded load
abbrev pub page_made : Option Adrp → ℕ → ℕ
page_made (Some a) pc = adrp_page a.imm pc
page_made None pc = 1

abbrev pub literal_made : Option LoadStore → ℕ → ℕ → ℕ
literal_made (Some l) target pc = literal_word l target pc
literal_made None target pc = 0

-- ADR x0, 0x1008 from 0x1000
pub piece1 : adr_word 0 0x1008 0x1000 ≡ 0x10000040
unfolding adr_word
piece1 = refl

-- ADR x1, 0xfff from 0x1000
pub piece2 : adr_word 1 0xfff 0x1000 ≡ 0x70ffffe1
unfolding adr_word
piece2 = refl

-- LDR x1 literal 0x1010 from 0x1004
pub piece3 : literal_made (load_store_of 0xf9400001) 0x1010 0x1004 ≡ 0x58000061
unfolding load_store_of row_of literal_word literal_opc literal_v choose
piece3 = refl

-- b0000000 at 0x1234 means 0x2000
pub piece4 : page_made (adrp_of 0xb0000000) 0x1234 ≡ 0x2000
unfolding adrp_of adrp_page page_of choose
piece4 = refl

-- f0ffffe0 there means 0
pub piece5 : page_made (adrp_of 0xf0ffffe0) 0x1234 ≡ 0
unfolding adrp_of adrp_page page_of choose
piece5 = refl

-- f9400000 with 0x1238: f9411c00; with 0x1234 alignment 8
pub piece9 : (offset_with 0xf9400000 0x1238 ≡ Ok 0xf9411c00) × (offset_with 0xf9400000 0x1234 ≡ Err 8)
unfolding offset_with scale_of choose
piece9 = (refl, refl)

-- 94000000 at 0x1000 to 0xffc: 97ffffff
pub piece10 : branch_word 0x94000000 (diff 0xffc 0x1000) ≡ 0x97ffffff
unfolding branch_word
piece10 = refl

-- relaxed f9400000 to 0x1234: 9108d000
pub piece11 : relaxed_word 0xf9400000 0x1234 ≡ 0x9108d000
unfolding relaxed_word
piece11 = refl

-- displacements -2^20 and 2^20 decline, -2^20 + 1 and 2^20 - 1 pass
pub limits :
    (within1mb 0x200000 0x100000 ≡ false) × (within1mb 0x200000 0x300000 ≡ false)
    × (within1mb 0x200000 0x100001 ≡ true) × (within1mb 0x200000 0x2fffff ≡ true)
unfolding within1mb in_range choose
limits = (refl, refl, refl, refl)
