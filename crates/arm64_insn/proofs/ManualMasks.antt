-- A masked test is the test of a diagram's fixed fields, a masked word the sum of those kept; computed tests show each mask to be its diagram's own.
use mathlib.Core.Path.{◌≡◌, refl, sym, ap, ap₂, ◌∙◌}
use mathlib.Core.Bool.{Bool, true, ◌&&◌}
use mathlib.Core.List.{List, [], ◌∷◌}
use Prim.Native.Nat.{ℕ, ◌-◌, ◌^◌, ◌<◌}
use borrow.Author.Tests.{eqb-true}
use lib.Bits.{bit_and}
use lib.Dec.{eqb}
use lib.ListN.{get_or}
use Rattle.util.specs.Choice.{choose}
use Rattle.util.specs.Diagram.{Part, matches, mask_of, value_of, sound, kept_at}
use Rattle.util.proofs.Below.{every, every-at}
use Rattle.util.proofs.Choice.{both}
use Rattle.util.proofs.Diagram.{mask-matches, kept}
use Rattle.arm64_insn.specs.Encoding.{adr, adrp, add_immediate, add, add_unshifted, load_store, ldr_immediate, load_literal, branch, br, nop, movz}
use Rattle.arm64_insn.specs.Fix.{quad}
use Rattle.arm64_insn.proofs.Kept.{beside_page, beside_imm12, beside_address, beside_imm26}

-- a diagram, and the mask and value of the test
pub record Masked : Type 0 where
  pub diagram : List Part
  pub mask : ℕ
  pub value : ℕ

abbrev masked : List Part → ℕ → ℕ → Masked
masked d m v = record { diagram = d; mask = m; value = v }

-- the Rust's tests (is_adrp, parse_add, the reader's unshifted ADD, parse_ldst, is_ldr_imm, the 16 bytes of write_add_ldst), which are the masks
-- and fixed bits of `Adrp`, `Add` and `LoadStore`, and those of the other diagrams
abbrev pub tests : List Masked
tests =
    masked adrp 0x9f00_0000 0x9000_0000
    ∷ masked add 0xffc0_0000 0x9100_0000
    ∷ masked add_unshifted 0x7fc0_0000 0x1100_0000
    ∷ masked load_store 0x3b00_0000 0x3900_0000
    ∷ masked ldr_immediate 0xbfc0_0000 0xb940_0000
    ∷ masked quad 0xc480_0000 0x0480_0000
    ∷ masked adr 0x9f00_0000 0x1000_0000
    ∷ masked add_immediate 0x7f80_0000 0x1100_0000
    ∷ masked load_literal 0x3b00_0000 0x1800_0000
    ∷ masked branch 0x7c00_0000 0x1400_0000
    ∷ masked br 0xffff_fc1f 0xd61f_0000
    ∷ masked nop 0xffff_ffff 0xd503_201f
    ∷ masked movz 0x7f80_0000 0x5280_0000
    ∷ []

abbrev pub test_at : ℕ → Masked
test_at k = get_or tests k (masked [] 0 0)

own : Masked → Bool
own m = sound m.diagram && (eqb (mask_of m.diagram) m.mask && eqb (value_of m.diagram) m.value)

all_own : every (λ k. own (test_at k)) 13 ≡ true
unfolding every choose own
all_own = refl

pub mask-test : (k w : ℕ) → k < 13 → eqb (bit_and w (test_at k).mask) (test_at k).value ≡ matches (test_at k).diagram w
unfolding own
mask-test k w l =
    let m = test_at k in
    let a = both (sound m.diagram) _ (every-at (λ k. own (test_at k)) 13 all_own k l) in
    let b = both (eqb (mask_of m.diagram) m.mask) _ a.1 in
    ap₂ (λ (x y : ℕ). eqb (bit_and w x) y) (sym (eqb-true _ m.mask b.0)) (sym (eqb-true _ m.value b.1))
    ∙ mask-matches m.diagram w a.0

-- the masks by which words keep fields: those of write_adrp, write_add_ldst, with_base and BRANCH26. Three are the complements of `Adrp::IMM`,
-- `LoadStore::IMM12` and `Branch::IMM`, one is `LoadStore::BUT_ADDRESS`
abbrev pub keeps : List Masked
keeps =
    masked beside_page (2 ^ 32 - 1 - 0x60ff_ffe0) 0
    ∷ masked beside_imm12 (2 ^ 32 - 1 - 0x003f_fc00) 0
    ∷ masked beside_address 0xffc0_001f 0
    ∷ masked beside_imm26 (2 ^ 32 - 1 - 0x03ff_ffff) 0
    ∷ []

abbrev pub keep_at : ℕ → Masked
keep_at k = get_or keeps k (masked [] 0 0)

own_mask : Masked → Bool
own_mask m = eqb (mask_of m.diagram) m.mask

all-kept : every (λ k. own_mask (keep_at k)) 4 ≡ true
unfolding every choose own_mask
all-kept = refl

pub mask-keeps : (k w : ℕ) → k < 4 → bit_and w (keep_at k).mask ≡ kept_at (keep_at k).diagram 0 w
unfolding own_mask
mask-keeps k w l =
    let m = keep_at k in
    ap (λ (x : ℕ). bit_and w x) (sym (eqb-true (mask_of m.diagram) m.mask (every-at (λ k. own_mask (keep_at k)) 4 all-kept k l)))
    ∙ kept m.diagram w
