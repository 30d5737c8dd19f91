-- What divides pages and offsets: a page is a multiple of 4,096, an access size from 4 up is a multiple of 4. By arithmetic, and one computed test
-- of the cells of loads and stores.
use Rattle.std.specs.Prelude.{Option, Some, None}
use mathlib.Core.Path.{◌≡◌, refl, subst}
use mathlib.Core.Bool.{true, ◌||◌}
use Prim.Native.Nat.{ℕ, ◌+◌, ◌*◌, ◌/◌, ◌%◌, ◌^◌, ◌≤◌, ◌<◌}
use native.Mathlib.Omega.{arith}
use borrow.Author.Tests.{leb-true, eqb-true, le-ltb}
use lib.Dec.{eqb, ltb}
use Rattle.util.specs.Choice.{choose}
use Rattle.util.specs.Diagram.{matches}
use Rattle.util.proofs.Choice.{chosen, both}
use Rattle.util.proofs.Below.{every}
use Rattle.arm64_insn.specs.Encoding.{load_store}
use Rattle.arm64_insn.specs.LoadStoreTable.{row_of, moved_by, moves}
use Rattle.arm64_insn.specs.Page.{page_of, adrp_page}
use Rattle.arm64_insn.specs.Manual.{size_in, v_in, opc_in, row_in}
use Rattle.arm64_insn.specs.LoadStore.{load_store_of}
use Rattle.arm64_insn.specs.Literal.{has_literal_form}
use Rattle.arm64_insn.specs.declared.ldst.LoadStore as L
use Rattle.arm64_insn.specs.declared.ldst.LoadStore.{LoadStore}
use Rattle.arm64_insn.proofs.Cells.{each-cell}
use Rattle.arm64_insn.proofs.Decoded.{decoded-load-store}

-- what an ADRP makes is a page, at most 2^64 - 4,096
pub page-whole : (imm pc : ℕ) → adrp_page imm pc % 4096 ≡ 0
unfolding adrp_page page_of
page-whole imm pc = omega arith

page-lt : (imm pc : ℕ) → adrp_page imm pc < 2 ^ 64
unfolding adrp_page
page-lt imm pc = omega arith

-- so a sum of it and a page offset does not pass 2^64 - 1
pub page-sum : (imm pc k : ℕ) → k < 4096 → adrp_page imm pc + k < 2 ^ 64
page-sum imm pc k h = omega (arith, page-whole imm pc, page-lt imm pc)

Fours : Option LoadStore → Type 0
Fours (Some l) = 4 ≤ l.size → l.size % 4 ≡ 0
Fours None = Unit {0}

-- a row moves less than 4 bytes or a multiple of 4
row-fours : (size v opc : ℕ) → size < 4 → v < 2 → opc < 4 → 4 ≤ moved_by (row_of size v opc) → moved_by (row_of size v opc) % 4 ≡ 0
unfolding row_of choose every
row-fours size v opc hs hv ho h =
    let u = each-cell (λ s v o. ltb (moved_by (row_of s v o)) 4 || eqb (moved_by (row_of s v o) % 4) 0) refl size v opc hs hv ho in
    eqb-true (moved_by (row_of size v opc) % 4) 0 (rw (le-ltb (moved_by (row_of size v opc)) 4 h) at u)

size-fours : (x : ℕ) (l : L.LoadStore) → load_store_of x ≡ Some l → 4 ≤ l.size → l.size % 4 ≡ 0
unfolding load_store_of Fours
size-fours x l e =
    subst Fours e
    (chosen Fours (matches load_store x) _ None
    (chosen Fours (moves (row_in x)) _ None (row-fours (size_in x) (v_in x) (opc_in x) (omega arith) (omega arith) (omega arith)) tt)
    tt)

-- the offset of a load with a literal form is a multiple of 4
pub literal-offset : (x : ℕ) (l : L.LoadStore) → load_store_of x ≡ Some l → has_literal_form l ≡ true → l.offset % 4 ≡ 0
unfolding has_literal_form
literal-offset x l e f =
    let d = decoded-load-store x l e in
    let h = size-fours x l e (leb-true 4 l.size (both _ _ f).0) in
    let q : l.size ≡ 4 * (l.size / 4) = omega arith in
    let o : l.offset ≡ d.imm * (4 * (l.size / 4)) = rw (← q) d.scaled in
    omega arith
