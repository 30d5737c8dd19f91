-- The decoder, split by bit 26, then the size, then bit 23, then bit 22 (RULES 7.34): each of the 32 cells moves what its row of the manual moves, so the
-- split is the decoder's definition on every word.
use Rattle.std.specs.Prelude.{Option, Some, None}
use mathlib.Core.Path.{◌≡◌, refl, sym, ap, ◌∙◌}
use mathlib.Core.Bool.{Bool, true, false, not, ◌&&◌, false≢true}
use Prim.Native.Nat.{ℕ, ◌/◌, ◌%◌, ◌<◌}
use native.Mathlib.Omega.{arith}
use borrow.Author.Tests.{eqb-true}
use lib.Dec.{eqb}
use Rattle.util.specs.Choice.{choose}
use Rattle.util.specs.Bits.{has_bit}
use Rattle.util.specs.Diagram.{matches}
use Rattle.util.proofs.Below.{every}
use Rattle.util.proofs.Choice.{choose-true, choose-first, both, agree, agree-is}
use Rattle.arm64_insn.specs.Encoding.{load_store}
use Rattle.arm64_insn.specs.LoadStoreTable.{Row, load, store, prefetch, unallocated, row_of, moved_by, moves, is_store}
use Rattle.arm64_insn.specs.Manual.{size_in, v_in, opc_in, row_in}
use Rattle.arm64_insn.specs.LoadStore.{is_ldrsw, load_store_by, load_store_of}
use Rattle.arm64_insn.specs.LoadStoreSplit.{access, vector_access, general_access, access_by_split, word_moving, load_store_by_split}
use Rattle.arm64_insn.specs.declared.ldst.Access.{Access}
use Rattle.arm64_insn.specs.declared.ldst.LoadStore.{LoadStore}
use Rattle.arm64_insn.specs.declared.ldst.LoadStore as L
use Rattle.arm64_insn.proofs.Cells.{each-cell, opc-high, opc-low}

-- what a row moves
abbrev row_moved : Row → Option Access
row_moved row = choose (moves row) (Some (access (moved_by row) (is_store row) (is_ldrsw row))) None

-- what a cell moves, by the split
abbrev cell : ℕ → ℕ → ℕ → Option Access
cell size v opc = access_by_split (eqb v 1) size (eqb (opc / 2) 1) (eqb (opc % 2) 1)

-- whether two accesses are the same
abbrev same : Option Access → Option Access → Bool
same (Some a) (Some b) = eqb a.bytes b.bytes && (agree a.is_store b.is_store && agree a.is_ldrsw b.is_ldrsw)
same (Some a) None = false
same None (Some b) = false
same None None = true

-- then they are equal
same-is : (a b : Option Access) → same a b ≡ true → a ≡ b
same-is (Some a) (Some b) e =
    let p = both (eqb a.bytes b.bytes) (agree a.is_store b.is_store && agree a.is_ldrsw b.is_ldrsw) e in
    let q = both (agree a.is_store b.is_store) (agree a.is_ldrsw b.is_ldrsw) p.1 in
    ap (λ (n : ℕ). Some (access n a.is_store a.is_ldrsw)) (eqb-true a.bytes b.bytes p.0)
    ∙ ap (λ (s : Bool). Some (access b.bytes s a.is_ldrsw)) (agree-is a.is_store b.is_store q.0)
    ∙ ap (λ (x : Bool). Some (access b.bytes b.is_store x)) (agree-is a.is_ldrsw b.is_ldrsw q.1)
same-is (Some a) None e = absurd (false≢true e)
same-is None (Some b) e = absurd (false≢true e)
same-is None None e = refl

-- each cell moves what its row moves
split-cells : (size v opc : ℕ) → size < 4 → v < 2 → opc < 4 → cell size v opc ≡ row_moved (row_of size v opc)
unfolding access_by_split vector_access general_access row_of choose every
split-cells size v opc hs hv ho = same-is _ _ (each-cell (λ s v o. same (cell s v o) (row_moved (row_of s v o))) refl size v opc hs hv ho)

-- whether an access is LDRSW
abbrev marks : Option Access → Bool
marks (Some a) = a.is_ldrsw
marks None = false

-- V 0, size 10, bit 23 set, bit 22 clear
abbrev ldrsw_at : Bool → ℕ → Bool → Bool → Bool
ldrsw_at v size b23 b22 = not v && (eqb size 0b10 && (b23 && not b22))

-- one cell is LDRSW
ldrsw-cell : (size v opc : ℕ) → size < 4 → v < 2 → opc < 4
    → marks (cell size v opc) ≡ ldrsw_at (eqb v 1) size (eqb (opc / 2) 1) (eqb (opc % 2) 1)
unfolding access_by_split vector_access general_access choose every
ldrsw-cell size v opc hs hv ho =
    agree-is _ _ (each-cell (λ s v o. agree (marks (cell s v o)) (ldrsw_at (eqb v 1) s (eqb (o / 2) 1) (eqb (o % 2) 1))) refl size v opc hs hv ho)

module _ (w : ℕ) where
  -- what a word moves, by the split
  abbrev moved : Option Access
  moved = access_by_split (has_bit w 26) (size_in w) (has_bit w 23) (has_bit w 22)

  -- a word moves what its row moves
  moved_row : moved ≡ row_moved (row_in w)
  moved_row = rw (← opc-high w, ← opc-low w) at (split-cells (size_in w) (v_in w) (opc_in w) (omega arith) (omega arith) (omega arith))

  -- and is then the load or store of its row, or none where the row moves nothing
  by_row : (r : Row) → word_moving (row_moved r) w ≡ load_store_by r w
  unfolding choose
  by_row (load m g n x) = refl
  by_row (store m g n) = refl
  by_row (prefetch m) = refl
  by_row unallocated = refl

  -- the split is the decoder's definition, in the class and outside it
  pub load-store-split : load_store_of w ≡ load_store_by_split w
  unfolding load_store_of load_store_by_split
  load-store-split =
      ap (λ (x : Option LoadStore). choose (matches load_store w) x None)
      (sym (ap (λ (a : Option Access). word_moving a w) moved_row ∙ by_row (row_in w)))

  -- a word of the class decodes as what it moves says
  pub split_moves : (a : Option Access) → matches load_store w ≡ true → moved ≡ a → load_store_of w ≡ word_moving a w
  unfolding load_store_by_split
  split_moves a m e = load-store-split ∙ choose-true (matches load_store w) _ _ m ∙ ap (λ (a : Option Access). word_moving a w) e

  -- a decoded word is marked as LDRSW where bit 26 is clear, the size 10, bit 23 set and bit 22 clear
  pub ldrsw-marked : (l : L.LoadStore) → load_store_of w ≡ Some l
      → l.is_ldrsw ≡ ldrsw_at (has_bit w 26) (size_in w) (has_bit w 23) (has_bit w 22)
  unfolding load_store_by_split
  ldrsw-marked l e =
      let q = choose-first (matches load_store w) (word_moving moved w) None (Some l) (sym load-store-split ∙ e)
      (λ f. let z : ◌≡◌ {A = ℕ} 0 1 = cc in omega arith) in
      go moved q.1
      ∙ rw (← opc-high w, ← opc-low w) at (ldrsw-cell (size_in w) (v_in w) (opc_in w) (omega arith) (omega arith) (omega arith))
    where
      go : (a : Option Access) → word_moving a w ≡ Some l → l.is_ldrsw ≡ marks a
      go (Some a) f = cc
      go None f = let z : ◌≡◌ {A = ℕ} 0 1 = cc in absurd (omega arith)
