-- The class of a word against the manual's instruction of it, by what the decoder says of that; where LDRSW stands, and where the Rust parts from it, by one
-- computed test each.
use mathlib.Core.Path.{◌≡◌, refl, sym, ap, ◌∙◌}
use mathlib.Core.Bool.{Bool, true, false, ◌&&◌, ◌||◌, not, and-false}
use Prim.Native.Nat.{ℕ, ◌/◌, ◌^◌, ◌<◌}
use native.Mathlib.Omega.{arith}
use lib.Dec.{eqb}
use Rattle.util.specs.Choice.{choose}
use Rattle.util.specs.Diagram.{matches}
use Rattle.util.proofs.Below.{every, every-at}
use Rattle.util.proofs.Choice.{choose-true, agree, agree-is}
use Rattle.arm64_insn.specs.Encoding.{load_store_high}
use Rattle.arm64_insn.specs.LoadStoreTable.{row_of, is_allocated, moves}
use Rattle.arm64_insn.specs.LoadStore.{load_store_of, load_store_in}
use Rattle.arm64_insn.specs.Manual as M
use Rattle.arm64_insn.specs.Manual.{decode, allocated}
use Rattle.arm64_insn.proofs.Decodes.{load-store-manual}
use Rattle.arm64_insn.proofs.Manual.{decode-has}
use Rattle.arm64_ldst_class.specs.Entry.{class_seen}
use Rattle.arm64_ldst_class.specs.Row.{class_of_insn, size_at, v_at, opc_at, row_at, class_of_index, is_access, marks_ldrsw}
use Rattle.arm64_ldst_class.specs.Rust.{fields_in_rust, class_in_rust, only_in_rust}
use Rattle.arm64_ldst_class.proofs.Back.{same, same-is}
use Rattle.arm64_ldst_class.proofs.High.{cell, match-high, row-high, class-high}

module _ (w : ℕ) where
  -- what an instruction is as a load or store has its class
  of-insn : (d : M.Decoded) → decode w ≡ d → class_seen (load_store_in w d) ≡ class_of_insn d
  of-insn M.none e = refl
  of-insn (M.instruction (M.ADR rd imm21)) e = refl
  of-insn (M.instruction (M.ADRP rd imm21)) e = refl
  of-insn (M.instruction (M.ADD sf sh rd rn imm12)) e = refl
  of-insn (M.instruction (M.LDST size v opc rt rn imm12)) e =
      let r = (decode-has w (M.LDST size v opc rt rn imm12) e).in-range in
      sym (choose-true (moves (row_of size v opc)) _ _ r.6) ∙ cell size v opc r.0 r.1 r.2
  of-insn (M.instruction (M.PRFM rt rn imm12)) e = refl
  of-insn (M.instruction (M.LDR-literal opc v rt imm19)) e = refl
  of-insn (M.instruction (M.B imm26)) e = refl
  of-insn (M.instruction (M.BL imm26)) e = refl
  of-insn (M.instruction (M.BR rn)) e = refl
  of-insn (M.instruction M.NOP) e = refl
  of-insn (M.instruction (M.MOVZ sf hw rd imm16)) e = refl

  -- the class is what the manual's instruction moves
  pub class-manual : class_seen (load_store_of w) ≡ class_of_insn (decode w)
  class-manual = ap class_seen (load-store-manual w) ∙ of-insn (decode w) refl

module _ (w : ℕ) (l : w < 2 ^ 32) where
  -- LDRSW is marked at one index
  pub ldrsw-at : marks_ldrsw (class_seen (load_store_of w)) ≡ eqb (w / 2 ^ 22) 0x2e6
  unfolding every choose class_of_index row_of
  ldrsw-at =
      ap marks_ldrsw (class-high w)
      ∙ agree-is _ _ (every-at (λ k. agree (marks_ldrsw (class_of_index k)) (eqb k 0x2e6)) 1024 refl (w / 2 ^ 22) (omega arith))

  -- the unallocated words that are loads in the Rust, by their index
  pub only-in-rust : (not (allocated w) && is_access (class_in_rust (w / 2 ^ 22))) ≡ only_in_rust (w / 2 ^ 22)
  unfolding every choose row_of allocated class_in_rust
  only-in-rust =
      go (matches load_store_high (w / 2 ^ 22)) refl
      ∙ agree-is _ _
      (every-at
      (λ k. agree (matches load_store_high k && (not (is_allocated (row_at k)) && is_access (fields_in_rust (size_at k) (v_at k) (opc_at k)))) (only_in_rust k))
      1024 refl (w / 2 ^ 22) (omega arith))
    where
      go : (t : Bool) → matches load_store_high (w / 2 ^ 22) ≡ t
          → (not (allocated w) && is_access (class_in_rust (w / 2 ^ 22)))
          ≡ (matches load_store_high (w / 2 ^ 22)
          && (not (is_allocated (row_at (w / 2 ^ 22))) && is_access (fields_in_rust (size_at (w / 2 ^ 22)) (v_at (w / 2 ^ 22)) (opc_at (w / 2 ^ 22)))))
      go true e = rw (match-high w, e, row-high w)
      go false e = rw e (and-false (not (allocated w)))

  -- at every other index the Rust has the manual's class
  pub as-in-rust : only_in_rust (w / 2 ^ 22) ≡ false → class_seen (load_store_of w) ≡ class_in_rust (w / 2 ^ 22)
  unfolding every choose row_of class_of_index class_in_rust
  as-in-rust n =
      class-high w
      ∙ same-is _ _
      (rw n at (every-at (λ k. only_in_rust k || same (class_of_index k) (class_in_rust k)) 1024 refl (w / 2 ^ 22) (omega arith)))
