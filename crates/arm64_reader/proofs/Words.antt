-- The word tests of number 6 against the manual: what `is_add_either` and `LoadStore::decode` answer, instruction by instruction.
use Rattle.std.specs.Prelude.{Option}
use mathlib.Core.Path.{◌≡◌, refl, sym, ap, ap₂, ◌∙◌}
use mathlib.Core.Bool.{Bool, true, false, not, ◌||◌}
use Prim.Native.Nat.{ℕ, zero, suc, ◌^◌, ◌<◌}
use native.Mathlib.Omega.{arith}
use lib.Dec.{eqb, eqb-suc-zero}
use Rattle.util.specs.Diagram.{matches}
use Rattle.arm64_insn.specs.Encoding.{add_unshifted}
use Rattle.arm64_insn.specs.LoadStore.{load_store_in}
use Rattle.arm64_insn.specs.Manual as M
use Rattle.arm64_insn.specs.declared.ldst.LoadStore.{LoadStore}
use Rattle.arm64_insn.proofs.Decodes.{load-store-manual, unallocated-none, add-either-decodes, decodes-add-either}
use Rattle.arm64_reader.specs.Check.{loaded_in, loaded_bytes, got_fits, tlvp_fits}
use Rattle.arm64_reader.specs.Words.{is_unshifted_add, loaded_by}

no : {A : Type 0} → true ≡ false → A
no e = let z : ◌≡◌ {A = ℕ} 0 1 = cc in absurd (omega arith)

-- the ADDs
pub add_is : (w : ℕ) → w < 2 ^ 32 → matches add_unshifted w ≡ is_unshifted_add (M.decode w)
add_is w l = go (matches add_unshifted w) refl
  where
    other : (d : M.Decoded) → M.decode w ≡ d → matches add_unshifted w ≡ false → is_unshifted_add d ≡ false
    other M.none e m = refl
    other (M.instruction (M.ADR rd imm21)) e m = refl
    other (M.instruction (M.ADRP rd imm21)) e m = refl
    other (M.instruction (M.ADD sf zero rd rn imm12)) e m = no (sym (decodes-add-either w sf rd rn imm12 l e) ∙ m)
    other (M.instruction (M.ADD sf (suc sh) rd rn imm12)) e m = eqb-suc-zero sh
    other (M.instruction (M.LDST size v opc rt rn imm12)) e m = refl
    other (M.instruction (M.PRFM rt rn imm12)) e m = refl
    other (M.instruction (M.LDR-literal opc v rt imm19)) e m = refl
    other (M.instruction (M.B imm26)) e m = refl
    other (M.instruction (M.BL imm26)) e m = refl
    other (M.instruction (M.BR rn)) e m = refl
    other (M.instruction M.NOP) e m = refl
    other (M.instruction (M.MOVZ sf hw rd imm16)) e m = refl

    go : (t : Bool) → matches add_unshifted w ≡ t → t ≡ is_unshifted_add (M.decode w)
    go true e = ap is_unshifted_add (sym (add-either-decodes w e))
    go false e = sym (other (M.decode w) refl e)

-- the loads
loaded-by : (w : ℕ) (d : M.Decoded) → loaded_in (load_store_in w d) ≡ loaded_by d
loaded-by w M.none = refl
loaded-by w (M.instruction (M.ADR rd imm21)) = refl
loaded-by w (M.instruction (M.ADRP rd imm21)) = refl
loaded-by w (M.instruction (M.ADD sf sh rd rn imm12)) = refl
loaded-by w (M.instruction (M.LDST size v opc rt rn imm12)) = refl
loaded-by w (M.instruction (M.PRFM rt rn imm12)) = refl
loaded-by w (M.instruction (M.LDR-literal opc v rt imm19)) = refl
loaded-by w (M.instruction (M.B imm26)) = refl
loaded-by w (M.instruction (M.BL imm26)) = refl
loaded-by w (M.instruction (M.BR rn)) = refl
loaded-by w (M.instruction M.NOP) = refl
loaded-by w (M.instruction (M.MOVZ sf hw rd imm16)) = refl

pub loaded-is : (w : ℕ) → loaded_bytes w ≡ loaded_by (M.decode w)
unfolding loaded_bytes
loaded-is w = ap loaded_in (load-store-manual w) ∙ loaded-by w (M.decode w)

-- a GOT page offset may stand on an unshifted ADD of either width and on an 8-byte load of the manual, and on nothing else
pub got-fits-is : (w : ℕ) → w < 2 ^ 32 → got_fits w ≡ (is_unshifted_add (M.decode w) || eqb (loaded_by (M.decode w)) 8)
unfolding got_fits
got-fits-is w l = ap₂ (λ (a b : Bool). a || b) (add_is w l) (ap (λ (n : ℕ). eqb n 8) (loaded-is w))

-- a TLVP page offset may stand on any load of the manual, and on nothing else
pub tlvp-fits-is : (w : ℕ) → tlvp_fits w ≡ not (eqb (loaded_by (M.decode w)) 0)
unfolding tlvp_fits
tlvp-fits-is w = ap (λ (n : ℕ). not (eqb n 0)) (loaded-is w)

-- so on no word that the manual leaves unallocated
pub tlvp-unallocated : (w : ℕ) → M.allocated w ≡ false → tlvp_fits w ≡ false
unfolding tlvp_fits loaded_bytes
tlvp-unallocated w n = ap (λ (x : Option LoadStore). not (eqb (loaded_in x) 0)) (unallocated-none w n).2
