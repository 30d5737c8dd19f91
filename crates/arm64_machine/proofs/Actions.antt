-- What a decoded word does, and the registers that an action names. Carried by the manual's ranges of decoded fields.
use mathlib.Core.Path.{◌≡◌, refl, ap, subst}
use mathlib.Core.Bool.{true}
use Prim.Native.Nat.{ℕ, ◌<◌}
use Rattle.util.specs.Choice.{choose}
use Rattle.util.proofs.Choice.{chosen}
use Rattle.arm64_insn.specs.LoadStoreTable.{moves}
use Rattle.arm64_insn.specs.Manual.{ADR, ADRP, ADD, LDST, PRFM, LDR-literal, B, BL, BR, NOP, MOVZ, Decoded, instruction, none, decode}
use Rattle.arm64_insn.proofs.Manual.{decode-in-range}
use Rattle.arm64_machine.specs.Machine.{Action, adr, adrp, add, access, literal, nop, other, action_of, action}

-- a word does what its instruction does
pub decoded : (w : ℕ) {d : Decoded} → decode w ≡ d → action w ≡ action_of d
unfolding action
decoded w e = ap action_of e

-- ADD of 64 bits, unshifted
pub decoded-add : (w : ℕ) {rd rn imm12 : ℕ} → decode w ≡ instruction (ADD 1 0 rd rn imm12) → action w ≡ add rd rn imm12
unfolding choose
decoded-add w e = decoded w e

-- the registers of an action are register numbers, and its row moves bytes
abbrev pub Ranged : Action → Type 0
Ranged (adr rd imm21) = rd < 32
Ranged (adrp rd imm21) = rd < 32
Ranged (add rd rn imm12) = (rd < 32) × (rn < 32)
Ranged (access row rt rn imm12) = (rt < 32) × (rn < 32) × (moves row ≡ true)
Ranged (literal row rt imm19) = (rt < 32) × (moves row ≡ true)
Ranged nop = Unit {0}
Ranged other = Unit {0}

ranged-form : (w : ℕ) (d : Decoded) → decode w ≡ d → Ranged (action_of d)
ranged-form w (instruction (ADR rd imm21)) e = (decode-in-range w _ e).0
ranged-form w (instruction (ADRP rd imm21)) e = (decode-in-range w _ e).0
ranged-form w (instruction (ADD sf sh rd rn imm12)) e =
    let r = decode-in-range w _ e in chosen Ranged _ (add rd rn imm12) other (r.2, r.3) tt
ranged-form w (instruction (LDST size v opc rt rn imm12)) e = let r = decode-in-range w _ e in (r.3, r.4, r.6)
ranged-form w (instruction (PRFM rt rn imm12)) e = tt
ranged-form w (instruction (LDR-literal opc v rt imm19)) e = let r = decode-in-range w _ e in (r.2, r.4)
ranged-form w (instruction (B imm26)) e = tt
ranged-form w (instruction (BL imm26)) e = tt
ranged-form w (instruction (BR rn)) e = tt
ranged-form w (instruction NOP) e = tt
ranged-form w (instruction (MOVZ sf hw rd imm16)) e = tt
ranged-form w none e = tt

pub ranged : (w : ℕ) {a : Action} → action w ≡ a → Ranged a
unfolding action
ranged w e = subst Ranged e (ranged-form w (decode w) refl)
