-- What holds of every decoded word, for those who make other words of it.
use Rattle.std.specs.Prelude.{Option, Some, None}
use mathlib.Core.Path.{◌≡◌, refl, subst}
use mathlib.Core.Bool.{Bool, true, ◌&&◌, ◌||◌, not}
use Prim.Native.Nat.{ℕ, ◌*◌, ◌^◌, ◌≤◌, ◌<◌}
use native.Mathlib.Omega.{arith}
use borrow.Author.Tests.{ltb-true, leb-true}
use lib.Dec.{eqb, ltb, leb, lit<}
use Rattle.util.specs.Choice.{choose}
use Rattle.util.specs.Diagram.{matches}
use Rattle.util.proofs.Choice.{split, chosen, both}
use Rattle.util.proofs.Below.{every}
use Rattle.arm64_insn.specs.Encoding.{adrp, add, load_store}
use Rattle.arm64_insn.specs.LoadStoreTable.{row_of, moved_by, moves}
use Rattle.arm64_insn.specs.Adrp.{adrp_of}
use Rattle.arm64_insn.specs.Add.{add_of}
use Rattle.arm64_insn.specs.Manual.{rd_in, rn_in, imm12_in, size_in, v_in, opc_in, row_in}
use Rattle.arm64_insn.specs.LoadStore.{load_store_from, load_store_of}
use Rattle.arm64_insn.specs.Literal.{literal_opc, literal_v}
use Rattle.arm64_insn.specs.declared.adrp.Adrp as A
use Rattle.arm64_insn.specs.declared.adrp.Adrp.{Adrp}
use Rattle.arm64_insn.specs.declared.add.Add.{Add}
use Rattle.arm64_insn.specs.declared.ldst.LoadStore.{LoadStore}
use Rattle.arm64_insn.specs.declared.add.Add as D
use Rattle.arm64_insn.specs.declared.ldst.LoadStore as L
use Rattle.arm64_insn.proofs.Cells.{each-cell}

-- an ADRP names a register, and its immediate has 21 bits
pub record DecodedAdrp (a : A.Adrp) : Type 0 where
  pub register : a.rd < 32
  pub immediate : a.imm < 2 ^ 21

abbrev HoldsAdrp : Option Adrp → Type 0
HoldsAdrp (Some a) = DecodedAdrp a
HoldsAdrp None = Unit {0}

pub decoded-adrp : (x : ℕ) (a : A.Adrp) → adrp_of x ≡ Some a → DecodedAdrp a
unfolding adrp_of
decoded-adrp x a e =
    subst HoldsAdrp e
    (chosen HoldsAdrp (matches adrp x) _ None (record { register = omega arith; immediate = omega arith }) tt)

-- an ADD names registers, and its immediate has 12 bits
pub record DecodedAdd (a : D.Add) : Type 0 where
  pub register : a.rd < 32
  pub source : a.rn < 32
  pub immediate : a.imm < 4096

abbrev HoldsAdd : Option Add → Type 0
HoldsAdd (Some a) = DecodedAdd a
HoldsAdd None = Unit {0}

pub decoded-add : (x : ℕ) (a : D.Add) → add_of x ≡ Some a → DecodedAdd a
unfolding add_of
decoded-add x a e =
    subst HoldsAdd e
    (chosen HoldsAdd (matches add x) _ None (record { register = omega arith; source = omega arith; immediate = omega arith }) tt)

-- a row that moves moves 1 to 16 bytes
row_small : (size v opc : ℕ) → size < 4 → v < 2 → opc < 4 → moves (row_of size v opc) ≡ true
    → (0 < moved_by (row_of size v opc)) × (moved_by (row_of size v opc) ≤ 16)
unfolding row_of choose every
row_small size v opc hs hv ho m =
    let u = each-cell (λ s v o. not (moves (row_of s v o)) || (ltb 0 (moved_by (row_of s v o)) && leb (moved_by (row_of s v o)) 16)) refl size v opc hs hv ho in
    let h = both (ltb 0 (moved_by (row_of size v opc))) (leb (moved_by (row_of size v opc)) 16) (rw m at u) in
    (ltb-true 0 (moved_by (row_of size v opc)) h.0, leb-true (moved_by (row_of size v opc)) 16 h.1)

-- a load or store names registers, moves 1 to 16 bytes, and has a whole number of them below 4,096 as its offset
pub record DecodedLoadStore (x : ℕ) (l : L.LoadStore) : Type 0 where
  pub word : l.insn ≡ x
  pub register : l.reg < 32
  pub base-register : l.base < 32
  pub some : 0 < l.size
  pub most : l.size ≤ 16
  pub imm : ℕ
  pub room : imm < 4096
  pub scaled : l.offset ≡ imm * l.size

abbrev Holds : ℕ → Option LoadStore → Type 0
Holds x (Some l) = DecodedLoadStore x l
Holds x None = Unit {0}

pub decoded-load-store : (x : ℕ) (l : L.LoadStore) → load_store_of x ≡ Some l → DecodedLoadStore x l
unfolding load_store_of
decoded-load-store x l e =
    subst (Holds x) e (chosen (Holds x) (matches load_store x) _ None (split (Holds x) (moves (row_in x)) _ None held (λ _. tt)) tt)
  where
    held : moves (row_in x) ≡ true → DecodedLoadStore x (load_store_from x (v_in x) (rd_in x) (rn_in x) (imm12_in x) (row_in x))
    held m =
        let h = row_small (size_in x) (v_in x) (opc_in x) (omega arith) (omega arith) (omega arith) m in
        record {
          word = refl;
          register = omega arith;
          base-register = omega arith;
          some = h.0;
          most = h.1;
          imm = imm12_in x;
          room = omega arith;
          scaled = refl;
        }

-- opc of a literal load has two bits, V one
pub literal-opc-lt : (size : ℕ) (v sw : Bool) → literal_opc size v sw < 4
unfolding literal_opc
literal-opc-lt size v sw =
    chosen (λ n. n < 4) (eqb size 4) _ _ (chosen (λ n. n < 4) v _ _ (lit< tt) (chosen (λ n. n < 4) sw _ _ (lit< tt) (lit< tt)))
    (chosen (λ n. n < 4) (eqb size 8) _ _ (lit< tt) (lit< tt))

pub literal-v-lt : (size : ℕ) (v : Bool) → literal_v size v < 2
unfolding literal_v
literal-v-lt size v =
    chosen (λ n. n < 2) (eqb size 4) _ _ (chosen (λ n. n < 2) v _ _ (lit< tt) (lit< tt))
    (chosen (λ n. n < 2) (eqb size 8) _ _ (chosen (λ n. n < 2) v _ _ (lit< tt) (lit< tt)) (lit< tt))
