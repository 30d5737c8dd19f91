-- A load or store as the decoder of arm64_insn tells it: what it does, its literal form, and its form through another base.
-- Carried by what arm64_insn proves of decoded and made words; an access moves a power of two of bytes, at most 16.
use Rattle.std.specs.Prelude.{Some}
use mathlib.Core.Path.{◌≡◌, refl, sym, ap, ◌∙◌}
use mathlib.Core.Bool.{Bool, true, false, not, ◌&&◌, true≢false}
use Prim.Native.Nat.{ℕ, zero, suc, ◌+◌, ◌*◌, ◌/◌, ◌%◌, ◌^◌, ◌≤◌, ◌<◌}
use native.Mathlib.Nat.{div-add-mod', div-le_self}
use native.Mathlib.Omega.{arith}
use lib.Dec.{eqb}
use borrow.Author.Tests.{leb-true}
use Rattle.util.specs.Bits.{field}
use Rattle.util.specs.Wrap.{sum, diff}
use Rattle.util.specs.Choice.{choose}
use Rattle.util.proofs.Below.{every}
use Rattle.util.proofs.Choice.{both, choose-true}
use Rattle.arm64_insn.specs.Fix.{scale_of}
use Rattle.arm64_insn.specs.Literal.{has_literal_form, literal_word, base_word}
use Rattle.arm64_insn.specs.LoadStore.{load_store_from, load_store_of}
use Rattle.arm64_insn.specs.LoadStoreTable.{Row, load, store, prefetch, unallocated, Mnemonic, general, vector, Widening, row_of, moved_by, moves, is_store}
use Rattle.arm64_insn.specs.Manual.{imm12_in, size_in, v_in, opc_in, row_in}
use Rattle.arm64_insn.specs.ManualTargets.{access_address}
use Rattle.arm64_insn.specs.declared.ldst.LoadStore as L
use Rattle.arm64_insn.proofs.Cells.{each-cell}
use Rattle.arm64_insn.proofs.Decoded.{decoded-load-store}
use Rattle.arm64_insn.proofs.Decodes.{decodes-load-store, load-store-decodes, load-store-scale}
use Rattle.arm64_insn.proofs.Encodes.{based-made, literal-made, literal-row}
use Rattle.arm64_insn.proofs.Scale.{scale-le}
use Rattle.arm64_machine.specs.Machine.{access, literal, action}
use Rattle.arm64_machine.proofs.Actions.{decoded, ranged}

pub record Accessed (w : ℕ) (l : L.LoadStore) : Type 0 where
  pub does : action w ≡ access (row_in w) l.reg l.base (imm12_in w)
  pub register : l.reg < 32
  pub scale : ℕ
  pub scale-4 : scale ≤ 4
  pub size : l.size ≡ 2 ^ scale
  pub imm : ℕ
  pub offset : l.offset ≡ imm * l.size
  pub stores : l.is_store ≡ is_store (row_in w)
  pub floats : l.is_float ≡ eqb (v_in w) 1
  pub address : (u : ℕ) → access_address (row_in w) u (imm12_in w) ≡ sum u l.offset
  pub literals : has_literal_form l ≡ true → (target pc : ℕ) → action (literal_word l target pc) ≡ literal (row_in w) l.reg (field (diff target pc) 2 19)
  pub based : (base off : ℕ) → base < 32 → off < 4096 → action (base_word l base off) ≡ access (row_in w) l.reg base (off / l.size)
  pub based-address : (u off : ℕ) → off % l.size ≡ 0 → access_address (row_in w) u (off / l.size) ≡ sum u off

pub accessed : (w : ℕ) {l : L.LoadStore} → load_store_of w ≡ Some l → Accessed w l
unfolding access_address
accessed w {l} e =
    let d = load-store-decodes w l e in
    let g : load_store_from w (v_in w) l.reg l.base (imm12_in w) (row_in w) ≡ l = cc (decodes-load-store w _ _ _ _ _ _ d, e) in
    let k = decoded-load-store w l e in
    let z : l.size ≡ moved_by (row_in w) = ap (λ (l : L.LoadStore). l.size) (sym g) in
    record {
      does = decoded w d;
      register = k.register;
      scale = scale_of w;
      scale-4 = scale-le w;
      size = z ∙ sym (load-store-scale w _ _ _ _ _ _ d);
      imm = k.imm;
      offset = k.scaled;
      stores = ap (λ (l : L.LoadStore). l.is_store) (sym g);
      floats = ap (λ (l : L.LoadStore). l.is_float) (sym g);
      address = λ u. ap (sum u) (ap (λ (l : L.LoadStore). l.offset) g);
      literals = λ f target pc.
          decoded (literal_word l target pc) (literal-made l target pc k.register)
          ∙ ap (λ (r : Row). literal r l.reg (field (diff target pc) 2 19)) (literal-row w _ _ _ _ _ _ l d e f);
      based = λ base off r m.
          decoded (base_word l base off)
          (based-made w _ _ _ _ _ _ base off l d e (record { some = k.some; register = r; room = omega (arith, div-le_self off l.size) }));
      based-address = λ u off m. rw (← z) (ap (sum u) (let y = div-add-mod' off l.size in omega arith));
    }

by-scale : (P : ℕ → Type 0) → P 1 → P 2 → P 4 → P 8 → P 16 → (k : ℕ) → k ≤ 4 → P (2 ^ k)
by-scale P a b c d e zero h = a
by-scale P a b c d e (suc zero) h = b
by-scale P a b c d e (suc (suc zero)) h = c
by-scale P a b c d e (suc (suc (suc zero))) h = d
by-scale P a b c d e (suc (suc (suc (suc zero)))) h = e
by-scale P a b c d e (suc (suc (suc (suc (suc k))))) h = absurd (omega arith)

module _ {w : ℕ} {l : L.LoadStore} (x : Accessed w l) where
  sized : (P : ℕ → Type 0) → P 1 → P 2 → P 4 → P 8 → P 16 → P l.size
  sized P a b c d e = rw x.size (by-scale P a b c d e x.scale x.scale-4)

  -- the offset of a load with a literal form is a multiple of 4
  pub literal-offset : has_literal_form l ≡ true → l.offset % 4 ≡ 0
  unfolding has_literal_form
  literal-offset f =
      rw x.offset
      (sized (λ n. 4 ≤ n → x.imm * n % 4 ≡ 0) (λ h. omega arith) (λ h. omega arith) (λ h. omega arith) (λ h. omega arith) (λ h. omega arith)
      (leb-true 4 l.size (both _ _ f).0))

  -- where the access size divides a page plus i, it divides i and the offset
  pub divides : (page i : ℕ) → page % 4096 ≡ 0 → (page + i) % l.size ≡ 0 → (i + l.offset) % l.size ≡ 0
  divides page i h =
      rw x.offset
      (sized (λ n. (page + i) % n ≡ 0 → (i + x.imm * n) % n ≡ 0)
      (λ e. omega arith) (λ e. omega arith) (λ e. omega arith) (λ e. omega arith) (λ e. omega arith))

-- whether a row is a load into a general register
abbrev loads_general : Row → Bool
loads_general (load m general n g) = true
loads_general (load m vector n g) = false
loads_general (store m c n) = false
loads_general (prefetch m) = false
loads_general unallocated = false

-- whether a row of V 0 that moves and does not store is one
abbrev general_at : ℕ → ℕ → ℕ → Bool
general_at size v opc = choose (not (eqb v 1) && moves (row_of size v opc) && not (is_store (row_of size v opc))) (loads_general (row_of size v opc)) true

general-at : (size v opc : ℕ) → size < 4 → v < 2 → opc < 4 → general_at size v opc ≡ true
unfolding every row_of choose
general-at size v opc = each-cell general_at refl size v opc

by_general : (P : Row → Type 0) → ((m : Mnemonic) (n : ℕ) (g : Widening) → P (load m general n g)) → (row : Row) → loads_general row ≡ true → P row
by_general P f (load m general n g) h = f m n g
by_general P f (load m vector n g) h = absurd (true≢false (sym h))
by_general P f (store m c n) h = absurd (true≢false (sym h))
by_general P f (prefetch m) h = absurd (true≢false (sym h))
by_general P f unallocated h = absurd (true≢false (sym h))

-- a decoded load into a general register has such a row
pub general-load : {w : ℕ} {l : L.LoadStore} → Accessed w l → l.is_store ≡ false → l.is_float ≡ false → (P : Row → Type 0)
    → ((m : Mnemonic) (n : ℕ) (g : Widening) → P (load m general n g)) → P (row_in w)
general-load {w} x s f P h =
    by_general P h (row_in w)
    (sym (choose-true _ (loads_general (row_in w)) true (rw (sym x.floats ∙ f, (ranged w x.does).2, sym x.stores ∙ s)))
    ∙ general-at (size_in w) (v_in w) (opc_in w) (omega arith) (omega arith) (omega arith))
