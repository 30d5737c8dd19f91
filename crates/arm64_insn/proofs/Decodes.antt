-- The decoders (RULES 1.6, 7.16 to 7.20): what each decoder and each test of a word answers, against the manual's instruction of the word. A diagram that
-- asks more than a class's says which fields it fixes besides; the rest is the class's.
use Rattle.std.specs.Prelude.{Option, Some, None}
use mathlib.Core.Path.{◌≡◌, refl, sym, ap, ◌∙◌}
use mathlib.Core.Bool.{Bool, true, false, ◌&&◌, ◌||◌, not, false≢true}
use mathlib.Core.List.{[], ◌∷◌}
use Prim.Native.Nat.{ℕ, ◌-◌, ◌/◌, ◌^◌, ◌<◌, ◌≤◌}
use native.Mathlib.Omega.{arith}
use borrow.Author.Tests.{lt-ltb, eqb-true}
use lib.Dec.{eqb, ltb, lit<, lit≤}
use Rattle.util.specs.Choice.{choose}
use Rattle.util.specs.Bits.{field}
use Rattle.util.specs.Diagram.{matches, fill}
use Rattle.util.proofs.Choice.{choose-true, choose-false, choose-first}
use Rattle.util.proofs.Below.{every}
use Rattle.util.proofs.Diagram.{finer, fixed-field, matches-fill, matches-fields}
use Rattle.arm64_insn.specs.Encoding.{adrp, add, add_unshifted, add_immediate, load_store, ldr_immediate}
use Rattle.arm64_insn.specs.LoadStoreTable.{Row, load, store, prefetch, unallocated, row_of, moved_by, moves}
use Rattle.arm64_insn.specs.Manual as M
use Rattle.arm64_insn.specs.Manual.{Insn, ADRP, ADD, LDST, instruction, load_store_form, decode, allocated}
use Rattle.arm64_insn.specs.Manual.{rd_in, rn_in, imm12_in, sf_in, sh_in, size_in, v_in, opc_in, row_in}
use Rattle.arm64_insn.specs.Adrp.{adrp_of}
use Rattle.arm64_insn.specs.Add.{add_of}
use Rattle.arm64_insn.specs.LoadStore.{load_store_from, load_store_by, load_store_of, load_store_in}
use Rattle.arm64_insn.specs.Fix.{scale_of, quad}
use Rattle.arm64_insn.specs.declared.adrp.Adrp as A
use Rattle.arm64_insn.specs.declared.adrp.Adrp.{Adrp}
use Rattle.arm64_insn.specs.declared.add.Add.{Add}
use Rattle.arm64_insn.specs.declared.ldst.LoadStore.{LoadStore}
use Rattle.arm64_insn.specs.declared.add.Add as D
use Rattle.arm64_insn.specs.declared.ldst.LoadStore as L
use Rattle.arm64_insn.proofs.Cells.{each-cell, opc-high}
use Rattle.arm64_insn.proofs.Manual.{decode-has, has-decode, encode-decode, decode-in-range, decode-allocated}
use Rattle.arm64_insn.proofs.ManualClasses.{by-class}

-- `Adrp::decode` answers the manual's ADRP, and nothing else
pub adrp-decodes : (w : ℕ) (a : A.Adrp) → adrp_of w ≡ Some a → decode w ≡ instruction (ADRP a.rd a.imm)
unfolding adrp_of
adrp-decodes w a e =
    let q = choose-first (matches adrp w) _ None (Some a) e (λ f. let z : ◌≡◌ {A = ℕ} 0 1 = cc in omega arith) in
    by-class w 1 (lit< tt) q.0 ∙ cc q.1

pub decodes-adrp : (w rd imm : ℕ) → decode w ≡ instruction (ADRP rd imm) → adrp_of w ≡ Some (record { rd = rd; imm = imm })
unfolding adrp_of
decodes-adrp w rd imm e =
    let m = (decode-has w (ADRP rd imm) e).matched in
    choose-true (matches adrp w) _ _ m ∙ cc (by-class w 1 (lit< tt) m, e)

-- `Add::decode` answers the manual's ADD of 64 bits with an unshifted immediate, and nothing else
pub add-decodes : (w : ℕ) (a : D.Add) → add_of w ≡ Some a → decode w ≡ instruction (ADD 1 0 a.rd a.rn a.imm)
unfolding add_of
add-decodes w a e =
    let q = choose-first (matches add w) _ None (Some a) e (λ f. let z : ◌≡◌ {A = ℕ} 0 1 = cc in omega arith) in
    let m = finer add_immediate add w refl refl refl refl q.0 in
    let sf : sf_in w ≡ 1 = fixed-field add w 31 1 1 refl refl refl refl q.0 in
    let sh : sh_in w ≡ 0 = fixed-field add w 22 1 0 refl refl refl refl q.0 in
    by-class w 2 (lit< tt) m ∙ cc q.1

pub decodes-add : (w rd rn imm : ℕ) → w < 2 ^ 32 → decode w ≡ instruction (ADD 1 0 rd rn imm) → add_of w ≡ Some (record { rd = rd; rn = rn; imm = imm })
unfolding add_of
decodes-add w rd rn imm l e =
    let h = decode-has w (ADD 1 0 rd rn imm) e in
    let r = h.in-range in
    let m : matches add w ≡ true =
    ap (matches add) (sym (encode-decode w (ADD 1 0 rd rn imm) l e)) ∙ matches-fill add (rd ∷ rn ∷ imm ∷ []) refl (r.2, (r.3, (r.4, tt))) in
    choose-true (matches add w) _ _ m ∙ cc (by-class w 2 (lit< tt) h.matched, e)

-- opc 00 and 01 move, whatever size and V are
low-opc-moves : (size v opc : ℕ) → size < 4 → v < 2 → opc < 4 → opc ≤ 1 → moves (row_of size v opc) ≡ true
unfolding row_of every choose
low-opc-moves size v opc hs hv ho l =
    rw (lt-ltb opc 2 (omega arith)) at (each-cell (λ s v o. not (ltb o 2) || moves (row_of s v o)) refl size v opc hs hv ho)

module _ (w : ℕ) where
  -- the instruction of a row, as a load or store
  of_row : (r : Row) → row_in w ≡ r → load_store_in w (load_store_form r w) ≡ load_store_by r w
  unfolding choose
  of_row (load m g n x) e = ap (λ (r : Row). Some (load_store_from w (v_in w) (rd_in w) (rn_in w) (imm12_in w) r)) e
  of_row (store m g n) e = ap (λ (r : Row). Some (load_store_from w (v_in w) (rd_in w) (rn_in w) (imm12_in w) r)) e
  of_row (prefetch m) e = refl
  of_row unallocated e = refl

  -- an instruction of another class is none
  of_other : matches load_store w ≡ false → (d : M.Decoded) → decode w ≡ d → load_store_in w d ≡ None
  of_other n M.none e = refl
  of_other n (M.instruction (M.ADR rd imm21)) e = refl
  of_other n (M.instruction (M.ADRP rd imm21)) e = refl
  of_other n (M.instruction (M.ADD sf sh rd rn imm12)) e = refl
  of_other n (M.instruction (M.LDST size v opc rt rn imm12)) e =
      absurd (false≢true (sym n ∙ (decode-has w (M.LDST size v opc rt rn imm12) e).matched))
  of_other n (M.instruction (M.PRFM rt rn imm12)) e = refl
  of_other n (M.instruction (M.LDR-literal opc v rt imm19)) e = refl
  of_other n (M.instruction (M.B imm26)) e = refl
  of_other n (M.instruction (M.BL imm26)) e = refl
  of_other n (M.instruction (M.BR rn)) e = refl
  of_other n (M.instruction M.NOP) e = refl
  of_other n (M.instruction (M.MOVZ sf hw rd imm16)) e = refl

  -- `LoadStore::decode` is the manual: of every word it answers the load or store that the word's instruction is, and none where it is no such instruction
  pub load-store-manual : load_store_of w ≡ load_store_in w (decode w)
  unfolding load_store_of
  load-store-manual = go (matches load_store w) refl
    where
      go : (t : Bool) → matches load_store w ≡ t → choose (matches load_store w) (load_store_by (row_in w) w) None ≡ load_store_in w (decode w)
      go true e = choose-true (matches load_store w) _ _ e ∙ sym (ap (load_store_in w) (by-class w 3 (lit< tt) e) ∙ of_row (row_in w) refl)
      go false e = choose-false (matches load_store w) _ _ e ∙ sym (of_other e (decode w) refl)

-- so it answers every load and store of the manual, field by field
pub decodes-load-store : (w size v opc rt rn imm12 : ℕ) → decode w ≡ instruction (LDST size v opc rt rn imm12)
    → load_store_of w ≡ Some (load_store_from w v rt rn imm12 (row_of size v opc))
decodes-load-store w size v opc rt rn imm12 e = load-store-manual w ∙ ap (load_store_in w) e

-- and nothing else: not the prefetch, no unallocated word
pub load-store-decodes : (w : ℕ) (l : L.LoadStore) → load_store_of w ≡ Some l
    → decode w ≡ instruction (LDST (size_in w) (v_in w) (opc_in w) l.reg l.base (imm12_in w))
unfolding load_store_of choose
load-store-decodes w l e =
    let q = choose-first (matches load_store w) _ None (Some l) e (λ f. let z : ◌≡◌ {A = ℕ} 0 1 = cc in omega arith) in
    by-class w 3 (lit< tt) q.0 ∙ go (row_in w) q.1
  where
    go : (r : Row) → load_store_by r w ≡ Some l
        → load_store_form r w ≡ instruction (LDST (size_in w) (v_in w) (opc_in w) l.reg l.base (imm12_in w))
    go (load m g n x) f = cc
    go (store m g n) f = cc
    go (prefetch m) f = let z : ◌≡◌ {A = ℕ} 0 1 = cc in absurd (omega arith)
    go unallocated f = let z : ◌≡◌ {A = ℕ} 0 1 = cc in absurd (omega arith)

-- no decoder takes a word that the manual leaves unallocated
pub unallocated-none : (w : ℕ) → allocated w ≡ false
    → (adrp_of w ≡ None) × (add_of w ≡ None) × (load_store_of w ≡ None)
unallocated-none w n = (no-adrp (adrp_of w) refl, no_add (add_of w) refl, no_access (load_store_of w) refl)
  where
    not-instruction : {A : Type 0} (i : Insn) → decode w ≡ instruction i → A
    not-instruction i e = absurd (false≢true (sym n ∙ decode-allocated w i e))

    no-adrp : (x : Option Adrp) → adrp_of w ≡ x → x ≡ None
    no-adrp None e = refl
    no-adrp (Some a) e = not-instruction _ (adrp-decodes w a e)

    no_add : (x : Option Add) → add_of w ≡ x → x ≡ None
    no_add None e = refl
    no_add (Some d) e = not-instruction _ (add-decodes w d e)

    no_access : (x : Option LoadStore) → load_store_of w ≡ x → x ≡ None
    no_access None e = refl
    no_access (Some l) e = not-instruction _ (load-store-decodes w l e)

-- `is_add_either` holds of the ADDs with an unshifted immediate
pub add-either-decodes : (w : ℕ) → matches add_unshifted w ≡ true → decode w ≡ instruction (ADD (sf_in w) 0 (rd_in w) (rn_in w) (imm12_in w))
add-either-decodes w e =
    let sh : sh_in w ≡ 0 = fixed-field add_unshifted w 22 1 0 refl refl refl refl e in
    by-class w 2 (lit< tt) (finer add_immediate add_unshifted w refl refl refl refl e) ∙ cc

pub decodes-add-either : (w sf rd rn imm12 : ℕ) → w < 2 ^ 32 → decode w ≡ instruction (ADD sf 0 rd rn imm12) → matches add_unshifted w ≡ true
decodes-add-either w sf rd rn imm12 l e =
    let r = decode-in-range w (ADD sf 0 rd rn imm12) e in
    ap (matches add_unshifted) (sym (encode-decode w (ADD sf 0 rd rn imm12) l e))
    ∙ matches-fill add_unshifted (rd ∷ rn ∷ imm12 ∷ sf ∷ []) refl (r.2, (r.3, (r.4, (r.0, tt))))

-- `is_ldr_imm` holds of LDR of a W or X register: size 10 or 11, V 0, opc 01
pub ldr-imm-decodes : (w : ℕ) → matches ldr_immediate w ≡ true
    → (2 ≤ size_in w) × (decode w ≡ instruction (LDST (size_in w) 0 0b01 (rd_in w) (rn_in w) (imm12_in w)))
ldr-imm-decodes w e =
    let o : opc_in w ≡ 1 = fixed-field ldr_immediate w 22 2 1 refl refl refl refl e in
    let v : v_in w ≡ 0 = fixed-field ldr_immediate w 26 1 0 refl refl refl refl e in
    let s : size_in w < 4 = omega arith in
    let t : field w 31 1 ≡ 1 = fixed-field ldr_immediate w 31 1 1 refl refl refl refl e in (
      omega arith,
      has-decode w (LDST (size_in w) 0 0b01 (rd_in w) (rn_in w) (imm12_in w))
          (record {
            matched = finer load_store ldr_immediate w refl refl refl refl e;
            fields = cc;
            in-range = (s, lit< tt, lit< tt, omega arith, omega arith, omega arith, low-opc-moves (size_in w) 0 1 s (lit< tt) (lit< tt) (lit≤ tt));
          }),
    )

pub decodes-ldr-imm : (w size rt rn imm12 : ℕ) → w < 2 ^ 32 → 2 ≤ size → decode w ≡ instruction (LDST size 0 0b01 rt rn imm12) → matches ldr_immediate w ≡ true
decodes-ldr-imm w size rt rn imm12 l h e =
    let r = decode-in-range w (LDST size 0 0b01 rt rn imm12) e in
    let f : fill ldr_immediate (rt ∷ rn ∷ imm12 ∷ (size - 2) ∷ []) ≡ w = omega arith ∙ encode-decode w (LDST size 0 0b01 rt rn imm12) l e in
    ap (matches ldr_immediate) (sym f) ∙ matches-fill ldr_immediate (rt ∷ rn ∷ imm12 ∷ (size - 2) ∷ []) refl (omega arith)

-- the scale of imm12 by the cell
abbrev scale_at : ℕ → ℕ → ℕ → ℕ
scale_at size v opc = choose (eqb (opc / 2) 1 && (eqb v 1 && (eqb size 0 && true))) 4 size

-- whether a cell's scale is that of the bytes that it moves, or of its size field where it moves none
abbrev right_scale : ℕ → ℕ → ℕ → Bool
right_scale size v opc =
    choose (moves (row_of size v opc)) (eqb (2 ^ scale_at size v opc) (moved_by (row_of size v opc))) (eqb (scale_at size v opc) size)

scale-cell : (w : ℕ) → matches load_store w ≡ true → scale_of w ≡ scale_at (size_in w) (v_in w) (opc_in w)
unfolding scale_of
scale-cell w m =
    let q : matches quad w ≡ (eqb (opc_in w / 2) 1 && (eqb (v_in w) 1 && (eqb (size_in w) 0 && true))) = matches-fields quad w ∙ rw (← opc-high w) in
    choose-true (matches load_store w) _ _ m ∙ ap (λ (t : Bool). choose t 4 (size_in w)) q

right-scale : (w : ℕ) → right_scale (size_in w) (v_in w) (opc_in w) ≡ true
unfolding row_of every choose
right-scale w = each-cell right_scale refl (size_in w) (v_in w) (opc_in w) (omega arith) (omega arith) (omega arith)

-- the scale that `write_add_ldst_word` takes is that of the bytes that a load or store moves
pub load-store-scale : (w size v opc rt rn imm12 : ℕ) → decode w ≡ instruction (LDST size v opc rt rn imm12) → 2 ^ scale_of w ≡ moved_by (row_of size v opc)
load-store-scale w size v opc rt rn imm12 e =
    let h = decode-has w (LDST size v opc rt rn imm12) e in
    let r : row_in w ≡ row_of size v opc = cc h.fields in
    let m : moves (row_in w) ≡ true = ap moves r ∙ h.in-range.6 in
    let s : eqb (2 ^ scale_at (size_in w) (v_in w) (opc_in w)) (moved_by (row_in w)) ≡ true = sym (choose-true (moves (row_in w)) _ _ m) ∙ right-scale w in
    ap (λ (k : ℕ). 2 ^ k) (scale-cell w h.matched) ∙ eqb-true (2 ^ scale_at (size_in w) (v_in w) (opc_in w)) (moved_by (row_in w)) s ∙ ap moved_by r

-- of the prefetch and of unallocated words it takes that of the size field
pub unmoved-scale : (w : ℕ) → matches load_store w ≡ true → moves (row_in w) ≡ false → scale_of w ≡ size_in w
unmoved-scale w m n =
    let s : eqb (scale_at (size_in w) (v_in w) (opc_in w)) (size_in w) ≡ true = sym (choose-false (moves (row_in w)) _ _ n) ∙ right-scale w in
    scale-cell w m ∙ eqb-true (scale_at (size_in w) (v_in w) (opc_in w)) (size_in w) s

-- of any other word none
pub other-scale : (w : ℕ) → matches load_store w ≡ false → scale_of w ≡ 0
unfolding scale_of
other-scale w n = choose-false (matches load_store w) _ _ n
