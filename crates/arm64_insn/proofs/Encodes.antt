-- The encoders (RULES 1.6, 7.22 to 7.31): each word that is made is the manual's encoding of the instruction meant, and each word that is patched is the
-- old instruction with one field replaced. A word that has an instruction is its encoding, and the fields of an encoding are read off by arithmetic.
use Rattle.std.specs.Prelude.{Ok, Err, Some, None}
use mathlib.Core.Path.{◌≡◌, refl, sym, ap, ◌∙◌, subst}
use mathlib.Core.Bool.{Bool, true, false, ◌&&◌, not}
use mathlib.Core.List.{[], ◌∷◌}
use Prim.Native.Nat.{ℕ, ◌+◌, ◌*◌, ◌/◌, ◌%◌, ◌^◌, ◌<◌}
use native.Mathlib.Omega.{arith}
use native.Mathlib.Nat.{div-one, mod-one}
use borrow.Author.Tests.{eqb-true}
use lib.Dec.{eqb, leb, lit<}
use lib.ListN.{get_or}
use Rattle.util.specs.Choice.{choose}
use Rattle.util.specs.Bits.{field}
use Rattle.util.specs.Wrap.{diff}
use Rattle.util.specs.Diagram.{matches, fill}
use Rattle.util.proofs.Choice.{split, choose-true, choose-first, both}
use Rattle.util.proofs.Below.{every}
use Rattle.util.proofs.Diagram.{fixed-field, field-add}
use Rattle.arm64_insn.specs.Encoding.{adrp, add_immediate, load_store, branch}
use Rattle.arm64_insn.specs.LoadStoreTable.{unallocated, unsigned_immediate, literal, row_of, literal_row_of, moved_by, moves, is_store}
use Rattle.arm64_insn.specs.Manual.{ADR, ADRP, ADD, LDST, PRFM, LDR-literal, B, BL, BR, NOP, MOVZ, encode, instruction, decode}
use Rattle.arm64_insn.specs.Manual.{rd_in, rn_in, sh_in, sf_in, size_in, v_in, opc_in, row_in}
use Rattle.arm64_insn.specs.Reach.{page_imm, page_offset}
use Rattle.arm64_insn.specs.Adrp.{adr_word}
use Rattle.arm64_insn.specs.LoadStore.{load_store_of, is_ldrsw, load_store_from}
use Rattle.arm64_insn.specs.Literal.{has_literal_form, literal_opc, literal_v, literal_word, Rebased, base_word}
use Rattle.arm64_insn.specs.Branch.{branch_word, helper_word}
use Rattle.arm64_insn.specs.Stub.{stub_words, thunk_words}
use Rattle.arm64_insn.specs.Fix.{nop_word, is_enabled_word, adrp_with, scale_of, offset_with, relaxed_word}
use Rattle.arm64_insn.specs.declared.ldst.LoadStore as L
use Rattle.arm64_insn.proofs.Manual.{decode-has, decode-encode, decode-in-range}
use Rattle.arm64_insn.proofs.ManualClasses.{one_class}
use Rattle.arm64_insn.proofs.Cells.{each-cell}
use Rattle.arm64_insn.proofs.Decoded.{decoded-load-store, literal-opc-lt, literal-v-lt}
use Rattle.arm64_insn.proofs.Decodes.{decodes-load-store, load-store-scale, unmoved-scale, other-scale}

-- the immediate of an ADRP has 21 bits
pub page-imm-lt : (hi lo : ℕ) → page_imm hi lo < 2 ^ 21
unfolding page_imm
page-imm-lt hi lo = omega arith

-- what `adr` makes is an ADR
pub adr-made : (rd target pc : ℕ) → rd < 32 → decode (adr_word rd target pc) ≡ instruction (ADR rd (field (diff target pc) 0 21))
unfolding adr_word
adr-made rd target pc h = decode-encode (ADR rd (field (diff target pc) 0 21)) (h, omega arith)

-- a patched ADRP is that ADRP with another immediate
pub adrp-patched : (w rd imm hi lo : ℕ) → w < 2 ^ 32 → decode w ≡ instruction (ADRP rd imm) → decode (adrp_with w hi lo) ≡ instruction (ADRP rd (page_imm hi lo))
unfolding adrp_with page_offset
adrp-patched w rd imm hi lo l e =
    let h = decode-has w (ADRP rd imm) e in
    let p = page-imm-lt hi lo in
    let b : field w 31 1 ≡ 1 = fixed-field adrp w 31 1 1 refl refl refl refl h.matched in
    let c : field w 24 5 ≡ 16 = fixed-field adrp w 24 5 16 refl refl refl refl h.matched in
    let d : rd_in w ≡ rd = cc h.fields in
    let g : adrp_with w hi lo ≡ encode (ADRP rd (page_imm hi lo)) = rw (b, c, d) (omega arith) in
    ap decode g ∙ decode-encode (ADRP rd (page_imm hi lo)) (h.in-range.0, p)

module _ (w : ℕ) where
  -- the two registers, and the fields above imm12 of a load or store and of an ADD
  registers : field w 0 10 ≡ rn_in w * 2 ^ 5 + rd_in w
  registers = field-add w 0 5 5

  top-load-store : matches load_store w ≡ true → field w 22 10 ≡ (((size_in w * 2 ^ 3 + 0b111) * 2 ^ 1 + v_in w) * 2 ^ 2 + 0b01) * 2 ^ 2 + opc_in w
  top-load-store m =
      rw (
        field-add w 22 8 2,
        field-add w 24 6 2,
        field-add w 26 5 1,
        field-add w 27 2 3,
        fixed-field load_store w 24 2 1 refl refl refl refl m,
        fixed-field load_store w 27 3 7 refl refl refl refl m,
      )

  top-add : matches add_immediate w ≡ true → field w 22 10 ≡ (sf_in w * 2 ^ 8 + 0b100010) * 2 ^ 1 + sh_in w
  top-add m =
      rw (
        field-add w 22 9 1,
        field-add w 23 3 6,
        field-add w 29 2 1,
        field-add w 30 1 1,
        fixed-field add_immediate w 23 6 34 refl refl refl refl m,
        fixed-field add_immediate w 29 1 0 refl refl refl refl m,
        fixed-field add_immediate w 30 1 0 refl refl refl refl m,
      ) (omega arith)

-- an ADD with the page offset is that ADD with another immediate, and so it always fits
pub add-patched : (w sf sh rd rn imm12 val : ℕ) → decode w ≡ instruction (ADD sf sh rd rn imm12)
    → offset_with w val ≡ Ok (encode (ADD sf sh rd rn (field val 0 12)))
unfolding offset_with
add-patched w sf sh rd rn imm12 val e =
    let h = decode-has w (ADD sf sh rd rn imm12) e in
    let s : scale_of w ≡ 0 = other-scale w (one_class 2 3 w (lit< tt) (lit< tt) (λ q. omega arith) h.matched) in
    let t : sf_in w ≡ sf = cc h.fields in
    let u : sh_in w ≡ sh = cc h.fields in
    let d : rd_in w ≡ rd = cc h.fields in
    let n : rn_in w ≡ rn = cc h.fields in
    rw (s, mod-one val, registers w, top-add w h.matched, t, u, d, n, div-one (val % 2 ^ 12), div-one val)
    (choose-true (eqb 0 0) _ _ refl ∙ ap Ok (omega arith))

-- a load or store with the page offset is that access with another immediate, where the access size divides the target
pub load-store-patched : (w size v opc rt rn imm12 val : ℕ) → decode w ≡ instruction (LDST size v opc rt rn imm12)
    → offset_with w val
    ≡ choose (eqb (val % moved_by (row_of size v opc)) 0)
    (Ok (encode (LDST size v opc rt rn (val % 2 ^ 12 / moved_by (row_of size v opc)))))
    (Err (moved_by (row_of size v opc)))
unfolding offset_with
load-store-patched w size v opc rt rn imm12 val e =
    let h = decode-has w (LDST size v opc rt rn imm12) e in
    let s : size_in w ≡ size = cc h.fields in
    let t : v_in w ≡ v = cc h.fields in
    let u : opc_in w ≡ opc = cc h.fields in
    let d : rd_in w ≡ rt = cc h.fields in
    let n : rn_in w ≡ rn = cc h.fields in
    let x : ℕ = val % 2 ^ 12 / moved_by (row_of size v opc) in
    let g : field w 22 10 * 2 ^ 22 + x * 2 ^ 10 + field w 0 10 ≡ encode (LDST size v opc rt rn x) =
    rw (registers w, top-load-store w h.matched, s, t, u, d, n) (omega arith) in
    rw (load-store-scale w size v opc rt rn imm12 e, g)

-- a prefetch with the page offset is that prefetch with another immediate, which counts eights, where 8 divides the target
pub prefetch-patched : (w rt rn imm12 val : ℕ) → decode w ≡ instruction (PRFM rt rn imm12)
    → offset_with w val ≡ choose (eqb (val % 8) 0) (Ok (encode (PRFM rt rn (val % 2 ^ 12 / 8)))) (Err 8)
unfolding offset_with row_of
prefetch-patched w rt rn imm12 val e =
    let h = decode-has w (PRFM rt rn imm12) e in
    let s : size_in w ≡ 0b11 = cc h.fields in
    let t : v_in w ≡ 0 = cc h.fields in
    let u : opc_in w ≡ 0b10 = cc h.fields in
    let d : rd_in w ≡ rt = cc h.fields in
    let n : rn_in w ≡ rn = cc h.fields in
    let r : row_in w ≡ row_of 0b11 0 0b10 = cc in
    let k : scale_of w ≡ 3 = unmoved-scale w h.matched (ap moves r) ∙ s in
    let x : ℕ = val % 2 ^ 12 / 8 in
    let g : field w 22 10 * 2 ^ 22 + x * 2 ^ 10 + field w 0 10 ≡ encode (PRFM rt rn x) =
    rw (registers w, top-load-store w h.matched, s, t, u, d, n) (omega arith) in
    rw (k, g)

-- a patched B is a B with another immediate, a patched BL a BL
top-branch : (w op : ℕ) → matches branch w ≡ true → sf_in w ≡ op → field w 26 6 ≡ op * 2 ^ 5 + 0b00101
top-branch w op m e = rw (field-add w 26 1 5, fixed-field branch w 26 5 5 refl refl refl refl m, e)

pub b-patched : (w imm26 d : ℕ) → decode w ≡ instruction (B imm26) → decode (branch_word w d) ≡ instruction (B (field d 2 26))
unfolding branch_word
b-patched w imm26 d e =
    let h = decode-has w (B imm26) e in
    let s : sf_in w ≡ 0 = cc h.fields in
    let g : branch_word w d ≡ encode (B (field d 2 26)) = rw (top-branch w 0 h.matched s) (omega arith) in
    ap decode g ∙ decode-encode (B (field d 2 26)) (omega arith)

pub bl-patched : (w imm26 d : ℕ) → decode w ≡ instruction (BL imm26) → decode (branch_word w d) ≡ instruction (BL (field d 2 26))
unfolding branch_word
bl-patched w imm26 d e =
    let h = decode-has w (BL imm26) e in
    let s : sf_in w ≡ 1 = cc h.fields in
    let g : branch_word w d ≡ encode (BL (field d 2 26)) = rw (top-branch w 1 h.matched s) (omega arith) in
    ap decode g ∙ decode-encode (BL (field d 2 26)) (omega arith)

-- a helper's word is a B or a BL
pub helper-made : (d : ℕ) → (decode (helper_word true d) ≡ instruction (B (field d 2 26))) × (decode (helper_word false d) ≡ instruction (BL (field d 2 26)))
unfolding helper_word choose
helper-made d = (decode-encode (B (field d 2 26)) (omega arith), decode-encode (BL (field d 2 26)) (omega arith))

-- a relaxed load is an ADD of 64 bits of its registers
pub relaxed-made : (w target : ℕ) → decode (relaxed_word w target) ≡ instruction (ADD 1 0 (rd_in w) (rn_in w) (field target 0 12))
unfolding relaxed_word
relaxed-made w target = decode-encode (ADD 1 0 (rd_in w) (rn_in w) (field target 0 12)) (omega arith)

-- the words of probes
pub nop-made : decode nop_word ≡ instruction NOP
nop-made = decode-encode NOP tt

pub is-enabled-made : decode is_enabled_word ≡ instruction (MOVZ 1 0 0 0)
is-enabled-made = decode-encode (MOVZ 1 0 0 0) (lit< tt, lit< tt, lit< tt, lit< tt, refl)

-- a stub: ADRP x16; LDR x16, [x16]; BR x16. A thunk has an ADD in the middle
pub stub-made : (addr pointer : ℕ)
    → (decode (stub_words addr pointer).first ≡ instruction (ADRP 16 (page_imm pointer addr)))
    × (decode (stub_words addr pointer).second ≡ instruction (LDST 0b11 0 0b01 16 16 (field pointer 3 9)))
    × (decode (stub_words addr pointer).third ≡ instruction (BR 16))
unfolding stub_words row_of
stub-made addr pointer = (
  decode-encode (ADRP 16 (page_imm pointer addr)) (lit< tt, page-imm-lt pointer addr),
  decode-encode (LDST 0b11 0 0b01 16 16 (field pointer 3 9)) (lit< tt, lit< tt, lit< tt, lit< tt, lit< tt, omega arith, refl),
  decode-encode (BR 16) (lit< tt),
)

pub thunk-made : (addr target : ℕ)
    → (decode (thunk_words addr target).first ≡ instruction (ADRP 16 (page_imm target addr)))
    × (decode (thunk_words addr target).second ≡ instruction (ADD 1 0 16 16 (field target 0 12)))
    × (decode (thunk_words addr target).third ≡ instruction (BR 16))
unfolding thunk_words
thunk-made addr target = (
  decode-encode (ADRP 16 (page_imm target addr)) (lit< tt, page-imm-lt target addr),
  decode-encode (ADD 1 0 16 16 (field target 0 12)) (lit< tt, lit< tt, lit< tt, lit< tt, omega arith),
  decode-encode (BR 16) (lit< tt),
)

-- a load or store through another base is the same row with another Rn and imm12, unallocated words too
based : (w base : ℕ) (l : L.LoadStore) (offset : ℕ) → load_store_of w ≡ Some l
    → base_word l base offset ≡ fill load_store (rd_in w ∷ base ∷ offset / l.size ∷ opc_in w ∷ v_in w ∷ size_in w ∷ [])
unfolding base_word load_store_of
based w base l offset e =
    let q = choose-first (matches load_store w) _ None (Some l) e (λ f. let z : ◌≡◌ {A = ℕ} 0 1 = cc in omega arith) in
    rw ((decoded-load-store w l e).word, top-load-store w q.0) (omega arith)

pub based-made : (w size v opc rt rn imm12 base offset : ℕ) (l : L.LoadStore) → decode w ≡ instruction (LDST size v opc rt rn imm12)
    → load_store_of w ≡ Some l → Rebased l base offset
    → decode (base_word l base offset) ≡ instruction (LDST size v opc rt base (offset / l.size))
based-made w size v opc rt rn imm12 base offset l e f b =
    let h = decode-has w (LDST size v opc rt rn imm12) e in
    let r = h.in-range in
    let g : fill load_store (rd_in w ∷ base ∷ offset / l.size ∷ opc_in w ∷ v_in w ∷ size_in w ∷ []) ≡ encode (LDST size v opc rt base (offset / l.size)) =
    cc h.fields in
    ap decode (based w base l offset f ∙ g)
    ∙ decode-encode (LDST size v opc rt base (offset / l.size)) (r.0, r.1, r.2, r.3, b.register, b.room, r.6)

-- a literal form is a load of the manual's table
literal-moves : (four eight v sw : Bool)
    → moves
    (literal_row_of (choose four (choose v 0b00 (choose sw 0b10 0b00)) (choose eight 0b01 0b10)) (choose four (choose v 1 0) (choose eight (choose v 1 0) 1)))
    ≡ true
unfolding literal_row_of choose
literal-moves true eight true sw = refl
literal-moves true eight false true = refl
literal-moves true eight false false = refl
literal-moves false true true sw = refl
literal-moves false true false sw = refl
literal-moves false false v sw = refl

pub literal-made : (l : L.LoadStore) (target pc : ℕ) → l.reg < 32
    → decode (literal_word l target pc)
    ≡ instruction (LDR-literal (literal_opc l.size l.is_float l.is_ldrsw) (literal_v l.size l.is_float) l.reg
    (field (diff target pc) 2 19))
unfolding literal_word literal_opc literal_v
literal-made l target pc h =
    decode-encode
    (LDR-literal (literal_opc l.size l.is_float l.is_ldrsw) (literal_v l.size l.is_float) l.reg (field (diff target pc) 2 19)) (
      literal-opc-lt l.size l.is_float l.is_ldrsw,
      literal-v-lt l.size l.is_float,
      h,
      omega arith,
      literal-moves (eqb l.size 4) (eqb l.size 8) l.is_float l.is_ldrsw,
    )

-- whether cell k of the table of unsigned immediates has the row of cell j of the table of literals, for the six rows of both
abbrev alike : ℕ → ℕ → Bool
alike k j =
    choose (eqb k 17 && eqb j 0) true (choose (eqb k 18 && eqb j 2) true (choose (eqb k 25 && eqb j 1) true
    (choose (eqb k 21 && eqb j 4) true (choose (eqb k 29 && eqb j 5) true (eqb k 7 && eqb j 6)))))

AlikeRows : ℕ → ℕ → Type 0
AlikeRows k j = get_or literal j unallocated ≡ get_or unsigned_immediate k unallocated

alike_is : (k j : ℕ) → alike k j ≡ true → AlikeRows k j
unfolding AlikeRows
alike_is k j =
    split If (eqb k 17 && eqb j 0) true _ (λ h e. at 17 0 h refl) (λ n. split If (eqb k 18 && eqb j 2) true _ (λ h e. at 18 2 h refl)
    (λ n. split If (eqb k 25 && eqb j 1) true _ (λ h e. at 25 1 h refl) (λ n. split If (eqb k 21 && eqb j 4) true _ (λ h e. at 21 4 h refl)
    (λ n. split If (eqb k 29 && eqb j 5) true _ (λ h e. at 29 5 h refl) (λ n e. at 7 6 e refl)))))
  where
    If : Bool → Type 0
    If t = t ≡ true → AlikeRows k j

    at : (a b : ℕ) → (eqb k a && eqb j b) ≡ true → AlikeRows a b → AlikeRows k j
    at a b e q = let h = both (eqb k a) (eqb j b) e in rw (eqb-true k a h.0, eqb-true j b h.1) q

-- whether the literal form of a cell, if it has one, is alike
abbrev alike_at : ℕ → ℕ → ℕ → Bool
alike_at size v opc =
    choose (leb 4 (moved_by (row_of size v opc)) && not (is_store (row_of size v opc)))
    (alike (size * 8 + v * 4 + opc)
    (literal_v (moved_by (row_of size v opc)) (eqb v 1) * 4 + literal_opc (moved_by (row_of size v opc)) (eqb v 1) (is_ldrsw (row_of size v opc))))
    true

alike-cell : (size v opc : ℕ) → size < 4 → v < 2 → opc < 4 → (leb 4 (moved_by (row_of size v opc)) && not (is_store (row_of size v opc))) ≡ true
    → literal_row_of (literal_opc (moved_by (row_of size v opc)) (eqb v 1) (is_ldrsw (row_of size v opc))) (literal_v (moved_by (row_of size v opc)) (eqb v 1))
    ≡ row_of size v opc
unfolding row_of literal_row_of every choose literal_opc literal_v AlikeRows
alike-cell size v opc hs hv ho h =
    alike_is (size * 8 + v * 4 + opc)
    (literal_v (moved_by (row_of size v opc)) (eqb v 1) * 4 + literal_opc (moved_by (row_of size v opc)) (eqb v 1) (is_ldrsw (row_of size v opc)))
    (sym (choose-true (leb 4 (moved_by (row_of size v opc)) && not (is_store (row_of size v opc))) _ true h) ∙ each-cell alike_at refl size v opc hs hv ho)

-- and it loads what the load loaded: both rows have the same mnemonic, registers, bytes and widening
pub literal-row : (w size v opc rt rn imm12 : ℕ) (l : L.LoadStore) → decode w ≡ instruction (LDST size v opc rt rn imm12)
    → load_store_of w ≡ Some l → has_literal_form l ≡ true
    → literal_row_of (literal_opc l.size l.is_float l.is_ldrsw) (literal_v l.size l.is_float) ≡ row_of size v opc
unfolding has_literal_form
literal-row w size v opc rt rn imm12 l e f h =
    let r = decode-in-range w (LDST size v opc rt rn imm12) e in
    let g : load_store_from w v rt rn imm12 (row_of size v opc) ≡ l = cc (decodes-load-store w size v opc rt rn imm12 e, f) in
    subst (λ (l : L.LoadStore). literal_row_of (literal_opc l.size l.is_float l.is_ldrsw) (literal_v l.size l.is_float) ≡ row_of size v opc) g
    (alike-cell size v opc r.0 r.1 r.2 (ap has_literal_form g ∙ h))
