-- Encoding and decoding undo each other: by the laws of filled diagrams, and since no word matches two diagrams.
use mathlib.Core.Logic.{◌≢◌}
use mathlib.Core.Path.{◌≡◌, refl, sym, ap, ◌∙◌, subst}
use mathlib.Core.Bool.{Bool, true, false, ◌||◌, not, false≢true}
use mathlib.Core.List.{[], ◌∷◌}
use Prim.Native.Nat.{ℕ, zero, suc, ◌+◌, ◌*◌, ◌/◌, ◌%◌, ◌^◌, ◌<◌}
use native.Mathlib.Nat.{mod-lt, div-one}
use native.Mathlib.Omega.{arith}
use borrow.Author.Tests.{eqb-true, ne_eqb, not-true}
use lib.Dec.{eqb, lit<}
use lib.ListN.{get_or}
use lib.Pow.{pow_pos}
use lib.Pow as Pow
use Rattle.util.specs.Choice.{choose}
use Rattle.util.specs.Bits.{field}
use Rattle.util.specs.Diagram.{matches, sound, fill}
use Rattle.util.proofs.Choice.{split, choose-true, choose-false}
use Rattle.util.proofs.Below.{every, every-at}
use Rattle.util.proofs.Diagram.{Room, free_at, width, matches-fill, free-fill, fill-free, fill-lt}
use Rattle.arm64_insn.specs.Encoding.{adr, adrp, add_immediate, load_store, load_literal, branch, br, nop, movz}
use Rattle.arm64_insn.specs.LoadStoreTable.{Mnemonic, Row, load, store, prefetch, unallocated, unsigned_immediate, literal}
use Rattle.arm64_insn.specs.LoadStoreTable.{row_of, literal_row_of, moves, is_allocated}
use Rattle.arm64_insn.specs.Manual.{Insn, ADR, ADRP, ADD, LDST, PRFM, LDR-literal, B, BL, BR, NOP, MOVZ, Decoded, instruction, none}
use Rattle.arm64_insn.specs.Manual.{diagram_of, fields_of, encode, has_half, InRange, load_store_form, branch_form, classes, decode, allocated}
use Rattle.arm64_insn.specs.Manual.{rd_in, rn_in, imm12_in, imm19_in, imm21_in, imm26_in, hw_in, opc_in, v_in, size_in, sf_in, row_in}
pub use Rattle.arm64_insn.proofs.ManualClasses.{class_at, diagram_at, one_class, by-class}

-- a word has a form: it matches the form's diagram, its fields are the form's, and these are in range
pub record Has (w : ℕ) (i : Insn) : Type 0 where
  pub matched : matches (diagram_of i) w ≡ true
  pub fields : free_at (diagram_of i) 0 w ≡ fields_of i
  pub in-range : InRange i

HasForm : ℕ → Decoded → Type 0
HasForm w (instruction i) = Has w i
HasForm w none = Unit {0}

-- the one row that is a prefetch
is_prefetch : Row → Bool
is_prefetch (prefetch m) = true
is_prefetch (load m g n x) = false
is_prefetch (store m g n) = false
is_prefetch unallocated = false

one-prefetch : every (λ k. not (is_prefetch (get_or unsigned_immediate k unallocated)) || eqb k 26) 32 ≡ true
unfolding every choose is_prefetch
one-prefetch = refl

pub prefetch-at : (size v opc : ℕ) {m : Mnemonic} → size < 4 → v < 2 → opc < 4 → row_of size v opc ≡ prefetch m
    → (opc ≡ 2) × (v ≡ 0) × (size ≡ 3)
unfolding is_prefetch row_of
prefetch-at size v opc hs hv ho q =
    let k : ℕ = size * 8 + v * 4 + opc in
    let u = every-at (λ k. not (is_prefetch (get_or unsigned_immediate k unallocated)) || eqb k 26) 32 one-prefetch k (omega arith) in
    let e : k ≡ 26 = eqb-true k 26 (rw q at u) in
    omega arith

module _ (w : ℕ) where
  lt : (lo n : ℕ) → field w lo n < 2 ^ n
  lt lo n = mod-lt (w / 2 ^ lo) (pow_pos n)

  immediate : rd_in w ∷ imm19_in w ∷ field w 29 2 ∷ [] ≡ rd_in w ∷ imm21_in w / 2 ^ 2 ∷ imm21_in w % 2 ^ 2 ∷ []
  immediate =
      let a : imm21_in w / 2 ^ 2 ≡ imm19_in w = omega arith in
      let b : imm21_in w % 2 ^ 2 ≡ field w 29 2 = omega arith in
      cc

  has-load-store : (r : Row) → row_in w ≡ r → matches load_store w ≡ true → HasForm w (load_store_form r w)
  unfolding HasForm
  has-load-store (load m g n x) q e =
      record { matched = e; fields = refl; in-range = (lt 30 2, lt 26 1, lt 22 2, lt 0 5, lt 5 5, lt 10 12, ap moves q) }
  has-load-store (store m g n) q e =
      record { matched = e; fields = refl; in-range = (lt 30 2, lt 26 1, lt 22 2, lt 0 5, lt 5 5, lt 10 12, ap moves q) }
  has-load-store (prefetch m) q e =
      let p = prefetch-at (size_in w) (v_in w) (opc_in w) (lt 30 2) (lt 26 1) (lt 22 2) q in
      record { matched = e; fields = cc (p.0, p.1, p.2); in-range = omega arith }
  has-load-store unallocated q e = tt

  has-branch : (op : ℕ) → sf_in w ≡ op → matches branch w ≡ true → Has w (branch_form op (imm26_in w))
  has-branch zero q e = record { matched = e; fields = cc; in-range = omega arith }
  has-branch (suc op) q e = let p : sf_in w ≡ 1 = omega arith in record { matched = e; fields = cc; in-range = omega arith }

  has-literal : matches load_literal w ≡ true → HasForm w ((class_at classes 4).form_of w)
  unfolding HasForm
  has-literal e =
      split (HasForm w) (moves (literal_row_of (size_in w) (v_in w))) _ _
      (λ m. record { matched = e; fields = refl; in-range = (lt 30 2, lt 26 1, lt 0 5, lt 5 19, m) }) (λ m. tt)

  has-movz : matches movz w ≡ true → HasForm w ((class_at classes 8).form_of w)
  unfolding HasForm
  has-movz e =
      split (HasForm w) (has_half (sf_in w) (hw_in w)) _ _
      (λ m. record { matched = e; fields = refl; in-range = (lt 31 1, lt 21 2, lt 0 5, lt 5 16, m) }) (λ m. tt)

  has : HasForm w (decode w)
  unfolding decode HasForm
  has =
      split (HasForm w) (matches adr w) _ _ (λ e. record { matched = e; fields = immediate; in-range = omega arith }) (λ _.
      split (HasForm w) (matches adrp w) _ _ (λ e. record { matched = e; fields = immediate; in-range = omega arith }) (λ _.
      split (HasForm w) (matches add_immediate w) _ _ (λ e. record { matched = e; fields = refl; in-range = omega arith }) (λ _.
      split (HasForm w) (matches load_store w) _ _ (λ e. has-load-store (row_in w) refl e) (λ _.
      split (HasForm w) (matches load_literal w) _ _ has-literal (λ _.
      split (HasForm w) (matches branch w) _ _ (λ e. has-branch (sf_in w) refl e) (λ _.
      split (HasForm w) (matches br w) _ _ (λ e. record { matched = e; fields = refl; in-range = omega arith }) (λ _.
      split (HasForm w) (matches nop w) _ _ (λ e. record { matched = e; fields = refl; in-range = tt }) (λ _.
      split (HasForm w) (matches movz w) _ _ has-movz (λ _. tt)))))))))

-- a word that decodes to a form has it
pub decode-has : (w : ℕ) (i : Insn) → decode w ≡ instruction i → Has w i
unfolding HasForm
decode-has w i e = subst (HasForm w) e (has w)

-- a load or store by its row
moved : (w : ℕ) (r : Row) → moves r ≡ true → load_store_form r w ≡ instruction (LDST (size_in w) (v_in w) (opc_in w) (rd_in w) (rn_in w) (imm12_in w))
moved w (load m g n x) h = refl
moved w (store m g n) h = refl
moved w (prefetch m) h = absurd (false≢true h)
moved w unallocated h = absurd (false≢true h)

-- a word that has a form decodes to it
pub has-decode : (w : ℕ) (i : Insn) → Has w i → decode w ≡ instruction i
unfolding row_of
has-decode w (ADR rd imm) h = by-class w 0 (lit< tt) h.matched ∙ cc (h.fields, Pow.split imm 2)
has-decode w (ADRP rd imm) h = by-class w 1 (lit< tt) h.matched ∙ cc (h.fields, Pow.split imm 2)
has-decode w (ADD sf sh rd rn imm) h = by-class w 2 (lit< tt) h.matched ∙ cc h.fields
has-decode w (LDST size v opc rt rn imm) h =
    let r : row_in w ≡ row_of size v opc = cc h.fields in
    by-class w 3 (lit< tt) h.matched ∙ moved w (row_in w) (ap moves r ∙ h.in-range.6) ∙ cc h.fields
has-decode w (PRFM rt rn imm) h =
    let r : row_in w ≡ row_of 0b11 0 0b10 = cc h.fields in
    by-class w 3 (lit< tt) h.matched ∙ ap (λ (r : Row). load_store_form r w) r ∙ cc h.fields
has-decode w (LDR-literal opc v rt imm) h =
    let r : literal_row_of (size_in w) (v_in w) ≡ literal_row_of opc v = cc h.fields in
    by-class w 4 (lit< tt) h.matched ∙ choose-true _ _ _ (ap moves r ∙ h.in-range.4) ∙ cc h.fields
has-decode w (B imm) h = by-class w 5 (lit< tt) h.matched ∙ cc h.fields
has-decode w (BL imm) h = by-class w 5 (lit< tt) h.matched ∙ cc h.fields
has-decode w (BR rn) h = by-class w 6 (lit< tt) h.matched ∙ cc h.fields
has-decode w NOP h = by-class w 7 (lit< tt) h.matched
has-decode w (MOVZ sf hw rd imm) h =
    let r : has_half (sf_in w) (hw_in w) ≡ has_half sf hw = cc h.fields in
    by-class w 8 (lit< tt) h.matched ∙ choose-true _ _ _ (r ∙ h.in-range.4) ∙ cc h.fields

-- a form's diagram is sound and has 32 bits
whole : (i : Insn) → (sound (diagram_of i) ≡ true) × (width (diagram_of i) ≡ 32)
whole (ADR rd imm) = (refl, refl)
whole (ADRP rd imm) = (refl, refl)
whole (ADD sf sh rd rn imm) = (refl, refl)
whole (LDST size v opc rt rn imm) = (refl, refl)
whole (PRFM rt rn imm) = (refl, refl)
whole (LDR-literal opc v rt imm) = (refl, refl)
whole (B imm) = (refl, refl)
whole (BL imm) = (refl, refl)
whole (BR rn) = (refl, refl)
whole NOP = (refl, refl)
whole (MOVZ sf hw rd imm) = (refl, refl)

-- a form in range has room in its diagram
room : (i : Insn) → InRange i → Room (diagram_of i) (fields_of i)
room (ADR rd imm) h = omega arith
room (ADRP rd imm) h = omega arith
room (ADD sf sh rd rn imm) h = omega arith
room (LDST size v opc rt rn imm) h = omega arith
room (PRFM rt rn imm) h = omega arith
room (LDR-literal opc v rt imm) h = omega arith
room (B imm) h = omega arith
room (BL imm) h = omega arith
room (BR rn) h = omega arith
room NOP h = tt
room (MOVZ sf hw rd imm) h = omega arith

-- the word of a form in range is a 32-bit word that has the form
pub encode-lt : (i : Insn) → InRange i → encode i < 2 ^ 32
encode-lt i h = rw (whole i).1 at (fill-lt (diagram_of i) (fields_of i) (whole i).0 (room i h))

pub encode-has : (i : Insn) → InRange i → Has (encode i) i
encode-has i h =
    record {
      matched = matches-fill (diagram_of i) (fields_of i) (whole i).0 (room i h);
      fields = free-fill (diagram_of i) (fields_of i) 0 (encode i) (whole i).0 (room i h) (div-one (encode i));
      in-range = h;
    }

-- a 32-bit word that has a form is the form's word
pub has-encode : (w : ℕ) (i : Insn) → w < 2 ^ 32 → Has w i → encode i ≡ w
has-encode w i l h =
    ap (fill (diagram_of i)) (sym h.fields)
    ∙ fill-free (diagram_of i) 0 w (rw div-one h.matched) (rw (div-one w, (whole i).1) l)
    ∙ div-one w

-- decoding undoes encoding
pub decode-encode : (i : Insn) → InRange i → decode (encode i) ≡ instruction i
decode-encode i h = has-decode (encode i) i (encode-has i h)

-- encoding undoes decoding
pub encode-decode : (w : ℕ) (i : Insn) → w < 2 ^ 32 → decode w ≡ instruction i → encode i ≡ w
encode-decode w i l e = has-encode w i l (decode-has w i e)

-- what a word decodes to is in range
pub decode-in-range : (w : ℕ) (i : Insn) → decode w ≡ instruction i → InRange i
decode-in-range w i e = (decode-has w i e).in-range

-- a row that moves is allocated
moves-allocated : (r : Row) → moves r ≡ true → is_allocated r ≡ true
moves-allocated (load m g n x) e = refl
moves-allocated (store m g n) e = refl
moves-allocated (prefetch m) e = refl
moves-allocated unallocated e = e

-- a choice between a form and none that is a form
chose-form : (t : Bool) (x : Decoded) (i : Insn) → choose t x none ≡ instruction i → t ≡ true
unfolding choose
chose-form true x i e = refl
chose-form false x i e = let z : ◌≡◌ {A = ℕ} 0 1 = cc in absurd (omega arith)

-- the manual has each word with a form in scope
pub decode-allocated : (w : ℕ) (i : Insn) → decode w ≡ instruction i → allocated w ≡ true
unfolding allocated
decode-allocated w i e =
    split (λ t. t ≡ true) (matches load_store w) _ _ (λ m. go (row_in w) (sym (by-class w 3 (lit< tt) m) ∙ e))
    (λ _. split (λ t. t ≡ true) (matches load_literal w) _ _
    (λ m. moves-allocated (literal_row_of (size_in w) (v_in w)) (chose-form _ _ i (sym (by-class w 4 (lit< tt) m) ∙ e)))
    (λ _. split (λ t. t ≡ true) (matches movz w) _ _ (λ m. chose-form _ _ i (sym (by-class w 8 (lit< tt) m) ∙ e)) (λ _. refl)))
  where
    go : (r : Row) → load_store_form r w ≡ instruction i → is_allocated r ≡ true
    go (load m g n x) q = refl
    go (store m g n) q = refl
    go (prefetch m) q = refl
    go unallocated q = let z : ◌≡◌ {A = ℕ} 0 1 = cc in absurd (omega arith)

-- a choice between a form and none that is none
chose_none : (t : Bool) (i : Insn) → choose t (instruction i) none ≡ none → t ≡ false
unfolding choose
chose_none true i e = let z : ◌≡◌ {A = ℕ} 0 1 = cc in absurd (omega arith)
chose_none false i e = refl

-- of the literal rows that move nothing, that of V 0 and opc 11 alone is allocated: PRFM (literal)
abbrev moves_or_gap : ℕ → Bool
moves_or_gap k = moves (get_or literal k unallocated) || (eqb k 3 || not (is_allocated (get_or literal k unallocated)))

literal-gaps : every moves_or_gap 8 ≡ true
unfolding every choose
literal-gaps = refl

-- a word of these classes without a form is unallocated, but for PRFM (literal)
module _ (w : ℕ) (e : decode w ≡ none) where
  pub load-store-unallocated : matches load_store w ≡ true → allocated w ≡ false
  unfolding allocated
  load-store-unallocated m = choose-true (matches load_store w) _ _ m ∙ go (row_in w) (sym (by-class w 3 (lit< tt) m) ∙ e)
    where
      go : (r : Row) → load_store_form r w ≡ none → is_allocated r ≡ false
      go (load m g n x) q = let z : ◌≡◌ {A = ℕ} 0 1 = cc in absurd (omega arith)
      go (store m g n) q = let z : ◌≡◌ {A = ℕ} 0 1 = cc in absurd (omega arith)
      go (prefetch m) q = let z : ◌≡◌ {A = ℕ} 0 1 = cc in absurd (omega arith)
      go unallocated q = refl

  pub literal-unallocated : matches load_literal w ≡ true → v_in w * 4 + size_in w ≢ 3 → allocated w ≡ false
  unfolding allocated literal_row_of
  literal-unallocated m n =
      let k : ℕ = v_in w * 4 + size_in w in
      let g = chose_none (moves (get_or literal k unallocated)) _ (sym (by-class w 4 (lit< tt) m) ∙ e) in
      let u = every-at moves_or_gap 8 literal-gaps k (omega arith) in
      choose-false (matches load_store w) _ _ (one_class 4 3 w (lit< tt) (lit< tt) (λ q. omega arith) m)
      ∙ choose-true (matches load_literal w) _ _ m
      ∙ not-true (is_allocated (get_or literal k unallocated)) (rw (g, ne_eqb k 3 n) at u)

  pub movz-unallocated : matches movz w ≡ true → allocated w ≡ false
  unfolding allocated
  movz-unallocated m =
      choose-false (matches load_store w) _ _ (one_class 8 3 w (lit< tt) (lit< tt) (λ q. omega arith) m)
      ∙ choose-false (matches load_literal w) _ _ (one_class 8 4 w (lit< tt) (lit< tt) (λ q. omega arith) m)
      ∙ choose-true (matches movz w) _ _ m
      ∙ chose_none (has_half (sf_in w) (hw_in w)) _ (sym (by-class w 8 (lit< tt) m) ∙ e)
