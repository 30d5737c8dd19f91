-- What a word makes and takes (RULES 7.35) by what the decoders answer, and by V and opc of a literal load. The manual's rows are one computed test each.
use Rattle.std.specs.Prelude.{Some, None}
use mathlib.Core.Path.{◌≡◌, refl, sym, ap, ◌∙◌}
use mathlib.Core.Bool.{Bool, true, false, ◌&&◌, not}
use mathlib.Core.List.{List, [], ◌∷◌}
use Prim.Native.Nat.{ℕ, ◌+◌, ◌*◌, ◌/◌, ◌%◌, ◌<◌}
use native.Mathlib.Omega.{arith}
use native.Mathlib.Nat.{div-one}
use borrow.Author.Tests.{ne_eqb}
use lib.Dec.{eqb, lit<}
use Rattle.util.specs.Choice.{choose}
use Rattle.util.specs.Bits.{field}
use Rattle.util.specs.Diagram.{matches}
use Rattle.util.proofs.Choice.{choose-first, both, and-false, agree, agree-is}
use Rattle.util.proofs.Below.{every, every-at}
use Rattle.util.proofs.Diagram.{finer, matches-fields}
use Rattle.arm64_insn.specs.Encoding.{adrp, add, add_immediate, load_store}
use Rattle.arm64_insn.specs.LoadStoreTable.{row_of, literal_row_of, moves, is_store}
use Rattle.arm64_insn.specs.Manual.{rd_in, rn_in, sf_in, sh_in, size_in, v_in, opc_in, row_in}
use Rattle.arm64_insn.specs.Adrp.{adrp_of}
use Rattle.arm64_insn.specs.LoadStore.{load_store_by, load_store_of}
use Rattle.arm64_insn.specs.Links.{loads_general, makes, takes, links31, adds31, meets31}
use Rattle.arm64_insn.specs.declared.adrp.Adrp as A
use Rattle.arm64_insn.specs.declared.ldst.LoadStore as L
use Rattle.arm64_insn.proofs.Cells.{each-cell}
use Rattle.arm64_insn.proofs.ManualClasses.{one_class}

-- a row loads a general register where it moves something, V is 0, and it is no store
loads-cell : (size v opc : ℕ) → size < 4 → v < 2 → opc < 4
    → loads_general (row_of size v opc) ≡ (moves (row_of size v opc) && (not (eqb v 1) && not (is_store (row_of size v opc))))
unfolding row_of every choose
loads-cell size v opc hs hv ho =
    agree-is _ _
    (each-cell (λ s v o. agree (loads_general (row_of s v o)) (moves (row_of s v o) && (not (eqb v 1) && not (is_store (row_of s v o))))) refl size v opc hs hv ho)

-- a literal row where V is 0 and opc is not that of the prefetch
literal-cell : (v opc : ℕ) → v < 2 → opc < 4 → loads_general (literal_row_of opc v) ≡ (eqb v 0 && not (eqb opc 3))
unfolding literal_row_of every choose
literal-cell v opc hv ho =
    let k = v * 4 + opc in
    let ev : k / 4 ≡ v = omega arith in
    let eo : k % 4 ≡ opc = omega arith in
    let right : ℕ → ℕ → Bool = λ v o. agree (loads_general (literal_row_of o v)) (eqb v 0 && not (eqb o 3)) in
    agree-is _ _ (rw (ev, eo) at (every-at (λ k. right (k / 4) (k % 4)) 8 refl k (omega arith)))

not-other : (l : L.LoadStore) → None ≡ Some l → ⊥
not-other l e = let z : ◌≡◌ {A = ℕ} 0 1 = cc in omega arith

exchanged : (a b : Bool) → (b && (a && true)) ≡ (a && b)
exchanged true true = refl
exchanged true false = refl
exchanged false true = refl
exchanged false false = refl

module _ (w : ℕ) where
  -- of the class of ADDs the decoder's are those of 64 bits, unshifted
  pub add-test : matches add_immediate w ≡ true → (eqb (sf_in w) 1 && eqb (sh_in w) 0) ≡ matches add w
  add-test m =
      let s : Bool = eqb (field w 29 1) 0 in
      let o : Bool = eqb (field w 30 1) 0 in
      let a = both (eqb (field w 23 6) 0b100010) (s && (o && true)) (sym (matches-fields add_immediate w) ∙ m) in
      let b = both s (o && true) a.1 in
      let c = both o true b.1 in
      sym (rw (matches-fields add w, a.0, b.0, c.0) (exchanged (eqb (sf_in w) 1) (eqb (sh_in w) 0)))

  -- no other word is one
  pub no_add : matches add_immediate w ≡ false → matches add w ≡ false
  no_add n = go (matches add w) refl
    where
      go : (t : Bool) → matches add w ≡ t → t ≡ false
      go true e = sym (finer add_immediate add w refl refl refl refl e) ∙ n
      go false e = refl

  -- of a literal load
  pub literal-loads : loads_general (literal_row_of (size_in w) (v_in w)) ≡ (eqb (v_in w) 0 && not (eqb (size_in w) 3))
  literal-loads = literal-cell (v_in w) (size_in w) (omega arith) (omega arith)

  -- of a decoded load or store
  pub access-loads : (l : L.LoadStore) → load_store_of w ≡ Some l
      → (matches load_store w ≡ true) × (moves (row_in w) ≡ true) × (loads_general (row_in w) ≡ (not l.is_float && not l.is_store))
  unfolding load_store_of
  access-loads l e =
      let q = choose-first (matches load_store w) (load_store_by (row_in w) w) None (Some l) e (not-other l) in
      let m = choose-first (moves (row_in w)) _ None (Some l) q.1 (not-other l) in
      let v : eqb (v_in w) 1 ≡ l.is_float = cc m.1 in
      let s : is_store (row_in w) ≡ l.is_store = cc m.1 in
      (q.0, m.0, rw (m.0, v, s) at (loads-cell (size_in w) (v_in w) (opc_in w) (omega arith) (omega arith) (omega arith)))

  -- a word that is decoded as neither moves nothing
  pub no_access : load_store_of w ≡ None → (matches load_store w && moves (row_in w)) ≡ false
  unfolding load_store_of choose
  no_access e = go (matches load_store w) (moves (row_in w)) _ e
    where
      go : (t m : Bool) (l : L.LoadStore) → choose t (choose m (Some l) None) None ≡ None
          → (t && m) ≡ false
      go true true l e = absurd (not-other l (sym e))
      go true false l e = refl
      go false m l e = refl

  -- nor does it load
  pub no-load : load_store_of w ≡ None → (matches load_store w && loads_general (row_in w)) ≡ false
  no-load e =
      go (matches load_store w) (moves (row_in w)) _ _ (no_access e) (loads-cell (size_in w) (v_in w) (opc_in w) (omega arith) (omega arith) (omega arith))
    where
      go : (t m x y : Bool) → (t && m) ≡ false → x ≡ (m && y) → (t && x) ≡ false
      go true m x y e f = f ∙ ap (λ (b : Bool). b && y) e
      go false m x y e f = refl

  -- a word whose lowest five bits are not 31 does not make it
  pub makes-other : (w % 32 ≡ 31 → ⊥) → (u : ℕ) → (links31 w u ≡ false) × (adds31 w ≡ false)
  unfolding links31 makes adds31
  makes-other n u = let e = ne_eqb 31 (w % 32) (λ q. n (sym q)) in (rw (div-one, e), rw (div-one, e))

  -- and the words after it alone decide
  pub meets-other : (w % 32 ≡ 31 → ⊥) → (us : List ℕ) → meets31 (w ∷ us) ≡ meets31 us
  meets-other n [] = (makes-other n 0).1
  meets-other n (u ∷ us) = let m = makes-other n u in rw (m.0, m.1)

  -- an ADRP takes no register, and is no ADD
  pub adrp-takes : {a : A.Adrp} → adrp_of w ≡ Some a → (u : ℕ) → (links31 u w ≡ false) × (adds31 w ≡ false)
  unfolding links31 takes adds31 adrp_of
  adrp-takes {a} e u =
      let m = (choose-first (matches adrp w) _ None (Some a) e (λ f. let z : ◌≡◌ {A = ℕ} 0 1 = cc in omega arith)).0 in
      let d = no_add (one_class 1 2 w (lit< tt) (lit< tt) (λ q. omega arith) m) in
      let l = one_class 1 3 w (lit< tt) (lit< tt) (λ q. omega arith) m in
      let none : (eqb 31 (rn_in w) && false) ≡ false = and-false (eqb 31 (rn_in w)) in
      (rw (d, l, none) (and-false (makes u 31)), rw d (and-false (eqb 31 (rd_in w))))
