-- Number 31 between words (RULES 7.35) in the machine's own words: what a word makes is what it writes, and what it takes is what it reads. By cases on the
-- class of the word.
use Rattle.std.specs.Prelude.{None}
use mathlib.Core.Path.{◌≡◌, refl, sym, ap, ap₂, ◌∙◌}
use mathlib.Core.Bool.{Bool, true, false, not, ◌&&◌, false≢true}
use Prim.Native.Nat.{ℕ, zero, suc}
use native.Mathlib.Omega.{arith}
use borrow.Author.Tests.{eqb-true, eqb-false, ltb-true, not-true}
use lib.Dec.{eqb, ltb}
use Rattle.util.specs.Choice.{choose}
use Rattle.util.specs.Diagram.{matches}
use Rattle.util.proofs.Choice.{split, chosen, choose-true, and-true, and-false, both}
use Rattle.arm64_insn.specs.Encoding.{adr, adrp, add, add_immediate, load_store, load_literal, branch, br, nop, movz}
use Rattle.arm64_insn.specs.LoadStoreTable.{Row, load, store, prefetch, unallocated, general, vector, literal_row_of, moves}
use Rattle.arm64_insn.specs.Manual.{Decoded, instruction, none, load_store_form, branch_form, decode}
use Rattle.arm64_insn.specs.Manual.{rd_in, rn_in, imm12_in, imm19_in, imm21_in, imm26_in, hw_in, sf_in, sh_in, size_in, v_in, row_in, has_half}
use Rattle.arm64_insn.specs.Add.{add_of}
use Rattle.arm64_insn.specs.Links.{loads_general, makes, takes, links31, adds31}
use Rattle.arm64_insn.proofs.Decodes.{add-decodes}
use Rattle.arm64_insn.proofs.Linked.{add-test, no_add}
use Rattle.arm64_insn.proofs.ManualClasses.{diagram_at, one_class}
use Rattle.arm64_machine.specs.Machine as M
use Rattle.arm64_machine.specs.Machine.{Action, action_of, action}
use Rattle.arm64_machine.specs.SameRun.{loads_to, writes_or}
use Rattle.arm64_machine.specs.Premises.{reads}
use Rattle.arm64_machine.proofs.Actions.{decoded-add}

-- the row of a word of the class of literal loads
abbrev literal_in : ℕ → Row
literal_in w = literal_row_of (size_in w) (v_in w)

-- what is to be shown of the action of a word, class by class
record EachClass (w : ℕ) (P : Action → Type 0) : Type 0 where
  of-adr : matches adr w ≡ true → P (M.adr (rd_in w) (imm21_in w))
  of-adrp : matches adrp w ≡ true → P (M.adrp (rd_in w) (imm21_in w))
  of-add : matches add_immediate w ≡ true → (eqb (sf_in w) 1 && eqb (sh_in w) 0) ≡ true → P (M.add (rd_in w) (rn_in w) (imm12_in w))
  of-other-add : matches add_immediate w ≡ true → (eqb (sf_in w) 1 && eqb (sh_in w) 0) ≡ false → P M.other
  of-access : matches load_store w ≡ true → moves (row_in w) ≡ true → P (M.access (row_in w) (rd_in w) (rn_in w) (imm12_in w))
  of-other-access : matches load_store w ≡ true → moves (row_in w) ≡ false → P M.other
  of-literal : matches load_literal w ≡ true → moves (literal_in w) ≡ true → P (M.literal (literal_in w) (rd_in w) (imm19_in w))
  of-other-literal : matches load_literal w ≡ true → moves (literal_in w) ≡ false → P M.other
  of_other : matches add_immediate w ≡ false → matches load_store w ≡ false → matches load_literal w ≡ false → matches adr w ≡ false → matches adrp w ≡ false
      → P M.other
  of-nop : matches add_immediate w ≡ false → matches load_store w ≡ false → matches load_literal w ≡ false → matches adr w ≡ false → matches adrp w ≡ false
      → P M.nop

by-class : (w : ℕ) (P : Action → Type 0) → EachClass w P → P (action w)
unfolding action decode
by-class w P c =
    split Q (matches adr w) _ _ c.of-adr (λ n0.
    split Q (matches adrp w) _ _ c.of-adrp (λ n1.
    split Q (matches add_immediate w) _ _ (λ e. split P (eqb (sf_in w) 1 && eqb (sh_in w) 0) _ M.other (c.of-add e) (c.of-other-add e)) (λ n2.
    split Q (matches load_store w) _ _ (λ e. row (row_in w) refl e) (λ n3.
    split Q (matches load_literal w) _ _ (λ e. split Q (moves (literal_in w)) _ none (c.of-literal e) (c.of-other-literal e)) (λ n4.
    let o = c.of_other n2 n3 n4 n0 n1 in
    split Q (matches branch w) _ _ (λ e. op (sf_in w) o) (λ _.
    split Q (matches br w) _ _ (λ e. o) (λ _.
    split Q (matches nop w) _ _ (λ e. c.of-nop n2 n3 n4 n0 n1) (λ _.
    split Q (matches movz w) _ _ (λ e. chosen Q (has_half (sf_in w) (hw_in w)) _ none o o) (λ _. o)))))))))
  where
    Q : Decoded → Type 0
    Q d = P (action_of d)

    op : (n : ℕ) → P M.other → Q (instruction (branch_form n (imm26_in w)))
    op zero o = o
    op (suc n) o = o

    row : (r : Row) → row_in w ≡ r → matches load_store w ≡ true → Q (load_store_form r w)
    row (load m g n x) q e = c.of-access e (ap moves q)
    row (store m g n) q e = c.of-access e (ap moves q)
    row (prefetch m) q e = c.of-other-access e (ap moves q)
    row unallocated q e = c.of-other-access e (ap moves q)

-- a load of register t
loads-is : (row : Row) (t r : ℕ) → (eqb r t && loads_general row) ≡ loads_to row t r
loads-is (load m general n g) t r = and-true (eqb r t)
loads-is (load m vector n g) t r = and-false (eqb r t)
loads-is (store m c n) t r = and-false (eqb r t)
loads-is (prefetch m) t r = and-false (eqb r t)
loads-is unallocated t r = and-false (eqb r t)

loads-none : (row : Row) → moves row ≡ false → loads_general row ≡ false
loads-none (load m c n g) e = absurd (false≢true (sym e))
loads-none (store m c n) e = refl
loads-none (prefetch m) e = refl
loads-none unallocated e = refl

module _ (w : ℕ) where
  -- a word of one class is of no other
  apart : (i j : ℕ) → (ltb i 9 && (ltb j 9 && not (eqb i j))) ≡ true → matches (diagram_at i) w ≡ true → matches (diagram_at j) w ≡ false
  apart i j t =
      let a = both (ltb i 9) (ltb j 9 && not (eqb i j)) t in
      let b = both (ltb j 9) (not (eqb i j)) a.1 in
      one_class i j w (ltb-true i 9 a.0) (ltb-true j 9 b.0) (eqb-false i j (not-true (eqb i j) b.1))

  -- what a word makes is what it writes
  pub makes-is : (r : ℕ) → makes w r ≡ writes_or false (action w) r
  unfolding makes choose
  makes-is r =
      by-class w (λ a. makes w r ≡ writes_or false a r)
      (record {
        of-adr = λ e. rw e (and-true (eqb r (rd_in w)));
        of-adrp = λ e. rw (apart 1 0 refl e, e) (and-true (eqb r (rd_in w)));
        of-add = λ e t. rw (apart 2 0 refl e, apart 2 1 refl e, ← add-test w e, t) (and-true (eqb r (rd_in w)));
        of-other-add = λ e t. rw (apart 2 0 refl e, apart 2 1 refl e, ← add-test w e, t, apart 2 4 refl e, apart 2 3 refl e) (and-false (eqb r (rd_in w)));
        of-access = λ e t. rw (apart 3 0 refl e, apart 3 1 refl e, no_add w (apart 3 2 refl e), apart 3 4 refl e, e) (loads-is (row_in w) (rd_in w) r);
        of-other-access = λ e t.
            rw (apart 3 0 refl e, apart 3 1 refl e, no_add w (apart 3 2 refl e), apart 3 4 refl e, e, loads-none (row_in w) t) (and-false (eqb r (rd_in w)));
        of-literal = λ e t. rw (apart 4 0 refl e, apart 4 1 refl e, no_add w (apart 4 2 refl e), e) (loads-is (literal_in w) (rd_in w) r);
        of-other-literal = λ e t.
            rw (apart 4 0 refl e, apart 4 1 refl e, no_add w (apart 4 2 refl e), e, loads-none (literal_in w) t) (and-false (eqb r (rd_in w)));
        of_other = λ d l t a p. rw (a, p, no_add w d, t, l) (and-false (eqb r (rd_in w)));
        of-nop = λ d l t a p. rw (a, p, no_add w d, t, l) (and-false (eqb r (rd_in w)));
      })

  -- what it takes is what it reads
  pub takes-is : (r : ℕ) → takes w r ≡ reads (action w) r
  unfolding takes
  takes-is r =
      by-class w (λ a. takes w r ≡ reads a r)
      (record {
        of-adr = λ e. rw (no_add w (apart 0 2 refl e), apart 0 3 refl e) none_read;
        of-adrp = λ e. rw (no_add w (apart 1 2 refl e), apart 1 3 refl e) none_read;
        of-add = λ e t. rw (← add-test w e, t) (and-true (eqb r (rn_in w)));
        of-other-add = λ e t. rw (← add-test w e, t, apart 2 3 refl e) none_read;
        of-access = λ e t. rw (no_add w (apart 3 2 refl e), e, t) (and-true (eqb r (rn_in w)));
        of-other-access = λ e t. rw (no_add w (apart 3 2 refl e), e, t) none_read;
        of-literal = λ e t. rw (no_add w (apart 4 2 refl e), apart 4 3 refl e) none_read;
        of-other-literal = λ e t. rw (no_add w (apart 4 2 refl e), apart 4 3 refl e) none_read;
        of_other = λ d l t a p. rw (no_add w d, l) none_read;
        of-nop = λ d l t a p. rw (no_add w d, l) none_read;
      })
    where
      none_read : (eqb r (rn_in w) && false) ≡ false
      none_read = and-false (eqb r (rn_in w))

  -- an ADD to number 31 is what it says
  pub adds-is : {e n i : ℕ} → action w ≡ M.add e n i → adds31 w ≡ eqb 31 e
  unfolding adds31
  adds-is {e} {n} {i} =
      by-class w (λ a. a ≡ M.add e n i → (eqb 31 (rd_in w) && matches add w) ≡ eqb 31 e)
      (record {
        of-adr = λ _ q. never (cc);
        of-adrp = λ _ q. never (cc);
        of-add = λ m t q. let d : rd_in w ≡ e = cc in rw (← add-test w m, t, d) (and-true (eqb 31 e));
        of-other-add = λ _ _ q. never (cc);
        of-access = λ _ _ q. never (cc);
        of-other-access = λ _ _ q. never (cc);
        of-literal = λ _ _ q. never (cc);
        of-other-literal = λ _ _ q. never (cc);
        of_other = λ _ _ _ _ _ q. never (cc);
        of-nop = λ _ _ _ _ _ q. never (cc);
      })
    where
      never : {A : Type 0} → ◌≡◌ {A = ℕ} 0 1 → A
      never z = absurd (omega arith)

  -- and there is no other
  pub adds-only : adds31 w ≡ true → (n : ℕ) × (i : ℕ) × (action w ≡ M.add 31 n i)
  unfolding adds31 add_of
  adds-only e =
      let b = both (eqb 31 (rd_in w)) (matches add w) e in
      let d = decoded-add w (add-decodes w _ (choose-true (matches add w) _ None b.1)) in
      (rn_in w, imm12_in w, d ∙ ap (λ (r : ℕ). M.add r (rn_in w) (imm12_in w)) (sym (eqb-true 31 (rd_in w) b.0)))

-- a link by number 31: what the first word writes and the next one reads
pub links-is : (w u : ℕ) → links31 w u ≡ (writes_or false (action w) 31 && reads (action u) 31)
unfolding links31
links-is w u = ap₂ (λ (s t : Bool). s && t) (makes-is w 31) (takes-is u 31)
