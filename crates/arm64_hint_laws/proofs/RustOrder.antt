-- What the order of fold and ADR changes (RULES 8.18, 8.20): a hint that both fit is folded where the Rust's order has the ADR, which is another word
-- at place 0, and every other hint of the two kinds is decided as in the Rust's order, where number 31 does not bar it. By a walk through both
-- definitions: each test by cases.
use Rattle.std.specs.Prelude.{Result, Ok, Err, Option, Some, None}
use mathlib.Core.Path.{◌≡◌, refl, sym, ap, subst, ◌∙◌}
use mathlib.Core.Logic.{◌⊎◌, inl, inr, ⊎_elim}
use mathlib.Core.Bool.{Bool, true, false}
use Prim.Native.Nat.{ℕ, ◌+◌, ◌%◌, ◌^◌, ◌<◌}
use native.Mathlib.Omega.{arith}
use borrow.Author.Tests.{eq-eqb, lt-ltb, eqb-true}
use lib.Dec.{eqb}
use Rattle.util.specs.Choice.{choose}
use Rattle.util.specs.Wrap.{in_range}
use Rattle.util.proofs.Choice.{split, choose-true, choose-false, both}
use Rattle.macho.specs.Hint.{word_count}
use Rattle.macho.specs.Types.{MCLOH_AdrpAddLdr, MCLOH_AdrpAddStr}
use Rattle.arm64_insn.specs.LoadStoreTable.{row_of}
use Rattle.arm64_insn.specs.Links.{makes, takes, links31, adds31}
use Rattle.arm64_insn.specs.Page.{page_of, adrp_page}
use Rattle.arm64_insn.specs.Reach.{within1mb}
use Rattle.arm64_insn.specs.Adrp.{adrp_of, adr_word}
use Rattle.arm64_insn.specs.Add.{add_of}
use Rattle.arm64_insn.specs.LoadStore.{load_store_of}
use Rattle.arm64_insn.specs.Literal.{has_literal_form, base_word}
use Rattle.arm64_insn.specs.declared.add.Add.{Add}
use Rattle.arm64_insn.specs.declared.ldst.LoadStore.{LoadStore}
use Rattle.arm64_insn.proofs.Decoded.{decoded-add, decoded-load-store}
use Rattle.arm64_insn.proofs.Decodes.{adrp-decodes}
use Rattle.arm64_insn.proofs.Encodes.{adr-made}
use Rattle.arm64_insn.proofs.Offsets.{page-sum}
use Rattle.arm64_hint_terms.specs.Answer.{sum_of, summed, fits_literal}
use Rattle.arm64_hint_terms.specs.Plans.{literal_third, adr_third, folded}
use Rattle.arm64_hint_terms.specs.Rels.{is_page_rel, is_pageoff_rel, same_reference, is_absent, has_page_pair}
use Rattle.arm64_hint_terms.specs.declared.answer.Insns.{Insns}
use Rattle.arm64_hint_terms.specs.declared.answer.NoRewrite.{NoRewrite}
use Rattle.arm64_hint_terms.specs.declared.answer.NoRewrite.TheVariants.{Declined, Nine}
use Rattle.arm64_hint_terms.specs.declared.answer.Plan.{Plan}
use Rattle.arm64_hint_terms.specs.declared.answer.Rewrite.TheVariants.{Adr, Fold}
use Rattle.arm64_hint_terms.specs.declared.rels.Rels.{Rels}
use Rattle.arm64_hint_terms.proofs.Ways.{never, sum_is}
use Rattle.arm64_hint_adrp.specs.Three.{add_access, through, folds, fold_third, fold_or_adr, load_through}
use Rattle.arm64_hint_adrp.specs.Three.{adrp_add_ldr_with, adrp_add_ldr, adrp_add_str_with, adrp_add_str}
use Rattle.arm64_hint_adrp.proofs.Adds.{Adds, adds}
use Rattle.arm64_hint_laws.specs.Decide.{by_rule, bars31, decide}
use Rattle.arm64_hint_laws.specs.RustOrder.{adr_or_fold, ldr_in_rust_order, str_in_rust_order, in_rust_order, BothFit}
use Rattle.arm64_hint_laws.specs.RustOrder.{halves, through8, MovedExamples}
use Rattle.arm64_hint_laws.specs.Written.{ThirdAccess}
use Rattle.arm64_hint_laws.proofs.Number31.{else_same}

-- ---- a hint that both fit

-- the rules of the two kinds, in either order
ldr-rules : (s : Insns) (r : Rels) → (by_rule MCLOH_AdrpAddLdr s r ≡ adrp_add_ldr_with s (through s (has_page_pair r 3 false)))
    × (in_rust_order MCLOH_AdrpAddLdr s r ≡ ldr_in_rust_order s (through s (has_page_pair r 3 false)))
unfolding by_rule in_rust_order adrp_add_ldr choose
ldr-rules s r = (refl, refl)

str-rules : (s : Insns) (r : Rels) → (by_rule MCLOH_AdrpAddStr s r ≡ adrp_add_str_with s (through s (has_page_pair r 3 false)))
    × (in_rust_order MCLOH_AdrpAddStr s r ≡ str_in_rust_order s (through s (has_page_pair r 3 false)))
unfolding by_rule in_rust_order adrp_add_str choose
str-rules s r = (refl, refl)

module _ (s : Insns) (r : Rels) (d : Add) (addr : ℕ) (ls : LoadStore) (w : ThirdAccess s d addr ls addr) where
  below : addr < 2 ^ 64
  below =
      let t = w.through in
      omega (arith, t.made, page-sum t.adrp.imm s.p0 d.imm (decoded-add s.w1 d t.second).immediate)

  -- what the words make
  makes-at : through s true ≡ Ok (addr, d, ls)
  unfolding through add_access sum_of choose
  makes-at =
      let t = w.through in
      rw (
        t.first,
        t.second,
        w.third,
        eq-eqb d.rn t.adrp.rd t.source,
        eq-eqb ls.base d.rd w.base,
        ← t.made,
        lt-ltb addr (2 ^ 64) below,
      )

  -- what the access reaches
  reaches : sum_of addr ls.offset ≡ Some addr
  unfolding sum_of choose
  reaches = rw (← w.reached, lt-ltb addr (2 ^ 64) below)

  module _ (pair : has_page_pair r 3 false ≡ true) (z : ls.offset ≡ 0) (e : addr % ls.size ≡ 0) (near : within1mb s.p0 addr ≡ true) where
    folds-first : fold_or_adr s addr d ls addr ≡ folded ls d.rn d.imm
    unfolding fold_or_adr folds choose
    folds-first = rw (z, e)

    adr-first : adr_or_fold s addr d ls addr ≡ adr_third s ls addr
    unfolding adr_or_fold choose
    adr-first = rw near

    ldr-moved : fits_literal ls addr s.p2 ≡ false
        → (by_rule MCLOH_AdrpAddLdr s r ≡ folded ls d.rn d.imm) × (in_rust_order MCLOH_AdrpAddLdr s r ≡ adr_third s ls addr)
    unfolding load_through
    ldr-moved l = (
      (ldr-rules s r).0 ∙ rw (pair, makes-at, reaches, folds-first) (choose-false (fits_literal ls addr s.p2) _ _ l),
      (ldr-rules s r).1 ∙ rw (pair, makes-at, reaches, adr-first) (choose-false (fits_literal ls addr s.p2) _ _ l),
    )

    str-moved : ls.is_store ≡ true
        → (by_rule MCLOH_AdrpAddStr s r ≡ folded ls d.rn d.imm) × (in_rust_order MCLOH_AdrpAddStr s r ≡ adr_third s ls addr)
    str-moved l = (
      (str-rules s r).0 ∙ rw (pair, makes-at, reaches, folds-first) (choose-true ls.is_store _ _ l),
      (str-rules s r).1 ∙ rw (pair, makes-at, reaches, adr-first) (choose-true ls.is_store _ _ l),
    )

-- it is folded where number 31 does not bar it, and the Rust's order has the ADR
pub moved : (kind : ℕ) (s : Insns) (r : Rels) → bars31 kind s ≡ false → (f : BothFit kind s r)
    → (decide kind s r ≡ folded f.ls f.d.rn f.d.imm) × (in_rust_order kind s r ≡ adr_third s f.ls f.addr)
moved kind s r n f =
    let m = ⊎_elim (λ c. at MCLOH_AdrpAddLdr c.0 (ldr c.1)) (λ c. at MCLOH_AdrpAddStr c.0 (str c.1)) f.comes in
    (else_same kind s r n ∙ m.0, m.1)
  where
    Moves : ℕ → Type 0
    Moves k = (by_rule k s r ≡ folded f.ls f.d.rn f.d.imm) × (in_rust_order k s r ≡ adr_third s f.ls f.addr)

    at : (k : ℕ) → kind ≡ k → Moves k → Moves kind
    at k e m = subst Moves (sym e) m

    ldr : fits_literal f.ls f.addr s.p2 ≡ false → Moves MCLOH_AdrpAddLdr
    ldr = ldr-moved s r f.d f.addr f.ls f.words f.pair f.no-offset f.divides f.near

    str : f.ls.is_store ≡ true → Moves MCLOH_AdrpAddStr
    str = str-moved s r f.d f.addr f.ls f.words f.pair f.no-offset f.divides f.near

-- the ADR at place 0 is not the ADRP that the fold keeps
pub moved_word : (kind : ℕ) (s : Insns) (r : Rels) (f : BothFit kind s r) → adr_word f.ls.base f.addr s.p0 ≡ s.w0 → ⊥
moved_word kind s r f e =
    let w = f.words in
    let a = adrp-decodes s.w0 w.through.adrp w.through.first in
    let b = adr-made f.ls.base f.addr s.p0 (decoded-load-store s.w2 f.ls w.third).base-register in
    never (cc)

-- ---- every other hint

-- two tests in either order decide alike, but where both hold
either_order : (b c : Bool) (x y z : Result Plan NoRewrite) → (choose b x (choose c y z) ≡ choose c y (choose b x z)) ⊎ ((b ≡ true) × (c ≡ true))
unfolding choose
either_order true true x y z = inr (refl, refl)
either_order true false x y z = inl refl
either_order false true x y z = inl refl
either_order false false x y z = inl refl

-- as do two choices by one test, but where they come to their second ways
one-test : {Q : Type 0} (t : Bool) (x y z : Result Plan NoRewrite) → (t ≡ false → (y ≡ z) ⊎ Q) → (choose t x y ≡ choose t x z) ⊎ Q
unfolding choose
one-test true x y z f = inl refl
one-test false x y z f = f refl

-- or their first
one-test-first : {Q : Type 0} (t : Bool) (x y z : Result Plan NoRewrite) → (t ≡ true → (x ≡ y) ⊎ Q) → (choose t x z ≡ choose t y z) ⊎ Q
unfolding choose
one-test-first true x y z f = f refl
one-test-first false x y z f = inl refl

module _ (s : Insns) (r : Rels) (pair : has_page_pair r 3 false ≡ true) (d : Add) (addr : ℕ) (ls : LoadStore) (t : Adds s addr d ls) where
  -- the rule of a kind comes to the fold and the ADR, of target
  abbrev Comes : ℕ → ℕ → Type 0
  Comes kind target =
      ((kind ≡ MCLOH_AdrpAddLdr) × (fits_literal ls target s.p2 ≡ false)) ⊎ ((kind ≡ MCLOH_AdrpAddStr) × (ls.is_store ≡ true))

  last : (kind target : ℕ) → target ≡ addr + ls.offset → Comes kind target
      → (fold_or_adr s addr d ls target ≡ adr_or_fold s addr d ls target) ⊎ BothFit kind s r
  unfolding fold_or_adr adr_or_fold fold_third folds
  last kind target e c =
      ⊎_elim inl (λ b. inr (fit b.0 b.1))
      (either_order (folds addr ls) (within1mb s.p0 target) (folded ls d.rn d.imm) (adr_third s ls target) (Err Declined))
    where
      fit : folds addr ls ≡ true → within1mb s.p0 target ≡ true → BothFit kind s r
      fit f near =
          let b = both (eqb ls.offset 0) (eqb (addr % ls.size) 0) f in
          let z = eqb-true ls.offset 0 b.0 in
          let q : target ≡ addr = omega arith in
          record {
            d = d;
            addr = addr;
            ls = ls;
            pair = pair;
            words = record {
              through = record { adrp = t.adrp; first = t.first; second = t.second; source = t.source; made = t.made };
              third = t.third;
              base = t.base;
              reached = omega arith;
            };
            no-offset = z;
            divides = eqb-true (addr % ls.size) 0 b.1;
            near = subst (λ (n : ℕ). within1mb s.p0 n ≡ true) q near;
            comes = subst (Comes kind) q c;
          }

  ldr-sum : (m : Option ℕ) → sum_of addr ls.offset ≡ m
      → (summed m (load_through s addr d ls)
      ≡ summed m (λ target. choose (fits_literal ls target s.p2) (literal_third s ls target) (adr_or_fold s addr d ls target)))
      ⊎ BothFit MCLOH_AdrpAddLdr s r
  unfolding load_through
  ldr-sum None e = inl refl
  ldr-sum (Some target) e =
      one-test (fits_literal ls target s.p2) _ _ _
      (λ l. last MCLOH_AdrpAddLdr target (sum_is addr ls.offset target e).0 (inl (refl, l)))

  str-sum : ls.is_store ≡ true → (m : Option ℕ) → sum_of addr ls.offset ≡ m
      → (summed m (fold_or_adr s addr d ls) ≡ summed m (adr_or_fold s addr d ls)) ⊎ BothFit MCLOH_AdrpAddStr s r
  str-sum l None e = inl refl
  str-sum l (Some target) e = last MCLOH_AdrpAddStr target (sum_is addr ls.offset target e).0 (inr (refl, l))

module _ (s : Insns) (r : Rels) where
  ldr-with : has_page_pair r 3 false ≡ true → (x : Result (ℕ × Add × LoadStore) NoRewrite) → ((addr : ℕ) (d : Add) (ls : LoadStore) → x ≡ Ok (addr, d, ls) → Adds s addr d ls)
      → (adrp_add_ldr_with s x ≡ ldr_in_rust_order s x) ⊎ BothFit MCLOH_AdrpAddLdr s r
  ldr-with pair (Err Declined) f = inl refl
  ldr-with pair (Err Nine) f = inl refl
  ldr-with pair (Ok (addr, d, ls)) f = ldr-sum s r pair d addr ls (f addr d ls refl) (sum_of addr ls.offset) refl

  str-with : has_page_pair r 3 false ≡ true → (x : Result (ℕ × Add × LoadStore) NoRewrite) → ((addr : ℕ) (d : Add) (ls : LoadStore) → x ≡ Ok (addr, d, ls) → Adds s addr d ls)
      → (adrp_add_str_with s x ≡ str_in_rust_order s x) ⊎ BothFit MCLOH_AdrpAddStr s r
  str-with pair (Err Declined) f = inl refl
  str-with pair (Err Nine) f = inl refl
  str-with pair (Ok (addr, d, ls)) f =
      one-test-first ls.is_store _ _ (Err Declined) (λ l. str-sum s r pair d addr ls (f addr d ls refl) l (sum_of addr ls.offset) refl)

  -- by the entries' test: without a pair of entries there is nothing that the words make
  ldr-by : (p : Bool) → has_page_pair r 3 false ≡ p → (adrp_add_ldr_with s (through s p) ≡ ldr_in_rust_order s (through s p)) ⊎ BothFit MCLOH_AdrpAddLdr s r
  unfolding through choose
  ldr-by false e = inl refl
  ldr-by true e = ldr-with e (through s true) (adds s true)

  str-by : (p : Bool) → has_page_pair r 3 false ≡ p → (adrp_add_str_with s (through s p) ≡ str_in_rust_order s (through s p)) ⊎ BothFit MCLOH_AdrpAddStr s r
  unfolding through choose
  str-by false e = inl refl
  str-by true e = str-with e (through s true) (adds s true)

-- what a rule decides otherwise than in the Rust's order is a hint that both fit
by_order : (kind : ℕ) (s : Insns) (r : Rels) → (by_rule kind s r ≡ in_rust_order kind s r) ⊎ BothFit kind s r
unfolding in_rust_order
by_order kind s r =
    split Alike (eqb kind MCLOH_AdrpAddLdr) _ _ (λ e. at MCLOH_AdrpAddLdr e (ldr-rules s r) (ldr-by s r _ refl)) (λ _.
    split Alike (eqb kind MCLOH_AdrpAddStr) _ _ (λ e. at MCLOH_AdrpAddStr e (str-rules s r) (str-by s r _ refl)) (λ _.
    inl refl))
  where
    Alike : Result Plan NoRewrite → Type 0
    Alike x = (by_rule kind s r ≡ x) ⊎ BothFit kind s r

    at : (k : ℕ) {x y : Result Plan NoRewrite} → eqb kind k ≡ true → (by_rule k s r ≡ x) × (in_rust_order k s r ≡ y) → (x ≡ y) ⊎ BothFit k s r → Alike y
    at k {x} {y} e q a =
        subst (λ (n : ℕ). (by_rule n s r ≡ y) ⊎ BothFit n s r) (sym (eqb-true kind k e)) (⊎_elim (λ p. inl (q.0 ∙ p)) inr a)

-- so is what is decided otherwise, where number 31 does not bar it
pub moved-only : (kind : ℕ) (s : Insns) (r : Rels) → bars31 kind s ≡ false → (decide kind s r ≡ in_rust_order kind s r) ⊎ BothFit kind s r
moved-only kind s r n = ⊎_elim (λ e. inl (else_same kind s r n ∙ e)) inr (by_order kind s r)

-- ---- examples

-- a hint that is folded, and has the ADR in the Rust's order, is one that both fit
differs : (kind : ℕ) (s : Insns) (r : Rels) (p q : Plan) → bars31 kind s ≡ false → decide kind s r ≡ Ok p → in_rust_order kind s r ≡ Ok q
    → p.rewrite ≡ Fold → q.rewrite ≡ Adr → BothFit kind s r
differs kind s r p q n ep eq f a =
    ⊎_elim
    (λ e.
    let same : p ≡ q = cc in
    let z : Fold ≡ Adr = sym f ∙ ap (λ (p : Plan). p.rewrite) same ∙ a in
    never (cc))
    (λ f. f)
    (moved-only kind s r n)

pub moved-examples : MovedExamples
unfolding choose in_range page_of adrp_page within1mb adrp_of adr_word add_of row_of load_store_of has_literal_form base_word sum_of fits_literal is_page_rel
    is_pageoff_rel same_reference is_absent has_page_pair add_access through folds fold_or_adr load_through adrp_add_ldr adrp_add_str by_rule word_count links31 makes
    takes adds31 bars31 decide adr_or_fold in_rust_order
moved-examples = (
  (differs MCLOH_AdrpAddLdr (through8 0x39400045) halves _ _ refl refl refl refl refl, refl, refl),
  (differs MCLOH_AdrpAddLdr (through8 0xf9000045) halves _ _ refl refl refl refl refl, refl, refl),
  (differs MCLOH_AdrpAddStr (through8 0xf9000045) halves _ _ refl refl refl refl refl, refl, refl),
)
