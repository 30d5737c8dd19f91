-- Rules by cases: to show P of what a rule decides, show it of Declined, of Nine where a sum may pass 2^64 - 1, and of each of the rule's rewrites under
-- the tests that it passed. Carried by a walk through the definitions: each test by cases, each sum above 2^64 - 1 or below 2^64.
use Rattle.std.specs.Prelude.{Result, Ok, Err, Option, Some, None}
use mathlib.Core.Path.{◌≡◌, refl, sym, subst}
use mathlib.Core.Bool.{Bool, true, false, ◌&&◌}
use Prim.Native.Nat.{ℕ, ◌+◌, ◌%◌, ◌^◌, ◌<◌}
use native.Mathlib.Omega.{arith}
use borrow.Author.Tests.{lt-ltb, ltb-true, eqb-true}
use lib.Dec.{eqb, ltb}
use Rattle.util.specs.Choice.{choose}
use Rattle.util.proofs.Choice.{split, chosen, both}
use Rattle.macho.specs.Types.{MCLOH_AdrpAdrp, MCLOH_AdrpLdr, MCLOH_AdrpAddLdr, MCLOH_AdrpLdrGotLdr}
use Rattle.macho.specs.Types.{MCLOH_AdrpAddStr, MCLOH_AdrpLdrGotStr, MCLOH_AdrpAdd, MCLOH_AdrpLdrGot}
use Rattle.arm64_insn.specs.Page.{adrp_page}
use Rattle.arm64_insn.specs.Reach.{within1mb}
use Rattle.arm64_insn.specs.Adrp.{adrp_of}
use Rattle.arm64_insn.specs.Add.{add_of}
use Rattle.arm64_insn.specs.LoadStore.{load_store_of}
use Rattle.arm64_insn.specs.Literal.{has_literal_form}
use Rattle.arm64_insn.specs.declared.adrp.Adrp.{Adrp}
use Rattle.arm64_hint_terms.specs.declared.answer.Plan.{Plan}
use Rattle.arm64_hint_terms.specs.declared.answer.NoRewrite.{NoRewrite}
use Rattle.arm64_hint_got.specs.declared.GotLoad.{GotLoad}
use Rattle.arm64_hint_terms.specs.declared.answer.NoRewrite.TheVariants.{Declined, Nine}
use Rattle.arm64_insn.specs.declared.add.Add.{Add}
use Rattle.arm64_insn.specs.declared.ldst.LoadStore.{LoadStore}
use Rattle.arm64_insn.proofs.Decoded.{decoded-add}
use Rattle.arm64_insn.proofs.Offsets.{page-whole, page-sum, literal-offset}
use Rattle.arm64_hint_terms.specs.Answer.{sum_of, summed, fits_literal}
use Rattle.arm64_hint_terms.specs.Plans.{dropped, literal_second, literal_third, adr_first, adr_third, folded}
use Rattle.arm64_hint_terms.specs.Rels.{has_page_pair, both_pages}
use Rattle.arm64_hint_adrp.specs.Two.{same_page, adrp_adrp_with, adrp_adrp, ldr_second, ldr_at_page, adrp_ldr_with, adrp_ldr, adr_to, add_at_page, adrp_add_with, adrp_add}
use Rattle.arm64_hint_adrp.specs.Three.{through, folds, fold_third, fold_or_adr, load_through, adrp_add_ldr_with, adrp_add_ldr, adrp_add_str_with, adrp_add_str}
use Rattle.arm64_hint_got.specs.Got.{got_load, adrp_ldr_got_with, adrp_ldr_got, slot_to, got_literal, fold_load, adr_or_fold_load, relaxed_to, relaxed_ldr}
use Rattle.arm64_hint_got.specs.Got.{got_ldr_by, got_ldr_with, adrp_ldr_got_ldr, relaxed_str, got_str_by, got_str_with, adrp_ldr_got_str}
use Rattle.arm64_hint_got.specs.declared.GotLoad.TheVariants.{Slot, Relaxed}
use Rattle.arm64_hint_laws.specs.Decide.{by_rule, bars31, decide}
use Rattle.arm64_hint_terms.specs.declared.answer.Insns.{Insns}
use Rattle.arm64_hint_terms.specs.declared.answer.Rewrite.{Rewrite}
use Rattle.arm64_hint_terms.specs.declared.answer.Rewrite.TheVariants as R
use Rattle.arm64_hint_terms.specs.declared.rels.Rels.{Rels}
use Rattle.arm64_hint_terms.proofs.Ways.{by-sum, fits-is}
use Rattle.arm64_hint_adrp.proofs.Adds.{Adds, adds}
use Rattle.arm64_hint_got.proofs.Loads.{Loads, Makes, Got, got, eight-bytes}

-- two ADRPs of one page into one register
pub record Pages (s : Insns) : Type 0 where
  pub a : Adrp
  pub b : Adrp
  pub first : adrp_of s.w0 ≡ Some a
  pub second : adrp_of s.w1 ≡ Some b
  pub register : a.rd ≡ b.rd
  pub page : adrp_page a.imm s.p0 ≡ adrp_page b.imm s.p1

-- ADRP, and a load of target through its register whose literal form reaches target
pub record Literal (s : Insns) (ld : LoadStore) (target : ℕ) : Type 0 where
  pub adrp : Adrp
  pub first : adrp_of s.w0 ≡ Some adrp
  pub second : load_store_of s.w1 ≡ Some ld
  pub base : ld.base ≡ adrp.rd
  pub form : has_literal_form ld ≡ true
  pub made : target ≡ adrp_page adrp.imm s.p0 + ld.offset
  pub below : target < 2 ^ 64
  pub aligned : target % 4 ≡ 0
  pub near : within1mb s.p1 target ≡ true

-- a GOT slot's load of that sort, and an access through what it loads
pub record SlotAccess (s : Insns) (ld : LoadStore) (slot : ℕ) : Type 0 where
  pub load : Literal s ld slot
  pub general : ld.is_float ≡ false
  pub loading : ld.is_store ≡ false
  pub access : LoadStore
  pub third : load_store_of s.w2 ≡ Some access
  pub base : access.base ≡ ld.reg

-- the address that an access through addr moves at
pub record Accesses (addr : ℕ) (ls : LoadStore) (target : ℕ) : Type 0 where
  pub made : target ≡ addr + ls.offset
  pub below : target < 2 ^ 64

-- the load of a GOT slot in reach
slot-literal : (s : Insns) (slot : ℕ) (ld : LoadStore) → Loads s slot ld → within1mb s.p1 slot ≡ true → Literal s ld slot
slot-literal s slot ld l near =
    let z = eight-bytes ld l.adrp.rd l.loads in
    let o = literal-offset s.w1 ld l.second z.form in
    let p = page-whole l.adrp.imm s.p0 in
    record {
      adrp = l.adrp;
      first = l.first;
      second = l.second;
      base = z.base;
      form = z.form;
      made = l.made;
      below = l.below;
      aligned = omega (arith, l.made);
      near = near;
    }

-- what is to be shown of each rewrite
module _ (s : Insns) (P : Result Plan NoRewrite → Type 0) where
  abbrev pub Drops : Type 0
  Drops = Pages s → P dropped

  abbrev pub SecondLiteral : Rewrite → Type 0
  SecondLiteral r = (ld : LoadStore) (target : ℕ) → Literal s ld target → P (literal_second r s ld target)

  abbrev pub Makes-Adr : Type 0
  Makes-Adr = (d : Add) (target : ℕ) → Makes s target d → within1mb s.p0 target ≡ true → P (adr_first s d.rd target)

  abbrev pub Slots : Type 0
  Slots = (ld : LoadStore) (slot : ℕ) → SlotAccess s ld slot → P (literal_second R.Slot s ld slot)

  abbrev pub ThirdLiteral : Type 0
  ThirdLiteral =
      (d : Add) (ls : LoadStore) (addr target : ℕ) → Adds s addr d ls → Accesses addr ls target → has_literal_form ls ≡ true → target % 4 ≡ 0
      → within1mb s.p2 target ≡ true → P (literal_third s ls target)

  abbrev pub ThirdAdr : Type 0
  ThirdAdr =
      (d : Add) (ls : LoadStore) (addr target : ℕ) → Adds s addr d ls → Accesses addr ls target → within1mb s.p0 target ≡ true
      → P (adr_third s ls target)

  abbrev pub KeptAdr : Type 0
  KeptAdr = (d : Add) (ls : LoadStore) (addr : ℕ) → Adds s addr d ls → within1mb s.p0 addr ≡ true → P (adr_first s ls.base addr)

  abbrev pub Folds : Type 0
  Folds =
      (d : Add) (ls : LoadStore) (addr offset : ℕ) → Adds s addr d ls → offset ≡ d.imm + ls.offset → offset < 4096 → addr % ls.size ≡ 0
      → P (folded ls d.rn offset)

-- what a page and a page offset make does not pass 2^64 - 1
in-page : (P : Result Plan NoRewrite → Type 0) (imm pc k : ℕ) (f : ℕ → Result Plan NoRewrite) → k < 4096 → ((n : ℕ) → n ≡ adrp_page imm pc + k → n < 2 ^ 64 → P (f n))
    → P (summed (sum_of (adrp_page imm pc) k) f)
unfolding sum_of choose
in-page P imm pc k f h g =
    let lt = page-sum imm pc k h in
    rw (lt-ltb (adrp_page imm pc + k) (2 ^ 64) lt) (g (adrp_page imm pc + k) refl lt)

module _ (s : Insns) (P : Result Plan NoRewrite → Type 0) (declined : P (Err Declined)) where
  -- ADRP_ADRP
  module _ (drops : Drops s P) where
    same-page : (a b : Adrp) → adrp_of s.w0 ≡ Some a → adrp_of s.w1 ≡ Some b → P (same_page s a b)
    unfolding same_page
    same-page a b ea eb =
        let p = eqb (adrp_page a.imm s.p0) (adrp_page b.imm s.p1) in
        split P (eqb a.rd b.rd && p) dropped (Err Declined)
        (λ e.
        let f = both (eqb a.rd b.rd) p e in
        drops
        (record {
          a = a;
          b = b;
          first = ea;
          second = eb;
          register = eqb-true a.rd b.rd f.0;
          page = eqb-true (adrp_page a.imm s.p0) (adrp_page b.imm s.p1) f.1;
        }))
        (λ e. declined)

    adrp-adrp-with : (x y : Option Adrp) → adrp_of s.w0 ≡ x → adrp_of s.w1 ≡ y → P (adrp_adrp_with s x y)
    adrp-adrp-with None y ex ey = declined
    adrp-adrp-with (Some a) None ex ey = declined
    adrp-adrp-with (Some a) (Some b) ex ey = same-page a b ex ey

    pub adrp-adrp : (pages : Bool) → P (adrp_adrp s pages)
    unfolding adrp_adrp
    adrp-adrp pages = chosen P pages _ (Err Declined) (adrp-adrp-with (adrp_of s.w0) (adrp_of s.w1) refl refl) declined

  -- ADRP_LDR
  module _ (nine : P (Err Nine)) (literal : SecondLiteral s P R.Literal) where
    ldr-at-page : (a : Adrp) (ld : LoadStore) → adrp_of s.w0 ≡ Some a → load_store_of s.w1 ≡ Some ld → P (ldr_at_page s a ld)
    unfolding ldr_at_page ldr_second
    ldr-at-page a ld ea el =
        split P (eqb ld.base a.rd) _ (Err Declined)
        (λ b.
        by-sum P (adrp_page a.imm s.p0) ld.offset (ldr_second s ld) nine
        (λ target e lt.
        split P (fits_literal ld target s.p1) (literal_second R.Literal s ld target) (Err Declined)
        (λ t.
        let f = fits-is ld target s.p1 t in
        literal ld target
        (record {
          adrp = a;
          first = ea;
          second = el;
          base = eqb-true ld.base a.rd b;
          form = f.0;
          made = e;
          below = lt;
          aligned = f.1;
          near = f.2;
        }))
        (λ t. declined)))
        (λ b. declined)

    adrp-ldr-with : (x : Option Adrp) (y : Option LoadStore) → adrp_of s.w0 ≡ x → load_store_of s.w1 ≡ y → P (adrp_ldr_with s x y)
    adrp-ldr-with None y ex ey = declined
    adrp-ldr-with (Some a) None ex ey = declined
    adrp-ldr-with (Some a) (Some ld) ex ey = ldr-at-page a ld ex ey

    pub adrp-ldr : (pair : Bool) → P (adrp_ldr s pair)
    unfolding adrp_ldr
    adrp-ldr pair = chosen P pair _ (Err Declined) (adrp-ldr-with (adrp_of s.w0) (load_store_of s.w1) refl refl) declined

  -- ADRP_ADD: its sum is of a page and a page offset
  module _ (adr : Makes-Adr s P) where
    adr-to : (target : ℕ) (d : Add) → Makes s target d → P (adr_to s d.rd target)
    unfolding adr_to
    adr-to target d m = split P (within1mb s.p0 target) _ (Err Declined) (λ near. adr d target m near) (λ near. declined)

    add-at-page : (a : Adrp) (d : Add) → adrp_of s.w0 ≡ Some a → add_of s.w1 ≡ Some d → P (add_at_page s a d)
    unfolding add_at_page
    add-at-page a d ea ed =
        split P (eqb d.rn a.rd) _ (Err Declined)
        (λ b.
        in-page P a.imm s.p0 d.imm (adr_to s d.rd) (decoded-add s.w1 d ed).immediate
        (λ target e lt.
        adr-to target d (record { adrp = a; first = ea; second = ed; source = eqb-true d.rn a.rd b; made = e; below = lt })))
        (λ b. declined)

    adrp-add-with : (x : Option Adrp) (y : Option Add) → adrp_of s.w0 ≡ x → add_of s.w1 ≡ y → P (adrp_add_with s x y)
    adrp-add-with None y ex ey = declined
    adrp-add-with (Some a) None ex ey = declined
    adrp-add-with (Some a) (Some d) ex ey = add-at-page a d ex ey

    pub adrp-add : (pair : Bool) → P (adrp_add s pair)
    unfolding adrp_add
    adrp-add pair = chosen P pair _ (Err Declined) (adrp-add-with (adrp_of s.w0) (add_of s.w1) refl refl) declined

    -- ADRP_LDR_GOT
    module _ (nine : P (Err Nine)) (slot : SecondLiteral s P R.Slot) where
      adrp-ldr-got-with : (g : Result GotLoad NoRewrite) → Got s g → P (adrp_ldr_got_with s g)
      adrp-ldr-got-with (Err Declined) h = declined
      adrp-ldr-got-with (Err Nine) h = nine
      adrp-ldr-got-with (Ok (Slot at ld)) l =
          split P (within1mb s.p1 at) _ (Err Declined) (λ near. slot ld at (slot-literal s at ld l near)) (λ near. declined)
      adrp-ldr-got-with (Ok (Relaxed target d)) m = adr-to target d m

      pub adrp-ldr-got : (pair : Bool) → P (adrp_ldr_got s pair)
      unfolding adrp_ldr_got
      adrp-ldr-got pair = adrp-ldr-got-with (got_load s pair) (got s pair)

  -- ADRP, ADD and an access: the fold
  module _ (fold : Folds s P) (d : Add) (ls : LoadStore) (addr : ℕ) (t : Adds s addr d ls) where
    fold-fits : folds addr ls ≡ true → P (folded ls d.rn d.imm)
    unfolding folds
    fold-fits e =
        let f = both (eqb ls.offset 0) (eqb (addr % ls.size) 0) e in
        let z : d.imm ≡ d.imm + ls.offset = omega (arith, eqb-true ls.offset 0 f.0) in
        fold d ls addr d.imm t z (decoded-add s.w1 d t.second).immediate (eqb-true (addr % ls.size) 0 f.1)

    fold-third : P (fold_third addr d ls)
    unfolding fold_third
    fold-third = split P (folds addr ls) _ (Err Declined) fold-fits (λ e. declined)

    fold-load : P (fold_load addr d ls)
    unfolding fold_load
    fold-load =
        split P (eqb (addr % ls.size) 0 && ltb (d.imm + ls.offset) 4096) _ (Err Declined)
        (λ e.
        let f = both (eqb (addr % ls.size) 0) (ltb (d.imm + ls.offset) 4096) e in
        fold d ls addr (d.imm + ls.offset) t refl (ltb-true (d.imm + ls.offset) 4096 f.1) (eqb-true (addr % ls.size) 0 f.0))
        (λ e. declined)

  -- ADRP_ADD_LDR and ADRP_ADD_STR
  module _ (nine : P (Err Nine)) (fold : Folds s P) (adr : ThirdAdr s P) where
    fold-or-adr : (d : Add) (ls : LoadStore) (addr : ℕ) → Adds s addr d ls → (target : ℕ) → target ≡ addr + ls.offset → target < 2 ^ 64
        → P (fold_or_adr s addr d ls target)
    unfolding fold_or_adr
    fold-or-adr d ls addr t target e lt =
        split P (folds addr ls) _ _ (fold-fits fold d ls addr t)
        (λ _.
        split P (within1mb s.p0 target) _ (Err Declined)
        (λ near. adr d ls addr target t (record { made = e; below = lt }) near)
        (λ near. declined))

    adrp-add-str-with : (x : Result (ℕ × Add × LoadStore) NoRewrite) → ((addr : ℕ) (d : Add) (ls : LoadStore) → x ≡ Ok (addr, d, ls) → Adds s addr d ls) → P (adrp_add_str_with s x)
    adrp-add-str-with (Err Declined) f = declined
    adrp-add-str-with (Err Nine) f = nine
    adrp-add-str-with (Ok (addr, d, st)) f =
        chosen P st.is_store _ (Err Declined)
        (by-sum P addr st.offset (fold_or_adr s addr d st) nine (fold-or-adr d st addr (f addr d st refl)))
        declined

    pub adrp-add-str : (pair : Bool) → P (adrp_add_str s pair)
    unfolding adrp_add_str
    adrp-add-str pair = adrp-add-str-with (through s pair) (adds s pair)

    module _ (literal : ThirdLiteral s P) where
      load-through : (d : Add) (ls : LoadStore) (addr : ℕ) → Adds s addr d ls → (target : ℕ) → target ≡ addr + ls.offset → target < 2 ^ 64
          → P (load_through s addr d ls target)
      unfolding load_through
      load-through d ls addr t target e lt =
          split P (fits_literal ls target s.p2) _ _
          (λ g.
          let f = fits-is ls target s.p2 g in
          literal d ls addr target t (record { made = e; below = lt }) f.0 f.1 f.2)
          (λ g. fold-or-adr d ls addr t target e lt)

      adrp-add-ldr-with : (x : Result (ℕ × Add × LoadStore) NoRewrite) → ((addr : ℕ) (d : Add) (ls : LoadStore) → x ≡ Ok (addr, d, ls) → Adds s addr d ls) → P (adrp_add_ldr_with s x)
      adrp-add-ldr-with (Err Declined) f = declined
      adrp-add-ldr-with (Err Nine) f = nine
      adrp-add-ldr-with (Ok (addr, d, ld)) f =
          by-sum P addr ld.offset (load_through s addr d ld) nine (load-through d ld addr (f addr d ld refl))

      pub adrp-add-ldr : (pair : Bool) → P (adrp_add_ldr s pair)
      unfolding adrp_add_ldr
      adrp-add-ldr pair = adrp-add-ldr-with (through s pair) (adds s pair)

  -- ADRP_LDR_GOT_LDR and ADRP_LDR_GOT_STR
  module _ (nine : P (Err Nine)) (fold : Folds s P) (adr : KeptAdr s P) (slot : Slots s P) where
    got-literal : (ls : LoadStore) → load_store_of s.w2 ≡ Some ls → (at : ℕ) (ld : LoadStore) → Loads s at ld → P (got_literal s at ld ls)
    unfolding got_literal slot_to
    got-literal ls ez at ld l =
        by-sum P at ls.offset (slot_to s at ld ls) nine
        (λ end e lt.
        let t = eqb ls.base ld.reg && eqb (end % 4) 0 in
        split P (t && within1mb s.p1 end && within1mb s.p1 at) _ (Err Declined)
        (λ g.
        let f = both (t && within1mb s.p1 end) (within1mb s.p1 at) g in
        let h = both (eqb ls.base ld.reg) (eqb (end % 4) 0) (both t (within1mb s.p1 end) f.0).0 in
        let z = eight-bytes ld l.adrp.rd l.loads in
        slot ld at
        (record {
          load = slot-literal s at ld l f.1;
          general = z.general;
          loading = z.loading;
          access = ls;
          third = ez;
          base = eqb-true ls.base ld.reg h.0;
        }))
        (λ g. declined))

    -- an access through the ADD that a relaxed load became
    chained : (ls : LoadStore) → load_store_of s.w2 ≡ Some ls → (target : ℕ) (d : Add) → Makes s target d → eqb d.rd ls.base ≡ true
        → Adds s target d ls
    chained ls ez target d m e =
        record {
          adrp = m.adrp;
          first = m.first;
          second = m.second;
          third = ez;
          source = m.source;
          base = sym (eqb-true d.rd ls.base e);
          made = m.made;
          below = m.below;
        }

    relaxed-str : (d : Add) (st : LoadStore) (addr : ℕ) → Adds s addr d st → P (relaxed_str s addr d st)
    unfolding relaxed_str
    relaxed-str d st addr t = split P (within1mb s.p0 addr) _ _ (λ near. adr d st addr t near) (λ near. fold-third fold d st addr t)

    got-str-by : (st : LoadStore) → load_store_of s.w2 ≡ Some st → (g : Result GotLoad NoRewrite) → Got s g → P (got_str_by s st g)
    got-str-by st ez (Err Declined) h = declined
    got-str-by st ez (Err Nine) h = nine
    got-str-by st ez (Ok (Slot at ld)) l = got-literal st ez at ld l
    got-str-by st ez (Ok (Relaxed target d)) m =
        split P (eqb d.rd st.base) _ (Err Declined) (λ e. relaxed-str d st target (chained st ez target d m e)) (λ e. declined)

    got-str-with : (pair : Bool) (z : Option LoadStore) → load_store_of s.w2 ≡ z → P (got_str_with s pair z)
    got-str-with pair None ez = declined
    got-str-with pair (Some st) ez = chosen P st.is_store _ (Err Declined) (got-str-by st ez (got_load s pair) (got s pair)) declined

    pub adrp-ldr-got-str : (pair : Bool) → P (adrp_ldr_got_str s pair)
    unfolding adrp_ldr_got_str
    adrp-ldr-got-str pair = got-str-with pair (load_store_of s.w2) refl

    module _ (literal : ThirdLiteral s P) where
      adr-or-fold-load : (d : Add) (ld : LoadStore) (addr : ℕ) → Adds s addr d ld → P (adr_or_fold_load s addr d ld)
      unfolding adr_or_fold_load
      adr-or-fold-load d ld addr t = split P (within1mb s.p0 addr) _ _ (λ near. adr d ld addr t near) (λ near. fold-load fold d ld addr t)

      relaxed-to : (d : Add) (ld : LoadStore) (addr : ℕ) → Adds s addr d ld → has_literal_form ld ≡ true → addr % 4 ≡ 0
          → (end : ℕ) → end ≡ addr + ld.offset → end < 2 ^ 64 → P (relaxed_to s addr d ld end)
      unfolding relaxed_to
      relaxed-to d ld addr t f four end e lt =
          let o = literal-offset s.w2 ld t.third f in
          split P (within1mb s.p2 end) _ _
          (λ near. literal d ld addr end t (record { made = e; below = lt }) f (omega arith) near)
          (λ near. adr-or-fold-load d ld addr t)

      relaxed-ldr : (d : Add) (ld : LoadStore) (addr : ℕ) → Adds s addr d ld → P (relaxed_ldr s addr d ld)
      unfolding relaxed_ldr
      relaxed-ldr d ld addr t =
          split P (has_literal_form ld && eqb (addr % 4) 0) _ _
          (λ e.
          let f = both (has_literal_form ld) (eqb (addr % 4) 0) e in
          by-sum P addr ld.offset (relaxed_to s addr d ld) nine (relaxed-to d ld addr t f.0 (eqb-true (addr % 4) 0 f.1)))
          (λ e. adr-or-fold-load d ld addr t)

      got-ldr-by : (ld : LoadStore) → load_store_of s.w2 ≡ Some ld → (g : Result GotLoad NoRewrite) → Got s g → P (got_ldr_by s ld g)
      got-ldr-by ld ez (Err Declined) h = declined
      got-ldr-by ld ez (Err Nine) h = nine
      got-ldr-by ld ez (Ok (Slot at got)) l = got-literal ld ez at got l
      got-ldr-by ld ez (Ok (Relaxed target d)) m =
          split P (eqb d.rd ld.base) _ (Err Declined) (λ e. relaxed-ldr d ld target (chained ld ez target d m e)) (λ e. declined)

      got-ldr-with : (pair : Bool) (z : Option LoadStore) → load_store_of s.w2 ≡ z → P (got_ldr_with s pair z)
      got-ldr-with pair None ez = declined
      got-ldr-with pair (Some ld) ez = got-ldr-by ld ez (got_load s pair) (got s pair)

      pub adrp-ldr-got-ldr : (pair : Bool) → P (adrp_ldr_got_ldr s pair)
      unfolding adrp_ldr_got_ldr
      adrp-ldr-got-ldr pair = got-ldr-with pair (load_store_of s.w2) refl

-- what is to be shown of the rule of each kind, of its entries' test
pub record EachRule (s : Insns) (r : Rels) (P : ℕ → Result Plan NoRewrite → Type 0) : Type 0 where
  pub declined : (kind : ℕ) → P kind (Err Declined)
  pub adrp-adrp : (pages : Bool) → both_pages r ≡ pages → P MCLOH_AdrpAdrp (adrp_adrp s pages)
  pub adrp-ldr : (pair : Bool) → has_page_pair r 2 false ≡ pair → P MCLOH_AdrpLdr (adrp_ldr s pair)
  pub adrp-add-ldr : (pair : Bool) → has_page_pair r 3 false ≡ pair → P MCLOH_AdrpAddLdr (adrp_add_ldr s pair)
  pub adrp-ldr-got-ldr : (pair : Bool) → has_page_pair r 3 true ≡ pair → P MCLOH_AdrpLdrGotLdr (adrp_ldr_got_ldr s pair)
  pub adrp-add-str : (pair : Bool) → has_page_pair r 3 false ≡ pair → P MCLOH_AdrpAddStr (adrp_add_str s pair)
  pub adrp-ldr-got-str : (pair : Bool) → has_page_pair r 3 true ≡ pair → P MCLOH_AdrpLdrGotStr (adrp_ldr_got_str s pair)
  pub adrp-add : (pair : Bool) → has_page_pair r 2 false ≡ pair → P MCLOH_AdrpAdd (adrp_add s pair)
  pub adrp-ldr-got : (pair : Bool) → has_page_pair r 2 true ≡ pair → P MCLOH_AdrpLdrGot (adrp_ldr_got s pair)

-- what a rule decides, by its kind
pub by-rule : (s : Insns) (r : Rels) (P : ℕ → Result Plan NoRewrite → Type 0) → EachRule s r P → (kind : ℕ) → P kind (by_rule kind s r)
unfolding by_rule
by-rule s r P e kind =
    split (P kind) (eqb kind MCLOH_AdrpAdrp) _ _ (at MCLOH_AdrpAdrp (e.adrp-adrp (both_pages r) refl)) (λ _.
    split (P kind) (eqb kind MCLOH_AdrpLdr) _ _ (at MCLOH_AdrpLdr (e.adrp-ldr (has_page_pair r 2 false) refl)) (λ _.
    split (P kind) (eqb kind MCLOH_AdrpAddLdr) _ _ (at MCLOH_AdrpAddLdr (e.adrp-add-ldr (has_page_pair r 3 false) refl)) (λ _.
    split (P kind) (eqb kind MCLOH_AdrpLdrGotLdr) _ _ (at MCLOH_AdrpLdrGotLdr (e.adrp-ldr-got-ldr (has_page_pair r 3 true) refl)) (λ _.
    split (P kind) (eqb kind MCLOH_AdrpAddStr) _ _ (at MCLOH_AdrpAddStr (e.adrp-add-str (has_page_pair r 3 false) refl)) (λ _.
    split (P kind) (eqb kind MCLOH_AdrpLdrGotStr) _ _ (at MCLOH_AdrpLdrGotStr (e.adrp-ldr-got-str (has_page_pair r 3 true) refl)) (λ _.
    split (P kind) (eqb kind MCLOH_AdrpAdd) _ _ (at MCLOH_AdrpAdd (e.adrp-add (has_page_pair r 2 false) refl)) (λ _.
    split (P kind) (eqb kind MCLOH_AdrpLdrGot) _ _ (at MCLOH_AdrpLdrGot (e.adrp-ldr-got (has_page_pair r 2 true) refl)) (λ _.
    e.declined kind))))))))
  where
    at : (k : ℕ) {d : Result Plan NoRewrite} → P k d → eqb kind k ≡ true → P kind d
    at k {d} p h = subst (λ (k : ℕ). P k d) (sym (eqb-true kind k h)) p

-- every decision, by its kind: where number 31 does not bar the hint, what the rule decides
pub by_kind : (s : Insns) (r : Rels) (P : ℕ → Result Plan NoRewrite → Type 0) → EachRule s r P → (kind : ℕ) → P kind (decide kind s r)
unfolding decide
by_kind s r P e kind = split (P kind) (bars31 kind s) (Err Declined) (by_rule kind s r) (λ _. e.declined kind) (λ _. by-rule s r P e kind)
