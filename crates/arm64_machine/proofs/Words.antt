-- The words that the hint rules make run as the words that they replace: each rewrite on words as the decoders of arm64_insn tell them, under that
-- rewrite's own tests and where number 31 does not link them. Carried by the laws of fair words, and by what arm64_insn proves of decoded and made words.
use Rattle.std.specs.Prelude.{Some}
use mathlib.Core.Path.{◌≡◌, refl, sym, ap, ◌∙◌}
use mathlib.Core.Bool.{true, false, not, ◌&&◌, ◌||◌}
use mathlib.Core.List.{List, [], ◌∷◌}
use Prim.Native.Nat.{ℕ, ◌+◌, ◌/◌, ◌%◌, ◌^◌, ◌<◌}
use native.Mathlib.Nat.{zero-mod}
use native.Mathlib.Omega.{arith}
use lib.Dec.{eqb, lit<}
use Rattle.util.specs.Bits.{field}
use Rattle.util.specs.Wrap.{sum, diff}
use Rattle.util.proofs.Choice.{neither}
use Rattle.arm64_insn.specs.Add.{add_of}
use Rattle.arm64_insn.specs.Adrp.{adrp_of, adr_word}
use Rattle.arm64_insn.specs.Fix.{nop_word}
use Rattle.arm64_insn.specs.Literal.{has_literal_form, literal_word, base_word}
use Rattle.arm64_insn.specs.Links.{links31, adds31, meets31}
use Rattle.arm64_insn.specs.LoadStore.{load_store_of}
use Rattle.arm64_insn.specs.LoadStoreTable.{Row}
use Rattle.arm64_insn.specs.Manual.{imm12_in, row_in}
use Rattle.arm64_insn.specs.ManualTargets.{adr_target, literal_target, access_address, add_value}
use Rattle.arm64_insn.specs.Page.{page_of, adrp_page}
use Rattle.arm64_insn.specs.Reach.{within1mb}
use Rattle.arm64_insn.specs.declared.adrp.Adrp as A
use Rattle.arm64_insn.specs.declared.add.Add as D
use Rattle.arm64_insn.specs.declared.ldst.LoadStore as L
use Rattle.arm64_insn.proofs.Decodes.{adrp-decodes, add-decodes}
use Rattle.arm64_insn.proofs.Encodes.{adr-made, nop-made}
use Rattle.arm64_insn.proofs.Meaning.{adr-means, literal-means, add-value}
use Rattle.arm64_machine.specs.Machine.{adr, adrp, add, access, literal, nop, action, State, Other, placed, run}
use Rattle.arm64_machine.specs.SameRun.{last_writes, Agree, CloseRun}
use Rattle.arm64_machine.specs.Premises.{FairWords}
use Rattle.arm64_machine.proofs.Actions.{decoded, decoded-add, ranged}
use Rattle.arm64_machine.proofs.Accessed.{Accessed, accessed, divides, general-load}
use Rattle.arm64_machine.proofs.Rewrites as Rewrites
use Rattle.arm64_machine.proofs.Rewrites.{Chain}
use Rattle.arm64_machine.proofs.FairLaws as FairLaws

-- ADRP, ADD and NOP
adrp-does : (w : ℕ) {a : A.Adrp} → adrp_of w ≡ Some a → action w ≡ adrp a.rd a.imm
adrp-does w e = decoded w (adrp-decodes w _ e)

add-does : (w : ℕ) {d : D.Add} → add_of w ≡ Some d → action w ≡ add d.rd d.rn d.imm
add-does w e = decoded-add w (add-decodes w _ e)

nop_does : action nop_word ≡ nop
nop_does = decoded nop_word nop-made

-- an access whose base is known under another name
based_on : (w : ℕ) {rt n m i : ℕ} {row : Row} → n ≡ m → action w ≡ access row rt n i → action w ≡ access row rt m i
based_on w {rt} {i = i} {row = row} e h = h ∙ ap (λ (n : ℕ). access row rt n i) e

-- what an ADR that is made does, its register known under another name
adr-does : (rd to p : ℕ) {n : ℕ} → rd < 32 → rd ≡ n → action (adr_word rd to p) ≡ adr n (field (diff to p) 0 21)
adr-does rd to p l e = decoded (adr_word rd to p) (adr-made rd to p l) ∙ ap (λ (n : ℕ). adr n (field (diff to p) 0 21)) e

-- a page is a multiple of 4,096
pub page-whole : (imm p : ℕ) → adrp_page imm p % 4096 ≡ 0
unfolding adrp_page page_of
page-whole imm p = omega arith

-- ADRP_ADRP: the second ADRP becomes NOP
pub second-dropped : {a b p q : ℕ} {x y : A.Adrp} → adrp_of a ≡ Some x → adrp_of b ≡ Some y → x.rd ≡ y.rd
    → adrp_page x.imm p ≡ adrp_page y.imm q → CloseRun (placed a p ∷ placed b q ∷ []) (placed a p ∷ placed nop_word q ∷ [])
second-dropped {a} {b} {y = y} ea eb r h =
    Rewrites.second-dropped (adrp-does a ea) (adrp-does b eb ∙ ap (λ (n : ℕ). adrp n y.imm) (sym r)) nop_does h

-- words that number 31 does not link, and none of which is an ADD to it
apart-31 : (a b : ℕ) (ws : List ℕ) → meets31 (a ∷ b ∷ ws) ≡ false → (links31 a b ≡ false) × (adds31 b ≡ false)
apart-31 a b ws e =
    let n = neither (links31 a b) (adds31 a || meets31 (b ∷ ws)) e in
    (n.0, first ws (neither (adds31 a) (meets31 (b ∷ ws)) n.1).1)
  where
    first : (ws : List ℕ) → meets31 (b ∷ ws) ≡ false → adds31 b ≡ false
    first [] e = e
    first (c ∷ ws) e = (neither (adds31 b) (meets31 (c ∷ ws)) (neither (links31 b c) (adds31 b || meets31 (c ∷ ws)) e).1).0

-- two words
module _ {a b p q : ℕ} {x : A.Adrp} (apart : meets31 (a ∷ b ∷ []) ≡ false) (fair : FairWords (placed a p ∷ placed b q ∷ []))
    (hp : p < 2 ^ 64) (hq : q < 2 ^ 64) (ea : adrp_of a ≡ Some x) where
  -- the load becomes a literal load
  pub literal-second : {l : L.LoadStore} (to : ℕ) → load_store_of b ≡ Some l → l.base ≡ x.rd → has_literal_form l ≡ true
      → to ≡ adrp_page x.imm p + l.offset → to < 2 ^ 64 → to % 4 ≡ 0 → within1mb q to ≡ true
      → CloseRun (placed a p ∷ placed b q ∷ []) (placed nop_word p ∷ placed (literal_word l to q) q ∷ [])
  literal-second {l = l} to eb r f e lt four near =
      let y = accessed b eb in
      let z : sum (adrp_page x.imm p) l.offset ≡ to = omega arith in
      FairLaws.load-literal (apart-31 a b [] apart).0 fair (adrp-does a ea) (based_on b r y.does) nop_does (y.literals f to q)
      (y.address _ ∙ z ∙ sym (literal-means to q lt hq near four fair.aligned.1.0))

  -- the two make an address, and ADR makes it at once
  pub adr-first : {d : D.Add} (to : ℕ) → add_of b ≡ Some d → d.rn ≡ x.rd → to ≡ adrp_page x.imm p + d.imm → to < 2 ^ 64
      → within1mb p to ≡ true → CloseRun (placed a p ∷ placed b q ∷ []) (placed (adr_word d.rd to p) p ∷ placed nop_word q ∷ [])
  adr-first {d = d} to eb r e lt near =
      let w = add-does b eb in
      let z : add_value 1 0 (adrp_page x.imm p) d.imm ≡ to = add-value (adrp_page x.imm p) d.imm ∙ omega arith in
      FairLaws.add-adr (apart-31 a b [] apart).0 (apart-31 a b [] apart).1 (adrp-does a ea) (w ∙ ap (λ (n : ℕ). add d.rd n d.imm) r)
      (adr-does d.rd to p (ranged b w).0 refl) nop_does
      (z ∙ sym (adr-means to p lt hp near))

-- three words: ADRP, ADD on what it made, and an access through what ADD made
module _ {a b c p q r : ℕ} {x : A.Adrp} {d : D.Add} {l : L.LoadStore} (apart : meets31 (a ∷ b ∷ c ∷ []) ≡ false)
    (fair : FairWords (placed a p ∷ placed b q ∷ placed c r ∷ []))
    (ea : adrp_of a ≡ Some x) (eb : add_of b ≡ Some d) (ec : load_store_of c ≡ Some l)
    (first : d.rn ≡ x.rd) (second : l.base ≡ d.rd) where
  third : Accessed c l
  third = accessed c ec

  chain : Chain a b c x.rd x.imm d.rd d.imm l.reg (imm12_in c) (row_in c)
  chain =
      let n = apart-31 a b (c ∷ []) apart in
      FairLaws.chain n.0 n.1 fair (adrp-does a ea) (add-does b eb ∙ ap (λ (n : ℕ). add d.rd n d.imm) first) (based_on c second third.does)

  -- the access becomes a literal load
  pub literal-third : (to : ℕ) → has_literal_form l ≡ true → to ≡ adrp_page x.imm p + d.imm + l.offset → to < 2 ^ 64 → to % 4 ≡ 0 → r < 2 ^ 64
      → within1mb r to ≡ true
      → CloseRun (placed a p ∷ placed b q ∷ placed c r ∷ []) (placed nop_word p ∷ placed nop_word q ∷ placed (literal_word l to r) r ∷ [])
  literal-third to f e lt four hr near =
      let z : sum (add_value 1 0 (adrp_page x.imm p) d.imm) l.offset ≡ to = rw add-value (omega arith) in
      Rewrites.add-literal chain nop_does (third.literals f to r)
      (third.address _ ∙ z ∙ sym (literal-means to r lt hr near four fair.aligned.1.1.0))

  -- ADR makes the address of the access, which loses its offset
  pub adr-third : (to : ℕ) → to ≡ adrp_page x.imm p + d.imm + l.offset → to < 2 ^ 64 → p < 2 ^ 64 → within1mb p to ≡ true
      → CloseRun (placed a p ∷ placed b q ∷ placed c r ∷ [])
      (placed (adr_word l.base to p) p ∷ placed nop_word q ∷ placed (base_word l l.base 0) r ∷ [])
  adr-third to e lt hp near =
      let low : l.base < 32 = (ranged c third.does).1 in
      let z : sum (add_value 1 0 (adrp_page x.imm p) d.imm) l.offset ≡ to = rw add-value (omega arith) in
      let y : sum (adr_target (field (diff to p) 0 21) p) 0 ≡ to = rw (adr-means to p lt hp near) (omega arith) in
      Rewrites.add-adr-access chain (adr-does l.base to p low second) nop_does
      (based_on (base_word l l.base 0) second (third.based l.base 0 low (lit< tt)))
      (third.address _ ∙ z ∙ sym (third.based-address _ 0 (zero-mod l.size) ∙ y))

  -- ADR makes what ADRP and ADD made, and the access stays as it is
  pub adr-kept : (to : ℕ) → to ≡ adrp_page x.imm p + d.imm → to < 2 ^ 64 → p < 2 ^ 64 → within1mb p to ≡ true
      → CloseRun (placed a p ∷ placed b q ∷ placed c r ∷ []) (placed (adr_word l.base to p) p ∷ placed nop_word q ∷ placed c r ∷ [])
  adr-kept to e lt hp near =
      let z : add_value 1 0 (adrp_page x.imm p) d.imm ≡ to = add-value (adrp_page x.imm p) d.imm ∙ omega arith in
      Rewrites.add-adr-access chain (adr-does l.base to p (ranged c third.does).1 second) nop_does (based_on c second third.does)
      (ap (λ (u : ℕ). access_address (row_in c) u (imm12_in c)) (z ∙ sym (adr-means to p lt hp near)))

  -- the access with the ADD's immediate in it, through ADRP's register
  fold-does : (off : ℕ) → off < 4096 → action (base_word l d.rn off) ≡ access (row_in c) l.reg x.rd (off / l.size)
  fold-does off lt = based_on (base_word l d.rn off) first (third.based d.rn off (ranged b (add-does b eb)).1 lt)

  -- is of the same address
  fold-reaches : (off : ℕ) → off ≡ d.imm + l.offset → (adrp_page x.imm p + d.imm) % l.size ≡ 0
      → access_address (row_in c) (add_value 1 0 (adrp_page x.imm p) d.imm) (imm12_in c) ≡ access_address (row_in c) (adrp_page x.imm p) (off / l.size)
  fold-reaches off e h =
      let g : off % l.size ≡ 0 = ap (λ (n : ℕ). n % l.size) e ∙ divides third (adrp_page x.imm p) d.imm (page-whole x.imm p) h in
      let z : sum (add_value 1 0 (adrp_page x.imm p) d.imm) l.offset ≡ sum (adrp_page x.imm p) off = rw add-value (omega arith) in
      third.address _ ∙ z ∙ sym (third.based-address _ off g)

  -- the ADD's immediate goes into the access, which is through ADRP's register
  pub folded : (off : ℕ) → off ≡ d.imm + l.offset → off < 4096 → (adrp_page x.imm p + d.imm) % l.size ≡ 0
      → CloseRun (placed a p ∷ placed b q ∷ placed c r ∷ []) (placed a p ∷ placed nop_word q ∷ placed (base_word l d.rn off) r ∷ [])
  folded off e lt h = Rewrites.folded chain nop_does (fold-does off lt) (fold-reaches off e h)

  -- the two end alike but for the ADD's register
  pub folded-alike : (off : ℕ) → off ≡ d.imm + l.offset → off < 4096 → (adrp_page x.imm p + d.imm) % l.size ≡ 0 → (o : Other) (s : State)
      → Agree (λ m. eqb m d.rd && not (last_writes (placed a p ∷ placed b q ∷ placed c r ∷ []) m))
      (run o (placed a p ∷ placed b q ∷ placed c r ∷ []) s) (run o (placed a p ∷ placed nop_word q ∷ placed (base_word l d.rn off) r ∷ []) s)
  folded-alike off e lt h = Rewrites.folded-alike chain nop_word (base_word l d.rn off) p q r nop_does (fold-does off lt) (fold-reaches off e h)

  -- and ADRP's register ends with its page, unless the access loads it
  pub folded-page : (off : ℕ) → off < 4096 → last_writes (placed a p ∷ placed b q ∷ placed c r ∷ []) x.rd ≡ false
      → (o : Other) (s : State) → (run o (placed a p ∷ placed nop_word q ∷ placed (base_word l d.rn off) r ∷ []) s).x x.rd ≡ adrp_page x.imm p
  folded-page off lt w = Rewrites.folded-page chain nop_word (base_word l d.rn off) p q r nop_does (fold-does off lt) w

-- three words: ADRP, a load of a GOT slot, and an access through what it loaded
pub slot-second : {a b c p q r : ℕ} {x : A.Adrp} {g l : L.LoadStore} (slot : ℕ) → meets31 (a ∷ b ∷ c ∷ []) ≡ false
    → FairWords (placed a p ∷ placed b q ∷ placed c r ∷ [])
    → adrp_of a ≡ Some x → load_store_of b ≡ Some g → load_store_of c ≡ Some l
    → g.base ≡ x.rd → l.base ≡ g.reg → g.is_store ≡ false → g.is_float ≡ false → has_literal_form g ≡ true
    → slot ≡ adrp_page x.imm p + g.offset → slot < 2 ^ 64 → slot % 4 ≡ 0 → q < 2 ^ 64 → within1mb q slot ≡ true
    → CloseRun (placed a p ∷ placed b q ∷ placed c r ∷ []) (placed nop_word p ∷ placed (literal_word g slot q) q ∷ placed c r ∷ [])
slot-second {a} {b} {c} {p} {q} {r} {x = x} {g = g} slot apart fair ea eb ec first second st fl f e lt four hq near =
    let y = accessed b eb in
    let w = accessed c ec in
    let z : sum (adrp_page x.imm p) g.offset ≡ slot = omega arith in
    general-load y st fl
    (λ row. action b ≡ access row g.reg x.rd (imm12_in b) → action (literal_word g slot q) ≡ literal row g.reg (field (diff slot q) 2 19)
    → access_address row (adrp_page x.imm p) (imm12_in b) ≡ literal_target (field (diff slot q) 2 19) q
    → CloseRun (placed a p ∷ placed b q ∷ placed c r ∷ []) (placed nop_word p ∷ placed (literal_word g slot q) q ∷ placed c r ∷ []))
    (λ m n k u v h. FairLaws.slot-literal (apart-31 a b (c ∷ []) apart).0 fair (adrp-does a ea) u (based_on c second w.does) nop_does v h)
    (based_on b first y.does) (y.literals f slot q) (y.address _ ∙ z ∙ sym (literal-means slot q lt hq near four fair.aligned.1.0))
