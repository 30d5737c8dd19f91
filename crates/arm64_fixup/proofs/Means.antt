-- What the fixed words mean, from the manual's definitions: for entry k of any accepted list that no SUBTRACTOR consumes and whose bytes
-- no other entry writes. The words are those of arm64_insn's `Encodes`, their targets those of its `Meaning`.
use Rattle.std.specs.Prelude.{Ok, Err}
use mathlib.Core.Path.{◌≡◌, refl, ap, ◌∙◌}
use mathlib.Core.Bool.{true, false}
use mathlib.Core.List.{List}
use mathlib.Core.Logic.{⊎_elim}
use Prim.Native.Nat.{ℕ, ◌+◌, ◌*◌, ◌/◌, ◌%◌, ◌^◌, ◌≤◌, ◌<◌}
use native.Mathlib.Omega.{arith}
use native.Mathlib.Nat.{mod-eq_of_lt, div-le_self}
use borrow.Author.Tests.{eq-eqb, ne_eqb}
use lib.Dec.{lit<, lit≤}
use Rattle.util.specs.Choice.{choose}
use Rattle.util.specs.Bits.{field}
use Rattle.util.proofs.Choice.{chosen, choose-true, choose-false}
use Rattle.util.proofs.Word.{le-lt}
use Rattle.macho.specs.Resolved.{can_relax_got}
use Rattle.macho.specs.declared.reloc.Reloc.{Reloc}
use Rattle.macho.specs.declared.resolved.Resolved.{Resolved}
use Rattle.arm64_insn.specs.Manual.{ADRP, ADD, LDST, PRFM, InRange, instruction, decode, rd_in, rn_in}
use Rattle.arm64_insn.specs.LoadStoreTable.{row_of, moved_by}
use Rattle.arm64_insn.specs.ManualTargets as M
use Rattle.arm64_insn.specs.Page.{page_of, adrp_page}
use Rattle.arm64_insn.specs.Reach.{page_imm, page_offset, adrp_reaches}
use Rattle.arm64_insn.specs.Fix.{adrp_with, scale_of, offset_with, relaxed_word}
use Rattle.arm64_insn.proofs.Encodes.{adrp-patched, add-patched, load-store-patched, prefetch-patched, relaxed-made}
use Rattle.arm64_insn.proofs.Meaning.{adrp-means, add-means, access-means}
use Rattle.arm64_insn.proofs.Manual.{decode-encode, decode-in-range, encode-lt}
use Rattle.arm64_fixup_entry.specs.Target.{address_of, target_of, slot_of, got_target, width_of}
use Rattle.arm64_fixup_entry.specs.Change.{page21, fitted}
use Rattle.arm64_fixup_entry.specs.Change.{can_relax, relaxed, got_pageoff12}
use Rattle.arm64_fixup.specs.Walk.{lent_entry, lent_target, Fixed, change_at}
use Rattle.arm64_fixup.specs.Footprint.{Lone, word_at}
use Rattle.arm64_fixup_entry.specs.Roles.{Page, page, got-page, tlv-page, GotOffset, Offset, offset, got-offset, Relaxed}
use Rattle.arm64_fixup_entry.specs.declared.target.Bases.{Bases}
use Rattle.arm64_fixup_entry.specs.declared.change.Site.{Site}
use Rattle.arm64_fixup_entry.specs.declared.change.Change.{Change}
use Rattle.arm64_fixup_entry.specs.declared.change.Write.TheVariants.{Word}
use Rattle.arm64_fixup_entry.proofs.ByType.{site_of, page-does-it, got-offset-does-it, offset-does-it}
use Rattle.arm64_fixup.proofs.Lone.{passed, stores-word, leaves_word}

-- ---- pages

-- whatever the reach, the word is written
page-write : (s : Site) (target word : ℕ) → (page21 s target word).write ≡ Word (adrp_with word target s.addr)
unfolding page21
page-write s target word = chosen (λ (c : Change). c.write ≡ Word (adrp_with word target s.addr)) (adrp_reaches target s.addr) _ _ refl refl

target-lt : (e : Reloc) (t : Resolved) → target_of e t < 2 ^ 64
unfolding target_of
target-lt e t = omega arith

got-lt : (e : Reloc) (t : Resolved) → got_target e t < 2 ^ 64
unfolding got_target slot_of
got-lt e t = chosen (λ (n : ℕ). n < 2 ^ 64) (can_relax_got t) _ _ (target-lt e t) (omega arith)

page-lt : (e : Reloc) (t : Resolved) {target : ℕ} → Page e t target → target < 2 ^ 64
page-lt e t (page h a) = target-lt e t
page-lt e t (got-page h n) = got-lt e t
page-lt e t (tlv-page h) = got-lt e t

-- a patched word is a word
adrp-with-lt : (w hi lo : ℕ) → adrp_with w hi lo < 2 ^ 32
unfolding adrp_with page_offset page_imm
adrp-with-lt w hi lo = omega arith

module _ {section : List ℕ} {b : Bases} {entries targets slots : List ℕ} {f : Fixed} {k : ℕ} (l : Lone section b entries targets slots f k) where
  -- any word: bit 31, bits 28..24 and bits 4..0 stay, the others are the immediate
  pub page-word : {target : ℕ} → Page (lent_entry entries k) (lent_target targets k) target
      → word_at entries f.section k ≡ adrp_with (word_at entries section k) target (address_of b (lent_entry entries k))
  page-word {target} r =
      stores-word l (ap (λ (c : Change). c.write) (page-does-it b k _ _ _ _ _ r) ∙ page-write _ target (word_at entries section k))
      ∙ mod-eq_of_lt (adrp-with-lt (word_at entries section k) target (address_of b (lent_entry entries k)))

  -- an ADRP is one of the old register; in reach, it makes the target's page
  pub page-means : {target : ℕ} → Page (lent_entry entries k) (lent_target targets k) target
      → (rd imm : ℕ) → decode (word_at entries section k) ≡ instruction (ADRP rd imm)
      → adrp_reaches target (address_of b (lent_entry entries k)) ≡ true
      → (decode (word_at entries f.section k) ≡ instruction (ADRP rd (page_imm target (address_of b (lent_entry entries k)))))
      × (adrp_page (page_imm target (address_of b (lent_entry entries k))) (address_of b (lent_entry entries k)) ≡ page_of target)
  page-means {target} r rd imm d near = (
    ap decode (page-word r) ∙ adrp-patched _ rd imm target _ (le-lt 4 section _) d,
    adrp-means target _ (page-lt _ _ r) (passed l).address near,
  )

-- ---- page offsets

-- the width of a page offset's word
got-offset-width : (e : Reloc) (t : Resolved) → GotOffset e → 4 ≤ width_of e t
unfolding width_of choose
got-offset-width e t = ⊎_elim (λ h. rw h (lit≤ tt)) (λ h. rw h (lit≤ tt))

offset-width : (e : Reloc) (t : Resolved) {target : ℕ} → Offset e t target → 4 ≤ width_of e t
unfolding width_of choose
offset-width e t (offset h a) = rw (h, a) (lit≤ tt)
offset-width e t (got-offset g n) = got-offset-width e t g

module _ {section : List ℕ} {b : Bases} {entries targets slots : List ℕ} {f : Fixed} {k : ℕ} (l : Lone section b entries targets slots f k) where
  module _ {target : ℕ} (r : Offset (lent_entry entries k) (lent_target targets k) target) where
    fits : {w : ℕ} → offset_with (word_at entries section k) target ≡ Ok w → word_at entries f.section k ≡ w % 2 ^ 32
    fits e = stores-word l (ap (λ (c : Change). c.write) (offset-does-it b k _ _ _ _ _ r ∙ ap (fitted (site_of b k (lent_entry entries k))) e))

    stays : {n : ℕ} → offset_with (word_at entries section k) target ≡ Err n → word_at entries f.section k ≡ word_at entries section k
    stays e =
        leaves_word l (offset-width _ _ r)
        (ap (λ (c : Change). c.write) (offset-does-it b k _ _ _ _ _ r ∙ ap (fitted (site_of b k (lent_entry entries k))) e))

    -- an ADD is the old one with the target's low 12 bits
    pub offset-add : (sf sh rd rn imm12 : ℕ) → decode (word_at entries section k) ≡ instruction (ADD sf sh rd rn imm12)
        → decode (word_at entries f.section k) ≡ instruction (ADD sf sh rd rn (field target 0 12))
    offset-add sf sh rd rn imm12 d =
        let i = decode-in-range _ (ADD sf sh rd rn imm12) d in
        let j : InRange (ADD sf sh rd rn (field target 0 12)) = (i.0, i.1, i.2, i.3, omega arith) in
        ap decode (fits (add-patched _ sf sh rd rn imm12 target d) ∙ mod-eq_of_lt (encode-lt (ADD sf sh rd rn (field target 0 12)) j))
        ∙ decode-encode (ADD sf sh rd rn (field target 0 12)) j

    module _ (size v opc rt rn imm12 : ℕ) (d : decode (word_at entries section k) ≡ instruction (LDST size v opc rt rn imm12)) where
      -- a load or store is the old one with the target's low 12 bits in its unit
      pub offset-access : target % moved_by (row_of size v opc) ≡ 0
          → decode (word_at entries f.section k) ≡ instruction (LDST size v opc rt rn (target % 2 ^ 12 / moved_by (row_of size v opc)))
      offset-access h =
          let i = decode-in-range _ (LDST size v opc rt rn imm12) d in
          let q = div-le_self (target % 2 ^ 12) (moved_by (row_of size v opc)) in
          let j : InRange (LDST size v opc rt rn (target % 2 ^ 12 / moved_by (row_of size v opc))) = (i.0, i.1, i.2, i.3, i.4, omega arith, i.6) in
          ap decode
          (fits (load-store-patched _ size v opc rt rn imm12 target d ∙ choose-true _ _ _ (eq-eqb _ _ h))
          ∙ mod-eq_of_lt (encode-lt (LDST size v opc rt rn (target % 2 ^ 12 / moved_by (row_of size v opc))) j))
          ∙ decode-encode (LDST size v opc rt rn (target % 2 ^ 12 / moved_by (row_of size v opc))) j

      -- where its size does not divide the target, it stays
      pub offset-misaligned : (target % moved_by (row_of size v opc) ≡ 0 → ⊥) → word_at entries f.section k ≡ word_at entries section k
      offset-misaligned h = stays (load-store-patched _ size v opc rt rn imm12 target d ∙ choose-false _ _ _ (ne_eqb _ _ h))

    -- a prefetch is the old one with the target's low 12 bits in eights, where 8 divides the target
    pub offset-prefetch : (rt rn imm12 : ℕ) → decode (word_at entries section k) ≡ instruction (PRFM rt rn imm12) → target % 8 ≡ 0
        → decode (word_at entries f.section k) ≡ instruction (PRFM rt rn (target % 2 ^ 12 / 8))
    offset-prefetch rt rn imm12 d h =
        let i = decode-in-range _ (PRFM rt rn imm12) d in
        let j : InRange (PRFM rt rn (target % 2 ^ 12 / 8)) = (i.0, i.1, omega arith) in
        ap decode
        (fits (prefetch-patched _ rt rn imm12 target d ∙ choose-true _ _ _ (eq-eqb _ _ h))
        ∙ mod-eq_of_lt (encode-lt (PRFM rt rn (target % 2 ^ 12 / 8)) j))
        ∙ decode-encode (PRFM rt rn (target % 2 ^ 12 / 8)) j

    -- any word: bits 31..22 and 9..0 stay, bits 21..10 are the page offset in the word's scale; or all of it stays
    pub offset_word : target % 2 ^ scale_of (word_at entries section k) ≡ 0
        → word_at entries f.section k
        ≡ field (word_at entries section k) 22 10 * 2 ^ 22
        + target % 2 ^ 12 / 2 ^ scale_of (word_at entries section k) * 2 ^ 10 + field (word_at entries section k) 0 10
    unfolding offset_with
    offset_word h =
        let q = div-le_self (target % 2 ^ 12) (2 ^ scale_of (word_at entries section k)) in
        fits (choose-true _ _ _ (eq-eqb _ _ h)) ∙ mod-eq_of_lt (omega arith)

    pub offset-kept : (target % 2 ^ scale_of (word_at entries section k) ≡ 0 → ⊥) → word_at entries f.section k ≡ word_at entries section k
    unfolding offset_with
    offset-kept h = stays (choose-false _ _ _ (ne_eqb _ _ h))

-- ---- relaxed page offsets

relaxes-it : (s : Site) (e : Reloc) (t : Resolved) (word : ℕ) → can_relax_got t ≡ true → got_pageoff12 s e t word ≡ relaxed s e.ty (target_of e t) word
unfolding got_pageoff12 choose
relaxes-it s e t word h = rw h

module _ {section : List ℕ} {b : Bases} {entries targets slots : List ℕ} {f : Fixed} {k : ℕ} (l : Lone section b entries targets slots f k)
    (r : Relaxed (lent_entry entries k) (lent_target targets k))
  where
    pub relaxed-does : change_at b entries targets section k
        ≡ relaxed (site_of b k (lent_entry entries k)) (lent_entry entries k).ty (target_of (lent_entry entries k) (lent_target targets k))
        (word_at entries section k)
    relaxed-does = got-offset-does-it b k _ _ _ _ _ r.type ∙ relaxes-it _ _ _ _ r.relaxes

    -- an LDR, for GOT also a 64-bit ADD, becomes the 64-bit ADD of its registers and the low 12 bits of S + A
    pub relaxed-means : can_relax (lent_entry entries k).ty (word_at entries section k) ≡ true
        → decode (word_at entries f.section k)
        ≡ instruction (ADD 1 0 (rd_in (word_at entries section k)) (rn_in (word_at entries section k))
        (field (target_of (lent_entry entries k) (lent_target targets k)) 0 12))
    unfolding relaxed relaxed_word
    relaxed-means h =
        let target = target_of (lent_entry entries k) (lent_target targets k) in
        let w = word_at entries section k in
        let j : InRange (ADD 1 0 (rd_in w) (rn_in w) (field target 0 12)) = (lit< tt, lit< tt, omega arith, omega arith, omega arith) in
        ap decode
        (stores-word l (ap (λ (c : Change). c.write) (relaxed-does ∙ choose-true _ _ _ h))
        ∙ mod-eq_of_lt (encode-lt (ADD 1 0 (rd_in w) (rn_in w) (field target 0 12)) j))
        ∙ relaxed-made w target

    -- any other word stays
    pub relaxed-kept : can_relax (lent_entry entries k).ty (word_at entries section k) ≡ false → word_at entries f.section k ≡ word_at entries section k
    unfolding relaxed
    relaxed-kept h =
        leaves_word l (got-offset-width _ _ r.type) (ap (λ (c : Change). c.write) (relaxed-does ∙ choose-false _ _ _ h))

-- ---- page and page offset together. What the word at m makes or accesses is said of a source that holds the ADRP's page: so it is where
-- the source is the ADRP's register

module _ {section : List ℕ} {b : Bases} {entries targets slots : List ℕ} {f : Fixed} {k m : ℕ}
    (l : Lone section b entries targets slots f k) (l' : Lone section b entries targets slots f m)
    {target : ℕ} (r : Page (lent_entry entries k) (lent_target targets k) target) (near : adrp_reaches target (address_of b (lent_entry entries k)) ≡ true)
    (rd imm : ℕ) (d : decode (word_at entries section k) ≡ instruction (ADRP rd imm))
  where
    -- ADRP and an unshifted ADD of 64 bits make the target
    pub adrp-add : Offset (lent_entry entries m) (lent_target targets m) target
        → (rd' rn imm12 : ℕ) → decode (word_at entries section m) ≡ instruction (ADD 1 0 rd' rn imm12)
        → (decode (word_at entries f.section k) ≡ instruction (ADRP rd (page_imm target (address_of b (lent_entry entries k)))))
        × (decode (word_at entries f.section m) ≡ instruction (ADD 1 0 rd' rn (field target 0 12)))
        × (M.add_value 1 0 (adrp_page (page_imm target (address_of b (lent_entry entries k))) (address_of b (lent_entry entries k))) (field target 0 12) ≡ target)
    adrp-add r' rd' rn imm12 d' = (
      (page-means l r rd imm d near).0,
      offset-add l' r' 1 0 rd' rn imm12 d',
      add-means target (address_of b (lent_entry entries k)) (page-lt _ _ r) (passed l).address near,
    )

    -- and so do ADRP and a relaxed load
    pub adrp-relaxed : Relaxed (lent_entry entries m) (lent_target targets m) → target_of (lent_entry entries m) (lent_target targets m) ≡ target
        → can_relax (lent_entry entries m).ty (word_at entries section m) ≡ true
        → (decode (word_at entries f.section k) ≡ instruction (ADRP rd (page_imm target (address_of b (lent_entry entries k)))))
        × (decode (word_at entries f.section m)
        ≡ instruction (ADD 1 0 (rd_in (word_at entries section m)) (rn_in (word_at entries section m)) (field target 0 12)))
        × (M.add_value 1 0 (adrp_page (page_imm target (address_of b (lent_entry entries k))) (address_of b (lent_entry entries k))) (field target 0 12) ≡ target)
    adrp-relaxed r' same h = (
      (page-means l r rd imm d near).0,
      relaxed-means l' r' h
          ∙ ap (λ (t : ℕ). instruction (ADD 1 0 (rd_in (word_at entries section m)) (rn_in (word_at entries section m)) (field t 0 12))) same,
      add-means target (address_of b (lent_entry entries k)) (page-lt _ _ r) (passed l).address near,
    )

    -- ADRP and a load or store, whose size divides the target, access it
    pub adrp-access : Offset (lent_entry entries m) (lent_target targets m) target
        → (size v opc rt rn imm12 : ℕ) → decode (word_at entries section m) ≡ instruction (LDST size v opc rt rn imm12) → target % moved_by (row_of size v opc) ≡ 0
        → (decode (word_at entries f.section k) ≡ instruction (ADRP rd (page_imm target (address_of b (lent_entry entries k)))))
        × (decode (word_at entries f.section m) ≡ instruction (LDST size v opc rt rn (target % 2 ^ 12 / moved_by (row_of size v opc))))
        × (M.access_address (row_of size v opc) (adrp_page (page_imm target (address_of b (lent_entry entries k))) (address_of b (lent_entry entries k)))
        (target % 2 ^ 12 / moved_by (row_of size v opc))
        ≡ target)
    adrp-access r' size v opc rt rn imm12 d' h = (
      (page-means l r rd imm d near).0,
      offset-access l' r' size v opc rt rn imm12 d' h,
      access-means target (address_of b (lent_entry entries k)) (page-lt _ _ r) (passed l).address _ size v opc rt rn imm12 d' near h,
    )
