-- What the words of entries that no report names mean, alone and in pairs: a branch goes to T; a page and its page offset make S + A, those of
-- a GOT slot G + A, or S + A where they are relaxed. For entries of any accepted list that no SUBTRACTOR consumes and whose bytes no other
-- entry writes. An entry that no report names told nothing, so each test that would have told something passed.
use Rattle.std.specs.Prelude.{Result, Ok, Err, None}
use mathlib.Core.Path.{◌≡◌, refl, sym, ap, ◌∙◌, subst}
use mathlib.Core.Bool.{Bool, true, false}
use mathlib.Core.List.{List}
use mathlib.Core.Logic.{◌⊎◌, inl, inr, ⊎_elim}
use Prim.Native.Nat.{ℕ, ◌/◌, ◌%◌, ◌^◌}
use native.Mathlib.Omega.{arith}
use borrow.Author.Tests.{eqb-true}
use lib.Dec.{eqb}
use Rattle.util.specs.Choice.{choose}
use Rattle.util.specs.Bits.{field}
use Rattle.util.proofs.Choice.{choose-true, choose-false}
use Rattle.macho.specs.Types.{ARM64_RELOC_BRANCH26}
use Rattle.macho.specs.Resolved.{can_relax_got}
use Rattle.macho.specs.declared.reloc.Reloc.{Reloc}
use Rattle.macho.specs.declared.resolved.Resolved.{Resolved}
use Rattle.arm64_insn.specs.Manual.{ADRP, ADD, LDST, B, BL, instruction, decode, rd_in, rn_in}
use Rattle.arm64_insn.specs.LoadStoreTable.{row_of, moved_by}
use Rattle.arm64_insn.specs.ManualTargets as M
use Rattle.arm64_insn.specs.Page.{adrp_page}
use Rattle.arm64_insn.specs.Reach.{page_imm}
use Rattle.arm64_insn.specs.Branch.{branch_reaches}
use Rattle.arm64_insn.proofs.Encodes.{load-store-patched}
use Rattle.arm64_fixup_entry.specs.Target.{address_of, target_of, slot_of, got_target}
use Rattle.arm64_fixup_entry.specs.Change.{branch_target, thunk_serves, dtrace_site_insn, displacement, fitted, can_relax, relaxed}
use Rattle.arm64_fixup_entry.specs.Roles.{Page, GotOffset, Offset, got-offset, Relaxed}
use Rattle.arm64_fixup.specs.Walk.{lent_entry, lent_target, Fixed}
use Rattle.arm64_fixup.specs.Footprint.{Lone, Unreported, word_at}
use Rattle.arm64_fixup_entry.specs.declared.target.Bases.{Bases}
use Rattle.arm64_fixup_entry.specs.declared.change.Site.{Site}
use Rattle.arm64_fixup_entry.specs.declared.change.Change.{Change}
use Rattle.arm64_fixup_entry.proofs.ByType.{site_of, offset-does-it}
use Rattle.arm64_fixup.proofs.Means.{relaxed-does, adrp-add, adrp-relaxed, adrp-access}
use Rattle.arm64_fixup.proofs.Branches.{b-stays, bl-stays, goes, goes-by-thunk}
use Rattle.arm64_fixup.proofs.Reports.{silent-test, unreported, page-in-reach, branch-in-reach, must-serve}

-- ---- branches

module _ {section : List ℕ} {b : Bases} {entries targets slots : List ℕ} {f : Fixed} {k : ℕ} (l : Lone section b entries targets slots f k)
    (ty : (lent_entry entries k).ty ≡ ARM64_RELOC_BRANCH26) (plain : dtrace_site_insn (lent_entry entries k) (lent_target targets k) ≡ None)
    (u : Unreported f k)
    (direct : (branch_reaches (branch_target (lent_entry entries k) (lent_target targets k)) (address_of b (lent_entry entries k)) ≡ true)
    ⊎ (thunk_serves (lent_entry entries k) (lent_target targets k) (branch_target (lent_entry entries k) (lent_target targets k)) ≡ false))
    (t : branch_target (lent_entry entries k) (lent_target targets k) % 4 ≡ 0) (p : address_of b (lent_entry entries k) % 4 ≡ 0)
  where
    -- the immediate that it gets
    abbrev imm : ℕ
    imm = field (displacement (lent_entry entries k) (lent_target targets k) (address_of b (lent_entry entries k))) 2 26

    to-target : M.branch_target imm (address_of b (lent_entry entries k)) ≡ branch_target (lent_entry entries k) (lent_target targets k)
    to-target = goes l ty plain (⊎_elim (λ h. h) (branch-in-reach l ty plain u) direct) t p

    -- a B or a BL that takes no thunk, since it reaches T or since none serves, goes from P to T
    pub b-goes : (imm26 : ℕ) → decode (word_at entries section k) ≡ instruction (B imm26)
        → (decode (word_at entries f.section k) ≡ instruction (B imm))
        × (M.branch_target imm (address_of b (lent_entry entries k)) ≡ branch_target (lent_entry entries k) (lent_target targets k))
    b-goes imm26 d = (b-stays l ty plain imm26 d, to-target)

    pub bl-goes : (imm26 : ℕ) → decode (word_at entries section k) ≡ instruction (BL imm26)
        → (decode (word_at entries f.section k) ≡ instruction (BL imm))
        × (M.branch_target imm (address_of b (lent_entry entries k)) ≡ branch_target (lent_entry entries k) (lent_target targets k))
    bl-goes imm26 d = (bl-stays l ty plain imm26 d, to-target)

-- any that is not reported: it reaches T and goes there; or a thunk serves, and it goes to the thunk where it reaches that, which is not asked
module _ {section : List ℕ} {b : Bases} {entries targets slots : List ℕ} {f : Fixed} {k : ℕ} (l : Lone section b entries targets slots f k)
    (ty : (lent_entry entries k).ty ≡ ARM64_RELOC_BRANCH26) (plain : dtrace_site_insn (lent_entry entries k) (lent_target targets k) ≡ None)
    (u : Unreported f k) (p : address_of b (lent_entry entries k) % 4 ≡ 0)
  where
    abbrev P : ℕ
    P = address_of b (lent_entry entries k)

    abbrev T : ℕ
    T = branch_target (lent_entry entries k) (lent_target targets k)

    abbrev goes_to : ℕ
    goes_to = M.branch_target (field (displacement (lent_entry entries k) (lent_target targets k) P) 2 26) P

    pub unreported-goes : ((branch_reaches T P ≡ true) × (T % 4 ≡ 0 → goes_to ≡ T))
        ⊎ ((branch_reaches T P ≡ false)
        × (thunk_serves (lent_entry entries k) (lent_target targets k) T ≡ true)
        × (branch_reaches (lent_target targets k).thunk P ≡ true → (lent_target targets k).thunk % 4 ≡ 0 → goes_to ≡ (lent_target targets k).thunk))
    unreported-goes = go (branch_reaches T P) refl
      where
        go : (x : Bool) → branch_reaches T P ≡ x
            → ((branch_reaches T P ≡ true) × (T % 4 ≡ 0 → goes_to ≡ T))
            ⊎ ((branch_reaches T P ≡ false)
            × (thunk_serves (lent_entry entries k) (lent_target targets k) T ≡ true)
            × (branch_reaches (lent_target targets k).thunk P ≡ true → (lent_target targets k).thunk % 4 ≡ 0 → goes_to ≡ (lent_target targets k).thunk))
        go true h = inl (h, λ t. goes l ty plain h t p)
        go false h = let s = must-serve l ty plain u h in inr (h, s, λ near t. goes-by-thunk l ty plain h s near t p)

-- ---- page offsets

fitted-silent : (s : Site) (q : Bool) (w n : ℕ) → (fitted s (choose q (Ok w) (Err n))).told ≡ None → q ≡ true
unfolding choose
fitted-silent s true w n h = refl
fitted-silent s false w n h = let z : ◌≡◌ {A = ℕ} 0 1 = cc in absurd (omega arith)

relaxed-silent : (s : Site) (ty target word : ℕ) → (relaxed s ty target word).told ≡ None → can_relax ty word ≡ true
unfolding relaxed
relaxed-silent s ty target word h = silent-test (can_relax ty word) _ _ _ refl h

module _ {section : List ℕ} {b : Bases} {entries targets slots : List ℕ} {f : Fixed} {k : ℕ} (l : Lone section b entries targets slots f k) where
  -- the size of a load or store divides the target
  pub access-aligned : {target : ℕ} → Offset (lent_entry entries k) (lent_target targets k) target → Unreported f k
      → (size v opc rt rn imm12 : ℕ) → decode (word_at entries section k) ≡ instruction (LDST size v opc rt rn imm12) → target % moved_by (row_of size v opc) ≡ 0
  access-aligned {target} r u size v opc rt rn imm12 d =
      eqb-true (target % moved_by (row_of size v opc)) 0
      (fitted-silent (site_of b k (lent_entry entries k)) (eqb (target % moved_by (row_of size v opc)) 0) _ _
      (sym
      (ap (λ (c : Change). c.told)
      (offset-does-it b k _ _ _ _ _ r
      ∙ ap (λ (x : Result ℕ ℕ). fitted (site_of b k (lent_entry entries k)) x) (load-store-patched _ size v opc rt rn imm12 target d)))
      ∙ unreported l u))

  -- a relaxed page offset had a word that can be relaxed
  pub relaxed-fits : Relaxed (lent_entry entries k) (lent_target targets k) → Unreported f k
      → can_relax (lent_entry entries k).ty (word_at entries section k) ≡ true
  relaxed-fits r u =
      relaxed-silent (site_of b k (lent_entry entries k)) (lent_entry entries k).ty (target_of (lent_entry entries k) (lent_target targets k))
      (word_at entries section k)
      (sym (ap (λ (c : Change). c.told) (relaxed-does l r)) ∙ unreported l u)

-- ---- pairs: entry k has a page and the word of an ADRP, entry m the page offset. What the word at m makes or accesses is said of a source
-- that holds the ADRP's page: so it is where the source is the ADRP's register

got-slot : (e : Reloc) (t : Resolved) → can_relax_got t ≡ false → got_target e t ≡ slot_of e t
unfolding got_target
got-slot e t h = choose-false (can_relax_got t) _ _ h

got-address : (e : Reloc) (t : Resolved) → can_relax_got t ≡ true → got_target e t ≡ target_of e t
unfolding got_target
got-address e t h = choose-true (can_relax_got t) _ _ h

module _ {section : List ℕ} {b : Bases} {entries targets slots : List ℕ} {f : Fixed} {k m : ℕ}
    (l : Lone section b entries targets slots f k) (u : Unreported f k) (l' : Lone section b entries targets slots f m)
    (rd imm : ℕ) (d : decode (word_at entries section k) ≡ instruction (ADRP rd imm))
  where
    -- the page of a target that the word at k makes
    abbrev page_to : ℕ → ℕ
    page_to target = adrp_page (page_imm target (address_of b (lent_entry entries k))) (address_of b (lent_entry entries k))

    -- what k's word is then
    abbrev PageAt : ℕ → Type 0
    PageAt target = decode (word_at entries f.section k) ≡ instruction (ADRP rd (page_imm target (address_of b (lent_entry entries k))))

    page-of : {page target : ℕ} → Page (lent_entry entries k) (lent_target targets k) page → page ≡ target
        → Page (lent_entry entries k) (lent_target targets k) target
    page-of r same = subst (λ (t : ℕ). Page (lent_entry entries k) (lent_target targets k) t) same r

    -- an unshifted ADD of 64 bits makes the target that both have: S + A of PAGE21 and PAGEOFF12
    pub pair-add : {page target : ℕ} → Page (lent_entry entries k) (lent_target targets k) page → Offset (lent_entry entries m) (lent_target targets m) target
        → page ≡ target
        → (rd' rn imm12 : ℕ) → decode (word_at entries section m) ≡ instruction (ADD 1 0 rd' rn imm12)
        → PageAt target
        × (decode (word_at entries f.section m) ≡ instruction (ADD 1 0 rd' rn (field target 0 12)))
        × (M.add_value 1 0 (page_to target) (field target 0 12) ≡ target)
    pair-add r r' same = let p = page-of r same in adrp-add l l' p (page-in-reach l p u) rd imm d r'

    -- of a GOT or TLVP pair that is not relaxed, G + A
    pub got-add : Page (lent_entry entries k) (lent_target targets k) (got_target (lent_entry entries k) (lent_target targets k)) → GotOffset (lent_entry entries m)
        → can_relax_got (lent_target targets k) ≡ false
        → can_relax_got (lent_target targets m) ≡ false
        → slot_of (lent_entry entries k) (lent_target targets k) ≡ slot_of (lent_entry entries m) (lent_target targets m)
        → (rd' rn imm12 : ℕ) → decode (word_at entries section m) ≡ instruction (ADD 1 0 rd' rn imm12)
        → PageAt (slot_of (lent_entry entries m) (lent_target targets m))
        × (decode (word_at entries f.section m) ≡ instruction (ADD 1 0 rd' rn (field (slot_of (lent_entry entries m) (lent_target targets m)) 0 12)))
        × (M.add_value 1 0 (page_to (slot_of (lent_entry entries m) (lent_target targets m))) (field (slot_of (lent_entry entries m) (lent_target targets m)) 0 12)
        ≡ slot_of (lent_entry entries m) (lent_target targets m))
    got-add r g n n' same = pair-add r (got-offset g n') (got-slot _ _ n ∙ same)

    module _ (size v opc rt rn imm12 : ℕ) (d' : decode (word_at entries section m) ≡ instruction (LDST size v opc rt rn imm12))
        (u' : Unreported f m)
      where
        -- what m's word is then, and where it loads or stores
        abbrev AccessAt : ℕ → Type 0
        AccessAt target =
            (decode (word_at entries f.section m) ≡ instruction (LDST size v opc rt rn (target % 2 ^ 12 / moved_by (row_of size v opc))))
            × (M.access_address (row_of size v opc) (page_to target) (target % 2 ^ 12 / moved_by (row_of size v opc)) ≡ target)

        -- a load or store accesses the target that both have: S + A of PAGE21 and PAGEOFF12
        pub pair-access : {page target : ℕ} → Page (lent_entry entries k) (lent_target targets k) page
            → Offset (lent_entry entries m) (lent_target targets m) target
            → page ≡ target
            → PageAt target × AccessAt target
        pair-access r r' same =
            let p = page-of r same in
            let w = adrp-access l l' p (page-in-reach l p u) rd imm d r' size v opc rt rn imm12 d'
            (access-aligned l' r' u' size v opc rt rn imm12 d') in
            (w.0, (w.1, w.2))

        -- of a GOT or TLVP pair that is not relaxed, G + A
        pub got-access : Page (lent_entry entries k) (lent_target targets k) (got_target (lent_entry entries k) (lent_target targets k))
            → GotOffset (lent_entry entries m)
            → can_relax_got (lent_target targets k) ≡ false
            → can_relax_got (lent_target targets m) ≡ false
            → slot_of (lent_entry entries k) (lent_target targets k) ≡ slot_of (lent_entry entries m) (lent_target targets m)
            → PageAt (slot_of (lent_entry entries m) (lent_target targets m)) × AccessAt (slot_of (lent_entry entries m) (lent_target targets m))
        got-access r g n n' same = pair-access r (got-offset g n') (got-slot _ _ n ∙ same)

    -- of one that is relaxed, the ADD in the load's place makes S + A
    pub got-relaxed : Page (lent_entry entries k) (lent_target targets k) (got_target (lent_entry entries k) (lent_target targets k))
        → Relaxed (lent_entry entries m) (lent_target targets m)
        → Unreported f m
        → can_relax_got (lent_target targets k) ≡ true
        → target_of (lent_entry entries k) (lent_target targets k) ≡ target_of (lent_entry entries m) (lent_target targets m)
        → PageAt (target_of (lent_entry entries m) (lent_target targets m))
        × (decode (word_at entries f.section m)
        ≡ instruction (ADD 1 0 (rd_in (word_at entries section m)) (rn_in (word_at entries section m))
        (field (target_of (lent_entry entries m) (lent_target targets m)) 0 12)))
        × (M.add_value 1 0 (page_to (target_of (lent_entry entries m) (lent_target targets m))) (field (target_of (lent_entry entries m) (lent_target targets m)) 0 12)
        ≡ target_of (lent_entry entries m) (lent_target targets m))
    got-relaxed r r' u' x same =
        let p = page-of r (got-address _ _ x ∙ same) in
        adrp-relaxed l l' p (page-in-reach l p u) rd imm d r' refl (relaxed-fits l' r' u')
