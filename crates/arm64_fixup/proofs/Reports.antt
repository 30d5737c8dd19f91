-- What the reports say: each report of an entry carries its number; what entry k tells stands in the list; so an entry with no report in the
-- list was in reach. Where the call fills no report, that is every entry.
use Rattle.std.specs.Prelude.{Ok, Option, Some, None}
use mathlib.Core.Path.{◌≡◌, refl, sym, ap, ◌∙◌, subst}
use mathlib.Core.Bool.{Bool, true, false}
use mathlib.Core.List.{List, [], ◌∷◌, ◌++◌, Memᴰ}
use Prim.Native.Nat.{ℕ, zero, suc, ◌+◌, ◌-◌}
use native.Mathlib.Omega.{arith}
use lib.ListN.{length}
use Rattle.util.specs.Choice.{choose}
use Rattle.util.proofs.Choice.{chosen, choose-false}
use Rattle.macho.specs.Types.{ARM64_RELOC_BRANCH26}
use Rattle.macho.specs.declared.reloc.Reloc.{Reloc}
use Rattle.macho.specs.declared.resolved.Resolved.{Resolved}
use Rattle.macho.specs.declared.report.Report as R
use Rattle.macho.specs.declared.report.Report.{Report}
use Rattle.arm64_insn.specs.Reach.{adrp_reaches}
use Rattle.arm64_insn.specs.Branch.{branch_reaches}
use Rattle.arm64_fixup_entry.specs.Target.{address_of}
use Rattle.arm64_fixup_entry.specs.Change.{silent, branch_target, thunk_serves, dtrace_site_insn, branch, page21, difference, change_of}
use Rattle.arm64_fixup.specs.Walk.{lent_entry, lent_target, entry_count, consumed, reports_of, Fixed, change_at, work_at, fix_to}
use Rattle.arm64_fixup.specs.Answer.{Outcome, refused, fixed, outcome_of, answer_of, section_after}
use Rattle.arm64_fixup.specs.Footprint.{Lone, Unreported, word_at}
use Rattle.arm64_fixup_entry.specs.Roles.{Page}
use Rattle.arm64_fixup_entry.specs.declared.target.Bases.{Bases}
use Rattle.arm64_fixup_entry.specs.declared.change.Site.{Site}
use Rattle.arm64_fixup_entry.specs.declared.change.Write.{Write}
use Rattle.arm64_fixup_entry.specs.declared.change.Change.{Change}
use Rattle.arm64_fixup_entry.proofs.Shapes.{of_word}
use Rattle.arm64_fixup.proofs.Turns.{work-worked, fix-suc}
use Rattle.arm64_fixup.proofs.Whole.{accepts}
use Rattle.arm64_fixup.proofs.Lone.{lent-step}
use Rattle.arm64_fixup_entry.proofs.ByType.{site_of, branch-untraced, page-does-it}

-- ---- no report at all

-- a call that fills no report ends with the section that it leaves and none
pub none_filled : (section : List ℕ) (b : Bases) (entries targets slots : List ℕ) → answer_of (outcome_of section b entries targets slots) ≡ Ok 0
    → outcome_of section b entries targets slots
    ≡ fixed (record { section = section_after (outcome_of section b entries targets slots) section; reports = [] })
none_filled section b entries targets slots = go (outcome_of section b entries targets slots)
  where
    none : (s : List ℕ) (rs : List R.Report) → length rs ≡ 0 → fixed (record { section = s; reports = rs }) ≡ fixed (record { section = s; reports = [] })
    none s [] h = refl
    none s (r ∷ rs) h = absurd (omega arith)

    go : (o : Outcome) → answer_of o ≡ Ok 0 → o ≡ fixed (record { section = section_after o section; reports = [] })
    go (refused r) h = let z : ◌≡◌ {A = ℕ} 0 1 = cc in absurd (omega arith)
    go (fixed f) h = none f.section f.reports cc

-- and names no entry
pub none_named : (section : List ℕ) (k : ℕ) → Unreported (record { section = section; reports = [] }) k
none_named section k r m e = mathlib.Core.List.Memᴰ.not-nil m

-- ---- whose report it is

-- that what is told is entry i's
Of : ℕ → Option Report → Type 0
Of i None = Unit {0}
Of i (Some r) = r.entry ≡ i

Tells : ℕ → Change → Type 0
Tells i c = Of i c.told

difference-tells : (i : ℕ) (e : Reloc) (value : ℕ) → Tells i (difference e value)
unfolding difference Tells Of
difference-tells i e value = chosen (Tells i) _ _ _ tt tt

change-tells : (b : Bases) (i : ℕ) (e : Reloc) (t : Resolved) (next : Reloc) (next_target : Resolved) (word : ℕ)
    → Tells i (change_of b i e t next next_target word)
unfolding change_of Tells Of
change-tells b i e t next next_target word =
    chosen (Tells i) _ _ _ tt
    (chosen (Tells i) _ _ _ tt
    (chosen (Tells i) _ _ _ tt
    (chosen (Tells i) _ _ _ (difference-tells i e _)
    (of_word (Tells i) (record { entry = i; addr = address_of b e }) tt (λ w. tt) (λ w kind target. refl) (λ kind size. refl) e t word))))

-- ---- what is told stands in the list

module _ (b : Bases) (entries targets : List ℕ) where
  -- reports stay
  work-keeps : (f : Fixed) (i : ℕ) {r : R.Report} → Memᴰ r f.reports → Memᴰ r (work_at b entries targets f i).reports
  unfolding work_at
  work-keeps f i {r} m = chosen (λ (g : Fixed). Memᴰ r g.reports) (consumed entries i) f _ m (mathlib.Core.List.Memᴰ.append_left _ m)

  fix-keeps : (section : List ℕ) (j i : ℕ) {r : R.Report} → Memᴰ r (fix_to b entries targets section i).reports
      → Memᴰ r (fix_to b entries targets section (j + i)).reports
  fix-keeps section zero i {r} m = subst (λ (k : ℕ). Memᴰ r (fix_to b entries targets section k).reports) (omega arith) m
  fix-keeps section (suc j) i {r} m =
      subst (λ (k : ℕ). Memᴰ r (fix_to b entries targets section k).reports) {x = suc (j + i)} {y = suc j + i} (omega arith)
      (subst (λ (g : Fixed). Memᴰ r g.reports) (sym (fix-suc b entries targets section (j + i)))
      (work-keeps (fix_to b entries targets section (j + i)) (j + i) (fix-keeps section j i m)))

-- a page and a branch that tell nothing
pub silent-test : (q : Bool) (w : Write) (c : Change) (r : R.Report) → c.told ≡ Some r → (choose q (silent w) c).told ≡ None → q ≡ true
unfolding choose
silent-test true w c r h e = refl
silent-test false w c r h e = let z : ◌≡◌ {A = ℕ} 0 1 = cc in absurd (omega arith)

page-silent : (s : Site) (target word : ℕ) → (page21 s target word).told ≡ None → adrp_reaches target s.addr ≡ true
unfolding page21
page-silent s target word h = silent-test (adrp_reaches target s.addr) _ _ _ refl h

branch-silent : (s : Site) (e : Reloc) (t : Resolved) (word : ℕ) → thunk_serves e t (branch_target e t) ≡ false → (branch s e t word).told ≡ None
    → branch_reaches (branch_target e t) s.addr ≡ true
unfolding branch
branch-silent s e t word far h =
    silent-test (branch_reaches (branch_target e t) s.addr) _ _ _ (ap (λ (c : Change). c.told) (choose-false (thunk_serves e t (branch_target e t)) _ _ far)) h

branch-served : (s : Site) (e : Reloc) (t : Resolved) (word : ℕ) → branch_reaches (branch_target e t) s.addr ≡ false → (branch s e t word).told ≡ None
    → thunk_serves e t (branch_target e t) ≡ true
unfolding branch
branch-served s e t word far h =
    silent-test (thunk_serves e t (branch_target e t)) _ _ _ refl
    (sym (ap (λ (c : Change). c.told) (choose-false (branch_reaches (branch_target e t) s.addr) _ _ far)) ∙ h)

module _ {section : List ℕ} {b : Bases} {entries targets slots : List ℕ} {f : Fixed} {k : ℕ} (l : Lone section b entries targets slots f k) where
  -- what entry k tells of the lent bytes stands in the list
  pub told_in : {r : R.Report} → (change_at b entries targets section k).told ≡ Some r → Memᴰ r f.reports
  told_in {r} h =
      let a = accepts section b entries targets slots l.accepted in
      let one : (fix_to b entries targets section (suc k)).reports ≡ (fix_to b entries targets section k).reports ++ (r ∷ []) =
      ap (λ (g : Fixed). g.reports)
      (fix-suc b entries targets section k ∙ work-worked b entries targets (fix_to b entries targets section k) k l.worked)
      ∙ ap (λ (t : Option Report). (fix_to b entries targets section k).reports ++ reports_of t) (ap (λ (c : Change). c.told) (lent-step l) ∙ h) in
      let m : Memᴰ r (fix_to b entries targets section (suc k)).reports =
      subst (λ (rs : List R.Report). Memᴰ r rs) (sym one)
      (mathlib.Core.List.Memᴰ.append_right (fix_to b entries targets section k).reports (mathlib.Core.List.Memᴰ.head {xs = []} refl)) in
      let n : entry_count entries - suc k + suc k ≡ entry_count entries = omega (arith, l.listed) in
      subst (λ (g : Fixed). Memᴰ r g.reports) (sym a.work)
      (subst (λ (j : ℕ). Memᴰ r (fix_to b entries targets section j).reports) n
      (fix-keeps b entries targets section (entry_count entries - suc k) (suc k) m))

  -- an entry that no report names told nothing
  pub unreported : Unreported f k → (change_at b entries targets section k).told ≡ None
  unfolding Of Tells
  unreported u = go (change_at b entries targets section k).told refl
    where
      go : (t : Option Report) → (change_at b entries targets section k).told ≡ t → t ≡ None
      go None e = refl
      go (Some r) e =
          absurd
          (u r (told_in e)
          (subst (Of k) e
          (change-tells b k (lent_entry entries k) (lent_target targets k) (lent_entry entries (k + 1)) (lent_target targets (k + 1)) (word_at entries section k))))

  -- so an ADRP was in reach
  pub page-in-reach : {target : ℕ} → Page (lent_entry entries k) (lent_target targets k) target → Unreported f k
      → adrp_reaches target (address_of b (lent_entry entries k)) ≡ true
  page-in-reach {target} r u =
      page-silent (site_of b k (lent_entry entries k)) target (word_at entries section k)
      (sym (ap (λ (c : Change). c.told) (page-does-it b k _ _ _ _ _ r)) ∙ unreported u)

  -- a branch out of reach is one that a thunk serves
  pub must-serve : (lent_entry entries k).ty ≡ ARM64_RELOC_BRANCH26 → dtrace_site_insn (lent_entry entries k) (lent_target targets k) ≡ None → Unreported f k
      → branch_reaches (branch_target (lent_entry entries k) (lent_target targets k)) (address_of b (lent_entry entries k)) ≡ false
      → thunk_serves (lent_entry entries k) (lent_target targets k) (branch_target (lent_entry entries k) (lent_target targets k)) ≡ true
  must-serve ty plain u far =
      branch-served (site_of b k (lent_entry entries k)) (lent_entry entries k) (lent_target targets k) (word_at entries section k) far
      (sym (ap (λ (c : Change). c.told) (branch-untraced b k _ _ _ _ _ ty plain)) ∙ unreported u)

  -- and a branch that takes no thunk
  pub branch-in-reach : (lent_entry entries k).ty ≡ ARM64_RELOC_BRANCH26 → dtrace_site_insn (lent_entry entries k) (lent_target targets k) ≡ None → Unreported f k
      → thunk_serves (lent_entry entries k) (lent_target targets k) (branch_target (lent_entry entries k) (lent_target targets k)) ≡ false
      → branch_reaches (branch_target (lent_entry entries k) (lent_target targets k)) (address_of b (lent_entry entries k)) ≡ true
  branch-in-reach ty plain u far =
      branch-silent (site_of b k (lent_entry entries k)) (lent_entry entries k) (lent_target targets k) (word_at entries section k) far
      (sym (ap (λ (c : Change). c.told) (branch-untraced b k _ _ _ _ _ ty plain)) ∙ unreported u)
