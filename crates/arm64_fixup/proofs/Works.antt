-- One turn of the second walk, in the form in which the loop asks for it, and the reports' bytes one after another.
use Rattle.std.specs.Prelude.{Ok, Option, Some, None}
use mathlib.Core.Path.{◌≡◌, refl, sym, ap, ◌∙◌}
use mathlib.Core.Bool.{Bool, false}
use mathlib.Core.List.{List, ◌++◌}
use Prim.Native.Nat.{ℕ, ◌+◌, ◌*◌, ◌≤◌, ◌<◌}
use native.Mathlib.Omega.{arith}
use lib.Dec.{eqb}
use lib.ListN.{length, length-append}
use lib.Seq.{sets}
use Rattle.util.specs.Word.{le}
use Rattle.macho.specs.Record.{list_bytes}
use Rattle.macho.specs.Report.{report_bytes}
use Rattle.macho.specs.declared.report.Report.{Report}
use Rattle.macho.proofs.RoundTrip.{report, length-image}
use Rattle.macho.proofs.Stored.{length-list, list-append, stored_more, stored-front}
use Rattle.macho.specs.declared.reloc.Reloc.{Reloc}
use Rattle.macho.specs.declared.resolved.Resolved.{Resolved}
use Rattle.arm64_fixup_entry.specs.Check.{check_of}
use Rattle.arm64_fixup_entry.specs.Change.{bytes_in, change_of}
use Rattle.arm64_fixup.specs.Walk.{entry_count, lent_entry, lent_target, taken_by, consumed, check_all, stored, reports_of, Fixed}
use Rattle.arm64_fixup.specs.Walk.{applied, fix_to, fix_all}
use Rattle.arm64_fixup.specs.Answer.{filled}
use Rattle.arm64_fixup_entry.specs.declared.target.Bases.{Bases}
use Rattle.arm64_fixup_entry.specs.declared.change.Change.{Change}
use Rattle.arm64_fixup_entry.proofs.Sound.{sound}
use Rattle.arm64_fixup.proofs.Turns.{next-worked, passes, check-worked, next-within, ended, takes, fix-next}
use Rattle.arm64_fixup_entry.proofs.Width.{change-fits}

-- ---- reports

length-report : (r : Report) → length (report_bytes r) ≡ 24
length-report r = length-image report r

length-reports : (rs : List Report) → length (list_bytes report_bytes rs) ≡ 24 * length rs
length-reports rs = length-list report rs

reports_append : (rs qs : List Report) → list_bytes report_bytes (rs ++ qs) ≡ list_bytes report_bytes rs ++ list_bytes report_bytes qs
reports_append rs qs = list-append report rs qs

-- reports stored after others
more : (slots : List ℕ) (rs qs : List Report)
    → sets slots 0 (list_bytes report_bytes (rs ++ qs)) ≡ sets (sets slots 0 (list_bytes report_bytes rs)) (24 * length rs) (list_bytes report_bytes qs)
more slots rs qs = stored_more report slots rs qs

-- stored reports are the front of the slots
front : (slots : List ℕ) (f : Fixed) → 24 * length f.reports ≤ length slots → sets slots 0 (list_bytes report_bytes f.reports) ≡ filled f slots
front slots f h = stored-front report slots f.reports h

-- at most one report an entry
at_most_one : (t : Option Report) → length (reports_of t) ≤ 1
at_most_one None = omega arith
at_most_one (Some r) = omega arith

-- ---- the turn

-- what a change stores has room
pub room : (len : ℕ) (b : Bases) (i : ℕ) (e : Reloc) (t : Resolved) (last : Bool) (next : Reloc) (next_target : Resolved) (word : ℕ) {c : Change}
    → check_of len b e t last ≡ Ok tt → c ≡ change_of b i e t next next_target word → e.offset + bytes_in c.write ≤ len
room len b i e t last next next_target word h q =
    let s = sound len b e t last h in
    rw q (omega (arith, change-fits b i e t next next_target word))

module _ (b : Bases) (entries targets section : List ℕ) (i : ℕ) (free : consumed entries i ≡ false) where
  -- the entry was checked
  pub fit_at : {e : Reloc} {t : Resolved} {len : ℕ} → check_all (length section) b entries targets ≡ Ok tt → i < entry_count entries
      → e ≡ lent_entry entries i → t ≡ lent_target targets i → len ≡ length section → check_of len b e t (eqb (i + 1) (entry_count entries)) ≡ Ok tt
  fit_at h below pe pt pl =
      rw (pl, pe, pt) (sym (check-worked (length section) b entries targets i free) ∙ passes (length section) b entries targets (entry_count entries) i h below)

  module _ {e : Reloc} {t : Resolved} {c : Change} {k : ℕ} (pe : e ≡ lent_entry entries i) (pt : t ≡ lent_target targets i) (pk : k ≡ taken_by e.ty)
      {buf : List ℕ} (pb : buf ≡ (fix_to b entries targets section i).section)
      (pc : c ≡ change_of b i e t (lent_entry entries (i + 1)) (lent_target targets (i + 1)) (le 4 buf e.offset))
    where
      step : fix_to b entries targets section (i + k) ≡ applied (fix_to b entries targets section i) e.offset c
      step = rw (pc, pb, pk, pe, pt) (fix-next b entries targets section i free)

      -- what holds after the turn
      pub work-again : (slots₀ : List ℕ) {count count' : ℕ} {slots slots' buf' : List ℕ} → i < entry_count entries
          → check_all (length section) b entries targets ≡ Ok tt
          → count ≤ i
          → count ≡ length (fix_to b entries targets section i).reports
          → slots ≡ sets slots₀ 0 (list_bytes report_bytes (fix_to b entries targets section i).reports)
          → buf' ≡ stored buf e.offset c.write
          → count' ≡ count + length (reports_of c.told)
          → slots' ≡ sets slots (24 * count) (list_bytes report_bytes (reports_of c.told))
          → (i + k ≤ entry_count entries)
          × (consumed entries (i + k) ≡ false)
          × (count' ≤ i + k)
          × (count' ≡ length (fix_to b entries targets section (i + k)).reports)
          × (buf' ≡ (fix_to b entries targets section (i + k)).section)
          × (slots' ≡ sets slots₀ 0 (list_bytes report_bytes (fix_to b entries targets section (i + k)).reports))
      work-again slots₀ below h few pn ps qb qn qs = (
        rw (pk, pe) (next-within (length section) b entries targets i free below (fit_at h below refl refl refl)),
        rw (pk, pe) (next-worked entries i free),
        omega (arith, at_most_one c.told, (takes e.ty pk).0),
        rw step (qn ∙ simp length-append (omega arith)),
        rw step (qb ∙ ap (λ (s : List ℕ). stored s e.offset c.write) pb),
        rw step (qs ∙ rw (ps, pn) (sym (more slots₀ (fix_to b entries targets section i).reports (reports_of c.told)))),
      )

-- what holds after the last turn
pub work-done : (b : Bases) (entries targets section slots₀ : List ℕ) (i : ℕ) {count : ℕ} {buf slots : List ℕ} → i ≤ entry_count entries → entry_count entries ≤ i
    → count ≤ i
    → 24 * entry_count entries ≤ length slots₀
    → count ≡ length (fix_to b entries targets section i).reports
    → buf ≡ (fix_to b entries targets section i).section
    → slots ≡ sets slots₀ 0 (list_bytes report_bytes (fix_to b entries targets section i).reports)
    → (count ≡ length (fix_all b entries targets section).reports)
    × ((buf ≡ (fix_all b entries targets section).section) × (slots ≡ filled (fix_all b entries targets section) slots₀))
work-done b entries targets section slots₀ i {count} {buf} {slots} l g few enough pn pb ps =
    ended
    (λ (k : ℕ).
    (count ≡ length (fix_to b entries targets section k).reports)
    × ((buf ≡ (fix_to b entries targets section k).section) × (slots ≡ filled (fix_to b entries targets section k) slots₀)))
    l
    g
    (pn, (pb, ps ∙ front slots₀ (fix_to b entries targets section i) (omega arith)))
