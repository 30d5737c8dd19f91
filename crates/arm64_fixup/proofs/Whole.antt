-- The whole call: its outcome by the two checks, and what an outcome says of the answer and of the lent bytes.
use Rattle.std.specs.Prelude.{Result, Ok, Err, ⊤}
use mathlib.Core.Path.{◌≡◌, refl, sym, ap, ◌∙◌}
use mathlib.Core.Bool.{Bool, true, false, ◌||◌, not}
use mathlib.Core.List.{List}
use Prim.Native.Nat.{ℕ, ◌*◌, ◌/◌, ◌%◌, ◌^◌, ◌≤◌, ◌<◌}
use native.Mathlib.Omega.{arith}
use borrow.Author.Tests.{ltb-false, eqb-true, lt-ltb}
use lib.Dec.{eqb, ltb}
use lib.ListN.{length}
use Rattle.macho.specs.Record.{most_records}
use Rattle.macho.specs.declared.refusal.Refusal.{Refusal}
use Rattle.macho.specs.declared.refusal.Refusal.TheVariants.{Lengths}
use Rattle.util.specs.Choice.{choose}
use Rattle.arm64_fixup.specs.Walk.{check_all, Fixed, fix_all}
use Rattle.arm64_fixup.specs.Answer.{disagree, lacks_slots, check_lists, Outcome, refused, fixed, after, outcome_of, answer_of, section_after}
use Rattle.arm64_fixup.specs.Answer.{filled, slots_after}
use Rattle.arm64_fixup_entry.specs.declared.target.Bases.{Bases}
use Rattle.arm64_fixup_entry.proofs.Sound.{passed}

-- lists whose lengths agree
pub record Lists (entries targets slots : ℕ) : Type 0 where
  pub whole : entries % 24 ≡ 0
  pub few : entries / 24 < 2 ^ 32
  pub paired : entries / 24 ≡ targets / 48
  pub enough : 24 * (entries / 24) ≤ slots

or-false : (a b : Bool) → (a || b) ≡ false → (a ≡ false) × (b ≡ false)
or-false false b h = (refl, h)
or-false true b h = let z : ◌≡◌ {A = ℕ} 0 1 = cc in absurd (omega arith)

or-true : (a : Bool) → (a || true) ≡ true
or-true true = refl
or-true false = refl

not_eqb : (m n : ℕ) → not (eqb m n) ≡ false → m ≡ n
not_eqb m n h = go (eqb m n) refl h
  where
    go : (t : Bool) → eqb m n ≡ t → not t ≡ false → m ≡ n
    go true e _ = eqb-true m n e
    go false e h = let z : ◌≡◌ {A = ℕ} 0 1 = cc in absurd (omega arith)

pub lists : (entries targets slots : ℕ) → check_lists entries targets slots ≡ Ok tt → Lists entries targets slots
unfolding check_lists
lists entries targets slots h =
    let p = passed (disagree entries targets) _ _ h in
    let q = passed (lacks_slots entries slots) _ _ p.1 in
    let a = or-false (not (eqb (entries % 24) 0) || not (eqb (targets % 48) 0) || ltb most_records (entries / 24)) _ p.0 in
    let b = or-false (not (eqb (entries % 24) 0) || not (eqb (targets % 48) 0)) _ a.0 in
    let c = or-false (not (eqb (entries % 24) 0)) _ b.0 in
    record {
      whole = not_eqb _ _ c.0;
      few = let l = ltb-false most_records (entries / 24) b.1 in omega arith;
      paired = not_eqb _ _ a.1;
      enough = ltb-false _ _ q.0;
    }

module _ (section : List ℕ) (b : Bases) (entries targets slots : List ℕ) where
  -- what a refusal of the call says
  pub turned_down : {r : Refusal} → outcome_of section b entries targets slots ≡ refused r
      → (Err r ≡ answer_of (outcome_of section b entries targets slots))
      × ((section ≡ section_after (outcome_of section b entries targets slots) section) × (slots ≡ slots_after (outcome_of section b entries targets slots) slots))
  turned_down o = rw o (refl, (refl, refl))

  -- by the lists, and by an entry
  pub by-lists : {c : Result ⊤ Refusal} {r : Refusal} → c ≡ check_lists (length entries) (length targets) (length slots) → c ≡ Err r
      → outcome_of section b entries targets slots ≡ refused r
  unfolding outcome_of
  by-lists q p = rw (sym q ∙ p)

  -- RULES 3.9: 2^32 entries or more are number 1
  pub too_many : 2 ^ 32 ≤ length entries / 24 → outcome_of section b entries targets slots ≡ refused Lengths
  unfolding outcome_of check_lists choose
  too_many h = rw (lt-ltb most_records (length entries / 24) (omega arith), or-true (not (eqb (length entries % 24) 0) || not (eqb (length targets % 48) 0)))

  module _ (fit : check_lists (length entries) (length targets) (length slots) ≡ Ok tt) where
    pub by-entry : {c : Result ⊤ Refusal} {r : Refusal} → c ≡ check_all (length section) b entries targets → c ≡ Err r
        → outcome_of section b entries targets slots ≡ refused r
    unfolding outcome_of
    by-entry q p = rw (fit, sym q ∙ p)

    accepted : check_all (length section) b entries targets ≡ Ok tt → outcome_of section b entries targets slots ≡ fixed (fix_all b entries targets section)
    unfolding outcome_of
    accepted h = rw (fit, h)

    pub done : {n : ℕ} {section' slots' : List ℕ} → check_all (length section) b entries targets ≡ Ok tt
        → n ≡ length (fix_all b entries targets section).reports
        → section' ≡ (fix_all b entries targets section).section
        → slots' ≡ filled (fix_all b entries targets section) slots
        → (Ok n ≡ answer_of (outcome_of section b entries targets slots))
        × ((section' ≡ section_after (outcome_of section b entries targets slots) section)
        × (slots' ≡ slots_after (outcome_of section b entries targets slots) slots))
    done h pn ps pl = rw (accepted h) (ap Ok pn, (ps, pl))

  -- what an accepted call says
  pub record Accepted (f : Fixed) : Type 0 where
    pub agree : Lists (length entries) (length targets) (length slots)
    pub fit : check_all (length section) b entries targets ≡ Ok tt
    pub work : f ≡ fix_all b entries targets section

  after-fixed : (c : Result ⊤ Refusal) (o : Outcome) (f : Fixed) → after c o ≡ fixed f → (c ≡ Ok tt) × (o ≡ fixed f)
  after-fixed (Ok tt) o f h = (refl, h)
  after-fixed (Err r) o f h = let z : ◌≡◌ {A = ℕ} 0 1 = cc in absurd (omega arith)

  pub accepts : {f : Fixed} → outcome_of section b entries targets slots ≡ fixed f → Accepted f
  unfolding outcome_of
  accepts {f} h =
      let p = after-fixed (check_lists (length entries) (length targets) (length slots)) _ f h in
      let q = after-fixed (check_all (length section) b entries targets) _ f p.1 in
      record { agree = lists (length entries) (length targets) (length slots) p.0; fit = q.0; work = cc }
