-- The second walk byte by byte: an entry leaves what it does not write, and what it writes lies in its footprint.
use Rattle.std.specs.Prelude.{Ok}
use mathlib.Core.Path.{◌≡◌, refl, sym, ap, ◌∙◌}
use mathlib.Core.Bool.{Bool, true, false}
use mathlib.Core.List.{List}
use mathlib.Core.Logic.{◌⊎◌, inl, inr, ⊎_elim}
use Prim.Native.Nat.{ℕ, zero, suc, zero-le, ◌+◌, ◌-◌, ◌≤◌, ◌<◌}
use native.Mathlib.Omega.{arith}
use borrow.Author.Tests.{ltb-true, ltb-false}
use lib.Dec.{eqb, ltb}
use lib.ListN.{length, get_or}
use Rattle.util.specs.Choice.{choose}
use Rattle.util.specs.Word.{le, put}
use Rattle.util.proofs.Choice.{choose-true, choose-false}
use Rattle.util.proofs.Word.{Apart, get_d-put, get_d-put-other, le-ext}
use Rattle.macho.specs.declared.reloc.Reloc.{Reloc}
use Rattle.macho.specs.declared.resolved.Resolved.{Resolved}
use Rattle.arm64_fixup_entry.specs.Target.{width_of}
use Rattle.arm64_fixup_entry.specs.Change.{bytes_in, silent, change_of}
use Rattle.arm64_fixup.specs.Walk.{lent_entry, lent_target, entry_count, consumed, check_to, stored, Fixed, change_at, work_at, fix_to}
use Rattle.arm64_fixup.specs.Footprint.{offset_at, width_at, Touches, written_at, Writes}
use Rattle.arm64_fixup_entry.specs.declared.target.Bases.{Bases}
use Rattle.arm64_fixup_entry.specs.declared.change.Change.{Change}
use Rattle.arm64_fixup_entry.specs.declared.change.Write.{Write}
use Rattle.arm64_fixup_entry.specs.declared.change.Write.TheVariants.{Nothing, Word, Pointer}
use Rattle.arm64_fixup.proofs.Turns.{work-worked, work-taken, fix-suc, length-fix}
use Rattle.arm64_fixup.proofs.Works.{fit_at, room}
use Rattle.arm64_fixup_entry.proofs.Width.{wide, change-fits}

-- ---- one write

-- a byte is among n bytes from `at` on, or apart from them
where-at : (at n p : ℕ) → ((at ≤ p) × (p < at + n)) ⊎ Apart at n p 1
where-at at n p = go (ltb p at) (ltb p (at + n)) refl refl
  where
    go : (a c : Bool) → ltb p at ≡ a → ltb p (at + n) ≡ c → ((at ≤ p) × (p < at + n)) ⊎ Apart at n p 1
    go true c e f = inr (inr (omega (arith, ltb-true p at e)))
    go false true e f = inl (ltb-false p at e, ltb-true p (at + n) f)
    go false false e f = inr (inl (ltb-false p (at + n) f))

-- a byte that a write does not reach
stored_other : (s : List ℕ) (at : ℕ) (w : Write) (p : ℕ) → ((at ≤ p) × (p < at + bytes_in w) → ⊥) → get_or (stored s at w) p 0 ≡ get_or s p 0
stored_other s at Nothing p h = refl
stored_other s at (Word v) p h = ⊎_elim (λ i. absurd (h i)) (λ o. get_d-put-other 4 s at v p o) (where-at at 4 p)
stored_other s at (Pointer v) p h = ⊎_elim (λ i. absurd (h i)) (λ o. get_d-put-other 8 s at v p o) (where-at at 8 p)

-- the same write to lists that agree at a byte
put-agree : (n : ℕ) (s t : List ℕ) (at v p : ℕ) → at + n ≤ length s → at + n ≤ length t → get_or s p 0 ≡ get_or t p 0
    → get_or (put n s at v) p 0 ≡ get_or (put n t at v) p 0
put-agree n s t at v p l m h =
    ⊎_elim
    (λ (i : (at ≤ p) × (p < at + n)).
    let e : p ≡ at + (p - at) = omega arith in
    let k : p - at < n = omega arith in
    rw e (get_d-put n s at v (p - at) k l ∙ sym (get_d-put n t at v (p - at) k m)))
    (λ o. get_d-put-other n s at v p o ∙ h ∙ sym (get_d-put-other n t at v p o))
    (where-at at n p)

stored-agree : (s t : List ℕ) (at : ℕ) (w : Write) (p : ℕ) → at + bytes_in w ≤ length s → at + bytes_in w ≤ length t → get_or s p 0 ≡ get_or t p 0
    → get_or (stored s at w) p 0 ≡ get_or (stored t at w) p 0
stored-agree s t at Nothing p l m h = h
stored-agree s t at (Word v) p l m h = put-agree 4 s t at v p l m h
stored-agree s t at (Pointer v) p l m h = put-agree 8 s t at v p l m h

-- ---- one entry

-- the width of an entry that is worked
pub worked-width : (entries targets : List ℕ) (i : ℕ) → consumed entries i ≡ false
    → width_at entries targets i ≡ width_of (lent_entry entries i) (lent_target targets i)
unfolding width_at
worked-width entries targets i e = choose-false (consumed entries i) 0 _ e

module _ (section : List ℕ) (b : Bases) (entries targets : List ℕ) where
  -- what it writes
  pub worked-writes : (i : ℕ) → consumed entries i ≡ false
      → written_at section b entries targets i ≡ bytes_in (change_at b entries targets (fix_to b entries targets section i).section i).write
  unfolding written_at
  worked-writes i e = choose-false (consumed entries i) 0 _ e

  taken-writes : (i : ℕ) → consumed entries i ≡ true → written_at section b entries targets i ≡ 0
  unfolding written_at
  taken-writes i e = choose-true (consumed entries i) 0 _ e

  -- an entry leaves the bytes that it does not write
  work-leaves : (i p : ℕ) → (Writes section b entries targets i p → ⊥)
      → get_or (fix_to b entries targets section (suc i)).section p 0 ≡ get_or (fix_to b entries targets section i).section p 0
  work-leaves i p h = ap (λ (g : Fixed). get_or g.section p 0) (fix-suc b entries targets section i) ∙ go (consumed entries i) refl
    where
      f : Fixed
      f = fix_to b entries targets section i

      go : (t : Bool) → consumed entries i ≡ t → get_or (work_at b entries targets f i).section p 0 ≡ get_or f.section p 0
      go true e = ap (λ (g : Fixed). get_or g.section p 0) (work-taken b entries targets f i e)
      go false e =
          ap (λ (g : Fixed). get_or g.section p 0) (work-worked b entries targets f i e)
          ∙ stored_other f.section (offset_at entries i) (change_at b entries targets f.section i).write p
          (λ w. h (w.0, omega (arith, worked-writes i e)))

  -- the entries from i on leave what none of them writes
  fix-leaves : (i m p : ℕ) → ((j : ℕ) → i ≤ j → j < m + i → Writes section b entries targets j p → ⊥)
      → get_or (fix_to b entries targets section (m + i)).section p 0 ≡ get_or (fix_to b entries targets section i).section p 0
  fix-leaves i zero p h = ap (λ (k : ℕ). get_or (fix_to b entries targets section k).section p 0) (omega arith)
  fix-leaves i (suc m) p h =
      ap (λ (k : ℕ). get_or (fix_to b entries targets section k).section p 0) {x = suc m + i} {y = suc (m + i)} (omega arith)
      ∙ work-leaves (m + i) p (h (m + i) (omega arith) (omega arith))
      ∙ fix-leaves i m p (λ j l g. h j l (omega arith))

  -- all of them, from the lent section on
  pub from_start : (n p : ℕ) → ((j : ℕ) → j < n → Writes section b entries targets j p → ⊥)
      → get_or (fix_to b entries targets section n).section p 0 ≡ get_or section p 0
  unfolding fix_to
  from_start n p h =
      ap (λ (m : ℕ). get_or (fix_to b entries targets section m).section p 0) {x = n} {y = n + 0} (omega arith)
      ∙ fix-leaves 0 n p (λ j _ l. h j (omega arith))

  -- what an entry writes is no more than its width
  pub written-fits : (i : ℕ) → written_at section b entries targets i ≤ width_at entries targets i
  written-fits i = go (consumed entries i) refl
    where
      go : (t : Bool) → consumed entries i ≡ t → written_at section b entries targets i ≤ width_at entries targets i
      go true e = rw (taken-writes i e) zero-le
      go false e =
          rw (worked-writes i e, worked-width entries targets i e)
          (change-fits b i (lent_entry entries i) (lent_target targets i) (lent_entry entries (i + 1)) (lent_target targets (i + 1))
          (le 4 (fix_to b entries targets section i).section (offset_at entries i)))

-- a byte of a footprint is one of an entry that is worked
pub touched-worked : (entries targets : List ℕ) (i : ℕ) → 0 < width_at entries targets i → consumed entries i ≡ false
unfolding width_at choose
touched-worked entries targets i = go (consumed entries i)
  where
    go : (t : Bool) → 0 < choose t 0 (width_of (lent_entry entries i) (lent_target targets i)) → t ≡ false
    go true h = absurd (omega arith)
    go false h = refl

-- an entry with no width does nothing, whatever the word
does-nothing : (b : Bases) (i : ℕ) (e : Reloc) (t : Resolved) (next : Reloc) (next_target : Resolved) (word : ℕ) → eqb (width_of e t) 0 ≡ true
    → change_of b i e t next next_target word ≡ silent Nothing
unfolding change_of
does-nothing b i e t next next_target word h = choose-true (eqb (width_of e t) 0) _ _ h

-- what an entry does depends on the bytes of its footprint alone
pub reads-touch : (b : Bases) (entries targets : List ℕ) (i : ℕ) (s s' : List ℕ) → consumed entries i ≡ false
    → ((p : ℕ) → Touches entries targets i p → get_or s p 0 ≡ get_or s' p 0) → change_at b entries targets s i ≡ change_at b entries targets s' i
reads-touch b entries targets i s s' free same = go (eqb (width_of (lent_entry entries i) (lent_target targets i)) 0) refl
  where
    go : (z : Bool) → eqb (width_of (lent_entry entries i) (lent_target targets i)) 0 ≡ z → change_at b entries targets s i ≡ change_at b entries targets s' i
    go true h = does-nothing b i _ _ _ _ _ h ∙ sym (does-nothing b i _ _ _ _ _ h)
    go false h =
        let n = wide (lent_entry entries i) (lent_target targets i) h in
        let m = worked-width entries targets i free in
        ap (λ (w : ℕ). change_of b i (lent_entry entries i) (lent_target targets i) (lent_entry entries (i + 1)) (lent_target targets (i + 1)) w)
        (le-ext 4 s s' (offset_at entries i) (offset_at entries i) (λ j l. same (offset_at entries i + j) (omega arith, omega arith)))

-- ---- an entry whose bytes no other writes

module _ (section : List ℕ) (b : Bases) (entries targets : List ℕ) (k : ℕ) (below : k < entry_count entries)
    (fit : check_to (length section) b entries targets (entry_count entries) ≡ Ok tt)
    (before : (j p : ℕ) → j < k → Touches entries targets k p → Writes section b entries targets j p → ⊥)
  where
    -- the entries before it leave its bytes
    before-it : (p : ℕ) → Touches entries targets k p → get_or (fix_to b entries targets section k).section p 0 ≡ get_or section p 0
    before-it p t = from_start section b entries targets k p (λ j l u. before j p l t u)

    -- and so do those after it that do not write them
    after-it : (p : ℕ) → ((j : ℕ) → k < j → j < entry_count entries → Writes section b entries targets j p → ⊥)
        → get_or (fix_to b entries targets section (entry_count entries)).section p 0 ≡ get_or (fix_to b entries targets section (suc k)).section p 0
    after-it p after =
        ap (λ (m : ℕ). get_or (fix_to b entries targets section m).section p 0) {x = entry_count entries} {y = entry_count entries - suc k + suc k} (omega arith)
        ∙ fix-leaves section b entries targets (suc k) (entry_count entries - suc k) p (λ j g l u. after j g (omega arith) u)

    module _ (free : consumed entries k ≡ false) where
      -- so its step is the one on the lent bytes
      pub same-change : change_at b entries targets (fix_to b entries targets section k).section k ≡ change_at b entries targets section k
      same-change = reads-touch b entries targets k (fix_to b entries targets section k).section section free before-it

      has_room : offset_at entries k + bytes_in (change_at b entries targets section k).write ≤ length section
      has_room =
          room (length section) b k (lent_entry entries k) (lent_target targets k) _ _ _ _
          (fit_at b entries targets section k free fit below refl refl refl) refl

      pub only-it : (p : ℕ) → Touches entries targets k p → ((j : ℕ) → k < j → j < entry_count entries → Writes section b entries targets j p → ⊥)
          → get_or (fix_to b entries targets section (entry_count entries)).section p 0
          ≡ get_or (stored section (offset_at entries k) (change_at b entries targets section k).write) p 0
      only-it p t after =
          after-it p after
          ∙ ap (λ (f : Fixed). get_or f.section p 0)
          (fix-suc b entries targets section k ∙ work-worked b entries targets (fix_to b entries targets section k) k free)
          ∙ ap (λ (c : Change). get_or (stored (fix_to b entries targets section k).section (offset_at entries k) c.write) p 0) same-change
          ∙ stored-agree (fix_to b entries targets section k).section section (offset_at entries k) (change_at b entries targets section k).write p
          (omega (arith, length-fix b entries targets section k, has_room)) has_room (before-it p t)
