-- What is ignored changes nothing: of an entry and its target what `seen` and `SameUse` leave out, and of an entry that a SUBTRACTOR
-- consumes everything but its addend and its target's address. Lists that agree in the rest have the same outcome.
use Rattle.std.specs.Prelude.{Result, Ok, Err, ⊤}
use mathlib.Core.Path.{◌≡◌, refl, sym, ap, ap₂, ◌∙◌, subst}
use mathlib.Core.Bool.{Bool, true, false, true≢false, ◌&&◌, not}
use mathlib.Core.List.{List}
use mathlib.Core.Logic.{◌⊎◌, inl, inr, ⊎_elim}
use Prim.Native.Nat.{ℕ, zero, suc, ◌+◌, ◌*◌, ◌/◌, ◌%◌, ◌≤◌, ◌<◌}
use native.Mathlib.Omega.{arith}
use native.Mathlib.Nat.{eq-or-lt_of_le, mul-suc, mul-le-mul_left}
use borrow.Author.Tests.{ltb-true, ltb-false, eqb-true, eqb-false, ne_eqb}
use lib.Dec.{eqb, ltb, lit≤}
use lib.ListN.{length, get_or, set, length-set}
use Rattle.util.specs.Choice.{choose}
use Rattle.util.specs.Word.{le}
use Rattle.util.proofs.Choice.{and-false}
use Rattle.util.proofs.Word.{le-set}
use Rattle.macho.specs.Refusal.{first}
use Rattle.macho.specs.Types.{ARM64_RELOC_SUBTRACTOR, ARM64_RELOC_AUTHENTICATED_POINTER}
use Rattle.macho.specs.Reloc.{reloc_at, is_section}
use Rattle.macho.specs.Resolved.{resolved_at, well_formed}
use Rattle.macho.specs.declared.reloc.Reloc.{Reloc}
use Rattle.macho.specs.declared.resolved.Resolved.{Resolved}
use Rattle.arm64_fixup_entry.specs.Check.{subtracts, check_of}
use Rattle.arm64_fixup_entry.specs.Change.{change_of}
use Rattle.arm64_fixup_entry.specs.Seen.{seen, SameUse, same-all}
use Rattle.arm64_fixup.specs.Walk.{lent_entry, lent_target, entry_count, consumed, check_at, check_to, Fixed, change_at, applied, work_at, fix_to}
use Rattle.arm64_fixup.specs.Answer.{check_lists, after, fixed, outcome_of}
use Rattle.arm64_fixup_entry.specs.declared.target.Bases.{Bases}
use Rattle.macho.specs.declared.refusal.Refusal.{Refusal}
use Rattle.arm64_fixup_entry.specs.declared.change.Change.{Change}
use Rattle.arm64_fixup_entry.proofs.Sound.{followed}
use Rattle.arm64_fixup_entry.proofs.Seen.{check-seen, of_addend, of_address, change-seen, check-same, change-same}
use Rattle.arm64_fixup.proofs.Signing.{used-kept}
use Rattle.arm64_fixup.proofs.Turns.{pair, check-taken, check-worked, passes, work-worked, work-taken}

-- only a SUBTRACTOR takes anything of them
indifferent : (b : Bases) (i : ℕ) (e : Reloc) (t : Resolved) (n₁ n₂ : Reloc) (t₁ t₂ : Resolved) (word : ℕ) → subtracts e.ty ≡ false
    → change_of b i e t n₁ t₁ word ≡ change_of b i e t n₂ t₂ word
unfolding change_of choose
indifferent b i e t n₁ n₂ t₁ t₂ word s = rw s

-- lists that agree in what is looked at
pub record AlikeLists (entries entries' targets targets' : List ℕ) : Type 0 where
  pub length-entries : length entries ≡ length entries'
  pub length-targets : length targets ≡ length targets'
  pub worked : (i : ℕ) → i < entry_count entries → consumed entries i ≡ false
      → (seen (lent_entry entries i) ≡ seen (lent_entry entries' i))
      × (well_formed (lent_target targets i) ≡ well_formed (lent_target targets' i))
      × SameUse (lent_entry entries i) (lent_target targets i) (lent_target targets' i)
  pub taken : (i : ℕ) → i < entry_count entries → consumed entries i ≡ true
      → ((lent_entry entries i).addend ≡ (lent_entry entries' i).addend) × ((lent_target targets i).addr ≡ (lent_target targets' i).addr)

module _ (b : Bases) (entries entries' targets targets' : List ℕ) (alike : AlikeLists entries entries' targets targets') where
  same_count : entry_count entries ≡ entry_count entries'
  same_count = ap (λ (n : ℕ). n / 24) alike.length-entries

  consumed-next : (i : ℕ) → i < entry_count entries → consumed entries i ≡ consumed entries' i → (t : Bool) → consumed entries i ≡ t
      → (subtracts (lent_entry entries i).ty && not (consumed entries i)) ≡ (subtracts (lent_entry entries' i).ty && not (consumed entries' i))
  consumed-next i l h true e = rw (sym h ∙ e, e) (and-false (subtracts (lent_entry entries i).ty) ∙ sym (and-false (subtracts (lent_entry entries' i).ty)))
  consumed-next i l h false e = ap₂ (λ (x y : Bool). x && not y) (ap (λ (r : Reloc). subtracts r.ty) (alike.worked i l e).0) h

  same-consumed : (i : ℕ) → i ≤ entry_count entries → consumed entries i ≡ consumed entries' i
  unfolding consumed
  same-consumed zero l = refl
  same-consumed (suc i) l = consumed-next i l (same-consumed i (omega arith)) (consumed entries i) refl

  -- the first walk
  same-check-at : (len i : ℕ) → i < entry_count entries → (t : Bool) → consumed entries i ≡ t
      → check_at len b entries targets i ≡ check_at len b entries' targets' i
  same-check-at len i l true e = check-taken len b entries targets i e ∙ sym (check-taken len b entries' targets' i (sym (same-consumed i (omega arith)) ∙ e))
  same-check-at len i l false e =
      let a = alike.worked i l e in
      check-worked len b entries targets i e
      ∙ check-same len b (lent_entry entries i) (lent_target targets i) (lent_target targets' i) _ a.1 a.2
      ∙ sym (check-seen len b _ _ _)
      ∙ ap (λ (r : Reloc). check_of len b r (lent_target targets' i) (eqb (i + 1) (entry_count entries))) a.0
      ∙ ap (λ (n : ℕ). check_of len b (seen (lent_entry entries' i)) (lent_target targets' i) (eqb (i + 1) n)) same_count
      ∙ check-seen len b _ _ _
      ∙ sym (check-worked len b entries' targets' i (sym (same-consumed i (omega arith)) ∙ e))

  same_check : (len k : ℕ) → k ≤ entry_count entries → check_to len b entries targets k ≡ check_to len b entries' targets' k
  unfolding check_to
  same_check len zero l = refl
  same_check len (suc i) l = ap₂ first (same_check len i (omega arith)) (same-check-at len i l (consumed entries i) refl)

  -- the second walk
  same_next : (i : ℕ) → i + 1 < entry_count entries → consumed entries (suc i) ≡ true
      → ((lent_entry entries (i + 1)).addend ≡ (lent_entry entries' (i + 1)).addend)
      × ((lent_target targets (i + 1)).addr ≡ (lent_target targets' (i + 1)).addr)
  same_next i l e = alike.taken (i + 1) l (subst (λ (k : ℕ). consumed entries k ≡ true) {x = suc i} {y = i + 1} (omega arith) e)

  module _ (len : ℕ) (fit : check_to len b entries targets (entry_count entries) ≡ Ok tt) where
    module _ (i : ℕ) (l : i < entry_count entries) (free : consumed entries i ≡ false) (s : List ℕ) where
      -- the entry's own fields
      same-own : (next : Reloc) (next_target : Resolved)
          → change_of b i (lent_entry entries i) (lent_target targets i) next next_target (le 4 s (lent_entry entries i).offset)
          ≡ change_of b i (lent_entry entries' i) (lent_target targets' i) next next_target (le 4 s (lent_entry entries' i).offset)
      same-own next next_target =
          change-same b i (lent_entry entries i) (lent_target targets i) (lent_target targets' i) next next_target _ (alike.worked i l free).2
          ∙ sym (change-seen b i (lent_entry entries i) (lent_target targets' i) next next_target _)
          ∙ ap (λ (r : Reloc). change_of b i r (lent_target targets' i) (of_addend next.addend) (of_address next_target.addr) (le 4 s r.offset))
          (alike.worked i l free).0
          ∙ change-seen b i (lent_entry entries' i) (lent_target targets' i) next next_target _

      -- what it takes of the next entry
      same-other : (word : ℕ) (t : Bool) → subtracts (lent_entry entries' i).ty ≡ t
          → change_of b i (lent_entry entries' i) (lent_target targets' i) (lent_entry entries (i + 1)) (lent_target targets (i + 1)) word
          ≡ change_of b i (lent_entry entries' i) (lent_target targets' i) (lent_entry entries' (i + 1)) (lent_target targets' (i + 1)) word
      same-other word false e = indifferent b i _ _ _ _ _ _ word e
      same-other word true e =
          let own = ap (λ (r : Reloc). subtracts r.ty) (alike.worked i l free).0 ∙ e in
          let checked = sym (check-worked len b entries targets i free) ∙ passes len b entries targets (entry_count entries) i fit l in
          let n = same_next i (followed len b _ _ i (entry_count entries) checked own l) (pair entries i free own) in
          sym (change-seen b i _ _ (lent_entry entries (i + 1)) (lent_target targets (i + 1)) word)
          ∙ ap₂ (λ (a s : ℕ). change_of b i (seen (lent_entry entries' i)) (lent_target targets' i) (of_addend a) (of_address s) word) n.0 n.1
          ∙ change-seen b i _ _ (lent_entry entries' (i + 1)) (lent_target targets' (i + 1)) word

      same-change : change_at b entries targets s i ≡ change_at b entries' targets' s i
      same-change = same-own _ _ ∙ same-other _ _ refl

    same-work-at : (f : Fixed) (i : ℕ) → i < entry_count entries → (t : Bool) → consumed entries i ≡ t
        → work_at b entries targets f i ≡ work_at b entries' targets' f i
    same-work-at f i l true e = work-taken b entries targets f i e ∙ sym (work-taken b entries' targets' f i (sym (same-consumed i (omega arith)) ∙ e))
    same-work-at f i l false e =
        work-worked b entries targets f i e
        ∙ ap₂ (λ (r : Reloc) (c : Change). applied f r.offset c) (alike.worked i l e).0 (same-change i l e f.section)
        ∙ sym (work-worked b entries' targets' f i (sym (same-consumed i (omega arith)) ∙ e))

    same-work : (section : List ℕ) (k : ℕ) → k ≤ entry_count entries → fix_to b entries targets section k ≡ fix_to b entries' targets' section k
    unfolding fix_to
    same-work section zero l = refl
    same-work section (suc i) l =
        same-work-at (fix_to b entries targets section i) i l (consumed entries i) refl
        ∙ ap (λ (f : Fixed). work_at b entries' targets' f i) (same-work section i (omega arith))

  -- the whole call
  pub ignored : (section slots : List ℕ) → outcome_of section b entries targets slots ≡ outcome_of section b entries' targets' slots
  unfolding outcome_of
  ignored section slots = go (check_to (length section) b entries targets (entry_count entries)) refl
    where
      lists-same : check_lists (length entries) (length targets) (length slots) ≡ check_lists (length entries') (length targets') (length slots)
      lists-same = ap₂ (λ (m n : ℕ). check_lists m n (length slots)) alike.length-entries alike.length-targets

      checks-same : check_to (length section) b entries targets (entry_count entries) ≡ check_to (length section) b entries' targets' (entry_count entries')
      checks-same = same_check (length section) (entry_count entries) (omega arith) ∙ ap (λ (n : ℕ). check_to (length section) b entries' targets' n) same_count

      go : (c : Result ⊤ Refusal) → check_to (length section) b entries targets (entry_count entries) ≡ c
          → outcome_of section b entries targets slots ≡ outcome_of section b entries' targets' slots
      go (Err r) e = ap₂ after lists-same (rw (e, sym checks-same ∙ e))
      go (Ok tt) e =
          ap₂ after lists-same
          (rw (e, sym checks-same ∙ e)
          (ap fixed
          (same-work (length section) e section (entry_count entries) (omega arith) ∙ ap (λ (n : ℕ). fix_to b entries' targets' section n) same_count)))

-- ---- the bytes of an entry that a SUBTRACTOR consumes, its addend aside, and of its target, the address aside

-- n bytes of record k do not hold byte j of another record of that size
apart : (size i j k off n : ℕ) → (k ≡ i → ⊥) → j < size → off + n ≤ size → (size * i + j < size * k + off) ⊎ (size * k + off + n ≤ size * i + j)
apart size i j k off n ne l h = go (ltb i k) refl
  where
    past : (x y : ℕ) → x < y → size * x + size ≤ size * y
    past x y e = let s : suc x ≤ y = omega arith in omega (arith, mul-suc size x, mul-le-mul_left size s)

    go : (x : Bool) → ltb i k ≡ x → (size * i + j < size * k + off) ⊎ (size * k + off + n ≤ size * i + j)
    go true e = inl (omega (arith, past i k (ltb-true i k e)))
    go false e = inr (⊎_elim (λ q. absurd (ne q)) (λ (w : k < i). omega (arith, past k i w)) (eq-or-lt_of_le (ltb-false i k e)))

entry_set : (entries : List ℕ) (i j v k : ℕ) → (k ≡ i → ⊥) → j < 24 → lent_entry (set entries (24 * i + j) v) k ≡ lent_entry entries k
unfolding reloc_at
entry_set entries i j v k ne l =
    let p : ℕ = 24 * i + j in
    let at : (n off : ℕ) → off + n ≤ 24 → le n (set entries p v) (24 * k + off) ≡ le n entries (24 * k + off) =
    λ n off h. le-set n entries (24 * k + off) p v (apart 24 i j k off n ne l h) in
    let zero-off : 24 * k ≡ 24 * k + 0 = omega arith in
    let o : le 4 (set entries p v) (24 * k) ≡ le 4 entries (24 * k) = rw zero-off (at 4 0 (lit≤ tt)) in
    rw (
      o,
      at 1 4 (lit≤ tt),
      at 1 5 (lit≤ tt),
      at 1 6 (lit≤ tt),
      at 1 7 (lit≤ tt),
      at 4 8 (lit≤ tt),
      at 4 12 (lit≤ tt),
      at 8 16 (lit≤ tt),
    )

target-set : (targets : List ℕ) (i j v k : ℕ) → (k ≡ i → ⊥) → j < 48 → lent_target (set targets (48 * i + j) v) k ≡ lent_target targets k
unfolding resolved_at
target-set targets i j v k ne l =
    let p : ℕ = 48 * i + j in
    let at : (n off : ℕ) → off + n ≤ 48 → le n (set targets p v) (48 * k + off) ≡ le n targets (48 * k + off) =
    λ n off h. le-set n targets (48 * k + off) p v (apart 48 i j k off n ne l h) in
    let zero-off : 48 * k ≡ 48 * k + 0 = omega arith in
    let o : le 8 (set targets p v) (48 * k) ≡ le 8 targets (48 * k) = rw zero-off (at 8 0 (lit≤ tt)) in
    rw (o, at 8 8 (lit≤ tt), at 8 16 (lit≤ tt), at 8 24 (lit≤ tt), at 8 32 (lit≤ tt), at 4 40 (lit≤ tt), at 4 44 (lit≤ tt))

-- an addend, and an address, hold no other byte of a record
addend-set : (entries : List ℕ) (i j v k : ℕ) → j < 16 → (lent_entry (set entries (24 * i + j) v) k).addend ≡ (lent_entry entries k).addend
unfolding reloc_at
addend-set entries i j v k l = le-set 8 entries (24 * k + 16) (24 * i + j) v (go (ltb k i) refl)
  where
    go : (x : Bool) → ltb k i ≡ x → (24 * i + j < 24 * k + 16) ⊎ (24 * k + 16 + 8 ≤ 24 * i + j)
    go true e = inr (omega (arith, ltb-true k i e))
    go false e = inl (omega (arith, ltb-false k i e))

address-set : (targets : List ℕ) (i j v k : ℕ) → 8 ≤ j → j < 48 → (lent_target (set targets (48 * i + j) v) k).addr ≡ (lent_target targets k).addr
unfolding resolved_at
address-set targets i j v k m l = le-set 8 targets (48 * k) (48 * i + j) v (go (ltb i k) refl)
  where
    go : (x : Bool) → ltb i k ≡ x → (48 * i + j < 48 * k) ⊎ (48 * k + 8 ≤ 48 * i + j)
    go true e = inl (omega (arith, ltb-true i k e))
    go false e = inr (omega (arith, ltb-false i k e))

module _ (section : List ℕ) (b : Bases) (entries targets slots : List ℕ) (i j v : ℕ) (taken : consumed entries i ≡ true) where
  other : (k : ℕ) → consumed entries k ≡ false → k ≡ i → ⊥
  other k free e = true≢false (sym taken ∙ ap (consumed entries) (sym e) ∙ free)

  pub consumed-entry : j < 16 → outcome_of section b entries targets slots ≡ outcome_of section b (set entries (24 * i + j) v) targets slots
  consumed-entry l =
      ignored b entries (set entries (24 * i + j) v) targets targets
      (record {
        length-entries = simp length-set;
        length-targets = refl;
        worked = λ k _ free. (ap seen (sym (entry_set entries i j v k (other k free) (omega arith))), refl, same-all refl);
        taken = λ k _ _. (sym (addend-set entries i j v k l), refl);
      })
      section
      slots

  pub consumed-target : 8 ≤ j → j < 48 → outcome_of section b entries targets slots ≡ outcome_of section b entries (set targets (48 * i + j) v) slots
  consumed-target m l =
      ignored b entries entries targets (set targets (48 * i + j) v)
      (record {
        length-entries = refl;
        length-targets = simp length-set;
        worked = λ k _ free.
            let q = sym (target-set targets i j v k (other k free) l) in
            (refl, ap well_formed q, same-all q);
        taken = λ k _ _. (refl, sym (address-set targets i j v k m l));
      })
      section
      slots

-- ---- single bytes of an entry before its addend

module _ (section : List ℕ) (b : Bases) (entries targets slots : List ℕ) (i j v : ℕ) where
  -- the entry's other fields
  field-kept : (n off : ℕ) → (j < off) ⊎ (off + n ≤ j) → le n (set entries (24 * i + j) v) (24 * i + off) ≡ le n entries (24 * i + off)
  field-kept n off h = le-set n entries (24 * i + off) (24 * i + j) v (⊎_elim (λ w. inl (omega arith)) (λ w. inr (omega arith)) h)

  offset-kept : 4 ≤ j → le 4 (set entries (24 * i + j) v) (24 * i) ≡ le 4 entries (24 * i)
  offset-kept h = le-set 4 entries (24 * i) (24 * i + j) v (inr (omega arith))

  -- a byte that leaves what is seen of its entry
  entry-byte : j < 16 → seen (lent_entry (set entries (24 * i + j) v) i) ≡ seen (lent_entry entries i)
      → outcome_of section b entries targets slots ≡ outcome_of section b (set entries (24 * i + j) v) targets slots
  entry-byte l same =
      ignored b entries (set entries (24 * i + j) v) targets targets
      (record {
        length-entries = simp length-set;
        length-targets = refl;
        worked = λ k _ _. (sym (at k (eqb k i) refl), refl, same-all refl);
        taken = λ k _ _. (sym (addend-set entries i j v k l), refl);
      })
      section
      slots
    where
      at : (k : ℕ) (x : Bool) → eqb k i ≡ x → seen (lent_entry (set entries (24 * i + j) v) k) ≡ seen (lent_entry entries k)
      at k true e =
          subst (λ (n : ℕ). seen (lent_entry (set entries (24 * i + j) v) n) ≡ seen (lent_entry entries n)) (sym (eqb-true k i e)) same
      at k false e = ap seen (entry_set entries i j v k (eqb-false k i e) (omega arith))

  -- the marks, bytes 6 and 7
  pub mark-bytes : 6 ≤ j → j < 8 → outcome_of section b entries targets slots ≡ outcome_of section b (set entries (24 * i + j) v) targets slots
  unfolding reloc_at
  mark-bytes l m =
      entry-byte (omega arith)
      (rw (
        offset-kept (omega arith),
        field-kept 1 4 (inr (omega arith)),
        field-kept 1 5 (inr (omega arith)),
        field-kept 4 8 (inl m),
        field-kept 4 12 (inl (omega arith)),
        field-kept 8 16 (inl (omega arith)),
      ))

  -- the bytes 12 to 15 of an entry that is no AUTHENTICATED_POINTER, or that a SUBTRACTOR consumes
  pub signing-bytes : 12 ≤ j → j < 16 → ((lent_entry entries i).ty ≡ ARM64_RELOC_AUTHENTICATED_POINTER → ⊥) ⊎ (consumed entries i ≡ true)
      → outcome_of section b entries targets slots ≡ outcome_of section b (set entries (24 * i + j) v) targets slots
  unfolding reloc_at choose
  signing-bytes l m = ⊎_elim unsigned (λ taken. consumed-entry section b entries targets slots i j v taken m)
    where
      unsigned : ((lent_entry entries i).ty ≡ ARM64_RELOC_AUTHENTICATED_POINTER → ⊥)
          → outcome_of section b entries targets slots ≡ outcome_of section b (set entries (24 * i + j) v) targets slots
      unsigned ne =
          entry-byte m
          (rw (
            offset-kept (omega arith),
            field-kept 1 4 (inr (omega arith)),
            field-kept 1 5 (inr (omega arith)),
            field-kept 4 8 (inr l),
            ne_eqb _ _ ne,
            field-kept 8 16 (inl m),
          ))

  -- whatever the type, all but the low bit of address diversity, byte 14, and all but the low two bits of key, byte 15
  pub signing-bits : ((j ≡ 14) × (v % 2 ≡ get_or entries (24 * i + j) 0 % 2)) ⊎ ((j ≡ 15) × (v % 4 ≡ get_or entries (24 * i + j) 0 % 4))
      → outcome_of section b entries targets slots ≡ outcome_of section b (set entries (24 * i + j) v) targets slots
  unfolding reloc_at
  signing-bits h =
      let l : 12 ≤ j = ⊎_elim (λ w. omega (arith, w.0)) (λ w. omega (arith, w.0)) h in
      let m : j < 16 = ⊎_elim (λ w. omega (arith, w.0)) (λ w. omega (arith, w.0)) h in
      entry-byte m
      (rw (
        offset-kept (omega arith),
        field-kept 1 4 (inr (omega arith)),
        field-kept 1 5 (inr (omega arith)),
        field-kept 4 8 (inr l),
        used-kept entries (24 * i + 12) (24 * i + j) v (⊎_elim (λ w. inl (omega (arith, w.0), w.1)) (λ w. inr (omega (arith, w.0), w.1)) h),
        field-kept 8 16 (inl m),
      ))

  -- a byte of the target field that leaves bit 31
  pub target-byte : 8 ≤ j → j < 12 → is_section (lent_entry (set entries (24 * i + j) v) i).target ≡ is_section (lent_entry entries i).target
      → outcome_of section b entries targets slots ≡ outcome_of section b (set entries (24 * i + j) v) targets slots
  unfolding reloc_at
  target-byte l m same =
      entry-byte (omega arith)
      (rw (
        offset-kept (omega arith),
        field-kept 1 4 (inr (omega arith)),
        field-kept 1 5 (inr (omega arith)),
        same,
        field-kept 4 12 (inl (omega arith)),
        field-kept 8 16 (inl (omega arith)),
      ))

-- the size byte, but for SUBTRACTOR
pub size-byte : (section : List ℕ) (b : Bases) (entries targets slots : List ℕ) (i v : ℕ) → ((lent_entry entries i).ty ≡ ARM64_RELOC_SUBTRACTOR → ⊥)
    → outcome_of section b entries targets slots ≡ outcome_of section b (set entries (24 * i + 5) v) targets slots
unfolding reloc_at choose
size-byte section b entries targets slots i v ne =
    let kept = field-kept section b entries targets slots i 5 v in
    entry-byte section b entries targets slots i 5 v (lit≤ tt)
    (rw (
      offset-kept section b entries targets slots i 5 v (lit≤ tt),
      kept 1 4 (inr (lit≤ tt)),
      ne_eqb _ _ ne,
      kept 4 8 (inl (lit≤ tt)),
      kept 4 12 (inl (lit≤ tt)),
      kept 8 16 (inl (lit≤ tt)),
    ))
