-- One turn of each walk: the entry at an index that no SUBTRACTOR takes, and with it the one that it takes.
use Rattle.std.specs.Prelude.{Result, Ok, Err, ⊤}
use mathlib.Core.Path.{◌≡◌, refl, sym, ap, ◌∙◌, subst}
use mathlib.Core.Bool.{Bool, true, false}
use mathlib.Core.List.{List}
use mathlib.Core.Logic.{⊎_elim}
use Prim.Native.Nat.{ℕ, zero, suc, ◌+◌, ◌-◌, ◌≤◌, ◌<◌}
use native.Mathlib.Omega.{arith}
use native.Mathlib.Nat.{not-suc-le-zero, eq-or-lt_of_le, le_of_suc-le-suc}
use lib.Dec.{eqb, lit<, lit≤}
use lib.ListN.{length}
use Rattle.util.specs.Choice.{choose}
use Rattle.util.proofs.Choice.{chosen, and-false}
use Rattle.util.proofs.Word.{length-put}
use Rattle.macho.specs.Refusal.{first}
use Rattle.macho.specs.declared.reloc.Reloc.{Reloc}
use Rattle.macho.specs.declared.resolved.Resolved.{Resolved}
use Rattle.macho.specs.declared.refusal.Refusal.{Refusal}
use Rattle.arm64_fixup_entry.specs.Check.{subtracts, check_of}
use Rattle.arm64_fixup.specs.Walk.{entry_count, lent_entry, lent_target, taken_by, consumed, check_at, check_to, stored, Fixed, change_at, applied}
use Rattle.arm64_fixup.specs.Walk.{work_at, fix_to}
use Rattle.arm64_fixup_entry.specs.declared.target.Bases.{Bases}
use Rattle.arm64_fixup_entry.specs.declared.change.Write.{Write}
use Rattle.arm64_fixup_entry.specs.declared.change.Write.TheVariants.{Nothing, Word, Pointer}
use Rattle.arm64_fixup_entry.proofs.Sound.{followed}

-- ---- which entries are worked

module _ (entries : List ℕ) (i : ℕ) (free : consumed entries i ≡ false) where
  -- an entry that takes no other is followed by one that is worked
  single : subtracts (lent_entry entries i).ty ≡ false → consumed entries (suc i) ≡ false
  unfolding consumed
  single s = rw s

  -- a SUBTRACTOR takes the next entry
  pub pair : subtracts (lent_entry entries i).ty ≡ true → consumed entries (suc i) ≡ true
  unfolding consumed
  pair s = rw (s, free)

  -- and the one after that is worked
  after-pair : subtracts (lent_entry entries i).ty ≡ true → consumed entries (suc (suc i)) ≡ false
  unfolding consumed
  after-pair s = rw (s, free) (and-false (subtracts (lent_entry entries (suc i)).ty))

  -- what holds at the next index that is worked: after one entry, or after a SUBTRACTOR and the entry that it takes
  pub next : (P : ℕ → Type 0) → (subtracts (lent_entry entries i).ty ≡ false → P (suc i))
      → (subtracts (lent_entry entries i).ty ≡ true → P (suc (suc i))) → P (i + taken_by (lent_entry entries i).ty)
  unfolding choose
  next P one two = go (subtracts (lent_entry entries i).ty) refl
    where
      go : (s : Bool) → subtracts (lent_entry entries i).ty ≡ s → P (i + choose s 2 1)
      go true e = subst P (omega arith) (two e)
      go false e = subst P (omega arith) (one e)

  pub next-worked : consumed entries (i + taken_by (lent_entry entries i).ty) ≡ false
  next-worked = next (λ (k : ℕ). consumed entries k ≡ false) single after-pair

-- ---- the first walk

first-fit : (a c : Result ⊤ Refusal) → first a c ≡ Ok tt → (a ≡ Ok tt) × (c ≡ Ok tt)
first-fit (Ok tt) c h = (refl, h)
first-fit (Err r) c h = let z : ◌≡◌ {A = ℕ} 0 1 = cc in absurd (omega arith)

module _ (len : ℕ) (b : Bases) (entries targets : List ℕ) where
  check-suc : (i : ℕ) → check_to len b entries targets (suc i) ≡ first (check_to len b entries targets i) (check_at len b entries targets i)
  unfolding check_to
  check-suc i = refl

  -- every entry of a list that passes has passed
  pub passes : (n i : ℕ) → check_to len b entries targets n ≡ Ok tt → i < n → check_at len b entries targets i ≡ Ok tt
  passes zero i h l = absurd (not-suc-le-zero l)
  passes (suc n) i h l =
      let p = first-fit (check_to len b entries targets n) _ (sym (check-suc n) ∙ h) in
      ⊎_elim (λ (e : i ≡ n). rw e p.1) (λ (w : i < n). passes n i p.0 w) (eq-or-lt_of_le (le_of_suc-le-suc l))

  -- a refusal stays
  stays : (k i : ℕ) (r : Refusal) → check_to len b entries targets i ≡ Err r → check_to len b entries targets (k + i) ≡ Err r
  stays zero i r h = ap (λ (m : ℕ). check_to len b entries targets m) (omega arith) ∙ h
  stays (suc k) i r h =
      ap (λ (m : ℕ). check_to len b entries targets m) {x = suc k + i} {y = suc (k + i)} (omega arith)
      ∙ check-suc (k + i)
      ∙ ap (λ (c : Result ⊤ Refusal). first c (check_at len b entries targets (k + i))) (stays k i r h)

  -- the check of an entry that a SUBTRACTOR takes
  pub check-taken : (i : ℕ) → consumed entries i ≡ true → check_at len b entries targets i ≡ Ok tt
  unfolding check_at choose
  check-taken i h = rw h

  module _ (i : ℕ) (free : consumed entries i ≡ false) where
    -- and of one that is worked
    pub check-worked : check_at len b entries targets i ≡ check_of len b (lent_entry entries i) (lent_target targets i) (eqb (i + 1) (entry_count entries))
    unfolding check_at choose
    check-worked = rw free

    module _ (below : i < entry_count entries) (before : check_to len b entries targets i ≡ Ok tt) where
      -- a turn that ends the walk
      pub check-refused : {e : Reloc} {t : Resolved} {c : Result ⊤ Refusal} {r : Refusal} → e ≡ lent_entry entries i → t ≡ lent_target targets i
          → c ≡ check_of len b e t (eqb (i + 1) (entry_count entries)) → c ≡ Err r → Err r ≡ check_to len b entries targets (entry_count entries)
      check-refused {r = r} pe pt q p =
          let k : entry_count entries - suc i + suc i ≡ entry_count entries = omega arith in
          let found : check_of len b (lent_entry entries i) (lent_target targets i) (eqb (i + 1) (entry_count entries)) ≡ Err r = rw (← pe, ← pt) (sym q ∙ p) in
          sym
          (ap (λ (m : ℕ). check_to len b entries targets m) (sym k)
          ∙ stays (entry_count entries - suc i) (suc i) r
          (check-suc i ∙ ap (λ (a : Result ⊤ Refusal). first a (check_at len b entries targets i)) before ∙ check-worked ∙ found))

      module _ (fit : check_of len b (lent_entry entries i) (lent_target targets i) (eqb (i + 1) (entry_count entries)) ≡ Ok tt) where
        check-one : check_to len b entries targets (suc i) ≡ Ok tt
        check-one = check-suc i ∙ ap (λ (a : Result ⊤ Refusal). first a (check_at len b entries targets i)) before ∙ check-worked ∙ fit

        check-next : check_to len b entries targets (i + taken_by (lent_entry entries i).ty) ≡ Ok tt
        check-next =
            next entries i free (λ (k : ℕ). check_to len b entries targets k ≡ Ok tt) (λ s. check-one)
            (λ s. check-suc (suc i)
            ∙ ap (λ (a : Result ⊤ Refusal). first a (check_at len b entries targets (suc i))) check-one
            ∙ check-taken (suc i) (pair entries i free s))

    pub next-within : i < entry_count entries → check_of len b (lent_entry entries i) (lent_target targets i) (eqb (i + 1) (entry_count entries)) ≡ Ok tt
        → i + taken_by (lent_entry entries i).ty ≤ entry_count entries
    next-within below fit =
        next entries i free (λ (k : ℕ). k ≤ entry_count entries) (λ s. below) (λ s. omega (arith, followed len b _ _ i (entry_count entries) fit s below))

    -- a turn that goes on
    pub check-again : {e : Reloc} {t : Resolved} {c : Result ⊤ Refusal} {k : ℕ} → i < entry_count entries → check_to len b entries targets i ≡ Ok tt
        → e ≡ lent_entry entries i → t ≡ lent_target targets i → c ≡ check_of len b e t (eqb (i + 1) (entry_count entries)) → c ≡ Ok tt → k ≡ taken_by e.ty
        → (i + k ≤ entry_count entries) × (consumed entries (i + k) ≡ false) × (check_to len b entries targets (i + k) ≡ Ok tt)
    check-again below before pe pt q p pk =
        let fit : check_of len b (lent_entry entries i) (lent_target targets i) (eqb (i + 1) (entry_count entries)) ≡ Ok tt = rw (← pe, ← pt) (sym q ∙ p) in
        rw (pk, pe) (next-within below fit, next-worked entries i free, check-next below before fit)

-- what holds at the end
pub ended {ℓ} : (P : ℕ → Type ℓ) {i n : ℕ} → i ≤ n → n ≤ i → P i → P n
ended P {i} {n} l g = subst P (omega arith)

-- a turn takes one entry or two
pub takes : (ty : ℕ) {k : ℕ} → k ≡ taken_by ty → (0 < k) × (k ≤ 2)
takes ty p = rw p (chosen (λ (k : ℕ). (0 < k) × (k ≤ 2)) (subtracts ty) 2 1 (lit< tt, lit≤ tt) (lit< tt, lit≤ tt))

-- ---- the second walk

length-stored : (s : List ℕ) (at : ℕ) (w : Write) → length (stored s at w) ≡ length s
length-stored s at Nothing = refl
length-stored s at (Word v) = length-put 4 s at v
length-stored s at (Pointer v) = length-put 8 s at v

module _ (b : Bases) (entries targets : List ℕ) where
  -- an entry that is worked, and one that is taken
  pub work-worked : (f : Fixed) (i : ℕ) → consumed entries i ≡ false
      → work_at b entries targets f i ≡ applied f (lent_entry entries i).offset (change_at b entries targets f.section i)
  unfolding work_at choose
  work-worked f i free = rw free

  pub work-taken : (f : Fixed) (i : ℕ) → consumed entries i ≡ true → work_at b entries targets f i ≡ f
  unfolding work_at choose
  work-taken f i h = rw h

  length-work : (f : Fixed) (i : ℕ) → length (work_at b entries targets f i).section ≡ length f.section
  unfolding work_at
  length-work f i =
      chosen (λ (g : Fixed). length g.section ≡ length f.section) (consumed entries i) f _ refl
      (length-stored f.section (lent_entry entries i).offset (change_at b entries targets f.section i).write)

  module _ (section : List ℕ) where
    pub fix-suc : (i : ℕ) → fix_to b entries targets section (suc i) ≡ work_at b entries targets (fix_to b entries targets section i) i
    unfolding fix_to
    fix-suc i = refl

    -- a turn
    pub fix-next : (i : ℕ) → consumed entries i ≡ false
        → fix_to b entries targets section (i + taken_by (lent_entry entries i).ty)
        ≡ applied (fix_to b entries targets section i) (lent_entry entries i).offset (change_at b entries targets (fix_to b entries targets section i).section i)
    fix-next i free =
        let one = fix-suc i ∙ work-worked (fix_to b entries targets section i) i free in
        next entries i free
        (λ (k : ℕ).
        fix_to b entries targets section k
        ≡ applied (fix_to b entries targets section i) (lent_entry entries i).offset (change_at b entries targets (fix_to b entries targets section i).section i))
        (λ s. one)
        (λ s. fix-suc (suc i) ∙ work-taken (fix_to b entries targets section (suc i)) (suc i) (pair entries i free s) ∙ one)

    -- the section keeps its length
    pub length-fix : (k : ℕ) → length (fix_to b entries targets section k).section ≡ length section
    unfolding fix_to
    length-fix zero = refl
    length-fix (suc i) = length-work (fix_to b entries targets section i) i ∙ length-fix i
