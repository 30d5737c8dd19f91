-- An entry's fields as functions of its records, and how many entries there are: each step reads the entry of its records, and the walk goes
-- over the records at which entries start.
use Rattle.std.specs.Prelude.{Result, Ok, Err}
use mathlib.Core.Path.{◌≡◌, refl, sym, ap, ap₂, subst, ◌∙◌}
use mathlib.Core.Bool.{Bool, true, false}
use mathlib.Core.List.{List, [], ◌∷◌, map}
use Prim.Native.Nat.{ℕ, zero, suc, ◌+◌, ◌<◌, ◌≤◌}
use native.Mathlib.Omega.{arith}
use borrow.Author.Tests.{ne_eqb, eqb-true, ltb-true, ltb-false}
use native.Mathlib.Numerals.{add-one}
use lib.ListN.{length, drop, length-map, drop_of_length-le}
use lib.Seq.{drop-cons}
use lib.Dec.{eqb, ltb}
use Rattle.util.specs.Choice.{choose}
use Rattle.util.specs.Diagram.{matches}
use Rattle.util.specs.Word.{le}
use Rattle.util.proofs.Choice.{split, chosen}
use Rattle.util.proofs.Bytes.{le-drop}
use Rattle.macho.specs.Authenticated.{authenticated}
use Rattle.macho.specs.MachRel.{type_of, p2size_of, extern_of}
use Rattle.macho.specs.Reloc.{with_signing}
use Rattle.macho.specs.Types.{ARM64_RELOC_UNSIGNED, ARM64_RELOC_AUTHENTICATED_POINTER}
use Rattle.macho.specs.declared.mach_rel.MachRel.{MachRel}
use Rattle.macho.specs.declared.reloc.Reloc.{Reloc}
use Rattle.arch.specs.Entry.{entry_of, enter, targeted}
use Rattle.arch.specs.Table.{record_at}
use Rattle.arch.specs.Target.{target_of, is_there, target_in, addend_in}
use Rattle.arch.proofs.Targets.{target_is}
use Rattle.arch.specs.Walk.{Reading, refused, entries, before, after, read_from, read_all, Later}
use Rattle.macho.specs.declared.refusal.Refusal.{Refusal}
use Rattle.arm64_reader.specs.Record.{addend_of, adding, authenticated_record, entered, record_of, step_at}
use Rattle.arm64_reader.specs.Read.{read_records}
use Rattle.arch.proofs.Walk.{Within, done-any, turn_suc}
use Rattle.arm64_reader.proofs.AuthenticatedRecords.{authenticated-symbol, check-passing}
use Rattle.arm64_reader.specs.Onward.{step-onward}
use Rattle.arm64_reader.proofs.Steps.{step-within}
use Rattle.arm64_reader.specs.Fields.{is_addend, starts, pairs, own_of, held_in, signed_by, entry_from}

-- ---- one step

-- a step that reads this entry and ends at this record, if it reads
unfoldable pub Says : Reloc → ℕ → Result (Reloc × ℕ) Refusal → Type 0
Says e m (Err x) = Unit {0}
Says e m (Ok (f, next)) = (f ≡ e) × (next ≡ m)

-- an addend that is this, if it is one; a target that is these
Holds : ℕ → Result ℕ Refusal → Type 0
Holds v (Ok a) = a ≡ v
Holds v (Err x) = Unit {0}

Names : ℕ → ℕ → Result (ℕ × ℕ) Refusal → Type 0
Names t a (Ok (u, b)) = (u ≡ t) × (b ≡ a)
Names t a (Err x) = Unit {0}

addend-holds : (r : MachRel) (loc : List ℕ) (given : ℕ) → eqb (type_of r.bits) ARM64_RELOC_AUTHENTICATED_POINTER ≡ false
    → Holds (held_in r (le 4 loc 0) (le 8 loc 0) given) (addend_of r loc given)
unfolding addend_of held_in Holds choose
addend-holds r loc given n =
    split P (eqb (type_of r.bits) ARM64_RELOC_UNSIGNED) _ _
    (λ e.
    split P (eqb (p2size_of r.bits) 2) _ _
    (λ f. chosen P (ltb (length loc) 4) _ _ tt (rw (e, f)))
    (λ f. chosen P (ltb (length loc) 8) _ _ tt (rw (e, f))))
    (λ e. rw (e, n))
  where
    P : Result ℕ Refusal → Type 0
    P = Holds (held_in r (le 4 loc 0) (le 8 loc 0) given)

target-names : (sections : List ℕ) (r : MachRel) (held : ℕ) → Names (target_in r) (addend_in sections r held) (target_of sections r held)
unfolding Names
target-names sections r held =
    subst (Names (target_in r) (addend_in sections r held)) (sym (target_is sections r held))
    (chosen (Names (target_in r) (addend_in sections r held)) (is_there (length sections) r) _ _ (refl, refl) tt)

module _ (sections : List ℕ) (r : MachRel) (subtracted : Bool) (offset next : ℕ) where
  -- the entry with what it holds, and how its pointer is signed
  abbrev pub entry : ℕ → ℕ → Reloc
  entry held signing = with_signing (entry_of r subtracted offset (target_in r) (addend_in sections r held)) signing

  enter-says : (held : ℕ) (t : Result (ℕ × ℕ) Refusal) → Names (target_in r) (addend_in sections r held) t → Says (entry held 0) next (enter r subtracted offset next t)
  unfolding Says Names
  enter-says held (Ok (u, b)) n = (ap₂ (entry_of r subtracted offset) n.0 n.1, refl)
  enter-says held (Err x) n = tt

  adding-says : (held : ℕ) (a : Result ℕ Refusal) → Holds held a → Says (entry held 0) next (adding sections r subtracted offset next a)
  unfolding Says Holds targeted
  adding-says held (Ok a) h =
      subst (λ (v : ℕ). Says (entry v 0) next (targeted sections r subtracted offset a next)) h
      (enter-says a (target_of sections r a) (target-names sections r a))
  adding-says held (Err x) h = tt

  authenticated-says : (loc : List ℕ) (given : ℕ) → eqb (type_of r.bits) ARM64_RELOC_AUTHENTICATED_POINTER ≡ true → eqb (extern_of r.bits) 1 ≡ true
      → Says (entry (held_in r (le 4 loc 0) (le 8 loc 0) given) (signed_by r (le 8 loc 0))) next (authenticated_record loc r subtracted offset next)
  unfolding authenticated_record held_in signed_by Says choose
  authenticated-says loc given t x =
      let ty = eqb-true (type_of r.bits) ARM64_RELOC_AUTHENTICATED_POINTER t in
      let u : eqb (type_of r.bits) ARM64_RELOC_UNSIGNED ≡ false = ne_eqb (type_of r.bits) ARM64_RELOC_UNSIGNED (λ e. omega (arith, ty)) in
      chosen P (ltb (length loc) 8) _ _ tt (chosen P (matches authenticated (le 8 loc 0)) _ _ (rw (t, x, u), refl) tt)
    where
      P : Result (Reloc × ℕ) Refusal → Type 0
      P = Says (entry (held_in r (le 4 loc 0) (le 8 loc 0) given) (signed_by r (le 8 loc 0))) next

  other-says : (loc : List ℕ) (given : ℕ) → eqb (type_of r.bits) ARM64_RELOC_AUTHENTICATED_POINTER ≡ false
      → Says (entry (held_in r (le 4 loc 0) (le 8 loc 0) given) (signed_by r (le 8 loc 0))) next (adding sections r subtracted offset next (addend_of r loc given))
  unfolding signed_by choose
  other-says loc given n = rw n (adding-says (held_in r (le 4 loc 0) (le 8 loc 0) given) (addend_of r loc given) (addend-holds r loc given n))

  pub record-says : (loc : List ℕ) (given word pointer : ℕ) → le 4 loc 0 ≡ word → le 8 loc 0 ≡ pointer
      → Says (entry (held_in r word pointer given) (signed_by r pointer)) next (record_of loc sections r subtracted offset given next)
  unfolding record_of Says
  record-says loc given word pointer ew ep =
      rw (← ew, ← ep)
      (check-passing loc r subtracted P (entered loc sections r subtracted offset given next) (λ _. tt)
      (λ s.
      split P (eqb (type_of r.bits) ARM64_RELOC_AUTHENTICATED_POINTER) _ _ (λ t. authenticated-says loc given t (authenticated-symbol r s t))
      (λ n. other-says loc given n)))
    where
      P : Result (Reloc × ℕ) Refusal → Type 0
      P = Says (entry (held_in r (le 4 loc 0) (le 8 loc 0) given) (signed_by r (le 8 loc 0))) next

-- a step reads the entry that starts at its record, and ends after that entry's own record
step-says : (contents sections : List ℕ) (first : Bool) (rs : List MachRel) (i : ℕ)
    → Says (entry_from contents sections first rs i) (own_of rs i + 1) (step_at contents sections first rs i)
unfolding step_at entry_from choose Says
step-says contents sections first rs i =
    split P (ltb (length contents) off) _ _ (λ _. tt)
    (λ _.
    split P (is_addend (record_at rs i)) _ _
    (λ e. chosen P (ltb (i + 1) (length rs)) _ _ (rw e (record-says sections _ _ off (i + 1 + 1) (drop off contents) _ _ _ (word 4) (word 8))) tt)
    (λ e. rw e (record-says sections _ _ off (i + 1) (drop off contents) _ _ _ (word 4) (word 8))))
  where
    off : ℕ
    off = (record_at rs i).offset

    P : Result (Reloc × ℕ) Refusal → Type 0
    P = Says (entry_from contents sections first rs i) (own_of rs i + 1)

    word : (n : ℕ) → le n (drop off contents) 0 ≡ le n contents off
    word n = le-drop n contents off 0 ∙ ap (le n contents) (omega arith)

-- ---- the walk

-- the records at which entries start from one such record on
starts-on : (rs : List MachRel) (i : ℕ) → i < length rs → own_of rs i + 1 ≤ length rs
    → starts i false (drop i rs) ≡ i ∷ starts (own_of rs i + 1) false (drop (own_of rs i + 1) rs)
unfolding choose
starts-on rs i h l = ap (starts i false) (drop-cons rs i none h) ∙ ap (λ (m : List ℕ). i ∷ m) (go (is_addend (record_at rs i)) refl)
  where
    none : MachRel
    none = record { offset = 0; bits = 0 }

    go : (t : Bool) → is_addend (record_at rs i) ≡ t
        → starts (suc i) (is_addend (record_at rs i)) (drop (suc i) rs) ≡ starts (own_of rs i + 1) false (drop (own_of rs i + 1) rs)
    go false e = rw (e, add-one i)
    go true e =
        let m : suc i < length rs = rw (e, add-one i, add-one (suc i)) at l in
        rw (e, add-one i, add-one (suc i)) (ap (starts (suc i) true) (drop-cons rs (suc i) none m))

module _ (contents sections : List ℕ) (first : Bool) (rs : List MachRel) where
  abbrev E : ℕ → Reloc
  E = entry_from contents sections first rs

  -- what is left from record i on: the entries that start there
  Reads : ℕ → Reading → Type 0
  Reads i (refused x) = Unit {0}
  Reads i (entries es) = es ≡ map E (starts i false (drop i rs))

  reads_none : (i : ℕ) → length rs ≤ i → Reads i (entries [])
  unfolding Reads
  reads_none i h = ap (λ (l : List MachRel). map E (starts i false l)) (sym (drop_of_length-le rs h))

  reads_before : (i : ℕ) → i < length rs → own_of rs i + 1 ≤ length rs → (a : Reading) → Reads (own_of rs i + 1) a → Reads i (before (E i) a)
  unfolding Reads
  reads_before i h l (refused x) p = tt
  reads_before i h l (entries es) p = ap (λ (fs : List Reloc). E i ∷ fs) p ∙ ap (map E) (sym (starts-on rs i h l))

  reads-after : (i : ℕ) (s : Result (Reloc × ℕ) Refusal) (rest : ℕ → Reading) → i < length rs → Says (E i) (own_of rs i + 1) s → Within (length rs) s
      → ((next : ℕ) → i < next → Reads next (rest next)) → Later i s → Reads i (after s rest)
  unfolding Reads Says Within Later
  reads-after i (Err x) rest h p w f g = tt
  reads-after i (Ok (e, next)) rest h p w f g =
      subst (λ (e : Reloc). Reads i (before e (rest next))) (sym p.0)
      (reads_before i h (omega arith) (rest next) (subst (λ (m : ℕ). Reads m (rest next)) p.1 (f next g)))

  walk-reads : (k i : ℕ) → length rs ≤ i + k → Reads i (read_from (step_at contents sections first rs) (length rs) k i)
  walk-reads zero i h = subst (Reads i) (sym (done-any _ _ zero i (omega arith))) (reads_none i (omega arith))
  walk-reads (suc k) i h = go (ltb i (length rs)) refl (λ next l. walk-reads k next (omega arith))
    where
      step : ℕ → Result (Reloc × ℕ) Refusal
      step = step_at contents sections first rs

      go : (t : Bool) → ltb i (length rs) ≡ t → ((next : ℕ) → i < next → Reads next (read_from step (length rs) k next))
          → Reads i (read_from step (length rs) (suc k) i)
      go false e f = let l = ltb-false i (length rs) e in subst (Reads i) (sym (done-any step (length rs) (suc k) i l)) (reads_none i l)
      go true e f =
          let l = ltb-true i (length rs) e in
          subst (Reads i) (sym (turn_suc step (length rs) k i l))
          (reads-after i (step i) (read_from step (length rs) k) l (step-says contents sections first rs i) (step-within contents sections first rs i l) f
          (step-onward contents sections first rs i))

  -- the entries of a table, each by its records
  pub fields : (es : List Reloc) → read_records contents sections first rs ≡ entries es → es ≡ map (entry_from contents sections first rs) (starts 0 false rs)
  unfolding read_records read_all Reads
  fields es e = subst (Reads 0) e (walk-reads (length rs) 0 (omega arith))

-- ---- how many

starts-count : (k : ℕ) (second : Bool) (rs : List MachRel) → length (starts k second rs) + pairs second rs ≡ length rs
starts-count k second [] = refl
starts-count k true (r ∷ rs) = omega (arith, starts-count (suc k) false rs)
starts-count k false (r ∷ rs) = omega (arith, starts-count (suc k) (is_addend r) rs)

-- the entries of a table are as many as its records less the ADDEND records that head a pair
pub count : (contents sections : List ℕ) (first : Bool) (rs : List MachRel) (es : List Reloc) → read_records contents sections first rs ≡ entries es
    → length es + pairs false rs ≡ length rs
count contents sections first rs es e =
    ap (λ (m : ℕ). m + pairs false rs)
    (ap length (fields contents sections first rs es e) ∙ length-map (starts 0 false rs) (entry_from contents sections first rs))
    ∙ starts-count 0 false rs

-- so they never exceed the records
pub few-entries : (contents sections : List ℕ) (first : Bool) (rs : List MachRel) (es : List Reloc) → read_records contents sections first rs ≡ entries es
    → length es ≤ length rs
few-entries contents sections first rs es e = omega (arith, count contents sections first rs es e)
