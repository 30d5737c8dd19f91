-- Two sections one after the other, with their records: a record that reads, reads alike where more contents follow, and moved where contents stand
-- before. Only the steps that are taken need agree, since the offset of a record after ADDEND is not looked at and may wrap.
use Rattle.std.specs.Prelude.{Result, Ok, Err, ⊤}
use mathlib.Core.Path.{◌≡◌, refl, sym, ap, subst, ◌∙◌}
use mathlib.Core.Logic.{inr}
use mathlib.Core.Bool.{Bool, true, false}
use mathlib.Core.List.{List, [], ◌∷◌, ◌++◌, map}
use Prim.Native.Nat.{ℕ, zero, suc, ◌+◌, ◌-◌, ◌%◌, ◌^◌, ◌<◌, ◌≤◌}
use native.Mathlib.Omega.{arith}
use borrow.Author.Tests.{le-ltb, ltb-true, ltb-false, eqb-true, eqb-false}
use lib.ListN.{length, drop, replicate, length-append, length-map}
use lib.Dec.{eqb, ltb}
use Rattle.util.specs.Choice.{choose}
use Rattle.util.proofs.Bytes.{le-append-left}
use Rattle.macho.specs.MachRel.{type_of, p2size_of}
use Rattle.macho.specs.Reloc.{with_signing}
use Rattle.macho.specs.Types.{ARM64_RELOC_UNSIGNED, ARM64_RELOC_SUBTRACTOR, ARM64_RELOC_ADDEND, ARM64_RELOC_GOT_LOAD_PAGEOFF12, ARM64_RELOC_TLVP_LOAD_PAGEOFF12}
use Rattle.macho.specs.Types.{ARM64_RELOC_AUTHENTICATED_POINTER}
use Rattle.macho.specs.declared.mach_rel.MachRel.{MachRel}
use Rattle.macho.specs.declared.reloc.Reloc.{Reloc}
use Rattle.macho.specs.declared.refusal.Refusal.TheVariants.{Bounds}
use Rattle.arch.specs.Entry.{entry_of}
use Rattle.arch.specs.Join.{joined, mapped, moved, record_later, entry_later}
use Rattle.arch.specs.Table.{record_at, subtracted_at}
use Rattle.arch.specs.Walk.{read_all, Fills}
use Rattle.macho.specs.declared.refusal.Refusal.{Refusal}
use Rattle.arch.proofs.Walk.{Within}
use Rattle.arch.proofs.Append.{Carries, carries_same, Follows, append}
use Rattle.arm64_reader.specs.Check.{check_reloc, word_check, pointer32}
use Rattle.arch.specs.Entry.{targeted}
use Rattle.arch.specs.Target.{target_of}
use Rattle.arm64_reader.specs.Support.{supported_of, forms_of}
use Rattle.arch.specs.Walk.{passing, Reads}
use Rattle.arm64_reader.specs.Record.{addend_of, adding, authenticated_record, entered, record_of, step_at}
use Rattle.arm64_reader.specs.Read.{read_records, ends_in}
use Rattle.arm64_reader.specs.Onward.{step-onward}
use Rattle.arm64_reader.proofs.Steps.{past_is, lone_is, pair_is, other-is, step-within}
use Rattle.arm64_reader.proofs.Moves.{step-moved}
use Rattle.arm64_reader.proofs.Tables.{left-alike, right-alike}

-- ---- lists

drop-longer : (k : ℕ) (xs ys : List ℕ) → k ≤ length xs → drop k (xs ++ ys) ≡ drop k xs ++ ys
drop-longer zero xs ys h = refl
drop-longer (suc k) [] ys h = absurd (omega arith)
drop-longer (suc k) (x ∷ xs) ys h = drop-longer k xs ys (omega arith)

drop-after : (xs ys : List ℕ) (o k : ℕ) → k ≡ length xs + o → drop k (xs ++ ys) ≡ drop o ys
drop-after [] ys o k e = ap (λ (n : ℕ). drop n ys) {x = k} {y = o} (omega arith)
drop-after (x ∷ xs) ys o zero e = absurd (omega arith)
drop-after (x ∷ xs) ys o (suc k) e = drop-after xs ys o k (omega arith)

-- ---- more contents after a record that reads

Passed : Result ⊤ Refusal → Type 0
Passed (Ok tt) = Unit {0}
Passed (Err x) = ⊥

Kept : Result ℕ Refusal → Type 0
Kept (Ok a) = Unit {0}
Kept (Err x) = ⊥

reads-passed : (c : Result ⊤ Refusal) (s : Result (Reloc × ℕ) Refusal) → Reads (passing c s) → Passed c × Reads s
unfolding Passed
reads-passed (Ok tt) s h = (tt, h)
reads-passed (Err x) s h = absurd h

reads_kept : (sections : List ℕ) (r : MachRel) (subtracted : Bool) (offset next : ℕ) (a : Result ℕ Refusal) → Reads (adding sections r subtracted offset next a) → Kept a
unfolding Kept
reads_kept sections r subtracted offset next (Ok a) h = tt
reads_kept sections r subtracted offset next (Err x) h = absurd h

module _ (loc more : List ℕ) where
  longer : (n : ℕ) → n ≤ length loc → n ≤ length (loc ++ more)
  longer n h = simp length-append (omega arith)

  word-longer : (ty : ℕ) → Passed (word_check ty loc) → word_check ty (loc ++ more) ≡ word_check ty loc
  unfolding word_check Passed choose
  word-longer ty h = go (ltb (length loc) 4) refl
    where
      go : (t : Bool) → ltb (length loc) 4 ≡ t → word_check ty (loc ++ more) ≡ word_check ty loc
      go true e = absurd (rw e at h)
      go false e =
          let l = ltb-false (length loc) 4 e in
          rw (e, le-ltb (length (loc ++ more)) 4 (longer 4 l), le-append-left 4 loc more 0 l)

  check-longer : (r : MachRel) (subtracted : Bool) → Passed (check_reloc r subtracted loc) → check_reloc r subtracted (loc ++ more) ≡ check_reloc r subtracted loc
  unfolding check_reloc Passed choose
  check-longer r subtracted h =
      go (supported_of r) refl (pointer32 r subtracted) refl (eqb (type_of r.bits) ARM64_RELOC_GOT_LOAD_PAGEOFF12) refl
      (eqb (type_of r.bits) ARM64_RELOC_TLVP_LOAD_PAGEOFF12) refl
    where
      go : (a : Bool) → supported_of r ≡ a → (b : Bool) → pointer32 r subtracted ≡ b
          → (g : Bool) → eqb (type_of r.bits) ARM64_RELOC_GOT_LOAD_PAGEOFF12 ≡ g → (t : Bool) → eqb (type_of r.bits) ARM64_RELOC_TLVP_LOAD_PAGEOFF12 ≡ t
          → check_reloc r subtracted (loc ++ more) ≡ check_reloc r subtracted loc
      go false a b _ g _ t _ = rw a
      go true a true b g _ t _ = rw (a, b)
      go true a false b true g t _ = rw (a, b, g) (word-longer (type_of r.bits) (rw (a, b, g) at h))
      go true a false b false g true t = rw (a, b, g, t) (word-longer (type_of r.bits) (rw (a, b, g, t) at h))
      go true a false b false g false t = rw (a, b, g, t)

  addend-longer : (r : MachRel) (given : ℕ) → Kept (addend_of r loc given) → addend_of r (loc ++ more) given ≡ addend_of r loc given
  unfolding addend_of Kept choose
  addend-longer r given h =
      go (eqb (type_of r.bits) ARM64_RELOC_UNSIGNED) refl (eqb (p2size_of r.bits) 2) refl (ltb (length loc) 4) refl (ltb (length loc) 8) refl
    where
      go : (u : Bool) → eqb (type_of r.bits) ARM64_RELOC_UNSIGNED ≡ u → (p : Bool) → eqb (p2size_of r.bits) 2 ≡ p
          → (w : Bool) → ltb (length loc) 4 ≡ w → (q : Bool) → ltb (length loc) 8 ≡ q → addend_of r (loc ++ more) given ≡ addend_of r loc given
      go false u p _ w _ q _ = rw u
      go true u true p true w q _ = absurd (rw (u, p, w) at h)
      go true u true p false w q _ =
          let l = ltb-false (length loc) 4 w in
          rw (u, p, w, le-ltb (length (loc ++ more)) 4 (longer 4 l), le-append-left 4 loc more 0 l)
      go true u false p w _ true q = absurd (rw (u, p, q) at h)
      go true u false p w _ false q =
          let l = ltb-false (length loc) 8 q in
          rw (u, p, q, le-ltb (length (loc ++ more)) 8 (longer 8 l), le-append-left 8 loc more 0 l)

  authenticated-longer : (r : MachRel) (subtracted : Bool) (offset next : ℕ) → Reads (authenticated_record loc r subtracted offset next)
      → authenticated_record (loc ++ more) r subtracted offset next ≡ authenticated_record loc r subtracted offset next
  unfolding authenticated_record choose
  authenticated-longer r subtracted offset next h = go (ltb (length loc) 8) refl
    where
      go : (t : Bool) → ltb (length loc) 8 ≡ t → authenticated_record (loc ++ more) r subtracted offset next ≡ authenticated_record loc r subtracted offset next
      go true e = absurd (rw e at h)
      go false e =
          let l = ltb-false (length loc) 8 e in
          rw (e, le-ltb (length (loc ++ more)) 8 (longer 8 l), le-append-left 8 loc more 0 l)

  entered-longer : (sections : List ℕ) (r : MachRel) (subtracted : Bool) (offset given next : ℕ) → Reads (entered loc sections r subtracted offset given next)
      → entered (loc ++ more) sections r subtracted offset given next ≡ entered loc sections r subtracted offset given next
  unfolding choose
  entered-longer sections r subtracted offset given next h = go (eqb (type_of r.bits) ARM64_RELOC_AUTHENTICATED_POINTER) refl
    where
      go : (t : Bool) → eqb (type_of r.bits) ARM64_RELOC_AUTHENTICATED_POINTER ≡ t
          → entered (loc ++ more) sections r subtracted offset given next ≡ entered loc sections r subtracted offset given next
      go true e = rw e (authenticated-longer r subtracted offset next (rw e at h))
      go false e = rw (e, addend-longer r given (reads_kept sections r subtracted offset next (addend_of r loc given) (rw e at h)))

  record-longer : (sections : List ℕ) (r : MachRel) (subtracted : Bool) (offset given next : ℕ) → Reads (record_of loc sections r subtracted offset given next)
      → record_of (loc ++ more) sections r subtracted offset given next ≡ record_of loc sections r subtracted offset given next
  unfolding record_of
  record-longer sections r subtracted offset given next h =
      let p = reads-passed (check_reloc r subtracted loc) _ h in
      rw (check-longer r subtracted p.0, entered-longer sections r subtracted offset given next p.1)

module _ (c more sections : List ℕ) (first : Bool) (rs : List MachRel) (i : ℕ) where
  abbrev off : ℕ
  off = (record_at rs i).offset

  -- a step that reads is not past the contents, and an ADDEND record has one after it
  inside-reads : Reads (step_at c sections first rs i) → off ≤ length c
  inside-reads h = go (ltb (length c) off) refl
    where
      go : (t : Bool) → ltb (length c) off ≡ t → off ≤ length c
      go true e = absurd (subst (λ (s : Result (Reloc × ℕ) Refusal). Reads s) (past_is c sections first rs i (ltb-true _ _ e)) h)
      go false e = ltb-false _ _ e

  pair_reads : Reads (step_at c sections first rs i) → type_of (record_at rs i).bits ≡ ARM64_RELOC_ADDEND → i + 1 < length rs
  pair_reads h t = go (ltb (i + 1) (length rs)) refl
    where
      go : (b : Bool) → ltb (i + 1) (length rs) ≡ b → i + 1 < length rs
      go true e = ltb-true _ _ e
      go false e = absurd (subst (λ (s : Result (Reloc × ℕ) Refusal). Reads s) (lone_is c sections first rs i (inside-reads h) t (ltb-false _ _ e)) h)

  step-longer : Reads (step_at c sections first rs i) → step_at (c ++ more) sections first rs i ≡ step_at c sections first rs i
  step-longer h = go (eqb (type_of (record_at rs i).bits) ARM64_RELOC_ADDEND) refl
    where
      here : off ≤ length c
      here = inside-reads h

      there : off ≤ length (c ++ more)
      there = simp length-append (omega (arith, here))

      same : (r : MachRel) (subtracted : Bool) (given next : ℕ) → Reads (record_of (drop off c) sections r subtracted off given next)
          → record_of (drop off (c ++ more)) sections r subtracted off given next ≡ record_of (drop off c) sections r subtracted off given next
      same r subtracted given next p =
          ap (λ (l : List ℕ). record_of l sections r subtracted off given next) (drop-longer off c more here)
          ∙ record-longer (drop off c) more sections r subtracted off given next p

      go : (t : Bool) → eqb (type_of (record_at rs i).bits) ARM64_RELOC_ADDEND ≡ t → step_at (c ++ more) sections first rs i ≡ step_at c sections first rs i
      go true e =
          let t = eqb-true _ _ e in
          let l = pair_reads h t in
          let p = pair_is c sections first rs i here t l in
          pair_is (c ++ more) sections first rs i there t l ∙ same _ _ _ _ (subst (λ (s : Result (Reloc × ℕ) Refusal). Reads s) p h) ∙ sym p
      go false e =
          let t = eqb-false _ _ e in
          let p = other-is c sections first rs i here t in
          other-is (c ++ more) sections first rs i there t ∙ same _ _ _ _ (subst (λ (s : Result (Reloc × ℕ) Refusal). Reads s) p h) ∙ sym p

-- ---- records moved

move-bits : (d : ℕ) (ys : List MachRel) (j : ℕ) → (record_at (map (record_later d) ys) j).bits ≡ (record_at ys j).bits
move-bits d [] j = refl
move-bits d (y ∷ ys) zero = refl
move-bits d (y ∷ ys) (suc j) = move-bits d ys j

move-offset : (d : ℕ) (ys : List MachRel) (j : ℕ) → j < length ys → (record_at (map (record_later d) ys) j).offset ≡ ((record_at ys j).offset + d) % 2 ^ 32
move-offset d [] j h = absurd (omega arith)
move-offset d (y ∷ ys) zero h = refl
move-offset d (y ∷ ys) (suc j) h = move-offset d ys j (omega arith)

move-subtracted : (d : ℕ) (before : Bool) (ys : List MachRel) (j : ℕ)
    → subtracted_at ARM64_RELOC_SUBTRACTOR before (map (record_later d) ys) j ≡ subtracted_at ARM64_RELOC_SUBTRACTOR before ys j
unfolding subtracted_at
move-subtracted d before ys j = rw (move-bits d ys (j - 1))

-- ---- the join

module _ (c pad e sections : List ℕ) (first : Bool) (xs ys : List MachRel) (fits : length c + length pad + length e < 2 ^ 32) where
  abbrev d : ℕ
  d = length c + length pad

  abbrev whole : List ℕ
  whole = c ++ (pad ++ e)

  abbrev zs : List MachRel
  zs = map (record_later d) ys

  -- whether the record before those of the second section is SUBTRACTOR
  abbrev last : Bool
  last = ends_in first xs

  zs-length : length zs ≡ length ys
  zs-length = length-map ys (record_later d)

  -- a step of the first section
  first_step : (i : ℕ) → i < length xs → Carries ⊥ (length xs) (step_at c sections first xs i) (step_at whole sections first (xs ++ zs) i)
  first_step i h = go (step_at c sections first xs i) refl
    where
      go : (t : Result (Reloc × ℕ) Refusal) → step_at c sections first xs i ≡ t → Carries ⊥ (length xs) t (step_at whole sections first (xs ++ zs) i)
      go (Err x) q = unfold Carries in λ (b : ⊥). absurd b
      go (Ok (f, next)) q =
          let p : Reads (step_at c sections first xs i) = subst (λ (s : Result (Reloc × ℕ) Refusal). Reads s) (sym q) tt in
          carries_same ⊥ (length xs) (Ok (f, next)) _
          (left-alike whole sections first xs zs i h (pair_reads c (pad ++ e) sections first xs i p) ∙ step-longer c (pad ++ e) sections first xs i p ∙ q)
          (subst (Within (length xs)) q (step-within c sections first xs i h))

  -- a step of the second section
  second_alike : (j : ℕ) → j < length ys → Reads (step_at e sections last ys j)
      → step_at whole sections last zs j ≡ moved 0 (entry_later d) (step_at e sections last ys j)
  second_alike j h p =
      let i = inside-reads e [] sections last ys j p in
      let o : (record_at zs j).offset ≡ (record_at ys j).offset + d = move-offset d ys j h ∙ omega arith in
      let n : length whole ≡ d + length e = simp length-append (omega arith) in
      step-moved 0 (entry_later d) whole e sections last last zs ys j j
      (record {
        number = omega arith;
        shifts = λ r s t a x. ap (λ (q : ℕ). with_signing (entry_of r s q t a) x) (sym o);
        inside = le-ltb (length whole) (record_at zs j).offset (omega arith) ∙ sym (le-ltb (length e) (record_at ys j).offset i);
        loc = drop-in j o;
        bits = move-bits d ys j;
        subtracted = move-subtracted d last ys j;
        more = λ _. ap (ltb (j + 1)) zs-length;
        own = λ _. move-bits d ys (j + 1);
      })
    where
      drop-in : (j : ℕ) → (record_at zs j).offset ≡ (record_at ys j).offset + d → drop (record_at zs j).offset whole ≡ drop (record_at ys j).offset e
      drop-in j o =
          drop-after c (pad ++ e) (length pad + (record_at ys j).offset) (record_at zs j).offset (omega arith)
          ∙ drop-after pad e (record_at ys j).offset (length pad + (record_at ys j).offset) refl

  second_reads : (j : ℕ) (f : Reloc) (next : ℕ) → j < length ys → step_at e sections last ys j ≡ Ok (f, next)
      → step_at whole sections first (xs ++ zs) (length xs + j) ≡ Ok (entry_later d f, length xs + next)
  second_reads j f next h q =
      let p : Reads (step_at e sections last ys j) = subst (λ (s : Result (Reloc × ℕ) Refusal). Reads s) (sym q) tt in
      right-alike whole sections first xs zs j (subst (λ (n : ℕ). j < n) (sym zs-length) h)
      ∙ ap (moved (length xs) (λ (x : Reloc). x))
      (second_alike j h p ∙ ap (moved 0 (entry_later d)) q)
      ∙ ap (λ (n : ℕ). Ok (entry_later d f, n)) {x = length xs + (0 + next)} {y = length xs + next} (omega arith)

  second-step : (j : ℕ) → j < length ys
      → Follows ⊥ (length xs) (entry_later d) (step_at e sections last ys j) (step_at whole sections first (xs ++ zs) (length xs + j))
  second-step j h = go (step_at e sections last ys j) refl
    where
      go : (t : Result (Reloc × ℕ) Refusal) → step_at e sections last ys j ≡ t → Follows ⊥ (length xs) (entry_later d) t (step_at whole sections first (xs ++ zs) (length xs + j))
      go (Err x) q = unfold Follows in λ (b : ⊥). absurd b
      go (Ok (f, next)) q = unfold Follows in second_reads j f next h q

  -- the entries of the first section, then those of the second with their offsets moved and nothing else changed
  pub join-reads : Fills (read_records c sections first xs) → Fills (read_records e sections last ys)
      → read_records whole sections first (xs ++ zs) ≡ joined (read_records c sections first xs) (mapped (entry_later d) (read_records e sections last ys))
  unfolding read_records
  join-reads f g =
      ap (read_all (step_at whole sections first (xs ++ zs))) (length-append xs zs ∙ ap (λ (n : ℕ). length xs + n) zs-length)
      ∙ append ⊥ ⊥ (step_at whole sections first (xs ++ zs)) (step_at c sections first xs) (step_at e sections last ys)
      (length xs) (length ys) (entry_later d) (step-onward whole sections first (xs ++ zs)) first_step second-step (inr f) (inr g)

-- records moved twice are moved by the sum
pub later-twice : (d e : ℕ) (ys : List MachRel) → map (record_later d) (map (record_later e) ys) ≡ map (record_later (d + e)) ys
later-twice d e [] = refl
later-twice d e (y ∷ ys) =
    let o : ((y.offset + e) % 2 ^ 32 + d) % 2 ^ 32 ≡ (y.offset + (d + e)) % 2 ^ 32 = omega arith in
    rw (o, later-twice d e ys)

-- ---- an offset that wraps

-- an ADDEND record, and after it one whose offset is the last of all
abbrev wrapping : List MachRel
wrapping = record { offset = 0; bits = 0xa4000001 } ∷ (record { offset = 0xffffffff; bits = 0x3d000005 } ∷ [])

-- by itself the second of them is past 4 bytes of contents; 4 bytes further on its offset is 3, and it would read: no walk takes that step, and a law
-- that asked for agreement there would not speak of this table
pub untaken : (step_at (replicate 4 0) [] false wrapping 1 ≡ Err Bounds)
    × (step_at (replicate 8 0) [] false (map (record_later 4) wrapping) 1
    ≡ Ok (record { offset = 3; ty = 3; size = 4; is_pcrel = 1; is_subtracted = 0; target = 5; signing = 0; addend = 0 }, 2))
unfolding step_at record_of check_reloc word_check supported_of forms_of pointer32 addend_of targeted target_of subtracted_at choose
untaken = (refl, refl)
