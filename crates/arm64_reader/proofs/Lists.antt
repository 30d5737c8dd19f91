-- A list of records read from its head: the step at the first record, then the rest of the list, which stands one or two records further on.
use Rattle.std.specs.Prelude.{Result, Ok, Err}
use mathlib.Core.Path.{◌≡◌, refl, ap, ◌∙◌}
use mathlib.Core.Bool.{Bool, true, false}
use mathlib.Core.Logic.{inl}
use mathlib.Core.List.{List, [], ◌∷◌, ◌++◌}
use Prim.Native.Nat.{ℕ, suc, ◌+◌, ◌<◌, ◌≤◌}
use native.Mathlib.Omega.{arith}
use lib.ListN.{length, drop}
use borrow.Author.Tests.{ltb-true, ltb-false}
use lib.Dec.{eqb, ltb}
use Rattle.util.specs.Bits.{extend}
use Rattle.util.specs.Choice.{choose}
use Rattle.macho.specs.MachRel.{idx_of, type_of}
use Rattle.macho.specs.Types.{ARM64_RELOC_SUBTRACTOR, ARM64_RELOC_ADDEND}
use Rattle.macho.specs.declared.mach_rel.MachRel.{MachRel}
use Rattle.macho.specs.declared.reloc.Reloc.{Reloc}
use Rattle.macho.specs.declared.refusal.Refusal.{Refusal}
use Rattle.macho.specs.declared.refusal.Refusal.TheVariants.{Bounds, LoneAddend}
use Rattle.arch.specs.Table.{subtracted_at}
use Rattle.arch.specs.Walk.{Reading, refused, entries, before, after, read_from, read_all}
use Rattle.arch.proofs.Walk.{Ends, turn_suc}
use Rattle.arch.proofs.Fuel.{same}
use Rattle.arch.proofs.Append.{follows-moved, shift, mapped-same}
use Rattle.arm64_reader.specs.Record.{record_of, step_at}
use Rattle.arm64_reader.specs.Read.{read_records, ends_in}
use Rattle.arm64_reader.specs.Onward.{record-ends, step-onward}
use Rattle.arm64_reader.proofs.Steps.{past_is, lone_is, pair_is, other-is}
use Rattle.arm64_reader.proofs.Tables.{right-alike}

-- whether a record is SUBTRACTOR
abbrev pub is_subtractor : MachRel → Bool
is_subtractor r = eqb (type_of r.bits) ARM64_RELOC_SUBTRACTOR

after-at : (m : ℕ) (s : Result (Reloc × ℕ) Refusal) (p : ℕ → Reading) (a : Reading) → Ends m s → p m ≡ a → after s p ≡ after s (λ _. a)
unfolding Ends
after-at m (Err x) p a h e = refl
after-at m (Ok (r, next)) p a h e = rw h (ap (before r) e)

module _ (contents sections : List ℕ) (first : Bool) where
  -- after the records xs that a first step takes
  rest-is : (xs ys : List MachRel) (k : ℕ) → length ys ≤ k
      → read_from (step_at contents sections first (xs ++ ys)) (length xs + length ys) k (length xs) ≡ read_records contents sections (ends_in first xs) ys
  unfolding read_records read_all
  rest-is xs ys k h =
      ap (read_from (step_at contents sections first (xs ++ ys)) (length xs + length ys) k) {x = length xs} {y = length xs + 0} (omega arith)
      ∙ shift (Unit {0}) (step_at contents sections first (xs ++ ys)) (step_at contents sections (ends_in first xs) ys) (length xs) (length ys) (λ (e : Reloc). e)
      (λ j l. follows-moved (Unit {0}) (length xs) _ _ _ (right-alike contents sections first xs ys j l)) k 0 (inl tt)
      ∙ mapped-same _
      ∙ same (step_at contents sections (ends_in first xs) ys) (length ys) (step-onward contents sections (ends_in first xs) ys) k (length ys) 0
      (omega arith) (omega arith)

  -- no record
  pub read-nil : read_records contents sections first [] ≡ entries []
  unfolding read_records read_all read_from
  read-nil = refl

  -- a first record past the contents
  pub read_past : (r : MachRel) (rs : List MachRel) → length contents < r.offset → read_records contents sections first (r ∷ rs) ≡ refused Bounds
  unfolding read_records read_all
  read_past r rs h =
      turn_suc (step_at contents sections first (r ∷ rs)) (suc (length rs)) (length rs) 0 (omega arith)
      ∙ ap (λ (s : Result (Reloc × ℕ) Refusal). after s (read_from (step_at contents sections first (r ∷ rs)) (suc (length rs)) (length rs)))
      (past_is contents sections first (r ∷ rs) 0 h)

  -- an ADDEND record alone
  pub read-lone : (a : MachRel) → a.offset ≤ length contents → type_of a.bits ≡ ARM64_RELOC_ADDEND
      → read_records contents sections first (a ∷ []) ≡ refused LoneAddend
  unfolding read_records read_all
  read-lone a h t =
      turn_suc (step_at contents sections first (a ∷ [])) 1 0 0 (omega arith)
      ∙ ap (λ (s : Result (Reloc × ℕ) Refusal). after s (read_from (step_at contents sections first (a ∷ [])) 1 0)) (lone_is contents sections first (a ∷ []) 0 h t (omega arith))

  -- a first record that is no ADDEND
  pub read_plain : (r : MachRel) (rs : List MachRel) → r.offset ≤ length contents → (type_of r.bits ≡ ARM64_RELOC_ADDEND → ⊥)
      → read_records contents sections first (r ∷ rs)
      ≡ after (record_of (drop r.offset contents) sections r first r.offset 0 1) (λ _. read_records contents sections (is_subtractor r) rs)
  unfolding read_records read_all subtracted_at choose
  read_plain r rs h t =
      turn_suc (step_at contents sections first (r ∷ rs)) (suc (length rs)) (length rs) 0 (omega arith)
      ∙ ap (λ (s : Result (Reloc × ℕ) Refusal). after s (read_from (step_at contents sections first (r ∷ rs)) (suc (length rs)) (length rs)))
      (other-is contents sections first (r ∷ rs) 0 h t)
      ∙ after-at 1 (record_of (drop r.offset contents) sections r first r.offset 0 1) _ _ (record-ends _ _ _ _ _ _ 1)
      (ap (λ (n : ℕ). read_from (step_at contents sections first (r ∷ rs)) n (length rs) 1) {x = suc (length rs)} {y = 1 + length rs} (omega arith)
      ∙ rest-is (r ∷ []) rs (length rs) (omega arith))

  -- an ADDEND record and the record after it
  pub read-pair : (a r : MachRel) (rs : List MachRel) → a.offset ≤ length contents → type_of a.bits ≡ ARM64_RELOC_ADDEND
      → read_records contents sections first (a ∷ (r ∷ rs))
      ≡ after (record_of (drop a.offset contents) sections r false a.offset (extend (idx_of a.bits) 24) 2)
      (λ _. read_records contents sections (is_subtractor r) rs)
  unfolding read_records read_all subtracted_at choose
  read-pair a r rs h t =
      let n = suc (suc (length rs)) in
      turn_suc (step_at contents sections first (a ∷ (r ∷ rs))) n (suc (length rs)) 0 (omega arith)
      ∙ ap (λ (s : Result (Reloc × ℕ) Refusal). after s (read_from (step_at contents sections first (a ∷ (r ∷ rs))) n (suc (length rs))))
      (pair_is contents sections first (a ∷ (r ∷ rs)) 0 h t (omega arith))
      ∙ after-at 2 (record_of (drop a.offset contents) sections r false a.offset (extend (idx_of a.bits) 24) 2) _ _ (record-ends _ _ _ _ _ _ 2)
      (ap (λ (m : ℕ). read_from (step_at contents sections first (a ∷ (r ∷ rs))) m (suc (length rs)) 2) {x = n} {y = 2 + length rs} (omega arith)
      ∙ rest-is (a ∷ (r ∷ [])) rs (suc (length rs)) (omega arith))

  -- what holds of each way that a first record can be read
  pub plain-cases : (P : Reading → Type 0) (r : MachRel) (rs : List MachRel) → (type_of r.bits ≡ ARM64_RELOC_ADDEND → ⊥)
      → (length contents < r.offset → P (refused Bounds))
      → (r.offset ≤ length contents → (x : Refusal) → record_of (drop r.offset contents) sections r first r.offset 0 1 ≡ Err x → P (refused x))
      → (r.offset ≤ length contents → (e : Reloc) (m : ℕ) → record_of (drop r.offset contents) sections r first r.offset 0 1 ≡ Ok (e, m)
      → P (before e (read_records contents sections (is_subtractor r) rs)))
      → P (read_records contents sections first (r ∷ rs))
  plain-cases P r rs t past refuses reads = go (ltb (length contents) r.offset) refl
    where
      by : (s : Result (Reloc × ℕ) Refusal) → record_of (drop r.offset contents) sections r first r.offset 0 1 ≡ s → r.offset ≤ length contents
          → P (after s (λ _. read_records contents sections (is_subtractor r) rs))
      by (Err x) e h = refuses h x e
      by (Ok (f, m)) e h = reads h f m e

      go : (b : Bool) → ltb (length contents) r.offset ≡ b → P (read_records contents sections first (r ∷ rs))
      go true e = let h = ltb-true _ _ e in rw (read_past r rs h) (past h)
      go false e = let h = ltb-false _ _ e in rw (read_plain r rs h t) (by _ refl h)

  pub pair-cases : (P : Reading → Type 0) (a r : MachRel) (rs : List MachRel) → type_of a.bits ≡ ARM64_RELOC_ADDEND
      → (length contents < a.offset → P (refused Bounds))
      → (a.offset ≤ length contents → (x : Refusal)
      → record_of (drop a.offset contents) sections r false a.offset (extend (idx_of a.bits) 24) 2 ≡ Err x → P (refused x))
      → (a.offset ≤ length contents → (e : Reloc) (m : ℕ)
      → record_of (drop a.offset contents) sections r false a.offset (extend (idx_of a.bits) 24) 2 ≡ Ok (e, m)
      → P (before e (read_records contents sections (is_subtractor r) rs)))
      → P (read_records contents sections first (a ∷ (r ∷ rs)))
  pair-cases P a r rs t past refuses reads = go (ltb (length contents) a.offset) refl
    where
      by : (s : Result (Reloc × ℕ) Refusal) → record_of (drop a.offset contents) sections r false a.offset (extend (idx_of a.bits) 24) 2 ≡ s → a.offset ≤ length contents
          → P (after s (λ _. read_records contents sections (is_subtractor r) rs))
      by (Err x) e h = refuses h x e
      by (Ok (f, m)) e h = reads h f m e

      go : (b : Bool) → ltb (length contents) a.offset ≡ b → P (read_records contents sections first (a ∷ (r ∷ rs)))
      go true e = let h = ltb-true _ _ e in rw (read_past a (r ∷ rs) h) (past h)
      go false e = let h = ltb-false _ _ e in rw (read-pair a r rs h t) (by _ refl h)
