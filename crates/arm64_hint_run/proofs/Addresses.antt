-- The words' addresses are compared with no part (RULES 3.17): no number depends on them, and what is decided of a hint's words does not depend on where its
-- part stands. Carried by tests that do not name them.
use mathlib.Core.Path.{◌≡◌, refl, sym, ap, ap₂, ◌∙◌}
use mathlib.Core.Bool.{Bool, true, false, ◌||◌}
use mathlib.Core.List.{List, [], ◌∷◌, map}
use Prim.Native.Nat.{ℕ, zero, suc, ◌<◌}
use lib.ListN.{length, take}
use Rattle.util.specs.Choice.{choose}
use Rattle.macho.specs.Hint.{hint_count, hint_of}
use Rattle.macho.specs.Refusal.{answer_number}
use Rattle.macho.specs.declared.hint.HintInsn.{HintInsn}
use Rattle.macho.specs.declared.hint.HintRecord.{HintRecord}
use Rattle.arm64_hint_places.specs.Hint.{is_skipped, insns_all, insns_in, insns_of, rels_of}
use Rattle.arm64_hint_check.specs.Check.{any_of, ends_past, names_absent, check_hint}
use Rattle.arm64_hint_check.proofs.Ignored.{same_by}
use Rattle.arm64_hint_rules.specs.Rule.{hint_outcome}
use Rattle.arm64_hint_run.specs.Run.{run_of, run_number}
use Rattle.arm64_hint_run.proofs.Answers.{number_is}

-- a place with 0 for its address
abbrev bare : HintInsn → HintInsn
bare i = record { off = i.off; rel = i.rel; addr = 0 }

-- a hint with zeros for its words' addresses
abbrev pub unaddressed : HintRecord → HintRecord
unaddressed h = record {
  kind = h.kind;
  n = h.n;
  object = h.object;
  start = h.start;
  len = h.len;
  insn0 = bare h.insn0;
  insn1 = bare h.insn1;
  insn2 = bare h.insn2;
}

-- a hint with another part
abbrev pub elsewhere : HintRecord → (start len : ℕ) → HintRecord
elsewhere h start len = record {
  kind = h.kind;
  n = h.n;
  object = h.object;
  start = start;
  len = len;
  insn0 = h.insn0;
  insn1 = h.insn1;
  insn2 = h.insn2;
}

-- a test that does not look at the address
module _ (test : HintInsn → Bool) (blind : (i : HintInsn) → test (bare i) ≡ test i) where
  any-take : (n : ℕ) (l : List HintInsn) → any_of test (take n (map bare l)) ≡ any_of test (take n l)
  any-take zero l = refl
  any-take (suc n) [] = refl
  any-take (suc n) (i ∷ l) = ap₂ (λ (a b : Bool). a || b) (blind i) (any-take n l)

  any-insns : (h : HintRecord) → any_of test (insns_in (unaddressed h)) ≡ any_of test (insns_in h)
  unfolding insns_in is_skipped
  any-insns h = go (is_skipped h)
    where
      go : (b : Bool) → any_of test (choose b [] (take h.n (insns_all (unaddressed h)))) ≡ any_of test (choose b [] (take h.n (insns_all h)))
      go true = unfold choose in refl
      go false = unfold choose in any-take h.n (insns_all h)

check-blind : (len count : ℕ) (h : HintRecord) → check_hint len count (unaddressed h) ≡ check_hint len count h
unfolding check_hint is_skipped
check-blind len count h = rw (any-insns (ends_past h.len) (λ i. refl) h, any-insns (names_absent count) (λ i. refl) h)

-- lists of hints that differ in addresses alone have the same number
pub same_number : (hints others entries image : List ℕ) → length hints ≡ length others
    → ((k : ℕ) → k < hint_count hints → unaddressed (hint_of hints k) ≡ unaddressed (hint_of others k))
    → run_number (run_of image hints entries) ≡ run_number (run_of image others entries)
same_number hints others entries image sized same =
    number_is image hints entries
    ∙ ap answer_number
    (same_by hints others sized
    (λ len count k h. sym (check-blind len count (hint_of hints k)) ∙ ap (check_hint len count) (same k h) ∙ check-blind len count (hint_of others k))
    (length image) (length entries))
    ∙ sym (number_is image others entries)

-- the outcome of a hint's words, wherever its part stands
pub any_part : (h : HintRecord) (start len : ℕ) (entries words : List ℕ) → hint_outcome entries (elsewhere h start len) words ≡ hint_outcome entries h words
unfolding hint_outcome insns_of rels_of insns_in is_skipped
any_part h start len entries words = refl
