-- Number 1 is that of lengths: a run is refused with it just where hints or entries are no whole records, or too many (RULES 3.9). Carried by the choices
-- of the check.
use Rattle.std.specs.Prelude.{Result, Ok, Err, ⊤}
use mathlib.Core.Path.{◌≡◌, refl, sym, ap, ◌∙◌}
use mathlib.Core.Bool.{Bool, true, false, ◌&&◌}
use mathlib.Core.List.{List}
use Prim.Native.Nat.{ℕ, zero, suc, ◌/◌, ◌%◌}
use native.Mathlib.Omega.{arith}
use borrow.Author.Tests.{eq-eqb, eqb-true, le-leb, leb-true}
use lib.Dec.{eqb, leb}
use lib.ListN.{length}
use Rattle.util.proofs.Choice.{chosen, choose-true, choose-false, both}
use Rattle.macho.specs.Record.{most_records}
use Rattle.macho.specs.Hint.{hint_size, hint_count, hint_of}
use Rattle.macho.specs.Reloc.{reloc_size}
use Rattle.macho.specs.Refusal.{first, answer_number}
use Rattle.macho.specs.declared.hint.HintRecord.{HintRecord}
use Rattle.macho.specs.declared.refusal.Refusal.TheVariants.{Lengths, Bounds, NoEntry}
use Rattle.macho.specs.declared.refusal.Refusal.{Refusal}
use Rattle.arm64_hint_check.specs.Check.{is_list, IsList, check_lists, check_hint, check_to, check_all}
use Rattle.arm64_hint_run.specs.Run.{run_of, run_number}
use Rattle.arm64_hint_run.proofs.Answers.{number_is}

list-is : (len size : ℕ) → is_list len size ≡ true → IsList len size
unfolding is_list
list-is len size e =
    let t = both (eqb (len % size) 0) (leb (len / size) most_records) e in (eqb-true (len % size) 0 t.0, leb-true (len / size) most_records t.1)

is-list : (len size : ℕ) → IsList len size → is_list len size ≡ true
unfolding is_list
is-list len size h = rw (eq-eqb (len % size) 0 h.0, le-leb (len / size) most_records h.1)

-- a check that is not number 1
abbrev Other : Result ⊤ Refusal → Type 0
Other c = answer_number c ≡ 1 → ⊥

other-hint : (len count : ℕ) (h : HintRecord) → Other (check_hint len count h)
unfolding check_hint
other-hint len count h =
    chosen Other _ (Ok tt) _ (λ q. omega arith)
    (chosen Other _ (Err Bounds) _ (λ q. omega arith)
    (chosen Other _ (Err Bounds) _ (λ q. omega arith) (chosen Other _ (Err NoEntry) (Ok tt) (λ q. omega arith) (λ q. omega arith))))

other-first : (a b : Result ⊤ Refusal) → Other a → Other b → Other (first a b)
other-first (Ok tt) b f g = g
other-first (Err x) b f g = f

other-to : (len count : ℕ) (hints : List ℕ) (k : ℕ) → Other (check_to len count hints k)
unfolding check_to
other-to len count hints zero = λ q. omega arith
other-to len count hints (suc k) =
    other-first (check_to len count hints k) (check_hint len count (hint_of hints k)) (other-to len count hints k) (other-hint len count (hint_of hints k))

module _ (image hints entries : List ℕ) where
  -- hints and entries are lists
  abbrev pub AreLists : Type 0
  AreLists = IsList (length hints) hint_size × IsList (length entries) reloc_size

  lists-fit : AreLists → check_lists (length hints) (length entries) ≡ Ok tt
  unfolding check_lists
  lists-fit (h, e) =
      choose-true (is_list (length hints) hint_size && is_list (length entries) reloc_size) (Ok tt) (Err Lengths)
      (rw (is-list (length hints) hint_size h, is-list (length entries) reloc_size e))

  pub lengths : (AreLists → ⊥) → run_number (run_of image hints entries) ≡ 1
  unfolding check_all check_lists
  lengths f =
      number_is image hints entries
      ∙ ap (λ (c : Result ⊤ Refusal). answer_number (first c (check_to (length image) (length entries / reloc_size) hints (hint_count hints))))
      (go (is_list (length hints) hint_size && is_list (length entries) reloc_size) refl)
    where
      go : (b : Bool) → (is_list (length hints) hint_size && is_list (length entries) reloc_size) ≡ b
          → check_lists (length hints) (length entries) ≡ Err Lengths
      go true e =
          let t = both (is_list (length hints) hint_size) (is_list (length entries) reloc_size) e in
          absurd (f (list-is (length hints) hint_size t.0, list-is (length entries) reloc_size t.1))
      go false e = choose-false _ (Ok tt) (Err Lengths) e

  pub lengths-only : AreLists → run_number (run_of image hints entries) ≡ 1 → ⊥
  unfolding check_all
  lengths-only h q =
      other-to (length image) (length entries / reloc_size) hints (hint_count hints)
      (sym (ap (λ (c : Result ⊤ Refusal). answer_number (first c (check_to (length image) (length entries / reloc_size) hints (hint_count hints)))) (lists-fit h))
      ∙ sym (number_is image hints entries) ∙ q)
