-- What a listed run answers beside its contract: with room for the records it is the plain run; number 1 comes first, then 2 whatever the hints say; where it
-- is done the slots hold the records, whose totals are the counts, and a refusal leaves image and slots. Carried by the choices of the definitions.
use Rattle.std.specs.Prelude.{Result, Ok, Err, ⊤}
use mathlib.Core.Path.{◌≡◌, refl, sym, ap, ◌∙◌}
use mathlib.Core.Bool.{false, ◌&&◌}
use mathlib.Core.List.{List, ◌∷◌, ◌++◌}
use Prim.Native.Nat.{ℕ, ◌*◌, ◌≤◌, ◌<◌}
use native.Mathlib.Omega.{arith}
use lib.ListN.{length, drop}
use Rattle.util.proofs.Choice.{choose-false}
use Rattle.macho.specs.Hint.{hint_size, hint_count}
use Rattle.macho.specs.Reloc.{reloc_size}
use Rattle.macho.specs.Record.{list_bytes}
use Rattle.macho.specs.RuleRecord.{rule_record_size, rule_record_at, rule_record_bytes}
use Rattle.macho.specs.declared.refusal.Refusal.{Refusal}
use Rattle.macho.specs.declared.refusal.Refusal.TheVariants.{Lengths, Slots}
use Rattle.macho.specs.Refusal.{first}
use Rattle.image.specs.Steps.{answered, written}
use Rattle.arm64_hint_order.specs.Lists.{run_list}
use Rattle.arm64_hint_order.specs.Cursor.{order_of}
use Rattle.arm64_hint_order.proofs.Walk.{order-length}
use Rattle.arm64_hint_check.specs.Check.{is_list, check_lists, check_listed}
use Rattle.arm64_hint_check.proofs.Checks.{few-hints}
use Rattle.arm64_hint_check.proofs.Listed.{listed-lists, with-room, without-room, listed-fit}
use Rattle.arm64_hint_work.specs.Step.{steps_of}
use Rattle.arm64_hint_work.specs.declared.tally.Tally.{Tally}
use Rattle.arm64_hint_run.specs.Run as Run
use Rattle.arm64_hint_run.specs.Run.{worked, answer_by, image_by, run_of}
use Rattle.arm64_hint_run.specs.Records.{record_of, records_of, filled}
use Rattle.arm64_hint_listed.specs.Listed.{listed_check, listed_of, image_of, slots_of}
use Rattle.arm64_hint_listed.specs.Totals.{totals}
use Rattle.arm64_hint_listed.proofs.Records.{one_each, slot-of-turn, totals-are}

module _ (image hints entries slots : List ℕ) where
  -- with room for the records, answer and image are the plain run's
  pub same-run : rule_record_size * hint_count hints ≤ length slots
      → (listed_of image hints entries slots ≡ run_of image hints entries) × (image_of image hints entries slots ≡ Run.image_of image hints entries)
  unfolding listed_of image_of run_of Run.image_of
  same-run l =
      let e = with-room (length image) hints (length entries) (length slots) l in (
        ap (λ (c : Result ⊤ Refusal). answer_by c (worked image hints entries (order_of hints)).tally) e,
        ap (λ (c : Result ⊤ Refusal). image_by c image (worked image hints entries (order_of hints)).image) e,
      )

  -- what the slots hold changes neither answer nor image
  pub slots-ignored : (others : List ℕ) → length slots ≡ length others
      → (listed_of image hints entries slots ≡ listed_of image hints entries others) × (image_of image hints entries slots ≡ image_of image hints entries others)
  unfolding listed_of image_of
  slots-ignored others e =
      let same = ap (λ (n : ℕ). check_listed (length image) hints (length entries) n) e in (
        ap (λ (c : Result ⊤ Refusal). answer_by c (worked image hints entries (order_of hints)).tally) same,
        ap (λ (c : Result ⊤ Refusal). image_by c image (worked image hints entries (order_of hints)).image) same,
      )

  -- number 1, whatever the slots
  pub not-lists : (is_list (length hints) hint_size && is_list (length entries) reloc_size) ≡ false → listed_of image hints entries slots ≡ Err Lengths
  unfolding listed_of check_lists
  not-lists e =
      ap (λ (c : Result ⊤ Refusal). answer_by c (worked image hints entries (order_of hints)).tally)
      (listed-lists (length image) hints (length entries) (length slots) Lengths (choose-false _ _ _ e))

  -- then number 2, whatever the hints
  pub too_short : check_lists (length hints) (length entries) ≡ Ok tt → length slots < rule_record_size * hint_count hints
      → listed_of image hints entries slots ≡ Err Slots
  unfolding listed_of
  too_short e l =
      ap (λ (c : Result ⊤ Refusal). answer_by c (worked image hints entries (order_of hints)).tally)
      (without-room (length image) hints (length entries) (length slots) l ∙ ap (λ (c : Result ⊤ Refusal). first c (Err Slots)) e)

  -- a refusal leaves image and slots
  pub refused-leaves : (x : Refusal) → listed_of image hints entries slots ≡ Err x
      → (image_of image hints entries slots ≡ image) × (slots_of image hints entries slots ≡ slots)
  unfolding listed_of image_of slots_of
  refused-leaves x e = go (listed_check image hints entries slots) e
    where
      go : (c : Result ⊤ Refusal) → answer_by c (worked image hints entries (order_of hints)).tally ≡ Err x
          → (image_by c image (worked image hints entries (order_of hints)).image ≡ image)
          × (image_by c slots (filled (records_of image hints entries (order_of hints)) slots) ≡ slots)
      go (Ok tt) q = let z : ◌≡◌ {A = ℕ} 0 1 = cc in absurd (omega arith)
      go (Err y) q = (refl, refl)

  module _ (t : Tally) (e : listed_of image hints entries slots ≡ Ok t) where
    -- nothing is turned down, and the counts are those of the order of work
    fit : (listed_check image hints entries slots ≡ Ok tt) × (t ≡ (worked image hints entries (order_of hints)).tally)
    unfolding listed_of
    fit = go (listed_check image hints entries slots) e
      where
        go : (c : Result ⊤ Refusal) → answer_by c (worked image hints entries (order_of hints)).tally ≡ Ok t
            → (c ≡ Ok tt) × (t ≡ (worked image hints entries (order_of hints)).tally)
        go (Ok tt) q = (refl, cc)
        go (Err y) q = let z : ◌≡◌ {A = ℕ} 0 1 = cc in absurd (omega arith)

    -- there was room for the records, and the plain run is done, too, with the same counts and image
    pub done : (rule_record_size * hint_count hints ≤ length slots)
        × (run_of image hints entries ≡ Ok t)
        × (image_of image hints entries slots ≡ Run.image_of image hints entries)
    done =
        let room = (listed-fit (length image) hints (length entries) (length slots) fit.0).1 in
        let same = same-run room in
        (room, sym same.0 ∙ e, same.1)

    fills : slots_of image hints entries slots ≡ filled (records_of image hints entries (order_of hints)) slots
    unfolding slots_of
    fills = ap (λ (c : Result ⊤ Refusal). image_by c slots (filled (records_of image hints entries (order_of hints)) slots)) fit.0

    -- the slots hold the records, and after them what they held
    pub slots_filled : slots_of image hints entries slots
        ≡ list_bytes rule_record_bytes (records_of image hints entries (order_of hints)) ++ drop (rule_record_size * hint_count hints) slots
    slots_filled =
        fills
        ∙ ap (λ (n : ℕ). list_bytes rule_record_bytes (records_of image hints entries (order_of hints)) ++ drop (rule_record_size * n) slots)
        (one_each hints entries (order_of hints) image ∙ order-length hints)

    -- the counts are the records' totals
    pub totals-of : t ≡ totals (records_of image hints entries (order_of hints))
    totals-of = fit.1 ∙ totals-are image hints entries (order_of hints)

    -- the slot of a hint's turn holds what came of it
    pub slot-holds : (l : List ℕ) (k : ℕ) (m : List ℕ) → order_of hints ≡ l ++ (k ∷ m)
        → rule_record_at (slots_of image hints entries slots) (rule_record_size * length l)
        ≡ record_of hints k (answered (steps_of hints entries) k (run_list (written (steps_of hints entries)) l image))
    slot-holds l k m q =
        let run = listed-fit (length image) hints (length entries) (length slots) fit.0 in
        ap (λ (s : List ℕ). rule_record_at s (rule_record_size * length l)) fills
        ∙ slot-of-turn image hints entries slots (few-hints (length image) hints (length entries) run.0) l k m q
