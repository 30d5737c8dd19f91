-- The run: refused, or done. Carried by the choices of the definitions.
use Rattle.std.specs.Prelude.{Result, Ok, Err, ⊤}
use mathlib.Core.Path.{◌≡◌, sym, ap, ◌∙◌}
use mathlib.Core.List.{List}
use Prim.Native.Nat.{ℕ}
use Rattle.macho.specs.declared.refusal.Refusal.{Refusal}
use Rattle.arm64_hint_order.specs.Cursor.{order_of}
use Rattle.arm64_hint_work.specs.declared.tally.Tally.{Tally}
use Rattle.arm64_hint_run.specs.Run.{worked, answer_by, image_by}
use Rattle.arm64_hint_run.specs.Records.{records_of, filled}
use Rattle.arm64_hint_listed.specs.Listed.{listed_check, listed_of, image_of, slots_of}

module _ (image hints entries slots : List ℕ) where
  pub listed-refused : (x : Refusal) → listed_check image hints entries slots ≡ Err x
      → (Err x ≡ listed_of image hints entries slots) × ((image ≡ image_of image hints entries slots) × (slots ≡ slots_of image hints entries slots))
  unfolding listed_of image_of slots_of
  listed-refused x e = (
    sym (ap (λ (c : Result ⊤ Refusal). answer_by c (worked image hints entries (order_of hints)).tally) e),
    (
      sym (ap (λ (c : Result ⊤ Refusal). image_by c image (worked image hints entries (order_of hints)).image) e),
      sym (ap (λ (c : Result ⊤ Refusal). image_by c slots (filled (records_of image hints entries (order_of hints)) slots)) e),
    ),
  )

  pub listed-done : {t : Tally} {y z : List ℕ} → listed_check image hints entries slots ≡ Ok tt → t ≡ (worked image hints entries (order_of hints)).tally
      → y ≡ (worked image hints entries (order_of hints)).image → z ≡ filled (records_of image hints entries (order_of hints)) slots
      → (Ok t ≡ listed_of image hints entries slots) × ((y ≡ image_of image hints entries slots) × (z ≡ slots_of image hints entries slots))
  unfolding listed_of image_of slots_of
  listed-done e told left fills = (
    ap Ok told ∙ sym (ap (λ (c : Result ⊤ Refusal). answer_by c (worked image hints entries (order_of hints)).tally) e),
    (
      left ∙ sym (ap (λ (c : Result ⊤ Refusal). image_by c image (worked image hints entries (order_of hints)).image) e),
      fills ∙ sym (ap (λ (c : Result ⊤ Refusal). image_by c slots (filled (records_of image hints entries (order_of hints)) slots)) e),
    ),
  )
