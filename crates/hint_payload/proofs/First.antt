-- The first values of a payload that holds a row are the row.
use mathlib.Core.Path.{◌≡◌, refl, ap, ◌∙◌}
use mathlib.Core.List.{List, [], ◌∷◌}
use Prim.Native.Nat.{ℕ, ◌^◌}
use borrow.Author.Tests.{lt-ltb}
use lib.Dec.{ltb}
use lib.ListN.{length}
use Rattle.util.proofs.Choice.{choose-true}
use Rattle.uleb.specs.Values.{Values}
use Rattle.hint_payload.specs.Payload.{holds, payload_from, first_values}
use Rattle.hint_payload.specs.declared.expected.Expected.{Expected}
use Rattle.hint_payload.proofs.Walk.{held}

pub first-values : (e : Expected) (ns : Values) (xs : List ℕ) → payload_from e ns ≡ holds xs → first_values (length xs) ns ≡ xs
unfolding first_values
first-values =
    held (λ e ns xs. first_values (length xs) ns ≡ xs) refl (λ e v after rest l z a. refl)
    (λ e v after rest xs l z r.
    choose-true (ltb v (2 ^ 64)) (v ∷ first_values (length xs) rest) [] (lt-ltb v (2 ^ 64) l) ∙ ap {B = List ℕ} (λ ys. v ∷ ys) r)
