-- Records stored one after another in lent slots, of any layout. Carried by the size of a record.
use mathlib.Core.Path.{◌≡◌, refl, sym}
use mathlib.Core.List.{List, [], ◌∷◌, ◌++◌, append_assoc, append-nil}
use Prim.Native.Nat.{ℕ, ◌*◌, ◌≤◌}
use native.Mathlib.Omega.{arith}
use native.Mathlib.Nat.{mul-zero, mul-suc}
use lib.ListN.{length, drop, length-append}
use lib.Seq.{sets}
use Rattle.util.proofs.Bytes.{sets-append}
use Rattle.util.proofs.Puts.{put_front}
use Rattle.macho.specs.Record.{Field, list_bytes}
use Rattle.macho.proofs.RoundTrip.{Layout, length-image}

module _ {A : Type 0} {n : ℕ} {value : List ℕ → ℕ → A} {fields : A → List Field} {image : A → List ℕ} (L : Layout n value fields image) where
  -- the bytes of a list of records have its size
  pub length-list : (rs : List A) → length (list_bytes image rs) ≡ n * length rs
  unfolding list_bytes
  length-list [] = sym (mul-zero n)
  length-list (r ∷ rs) = simp (length-append, length-image L r, length-list rs) (omega (arith, mul-suc n (length rs)))

  pub list-append : (rs qs : List A) → list_bytes image (rs ++ qs) ≡ list_bytes image rs ++ list_bytes image qs
  unfolding list_bytes
  list-append [] qs = refl
  list-append (r ∷ rs) qs = rw (list-append rs qs) (sym (append_assoc (image r) (list_bytes image rs) (list_bytes image qs)))

  -- records stored after others
  pub stored_more : (slots : List ℕ) (rs qs : List A)
      → sets slots 0 (list_bytes image (rs ++ qs)) ≡ sets (sets slots 0 (list_bytes image rs)) (n * length rs) (list_bytes image qs)
  stored_more slots rs qs =
      rw (list-append rs qs) (sets-append (list_bytes image rs) (list_bytes image qs) slots 0 (n * length rs) (omega (arith, length-list rs)))

  -- one record after others
  pub stored_one : (slots : List ℕ) (rs : List A) (r : A)
      → sets slots 0 (list_bytes image (rs ++ (r ∷ []))) ≡ sets (sets slots 0 (list_bytes image rs)) (n * length rs) (image r)
  unfolding list_bytes
  stored_one slots rs r = rw (← append-nil (image r)) (stored_more slots rs (r ∷ []))

  -- stored records are the front of the slots
  pub stored-front : (slots : List ℕ) (rs : List A) → n * length rs ≤ length slots
      → sets slots 0 (list_bytes image rs) ≡ list_bytes image rs ++ drop (n * length rs) slots
  stored-front slots rs h = put_front (list_bytes image rs) slots (n * length rs) (length-list rs) h
