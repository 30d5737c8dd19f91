-- The ways to close the list of a payload, and to fail (RULES 14.5 to 14.7).
use Rattle.std.specs.Prelude.{◌≡◌, true, false, List, [], ◌++◌, ℕ, ◌^◌, ◌≤◌, ◌<◌}
use Rattle.util.specs.All.{All}
use Rattle.uleb.specs.Values.{Values, ended, cut, next, values_of}
use Rattle.uleb.specs.Spelling.{Spells}
use Rattle.hint_payload.specs.Row.{expected_in, is_kind, is_whole}
use Rattle.hint_payload.specs.Payload.{all_zero}
use Rattle.hint_payload.specs.declared.expected.Expected.{Expected}
use Rattle.hint_payload.specs.declared.expected.Expected.TheVariants.{Kind, Zeros}

-- a value 0, in any spelling, follows the values xs, and the bytes t follow it: where xs are whole hints, a kind 0 that closes the list
pub record Closed (p xs t : List ℕ) : Type 0 where
  pub front : List ℕ
  pub close : List ℕ
  pub joined : p ≡ front ++ (close ++ t)
  pub spells : Spells front xs
  pub kind : values_of close ≡ next 0 [] ended

-- a value 0 follows the values xs, and every byte after it is zero
pub record ClosedByKind (p xs : List ℕ) : Type 0 where
  pub after : List ℕ
  pub closed : Closed p xs after
  pub zeros : all_zero after ≡ true

-- kind 0 follows whole hints, and some byte after it is not zero
pub record HasTrailing (p : List ℕ) : Type 0 where
  pub row : List ℕ
  pub after : List ℕ
  pub whole : is_whole row ≡ true
  pub fits : All (λ v. v < 2 ^ 64) row
  pub closed : Closed p row after
  pub trailing : all_zero after ≡ false

-- bytes that cannot go on where e comes next: no bytes, within a hint; the start of a value; or a value of 2^64 or more
pub data Stops (e : Expected) : List ℕ → Type 0 where
  in-hint : is_kind e ≡ false → Stops e []
  in-value : (b : List ℕ) → values_of b ≡ cut → Stops e b
  too_large : (b : List ℕ) (v : ℕ) (after : List ℕ) (rest : Values) → values_of b ≡ next v after rest → 2 ^ 64 ≤ v → Stops e b

-- such bytes follow values that no kind 0 closes
pub record IsBroken (p : List ℕ) : Type 0 where
  pub row : List ℕ
  pub front : List ℕ
  pub back : List ℕ
  pub joined : p ≡ front ++ back
  pub spells : Spells front row
  pub fits : All (λ v. v < 2 ^ 64) row
  pub unclosed : expected_in Kind row ≡ Zeros → ⊥
  pub stops : Stops (expected_in Kind row) back
