-- The row that a payload holds, or why it holds none (RULES 14.5 to 14.8).
use Rattle.std.specs.Prelude.{ℕ, zero, suc, ◌^◌, Bool, true, false, List, [], ◌∷◌, eqb, ltb}
use Rattle.util.specs.Choice.{choose}
use Rattle.macho.specs.declared.refusal.Refusal.{Refusal}
use Rattle.macho.specs.declared.refusal.Refusal.TheVariants.{Malformed, Trailing}
use Rattle.uleb.specs.Values.{Values, ended, cut, next, values_of}
use Rattle.hint_payload.specs.Row.{expected_after}
use Rattle.hint_payload.specs.declared.expected.Expected.{Expected}
use Rattle.hint_payload.specs.declared.expected.Expected.TheVariants.{Kind, Count, Address, Zeros}

-- a payload's row, or its refusal
pub data Payload : Type 0 where
  holds : (row : List ℕ) → Payload
  fails : Refusal → Payload

-- whether every byte is zero
unfoldable pub all_zero : List ℕ → Bool
all_zero [] = true
all_zero (b ∷ bs) = choose (eqb b 0) (all_zero bs) false

-- after kind 0: the row ends, if every byte after it is zero
abbrev pub after_close : List ℕ → Payload
after_close after = choose (all_zero after) (holds []) (fails Trailing)

-- at the payload's end: the row ends, if a kind comes next (after kind 0 no value is looked for, so that Zeros does not come here)
abbrev pub ends_in : Expected → Payload
ends_in Kind = holds []
ends_in Count = fails Malformed
ends_in (Address n) = fails Malformed
ends_in Zeros = fails Malformed

-- a value onto what the rest holds
abbrev pub onto : ℕ → Payload → Payload
onto v (holds row) = holds (v ∷ row)
onto v (fails x) = fails x

-- after a value, by what comes next: the close, or the rest
abbrev pub goes_on : Expected → ℕ → List ℕ → Payload → Payload
goes_on Zeros v after rest = after_close after
goes_on Kind v after rest = onto v rest
goes_on Count v after rest = onto v rest
goes_on (Address n) v after rest = onto v rest

-- the row from a value on, by what comes next
unfoldable pub payload_from : Expected → Values → Payload
payload_from e ended = ends_in e
payload_from e cut = fails Malformed
payload_from e (next v after rest) =
    choose (ltb v (2 ^ 64)) (goes_on (expected_after e v) v after (payload_from (expected_after e v) rest)) (fails Malformed)

-- the row of a payload
unfoldable pub payload_of : List ℕ → Payload
payload_of bytes = payload_from Kind (values_of bytes)

-- the first n of some values, up to one that is no value below 2^64
unfoldable pub first_values : ℕ → Values → List ℕ
first_values zero ns = []
first_values (suc n) ended = []
first_values (suc n) cut = []
first_values (suc n) (next v after rest) = choose (ltb v (2 ^ 64)) (v ∷ first_values n rest) []
