-- What a call leaves in a number that it is lent (RULES 3.2: a refusal changes nothing lent).
use Rattle.std.specs.Prelude.{ℕ, eqb, Result}
use Rattle.util.specs.Choice.{choose}
use Rattle.macho.specs.Refusal.{left_in}
use Rattle.macho.specs.declared.refusal.Refusal.{Refusal}

-- the new value where the call returns 0, else the old one
unfoldable pub lent_number : ℕ → ℕ → ℕ → ℕ
lent_number number new old = choose (eqb number 0) new old

-- a lent count: how much an answer filled, slots or bytes, else the old one
unfoldable pub lent_count : Result ℕ Refusal → ℕ → ℕ
lent_count a old = left_in a old
