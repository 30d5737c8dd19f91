-- A lent number after a call: a refusal's number is none of them 0, so the old value stays; 0 takes the new one.
use Rattle.std.specs.Prelude.{Result, Ok, Err}
use Prim.Native.Nat.{ℕ}
use mathlib.Core.Path.{◌≡◌, refl, ap, ◌∙◌}
use native.Mathlib.Omega.{arith}
use borrow.Author.Tests.{ne_eqb}
use Rattle.util.specs.Choice.{choose}
use Rattle.macho.specs.Refusal.{number_of, left_in}
use Rattle.macho.specs.declared.refusal.Refusal.{Refusal}
use Rattle.macho.proofs.Numbered.{numbered}
use Rattle.hauklivo.specs.Lent.{lent_number, lent_count}

-- a call that returns a refusal's number leaves the old value
pub lent-kept : (x : Refusal) (new old : ℕ) → old ≡ lent_number (number_of x) new old
unfolding lent_number choose
lent-kept x new old = rw (ne_eqb (number_of x) 0 (λ e. omega (arith, (numbered x).0)))

-- a call that returns 0 leaves the new one
pub lent-new : (new old : ℕ) → new ≡ lent_number 0 new old
unfolding lent_number choose
lent-new new old = refl

-- a refusal leaves the old count
pub count_kept : (x : Refusal) (a : Result ℕ Refusal) (old : ℕ) → Err x ≡ a → old ≡ lent_count a old
unfolding lent_count
count_kept x a old e = ap (λ (b : Result ℕ Refusal). left_in b old) e

-- equal answers leave equal counts
pub count_same : {a b : Result ℕ Refusal} (old : ℕ) → a ≡ b → left_in a old ≡ lent_count b old
unfolding lent_count
count_same old e = ap (λ (a : Result ℕ Refusal). left_in a old) e
