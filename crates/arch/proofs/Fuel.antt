-- The number of steps that `read_from` is given does not matter where it is large enough: what is left has an equation that names no such number.
use Rattle.std.specs.Prelude.{Result, Ok, Err}
use mathlib.Core.Path.{◌≡◌, refl, sym, ap, ◌∙◌}
use mathlib.Core.List.{[]}
use mathlib.Core.Bool.{Bool, true, false}
use Prim.Native.Nat.{ℕ, zero, suc, ◌+◌, ◌-◌, ◌<◌, ◌≤◌}
use native.Mathlib.Omega.{arith}
use borrow.Author.Tests.{ltb-true}
use lib.Dec.{ltb}
use Rattle.macho.specs.declared.reloc.Reloc.{Reloc}
use Rattle.arch.specs.Walk.{Reading, entries, before, after, more, read_from, read_all, Onward}
use Rattle.macho.specs.declared.refusal.Refusal.{Refusal}
use Rattle.arch.proofs.Walk.{onward, done-any, turn_suc}

more_same : (b : Bool) (s : Result (Reloc × ℕ) Refusal) (r t : ℕ → Reading) → ((e : Reloc) (next : ℕ) → s ≡ Ok (e, next) → r next ≡ t next) → more b s r ≡ more b s t
more_same false s r t h = refl
more_same true (Err x) r t h = refl
more_same true (Ok (e, next)) r t h = ap (before e) (h e next refl)

module _ (step : ℕ → Result (Reloc × ℕ) Refusal) (n : ℕ) (on : Onward step) where
  -- two numbers of steps that are large enough
  pub same : (k l i : ℕ) → n ≤ i + k → n ≤ i + l → read_from step n k i ≡ read_from step n l i
  unfolding read_from
  same zero l i h g = sym (done-any step n l i (omega arith))
  same (suc k) zero i h g = done-any step n (suc k) i (omega arith)
  same (suc k) (suc l) i h g =
      more_same (ltb i n) (step i) (read_from step n k) (read_from step n l)
      (λ e next p. same k l next (omega (arith, onward step on i p refl)) (omega (arith, onward step on i p refl)))

  -- the records from i on
  unfoldable pub from : ℕ → Reading
  from i = read_from step n (n - i) i

  pub from_all : read_all step n ≡ from 0
  unfolding from read_all
  from_all = ap (λ (k : ℕ). read_from step n k 0) (omega arith)

  pub from_end : (i : ℕ) → n ≤ i → from i ≡ entries []
  unfolding from
  from_end i h = done-any step n _ i h

  pub from_step : (i : ℕ) → i < n → from i ≡ after (step i) from
  unfolding from
  from_step i h =
      let k : n - i ≡ suc (n - (i + 1)) = omega arith in
      rw k
      (turn_suc step n _ i h
      ∙ more_same true (step i) (read_from step n (n - (i + 1))) from
      (λ e next p. same _ _ next (omega (arith, onward step on i p refl)) (omega (arith, onward step on i p refl))))

-- steps that agree from record j on walk alike from there on
pub same_from : (s t : ℕ → Result (Reloc × ℕ) Refusal) (n j : ℕ) → Onward s → ((i : ℕ) → j ≤ i → i < n → s i ≡ t i) → (k i : ℕ) → j ≤ i → read_from s n k i ≡ read_from t n k i
unfolding read_from
same_from s t n j on agree zero i h = refl
same_from s t n j on agree (suc k) i h = at (ltb i n) refl (λ e next p. same_from s t n j on agree k next (omega (arith, onward s on i p refl)))
  where
    at : (b : Bool) → ltb i n ≡ b → ((e : Reloc) (next : ℕ) → s i ≡ Ok (e, next) → read_from s n k next ≡ read_from t n k next)
        → more (ltb i n) (s i) (read_from s n k) ≡ more (ltb i n) (t i) (read_from t n k)
    at true e f =
        more_same (ltb i n) (s i) (read_from s n k) (read_from t n k) f
        ∙ ap (λ (x : Result (Reloc × ℕ) Refusal). more (ltb i n) x (read_from t n k)) (agree i h (ltb-true i n e))
    at false e f = rw e
