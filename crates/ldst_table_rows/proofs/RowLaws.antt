-- The 32 rows: the row of an index, and the rows that no arm of `row_of` names.
use mathlib.Core.Path.{◌≡◌, refl, sym, ap, ◌∙◌}
use mathlib.Core.Bool.{Bool, true, false, not, ◌||◌, false≢true}
use mathlib.Core.List.{List, [], ◌∷◌}
use Prim.Native.Nat.{ℕ, ◌+◌, ◌*◌, ◌<◌}
use native.Mathlib.Omega.{arith}
use borrow.Author.Tests.{ne_eqb}
use lib.Dec.{eqb}
use lib.ListN.{get_or}
use Rattle.util.specs.Choice.{choose}
use Rattle.util.proofs.Below.{every, every-at}
use Rattle.arm64_insn.specs.LoadStoreTable as T
use Rattle.ldst_table_rows.specs.Rows.{row_from}
use Rattle.ldst_table_rows.specs.declared.rows.Row.TheVariants.{Unallocated}

-- the row at a place of the table
abbrev row_at_place : ℕ → T.Row
row_at_place n = get_or T.unsigned_immediate n T.unallocated

-- a place that size, V and opc name
pub row_at : (size v opc n : ℕ) → size * 8 + v * 4 + opc ≡ n → row_from (row_at_place n) ≡ row_from (T.row_of size v opc)
unfolding T.row_of
row_at size v opc n e = ap (λ (k : ℕ). row_from (row_at_place k)) (sym e)

-- a number that is none of a list, the last first
abbrev pub Missed : ℕ → List ℕ → Type 0
Missed n [] = Unit {0}
Missed n (k ∷ ks) = Missed n ks × (n ≡ k → ⊥)

among : ℕ → List ℕ → Bool
among n [] = false
among n (k ∷ ks) = eqb n k || among n ks

not-among : (n : ℕ) (ks : List ℕ) → Missed n ks → among n ks ≡ false
unfolding among
not-among n [] m = refl
not-among n (k ∷ ks) m = rw (ne_eqb n k m.1) (not-among n ks m.0)

-- the places of the allocated rows, the last first
abbrev pub allocated_places : List ℕ
allocated_places =
    29 ∷ 28 ∷ 26 ∷ 25 ∷ 24 ∷ 21 ∷ 20 ∷ 18 ∷ 17 ∷ 16 ∷ 13 ∷ 12 ∷ 11 ∷ 10 ∷ 9 ∷ 8 ∷ 7 ∷ 6 ∷ 5 ∷ 4 ∷ 3 ∷ 2 ∷ 1 ∷ 0 ∷ []

no_row : (r : T.Row) → (false || not (T.is_allocated r)) ≡ true → row_from r ≡ Unallocated
no_row (T.load m g n w) e = absurd (false≢true e)
no_row (T.store m g n) e = absurd (false≢true e)
no_row (T.prefetch m) e = absurd (false≢true e)
no_row T.unallocated e = refl

pub row_other : (size v opc : ℕ) → (size < 4) × (v < 2) × (opc < 4) → Missed (size * 8 + v * 4 + opc) allocated_places
    → Unallocated ≡ row_from (T.row_of size v opc)
unfolding among every choose
row_other size v opc h m =
    let n = size * 8 + v * 4 + opc in
    sym (no_row (row_at_place n)
    (ap (λ (t : Bool). t || not (T.is_allocated (row_at_place n))) (sym (not-among n allocated_places m))
    ∙ every-at (λ k. among k allocated_places || not (T.is_allocated (row_at_place k))) 32 refl n (omega arith)))
    ∙ row_at size v opc n refl
