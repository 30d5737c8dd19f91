-- The records of a list of bytes by their numbers, and of two lists one after the other.
use mathlib.Core.Path.{◌≡◌, refl, sym, ap, ap₂, ◌∙◌}
use mathlib.Core.Bool.{Bool, true, false}
use mathlib.Core.List.{List, ◌∷◌, ◌++◌}
use Prim.Native.Nat.{ℕ, zero, suc, ◌+◌, ◌-◌, ◌*◌, ◌/◌, ◌%◌, ◌<◌, ◌≤◌}
use native.Mathlib.Omega.{arith}
use borrow.Author.Tests.{ne_eqb, eqb-true, eqb-false}
use lib.Dec.{eqb}
use lib.ListN.{length, length-append, get_or-append}
use lib.Seq.{get_or-append-add}
use Rattle.util.specs.Choice.{choose}
use Rattle.util.proofs.Bytes.{le-append-left, le-append-right}
use Rattle.macho.specs.MachRel.{mach_rel_at}
use Rattle.macho.specs.declared.mach_rel.MachRel.{MachRel}
use Rattle.arch.specs.Table.{records_from, records_of, record_at, subtracted_at, ends_in}

record-from : (s : List ℕ) (n at i : ℕ) → i < n → record_at (records_from s n at) i ≡ mach_rel_at s (at + 8 * i)
unfolding records_from
record-from s zero at i h = absurd (omega arith)
record-from s (suc n) at zero h = ap (mach_rel_at s) (omega arith)
record-from s (suc n) at (suc i) h = record-from s n (at + 8) i (omega arith) ∙ ap (mach_rel_at s) (omega arith)

-- record i stands at 8 * i
pub record_is : (s : List ℕ) (i : ℕ) → i < length s / 8 → record_at (records_of s) i ≡ mach_rel_at s (8 * i)
unfolding records_of
record_is s i h = record-from s (length s / 8) 0 i h ∙ ap (mach_rel_at s) (omega arith)

length_from : (s : List ℕ) (n at : ℕ) → length (records_from s n at) ≡ n
unfolding records_from
length_from s zero at = refl
length_from s (suc n) at = ap suc (length_from s n (at + 8))

-- a record has 8 bytes
pub length-records : (s : List ℕ) → length (records_of s) ≡ length s / 8
unfolding records_of
length-records s = length_from s (length s / 8) 0

from-add : (s : List ℕ) (n m at : ℕ) → records_from s (n + m) at ≡ records_from s n at ++ records_from s m (at + 8 * n)
unfolding records_from
from-add s zero m at = ap₂ (records_from s) {x = 0 + m} {y = m} {u = at} {v = at + 8 * 0} (omega arith) (omega arith)
from-add s (suc n) m at =
    ap (λ (k : ℕ). records_from s k at) {x = suc n + m} {y = suc (n + m)} (omega arith)
    ∙ ap (λ (rs : List MachRel). mach_rel_at s at ∷ rs)
    (from-add s n m (at + 8) ∙ ap (λ (k : ℕ). records_from s n (at + 8) ++ records_from s m k) (omega arith))

from-left : (a b : List ℕ) (n at : ℕ) → at + 8 * n ≤ length a → records_from (a ++ b) n at ≡ records_from a n at
unfolding records_from mach_rel_at
from-left a b zero at h = refl
from-left a b (suc n) at h =
    ap₂ (λ (r : MachRel) (rs : List MachRel). r ∷ rs)
    (rw (le-append-left 4 a b at (omega arith), le-append-left 4 a b (at + 4) (omega arith)))
    (from-left a b n (at + 8) (omega arith))

from-right : (a b : List ℕ) (n at k : ℕ) → length a + at ≡ k → records_from (a ++ b) n k ≡ records_from b n at
unfolding records_from mach_rel_at
from-right a b zero at k e = refl
from-right a b (suc n) at k e =
    ap₂ (λ (r : MachRel) (rs : List MachRel). r ∷ rs)
    (rw (le-append-right 4 a b at k e, le-append-right 4 a b (at + 4) (k + 4) (omega arith)))
    (from-right a b n (at + 8) (k + 8) (omega arith))

-- the records of two tables one after the other, of which the first has whole records
pub records-append : (a b : List ℕ) → length a % 8 ≡ 0 → records_of (a ++ b) ≡ records_of a ++ records_of b
unfolding records_of
records-append a b h =
    let n : length (a ++ b) / 8 ≡ length a / 8 + length b / 8 = simp length-append (omega arith) in
    ap (λ (k : ℕ). records_from (a ++ b) k 0) n
    ∙ from-add (a ++ b) (length a / 8) (length b / 8) 0
    ∙ ap₂ (λ (xs ys : List MachRel). xs ++ ys)
    (from-left a b (length a / 8) 0 (omega arith))
    (from-right a b (length b / 8) 0 (0 + 8 * (length a / 8)) (omega arith))

-- ---- two lists of records, one after the other

-- their records
pub left_at : (xs ys : List MachRel) (i : ℕ) → i < length xs → record_at (xs ++ ys) i ≡ record_at xs i
left_at xs ys i h = get_or-append xs ys _ i h

pub right-at : (xs ys : List MachRel) (j k : ℕ) → k ≡ length xs + j → record_at (xs ++ ys) k ≡ record_at ys j
right-at xs ys j k e = ap (record_at (xs ++ ys)) e ∙ get_or-append-add xs ys j _

-- which of them are subtracted
pub left-subtracted : (subtractor : ℕ) (before : Bool) (xs ys : List MachRel) (i : ℕ) → i ≤ length xs
    → subtracted_at subtractor before (xs ++ ys) i ≡ subtracted_at subtractor before xs i
unfolding subtracted_at choose
left-subtracted subtractor before xs ys i h = go (eqb i 0) refl
  where
    go : (t : Bool) → eqb i 0 ≡ t → subtracted_at subtractor before (xs ++ ys) i ≡ subtracted_at subtractor before xs i
    go true e = rw e
    go false e =
        let n = eqb-false i 0 e in
        rw (e, left_at xs ys (i - 1) (omega arith))

pub right-subtracted : (subtractor : ℕ) (before : Bool) (xs ys : List MachRel) (j : ℕ)
    → subtracted_at subtractor before (xs ++ ys) (length xs + j) ≡ subtracted_at subtractor (ends_in subtractor before xs) ys j
right-subtracted subtractor before xs ys j = go (eqb j 0) refl
  where
    go : (t : Bool) → eqb j 0 ≡ t
        → subtracted_at subtractor before (xs ++ ys) (length xs + j) ≡ subtracted_at subtractor (ends_in subtractor before xs) ys j
    go true e =
        let z = eqb-true j 0 e in
        ap (subtracted_at subtractor before (xs ++ ys)) {x = length xs + j} {y = length xs} (omega arith)
        ∙ left-subtracted subtractor before xs ys (length xs) (omega arith)
        ∙ sym (unfold subtracted_at choose in rw e)
    go false e =
        let n = eqb-false j 0 e in
        unfold subtracted_at choose in
        rw (e, ne_eqb (length xs + j) 0 (λ q. omega arith), right-at xs ys (j - 1) (length xs + j - 1) (omega arith))
