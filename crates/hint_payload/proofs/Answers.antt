-- The answers of the reader and the writer, each refusal where no earlier one holds.
use Rattle.std.specs.Prelude.{Result, Ok, Err, ⊤}
use mathlib.Core.Path.{◌≡◌, refl, sym, ap, ◌∙◌}
use mathlib.Core.Bool.{true, false}
use mathlib.Core.List.{List}
use Prim.Native.Nat.{ℕ, ◌*◌, ◌≤◌, ◌<◌}
use native.Mathlib.Omega.{arith}
use borrow.Author.Tests.{lt-ltb, le-ltb}
use lib.Dec.{ltb}
use lib.ListN.{length}
use Rattle.util.specs.Choice.{choose}
use Rattle.util.proofs.Choice.{split, choose-true, choose-false}
use Rattle.macho.specs.Record.{most_records}
use Rattle.macho.specs.Refusal.{out_by}
use Rattle.macho.specs.declared.refusal.Refusal.{Refusal}
use Rattle.macho.specs.declared.refusal.Refusal.TheVariants.{Lengths, Slots}
use Rattle.uleb.specs.Values.{values_of}
use Rattle.uleb.specs.Shortest.{ulebs_of}
use Rattle.hint_payload.specs.Row.{is_whole}
use Rattle.hint_payload.specs.Payload.{Payload, holds, fails, payload_of, first_values}
use Rattle.hint_payload.specs.Answer.{row_in, count_in, read_to, row_to, row_check, written_by, write_to, bytes_to}
use Rattle.hint_payload.specs.declared.expected.Expected.TheVariants.{Kind}
use Rattle.hint_payload.proofs.First.{first-values}
use Rattle.hint_payload.proofs.Back.{holds-most}

-- ---- the reader

pub read-long : (p : List ℕ) (n : ℕ) → most_records < length p → read_to p n ≡ Err Lengths
unfolding read_to
read-long p n h = choose-true (ltb most_records (length p)) (Err Lengths) _ (lt-ltb most_records (length p) h)

-- no more than 2^32 - 1 bytes
short-enough : (p : List ℕ) (n : ℕ) → length p ≤ most_records → read_to p n ≡ choose (ltb n (length p)) (Err Slots) (count_in (payload_of p))
unfolding read_to
short-enough p n h = choose-false (ltb most_records (length p)) (Err Lengths) _ (le-ltb most_records (length p) h)

pub read-narrow : (p : List ℕ) (n : ℕ) → length p ≤ most_records → n < length p → read_to p n ≡ Err Slots
read-narrow p n h l = short-enough p n h ∙ choose-true (ltb n (length p)) (Err Slots) (count_in (payload_of p)) (lt-ltb n (length p) l)

pub read-else : (p : List ℕ) (n : ℕ) → length p ≤ most_records → length p ≤ n → read_to p n ≡ count_in (payload_of p)
read-else p n h l = short-enough p n h ∙ choose-false (ltb n (length p)) (Err Slots) (count_in (payload_of p)) (le-ltb n (length p) l)

-- a count is that of a row, no more than the payload's bytes
row_of : (n : ℕ) (q : Payload) → Ok n ≡ count_in q → (q ≡ holds (row_in q)) × (n ≡ length (row_in q))
row_of n (holds row) e = (refl, cc)
row_of n (fails x) e = let z : ◌≡◌ {A = ℕ} 0 1 = cc in absurd (omega arith)

pub read-room : (p : List ℕ) (n : ℕ) → Ok n ≡ count_in (payload_of p) → n ≤ length p
read-room p n e =
    let r = row_of n (payload_of p) e in
    omega (arith, r.1, holds-most p (row_in (payload_of p)) r.0)

-- so many first values are the row
pub read-row : (p : List ℕ) (n : ℕ) → Ok n ≡ count_in (payload_of p) → first_values n (values_of p) ≡ row_in (payload_of p)
unfolding payload_of
read-row p n e =
    let r = row_of n (payload_of p) e in
    ap (λ (j : ℕ). first_values j (values_of p)) r.1 ∙ first-values Kind (values_of p) (row_in (payload_of p)) r.0

-- an answer, with the slots that it leaves
pub reads : (p slots : List ℕ) (a : Result ℕ Refusal) → read_to p (length slots) ≡ a
    → (a ≡ read_to p (length slots)) × (out_by a (row_in (payload_of p)) slots ≡ row_to p slots)
reads p slots a e = (sym e, sym (ap (λ (b : Result ℕ Refusal). out_by b (row_in (payload_of p)) slots) e))

-- ---- the writer

by-check : (row : List ℕ) (n : ℕ) (c : Result ⊤ Refusal) → row_check row ≡ c → write_to row n ≡ written_by c row n
unfolding write_to
by-check row n c e = ap (λ (k : Result ⊤ Refusal). written_by k row n) e

pub write-long : (row : List ℕ) (n : ℕ) → most_records < length row → write_to row n ≡ Err Lengths
unfolding row_check
write-long row n h = by-check row n (Err Lengths) (choose-true (ltb most_records (length row)) (Err Lengths) _ (lt-ltb most_records (length row) h))

pub write-broken : (row : List ℕ) (n : ℕ) → is_whole row ≡ false → write_to row n ≡ Err Lengths
unfolding row_check
write-broken row n h =
    by-check row n (Err Lengths)
    (split (λ (c : Result ⊤ Refusal). c ≡ Err Lengths) (ltb most_records (length row)) (Err Lengths) _ (λ _. refl)
    (λ _. choose-false (is_whole row) (Ok tt) (Err Lengths) h))

pub write-refused : (row : List ℕ) (n : ℕ) (x : Refusal) → row_check row ≡ Err x → write_to row n ≡ Err x
write-refused row n x e = by-check row n (Err x) e

row-fit : (row : List ℕ) → is_whole row ≡ true → length row ≤ most_records → row_check row ≡ Ok tt
unfolding row_check
row-fit row w h =
    choose-false (ltb most_records (length row)) (Err Lengths) _ (le-ltb most_records (length row) h)
    ∙ choose-true (is_whole row) (Ok tt) (Err Lengths) w

-- a row that passes
pub fit-narrow : (row : List ℕ) (n : ℕ) → row_check row ≡ Ok tt → n < 10 * length row → write_to row n ≡ Err Slots
fit-narrow row n f l =
    by-check row n (Ok tt) f ∙ choose-true (ltb n (10 * length row)) (Err Slots) (Ok (length (ulebs_of row))) (lt-ltb n (10 * length row) l)

pub fit-else : (row : List ℕ) (n : ℕ) → row_check row ≡ Ok tt → 10 * length row ≤ n → write_to row n ≡ Ok (length (ulebs_of row))
fit-else row n f l =
    by-check row n (Ok tt) f ∙ choose-false (ltb n (10 * length row)) (Err Slots) (Ok (length (ulebs_of row))) (le-ltb n (10 * length row) l)

pub write-narrow : (row : List ℕ) (n : ℕ) → is_whole row ≡ true → length row ≤ most_records → n < 10 * length row → write_to row n ≡ Err Slots
write-narrow row n w h l = fit-narrow row n (row-fit row w h) l

pub write-else : (row : List ℕ) (n : ℕ) → is_whole row ≡ true → length row ≤ most_records → 10 * length row ≤ n → write_to row n ≡ Ok (length (ulebs_of row))
write-else row n w h l = fit-else row n (row-fit row w h) l

-- an answer, with the bytes that it leaves
pub writes : (row out : List ℕ) (a : Result ℕ Refusal) → write_to row (length out) ≡ a → (a ≡ write_to row (length out)) × (out_by a (ulebs_of row) out ≡ bytes_to row out)
writes row out a e = (sym e, sym (ap (λ (b : Result ℕ Refusal). out_by b (ulebs_of row) out) e))
