-- What a payload holds, and what is written of it: a row is read back from its shortest spellings, which are no longer than the payload.
use mathlib.Core.Path.{◌≡◌, refl, sym, ap}
use mathlib.Core.Bool.{true}
use mathlib.Core.Logic.{⊎_elim}
use mathlib.Core.List.{List, ◌++◌}
use Prim.Native.Nat.{ℕ, ◌^◌, ◌≤◌, ◌<◌}
use native.Mathlib.Omega.{arith}
use lib.ListN.{length, length-append}
use Rattle.util.specs.All.{All, empty, more}
use Rattle.uleb.specs.Values.{Values, values_of}
use Rattle.uleb.specs.Shortest.{ulebs_of, are_short}
use Rattle.uleb.specs.Spelling.{Spells}
use Rattle.uleb.proofs.Spelled.{after-shorter, rest-is}
use Rattle.uleb.proofs.Short.{written-spell, written-shortest, shorts-are}
use Rattle.hint_payload.specs.Row.{expected_in, is_kind, is_whole}
use Rattle.hint_payload.specs.Payload.{holds, payload_from, payload_of}
use Rattle.hint_payload.specs.Exact.{ClosedByKind}
use Rattle.hint_payload.specs.declared.expected.Expected.{Expected}
use Rattle.hint_payload.specs.declared.expected.Expected.TheVariants.{Kind, Zeros}
use Rattle.hint_payload.proofs.Walk.{held, not_zeros}
use Rattle.hint_payload.proofs.Whole.{close-is}
use Rattle.hint_payload.proofs.Exact.{ends, only-holds}

-- ---- what a payload holds

-- whole hints
held_whole : (e : Expected) (ns : Values) (xs : List ℕ) → payload_from e ns ≡ holds xs → (e ≡ Zeros → ⊥) → is_kind (expected_in e xs) ≡ true
unfolding expected_in
held_whole =
    held (λ e ns xs. (e ≡ Zeros → ⊥) → is_kind (expected_in e xs) ≡ true) (λ o. refl)
    (λ e v after rest l z a o. ap is_kind (close-is e v o z).0)
    (λ e v after rest xs l z r o. r z)

pub holds-whole : (p xs : List ℕ) → payload_of p ≡ holds xs → is_whole xs ≡ true
unfolding payload_of
holds-whole p xs h = held_whole Kind (values_of p) xs h (not_zeros Kind refl)

-- values of 64 bits
pub holds_fits : (p xs : List ℕ) → payload_of p ≡ holds xs → All (λ v. v < 2 ^ 64) xs
unfolding payload_of
holds_fits p xs =
    held (λ e ns ys. All (λ v. v < 2 ^ 64) ys) empty (λ e v after rest l z a. empty) (λ e v after rest ys l z r. more l r) Kind (values_of p) xs

-- no more of them than bytes
held-most : (e : Expected) (ns : Values) (xs : List ℕ) → payload_from e ns ≡ holds xs → (p : List ℕ) → values_of p ≡ ns → length xs ≤ length p
held-most =
    held (λ e ns xs. (p : List ℕ) → values_of p ≡ ns → length xs ≤ length p) (λ p n. omega arith) (λ e v after rest l z a p n. omega arith)
    (λ e v after rest xs l z r p n. omega (arith, r after (sym (rest-is p v after rest n)), after-shorter p v after rest n))

pub holds-most : (p xs : List ℕ) → payload_of p ≡ holds xs → length xs ≤ length p
unfolding payload_of
holds-most p xs h = held-most Kind (values_of p) xs h p refl

-- ---- what is written of a row

-- a row of whole hints is read back
pub row_back : (xs : List ℕ) → is_whole xs ≡ true → All (λ v. v < 2 ^ 64) xs → payload_of (ulebs_of xs) ≡ holds xs
row_back xs w l = ends (ulebs_of xs) xs (written-spell xs l) w l

-- so is what a payload holds
pub held_back : (p xs : List ℕ) → payload_of p ≡ holds xs → payload_of (ulebs_of xs) ≡ holds xs
held_back p xs h = row_back xs (holds-whole p xs h) (holds_fits p xs h)

-- from no more bytes than the payload has
pub never-longer : (p xs : List ℕ) → payload_of p ≡ holds xs → length (ulebs_of xs) ≤ length p
never-longer p xs h =
    ⊎_elim (λ (s : Spells p xs). written-shortest p xs s)
    (λ (c : ClosedByKind p xs).
    let whole : length p ≡ length (c.closed.front ++ (c.closed.close ++ c.after)) = ap length c.closed.joined in
    omega (
      arith,
      whole,
      length-append c.closed.front (c.closed.close ++ c.after),
      written-shortest c.closed.front xs c.closed.spells,
    ))
    (only-holds p xs h)

-- shortest spellings that no kind 0 closes are written as they were
pub same_bytes : (p xs : List ℕ) → Spells p xs → payload_of p ≡ holds xs → All (λ b. b < 256) p → are_short p ≡ true → ulebs_of xs ≡ p
same_bytes p xs s h b t = shorts-are p xs s (holds_fits p xs h) b t
