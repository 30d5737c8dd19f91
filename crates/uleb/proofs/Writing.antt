-- The shortest spelling, byte by byte: a value that n bytes can spell is below 2^(7 n).
use mathlib.Core.Path.{◌≡◌, sym, ap, subst}
use mathlib.Core.List.{List, ◌∷◌}
use Prim.Native.Nat.{ℕ, zero, suc, ◌+◌, ◌*◌, ◌/◌, ◌%◌, ◌^◌, ◌≤◌, ◌<◌}
use native.Mathlib.Omega.{arith}
use native.Mathlib.Numerals.{add-one}
use borrow.Author.Tests.{le-ltb}
use lib.ListN.{length, set}
use lib.Seq.{sets}
use Rattle.util.specs.Choice.{choose}
use Rattle.uleb.specs.Shortest.{uleb_within}
use Rattle.uleb.proofs.Spelled.{left_lt}

-- a value from 128 on is a byte, and then what is left
within_more : (n v : ℕ) → 128 ≤ v → uleb_within (suc n) v ≡ (v % 128 + 128) ∷ uleb_within n (v / 128)
unfolding uleb_within choose
within_more n v h = rw (le-ltb v 128 h)

-- one byte of a value that m + 1 bytes can spell, stored at i: what is left is spelt by m from i + 1 on
pub record OneByte (l : List ℕ) (i n m v : ℕ) : Type 0 where
  pub room : 1 ≤ m
  pub left : v / 128 < 2 ^ (7 * m)
  pub size : length (uleb_within n v) ≡ suc (length (uleb_within m (v / 128)))
  pub stored : sets (set l i (v % 128 + 128)) (i + 1) (uleb_within m (v / 128)) ≡ sets l i (uleb_within n v)

pub one_byte : (l : List ℕ) (i n m v : ℕ) → n ≡ suc m → 128 ≤ v → v < 2 ^ (7 * n) → OneByte l i n m v
one_byte l i n zero v e h w =
    let u : v < 2 ^ 7 = subst (λ (k : ℕ). v < 2 ^ (7 * k)) e w in
    absurd (omega arith)
one_byte l i n (suc m) v e h w =
    rw e
    (record {
      room = omega arith;
      left = left_lt m v (subst (λ (k : ℕ). v < 2 ^ (7 * k)) e w);
      size = ap length (within_more (suc m) v h);
      stored = rw (add-one i) (ap (sets l i) (sym (within_more (suc m) v h)));
    })
