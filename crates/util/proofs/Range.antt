-- A range of signed numbers is tested by one addition that wraps.
use Rattle.std.proofs.Common.{◌≡◌, ℕ, zero, suc, ◌+◌, ◌-◌, ◌%◌, ◌^◌, ◌<◌, ◌≤◌, Bool, true, false, ◌&&◌, ltb, leb, refl, arith, ltb-false, ltb-true, le-ltb, lt-ltb, leb-false, leb-true}
use Rattle.util.specs.Choice.{choose}
use Rattle.util.specs.Wrap.{in_range}

-- two tests agree
pub agree : (a b c d : ℕ) → (c < d → a < b) → (d ≤ c → b ≤ a) → (t : Bool) → ltb c d ≡ t → ltb a b ≡ t
agree a b c d f g true e = lt-ltb a b (f (ltb-true c d e))
agree a b c d f g false e = le-ltb a b (g (ltb-false c d e))

agree-le : (a b c d : ℕ) → (c ≤ d → a < b) → (d < c → b ≤ a) → (t : Bool) → leb c d ≡ t → ltb a b ≡ (t && true)
agree-le a b c d f g true e = lt-ltb a b (f (leb-true c d e))
agree-le a b c d f g false e = le-ltb a b (g (leb-false c d e))

-- -a ≤ d < b is one test of d + a, modulo 2^64
pub range : (d a b : ℕ) → d < 2 ^ 64 → suc a ≤ 2 ^ 63 → b ≤ 2 ^ 63 → ltb ((d + suc a) % 2 ^ 64) (suc a + b) ≡ in_range d (suc a) b
unfolding in_range choose
range d a b hd ha hb = go (ltb d (2 ^ 63)) refl
  where
    go : (t : Bool) → ltb d (2 ^ 63) ≡ t → ltb ((d + suc a) % 2 ^ 64) (suc a + b) ≡ in_range d (suc a) b
    go true e =
        let l = ltb-true d (2 ^ 63) e in
        rw e (agree ((d + suc a) % 2 ^ 64) (suc a + b) d b (λ h. omega arith) (λ h. omega arith) _ refl)
    go false e =
        let l = ltb-false d (2 ^ 63) e in
        rw e (agree-le ((d + suc a) % 2 ^ 64) (suc a + b) (2 ^ 64 - 1 - d) a (λ h. omega arith) (λ h. omega arith) _ refl)

-- the same for an a that is not written as a successor
pub range-pos : (d a b : ℕ) → 0 < a → d < 2 ^ 64 → a ≤ 2 ^ 63 → b ≤ 2 ^ 63 → ltb ((d + a) % 2 ^ 64) (a + b) ≡ in_range d a b
range-pos d (suc a) b h hd ha hb = range d a b hd ha hb
range-pos d zero b h hd ha hb = absurd (omega arith)
