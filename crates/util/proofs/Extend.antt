-- A displacement in range comes back from its n low bits, since 2^n divides 2^64.
use Rattle.std.proofs.Common.{◌≡◌, ℕ, zero, suc, ◌+◌, ◌-◌, ◌*◌, ◌%◌, ◌^◌, ◌<◌, ◌≤◌, Bool, true, false, ltb, sym, refl, ap, ◌∙◌, mod-lt, mod-eq_of_lt, suc-mul, arith, pow_pos, pow_mono, pow-add, ltb-false, ltb-true, le-ltb}
use native.Mathlib.Nat.{mod-mod}
use lib.Arith.{digits_mod}
use lib.Pow.{suc_ones}
use Rattle.util.specs.Choice.{choose}
use Rattle.util.specs.Bits.{extend}
use Rattle.util.specs.Wrap.{sum, diff, in_range}
use Rattle.util.proofs.Choice.{chosen}
use Rattle.util.proofs.Range.{range-pos}

-- only the n low bits count
pub extend-low : (x n : ℕ) → extend (x % 2 ^ n) n ≡ extend x n
extend-low x n = rw (mod-mod x (2 ^ n))

-- it has 64 bits
pub extend-lt : (x n : ℕ) → n ≤ 64 → extend x n < 2 ^ 64
extend-lt x n h =
    let m : 2 ^ n ≤ 2 ^ 64 = pow_mono {j = 64} h in
    let l : x % 2 ^ n < 2 ^ n = mod-lt x (pow_pos n) in
    chosen (λ (v : ℕ). v < 2 ^ 64) (ltb (x % 2 ^ n) (2 ^ (n - 1))) _ _ (omega arith) (omega arith)

-- over k words of m, half of which is h
fits : (d m h k : ℕ) → 0 < h → m ≡ h + h → k * m + m ≡ 2 ^ 64 → d < 2 ^ 64 → (d + h) % 2 ^ 64 < h + h
    → choose (ltb (d % m) h) (d % m) (d % m + (2 ^ 64 - m)) ≡ d
unfolding choose
fits d m h k p e q l r = go (ltb d h) refl
  where
    go : (t : Bool) → ltb d h ≡ t → choose (ltb (d % m) h) (d % m) (d % m + (2 ^ 64 - m)) ≡ d
    go true u =
        let u' = ltb-true d h u in
        let s : d % m ≡ d = mod-eq_of_lt (omega arith) in
        rw (s, u)
    go false u =
        let u' = ltb-false d h u in
        let w : k * m + h ≤ d = omega arith in
        let a : d ≡ k * m + (d - k * m) = omega arith in
        let s : d % m ≡ d - k * m = ap (λ (y : ℕ). y % m) a ∙ digits_mod k (omega arith) in
        rw (s, le-ltb (d - k * m) h (omega arith)) (omega arith)

-- a displacement of -2^(n-1) to 2^(n-1) - 1 is what its n low bits hold as a signed number
pub extend_fits : (d n : ℕ) → 0 < n → n < 64 → d < 2 ^ 64 → in_range d (2 ^ (n - 1)) (2 ^ (n - 1)) ≡ true → extend d n ≡ d
extend_fits d zero p l b h = absurd (omega arith)
extend_fits d (suc k) p l b h =
    let e : suc k - 1 ≡ k = omega arith in
    let j : 64 - suc k + suc k ≡ 64 = omega arith in
    let c : 2 ^ (64 - suc k) * 2 ^ suc k ≡ 2 ^ 64 = sym (pow-add 2 (64 - suc k) (suc k)) ∙ ap (λ (i : ℕ). 2 ^ i) j in
    let f : (2 ^ (64 - suc k) - 1) * 2 ^ suc k + 2 ^ suc k ≡ 2 ^ 64 =
    sym (suc-mul (2 ^ (64 - suc k) - 1) (2 ^ suc k)) ∙ ap (λ (i : ℕ). i * 2 ^ suc k) (suc_ones (64 - suc k)) ∙ c in
    let g : 2 ^ k ≤ 2 ^ 63 = pow_mono {j = 63} (omega arith) in
    rw e
    (fits d (2 ^ suc k) (2 ^ k) (2 ^ (64 - suc k) - 1) (pow_pos k) (omega arith) f b
    (ltb-true _ _ (range-pos d (2 ^ k) (2 ^ k) (pow_pos k) b g g ∙ (rw e at h))))

-- a displacement in range leads from p to t
pub extend-reaches : (t p n : ℕ) → 0 < n → n < 64 → t < 2 ^ 64 → p < 2 ^ 64 → in_range (diff t p) (2 ^ (n - 1)) (2 ^ (n - 1)) ≡ true
    → sum p (extend (diff t p) n) ≡ t
extend-reaches t p n a b ht hp h = rw (extend_fits (diff t p) n a b (omega arith) h) (omega arith)
