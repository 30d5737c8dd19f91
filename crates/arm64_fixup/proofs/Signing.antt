-- Bits of the four bytes of an entry that nobody looks at: another byte with the same low bits leaves what is used.
use mathlib.Core.Path.{◌≡◌, refl, sym, ◌∙◌}
use mathlib.Core.List.{List, [], ◌∷◌}
use mathlib.Core.Logic.{◌⊎◌, inl, inr, ⊎_elim}
use Prim.Native.Nat.{ℕ, zero, suc, ◌+◌, ◌%◌}
use native.Mathlib.Omega.{arith}
use lib.ListN.{get_or, set}
use lib.Pow.{mod-mod-pow}
use Rattle.util.specs.Word.{le}
use Rattle.util.proofs.Word.{le-set}
use Rattle.macho.specs.Authenticated.{diversity_of, address_diversity_of, key_of, signing_used}
use Rattle.macho.proofs.Signing.{signing-split}

-- a byte in the place of one with the same remainder
low-set : (n : ℕ) (s : List ℕ) (p v : ℕ) → v % n ≡ get_or s p 0 % n → get_or (set s p v) p 0 % n ≡ get_or s p 0 % n
low-set n [] p v h = refl
low-set n (x ∷ xs) zero v h = h
low-set n (x ∷ xs) (suc p) v h = low-set n xs p v h

one : (s : List ℕ) (p : ℕ) → le 1 s p ≡ get_or s p 0 % 256
unfolding le
one s p = let here : p + 0 ≡ p = omega arith in rw here (omega arith)

low_bit : (s : List ℕ) (p v : ℕ) → v % 2 ≡ get_or s p 0 % 2 → le 1 (set s p v) p % 2 ≡ le 1 s p % 2
low_bit s p v h =
    rw (one (set s p v) p, one s p)
    (mod-mod-pow (get_or (set s p v) p 0) 7 1 ∙ low-set 2 s p v h ∙ sym (mod-mod-pow (get_or s p 0) 7 1))

low-two : (s : List ℕ) (p v : ℕ) → v % 4 ≡ get_or s p 0 % 4 → le 1 (set s p v) p % 4 ≡ le 1 s p % 4
low-two s p v h =
    rw (one (set s p v) p, one s p)
    (mod-mod-pow (get_or (set s p v) p 0) 6 2 ∙ low-set 4 s p v h ∙ sym (mod-mod-pow (get_or s p 0) 6 2))

-- a byte of address diversity with the same low bit, or of key with the same low two, leaves what is used
pub used-kept : (s : List ℕ) (at p v : ℕ) → ((p ≡ at + 2) × (v % 2 ≡ get_or s p 0 % 2)) ⊎ ((p ≡ at + 3) × (v % 4 ≡ get_or s p 0 % 4))
    → signing_used (le 4 (set s p v) at) ≡ signing_used (le 4 s at)
used-kept s at p v h = ⊎_elim address key h
  where
    new : (diversity_of (le 4 (set s p v) at) ≡ le 2 (set s p v) at)
        × (address_diversity_of (le 4 (set s p v) at) ≡ le 1 (set s p v) (at + 2))
        × (key_of (le 4 (set s p v) at) ≡ le 1 (set s p v) (at + 3))
    new = signing-split (set s p v) at

    old : (diversity_of (le 4 s at) ≡ le 2 s at) × (address_diversity_of (le 4 s at) ≡ le 1 s (at + 2)) × (key_of (le 4 s at) ≡ le 1 s (at + 3))
    old = signing-split s at

    together : le 2 (set s p v) at ≡ le 2 s at → le 1 (set s p v) (at + 2) % 2 ≡ le 1 s (at + 2) % 2
        → le 1 (set s p v) (at + 3) % 4 ≡ le 1 s (at + 3) % 4
        → signing_used (le 4 (set s p v) at) ≡ signing_used (le 4 s at)
    together d a k = rw (new.0, new.1, new.2, old.0, old.1, old.2, d, a, k)

    address : (p ≡ at + 2) × (v % 2 ≡ get_or s p 0 % 2) → signing_used (le 4 (set s p v) at) ≡ signing_used (le 4 s at)
    address w =
        together (le-set 2 s at p v (inr (omega (arith, w.0))))
        (rw (sym w.0) (low_bit s p v w.1))
        (rw (le-set 1 s (at + 3) p v (inl (omega (arith, w.0)))))

    key : (p ≡ at + 3) × (v % 4 ≡ get_or s p 0 % 4) → signing_used (le 4 (set s p v) at) ≡ signing_used (le 4 s at)
    key w =
        together (le-set 2 s at p v (inr (omega (arith, w.0))))
        (rw (le-set 1 s (at + 2) p v (inr (omega (arith, w.0)))))
        (rw (sym w.0) (low-two s p v w.1))
