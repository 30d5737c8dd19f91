-- The packed fields of a relocation record: Apple's bit fields, taken apart and put together. All by arithmetic.
use mathlib.Core.Path.{◌≡◌}
use Prim.Native.Nat.{ℕ, ◌+◌, ◌*◌, ◌/◌, ◌%◌, ◌^◌, ◌<◌}
use native.Mathlib.Nat.{div-one}
use native.Mathlib.Omega.{arith}
use lib.Pow.{shr-shr, mod-pow-add}
use Rattle.macho.specs.MachRel.{idx_of, pcrel_of, p2size_of, extern_of, type_of, form_of, bits_of}

-- the fields of packed fields are the fields
pub packed : (i p l e t : ℕ) → i < 2 ^ 24 → p < 2 → l < 4 → e < 2 → t < 16
    → (idx_of (bits_of i p l e t) ≡ i) × (pcrel_of (bits_of i p l e t) ≡ p) × (p2size_of (bits_of i p l e t) ≡ l)
    × (extern_of (bits_of i p l e t) ≡ e) × (type_of (bits_of i p l e t) ≡ t)
packed i p l e t hi hp hl he ht = (rw (div-one (bits_of i p l e t)) (omega arith), omega arith, omega arith, omega arith, omega arith)

-- the form is its three fields
pub form-fields : (bits : ℕ) → form_of bits ≡ pcrel_of bits + 2 * p2size_of bits + 8 * extern_of bits
form-fields bits = rw (← shr-shr bits 24 1, ← shr-shr bits 24 3) (nibble (bits / 2 ^ 24))
  where
    nibble : (y : ℕ) → y % 2 ^ 4 ≡ y % 2 ^ 1 + 2 * (y / 2 ^ 1 % 2 ^ 2) + 8 * (y / 2 ^ 3 % 2 ^ 1)
    nibble y = rw (mod-pow-add y 1 3, mod-pow-add y 2 1) (omega arith)

-- the packed fields of 32 bits are the bits
pub unpacked : (bits : ℕ) → bits < 2 ^ 32 → bits_of (idx_of bits) (pcrel_of bits) (p2size_of bits) (extern_of bits) (type_of bits) ≡ bits
unpacked bits h =
    let f = form-fields bits in
    let b : bits / 2 ^ 24 ≡ form_of bits + 2 ^ 4 * type_of bits = rw (← shr-shr bits 24 4) (omega arith) in
    rw (div-one bits) (omega arith)
