-- The fields of an authenticated pointer's word, read and filled: all by arithmetic.
use mathlib.Core.Path.{◌≡◌, refl, ap, ◌∙◌}
use mathlib.Core.Bool.{Bool, true, false, ◌&&◌}
use mathlib.Core.List.{List, [], ◌∷◌}
use Prim.Native.Nat.{ℕ, ◌+◌, ◌*◌, ◌/◌, ◌%◌, ◌^◌, ◌<◌}
use native.Mathlib.Nat.{div-one, mod-mod}
use native.Mathlib.Omega.{arith}
use lib.Dec.{eqb}
use lib.Pow.{shr-shr}
use Rattle.util.specs.Bits.{field}
use Rattle.util.specs.Diagram.{matches, fill}
use Rattle.util.specs.Word.{le}
use Rattle.util.proofs.Diagram.{matches-fill, fill-free}
use Rattle.util.proofs.Word.{le-add, le-lt}
use Rattle.macho.specs.Authenticated.{authenticated, diversity_in, address_diversity_in, key_in, diversity_of, address_diversity_of, key_of}
use Rattle.macho.specs.Authenticated.{signing_by, signing_in, signing_used, authenticated_word}

-- the word that is filled with four values below their fields' ends
words : (x d a k : ℕ) → x < 2 ^ 32 → d < 2 ^ 16 → a < 2 → k < 2 ^ 2
    → let w = fill authenticated (x ∷ d ∷ a ∷ k ∷ []) in
    (matches authenticated w ≡ true) × (w < 2 ^ 64) × (field w 0 32 ≡ x) × (diversity_in w ≡ d) × (address_diversity_in w ≡ a) × (key_in w ≡ k)
    × (field w 51 12 ≡ 0) × (field w 63 1 ≡ 1)
words x d a k hx hd ha hk = (
  matches-fill authenticated (x ∷ d ∷ a ∷ k ∷ []) refl (hx, (hd, (ha, (hk, tt)))),
  omega arith,
  omega arith,
  omega arith,
  omega arith,
  omega arith,
  omega arith,
  omega arith,
)

-- the fields of a finished word: the distance, an entry's diversity, low bit of address diversity and low two bits of key, and those that are fixed
pub word_fields : (distance signing : ℕ) → distance < 2 ^ 32
    → let w = authenticated_word distance signing in
    (matches authenticated w ≡ true) × (w < 2 ^ 64) × (field w 0 32 ≡ distance) × (diversity_in w ≡ diversity_of signing)
    × (address_diversity_in w ≡ address_diversity_of signing % 2) × (key_in w ≡ key_of signing % 4) × (field w 51 12 ≡ 0) × (field w 63 1 ≡ 1)
unfolding authenticated_word
word_fields distance signing h =
    words distance (diversity_of signing) (address_diversity_of signing % 2) (key_of signing % 4) h (omega arith) (omega arith) (omega arith)

-- the fields of four bytes are what they were put together from
packed : (d a k : ℕ) → d < 2 ^ 16 → a < 2 ^ 8 → k < 2 ^ 8
    → (diversity_of (signing_by d a k) ≡ d) × (address_diversity_of (signing_by d a k) ≡ a) × (key_of (signing_by d a k) ≡ k)
packed d a k hd ha hk = (omega arith, omega arith, omega arith)

-- the four bytes of an entry give back what the stored word says
pub signing-fields : (word : ℕ)
    → (diversity_of (signing_in word) ≡ diversity_in word)
    × (address_diversity_of (signing_in word) ≡ address_diversity_in word)
    × (key_of (signing_in word) ≡ key_in word)
unfolding signing_in
signing-fields word = packed (diversity_in word) (address_diversity_in word) (key_in word) (omega arith) (omega arith) (omega arith)

-- a finished word takes of an entry's four bytes what is used of them
pub word-used : (distance signing : ℕ) → authenticated_word distance (signing_used signing) ≡ authenticated_word distance signing
unfolding authenticated_word
word-used distance signing =
    let u = packed (diversity_of signing) (address_diversity_of signing % 2) (key_of signing % 4) (omega arith) (omega arith) (omega arith) in
    rw (u.0, u.1, u.2, mod-mod (address_diversity_of signing) 2, mod-mod (key_of signing) 4)

-- a word of the diagram is the one that its own distance and its own four bytes make
pub word-again : (word : ℕ) → word < 2 ^ 64 → matches authenticated word ≡ true → authenticated_word (field word 0 32) (signing_in word) ≡ word
unfolding authenticated_word
word-again word h m =
    let e = signing-fields word in
    let a : address_diversity_of (signing_in word) % 2 ≡ address_diversity_in word = omega (arith, e.1) in
    let k : key_of (signing_in word) % 4 ≡ key_in word = omega (arith, e.2) in
    rw (e.0, a, k) (fill-free authenticated 0 word (rw (div-one word) m) (rw (div-one word) h) ∙ div-one word)

-- its upper half does not depend on the distance
upper : (x y signing : ℕ) → x < 2 ^ 32 → y < 2 ^ 32 → field (authenticated_word x signing) 32 32 ≡ field (authenticated_word y signing) 32 32
unfolding authenticated_word
upper x y signing hx hy = filled (diversity_of signing) (address_diversity_of signing % 2) (key_of signing % 4)
  where
    filled : (d a k : ℕ) → field (fill authenticated (x ∷ d ∷ a ∷ k ∷ [])) 32 32 ≡ field (fill authenticated (y ∷ d ∷ a ∷ k ∷ [])) 32 32
    filled d a k = omega arith

-- what a stored word says of signing stays: finished from its own four bytes, whatever the distance, it has the same bits 32 to 63
pub signing-kept : (word distance : ℕ) → word < 2 ^ 64 → matches authenticated word ≡ true → distance < 2 ^ 32
    → field (authenticated_word distance (signing_in word)) 32 32 ≡ field word 32 32
signing-kept word distance h m l =
    upper distance (field word 0 32) (signing_in word) l (omega arith) ∙ ap (λ (w : ℕ). field w 32 32) (word-again word h m)

-- the four bytes of an entry have room for what a word says
pub signing-lt : (word : ℕ) → signing_in word < 2 ^ 32
unfolding signing_in
signing-lt word = omega arith

-- a word is one where bits 51 to 62 are zero and bit 63 is set
pub authenticated-is : (word : ℕ) → matches authenticated word ≡ (eqb (field word 51 12) 0 && eqb (field word 63 1) 1)
authenticated-is word =
    let key : word / 2 ^ 32 / 2 ^ 16 / 2 ^ 1 / 2 ^ 2 ≡ word / 2 ^ 51 =
    rw (shr-shr word 32 16, shr-shr word 48 1, shr-shr word 49 2) in
    rw (key, shr-shr word 51 12) (ap (λ (t : Bool). eqb (field word 51 12) 0 && t) (and-true (eqb (field word 63 1) 1)))
  where
    and-true : (t : Bool) → (t && true) ≡ t
    and-true true = refl
    and-true false = refl

-- diversity, address diversity and key of four bytes are the bytes 0 and 1, the byte 2 and the byte 3
pub signing-split : (s : List ℕ) (at : ℕ)
    → (diversity_of (le 4 s at) ≡ le 2 s at) × (address_diversity_of (le 4 s at) ≡ le 1 s (at + 2)) × (key_of (le 4 s at) ≡ le 1 s (at + 3))
signing-split s at =
    let past : at + 2 + 1 ≡ at + 3 = omega arith in
    let halves : le 4 s at ≡ le 2 s at + 2 ^ 16 * (le 1 s (at + 2) + 2 ^ 8 * le 1 s (at + 3)) =
    le-add 2 2 s at ∙ rw (le-add 1 1 s (at + 2), past) in
    let q : le 4 s at ≡ signing_by (le 2 s at) (le 1 s (at + 2)) (le 1 s (at + 3)) = omega (arith, halves) in
    rw q (packed (le 2 s at) (le 1 s (at + 2)) (le 1 s (at + 3)) (le-lt 2 s at) (le-lt 1 s (at + 2)) (le-lt 1 s (at + 3)))
