-- Words as lists of bytes: what records are made of and read from.
use Rattle.std.proofs.Common.{◌≡◌, ℕ, zero, suc, ◌+◌, ◌-◌, ◌*◌, ◌/◌, ◌%◌, ◌^◌, ◌<◌, ◌≤◌, List, [], ◌∷◌, ◌++◌, length, get_or, drop, set, sym, refl, ap, ◌∙◌, ⊎_elim, le_of_suc-le-suc, not-suc-le-zero, add_assoc, mod-eq_of_lt, mul_comm, add_comm, eq-or-lt_of_le, zero-add, arith, get_or-drop, get_or-take, get_or-append-add, ext_get_or}
use lib.ListN.{get_or-append}
use lib.Pow.{high, low, mod-mod-pow, field}
use lib.Seq.{sets, set-get_or, get_or-append_seam}
use Rattle.util.specs.Word.{le, put, bytes}
use Rattle.util.specs.Part.{part}
use Rattle.util.proofs.Word.{le-ext, le-digits, le-lt}
use Rattle.util.proofs.Part.{length-bytes, length_part}

-- a run of stores is one run after another
pub sets-append : (xs ys l : List ℕ) (i k : ℕ) → i + length xs ≡ k → sets l i (xs ++ ys) ≡ sets (sets l i xs) k ys
sets-append [] ys l i k h = let e : i ≡ k = omega arith in ap (λ (j : ℕ). sets l j ys) e
sets-append (x ∷ xs) ys l i k h = sets-append xs ys (set l i x) (suc i) k (omega arith)

-- a word stored is its bytes stored
pub put-sets : (n : ℕ) (s : List ℕ) (at v : ℕ) → put n s at v ≡ sets s at (bytes n v)
unfolding put bytes
put-sets zero s at v = refl
put-sets (suc n) s at v =
    rw (sets-append (bytes n v) (v / 2 ^ (8 * n) % 256 ∷ []) s at (at + n) (ap (λ (k : ℕ). at + k) (length-bytes n v)), ← put-sets n s at v)

-- the bytes of a number are its digits
pub get_d-bytes : (n v k : ℕ) → k < n → get_or (bytes n v) k 0 ≡ v / 2 ^ (8 * k) % 256
unfolding bytes
get_d-bytes zero v k h = absurd (not-suc-le-zero h)
get_d-bytes (suc n) v k h =
    ⊎_elim
    (λ (e : k ≡ n).
    rw e
    (ap (λ (j : ℕ). get_or (bytes n v ++ (v / 2 ^ (8 * n) % 256 ∷ [])) j 0) (sym (length-bytes n v))
    ∙ get_or-append_seam (bytes n v) (v / 2 ^ (8 * n) % 256) [] 0))
    (λ (w : k < n). get_or-append (bytes n v) _ 0 k (omega (arith, length-bytes n v)) ∙ get_d-bytes n v k w)
    (eq-or-lt_of_le (le_of_suc-le-suc h))

-- the number of the bytes of a number
pub le_bytes : (n v : ℕ) → le n (bytes n v) 0 ≡ v % 2 ^ (8 * n)
le_bytes n v = le-digits n (bytes n v) 0 v (λ k l. ap (λ (j : ℕ). get_or (bytes n v) j 0) (zero-add k) ∙ get_d-bytes n v k l)

-- a word of the first of two lists, and one of the second
pub le-append-left : (n : ℕ) (xs ys : List ℕ) (at : ℕ) → at + n ≤ length xs → le n (xs ++ ys) at ≡ le n xs at
le-append-left n xs ys at h = le-ext n (xs ++ ys) xs at at (λ k l. get_or-append xs ys 0 (at + k) (omega arith))

pub le-append-right : (n : ℕ) (xs ys : List ℕ) (at k : ℕ) → length xs + at ≡ k → le n (xs ++ ys) k ≡ le n ys at
le-append-right n xs ys at k e =
    le-ext n (xs ++ ys) ys k at
    (λ j l. ap (λ (m : ℕ). get_or (xs ++ ys) m 0) {x = k + j} {y = length xs + (at + j)} (omega arith) ∙ get_or-append-add xs ys (at + j) 0)

-- a word of what is left after k bytes
pub le-drop : (n : ℕ) (xs : List ℕ) (k at : ℕ) → le n (drop k xs) at ≡ le n xs (k + at)
le-drop n xs k at = le-ext n (drop k xs) xs at (k + at) (λ j l. get_or-drop k xs (at + j) 0 ∙ ap (λ (m : ℕ). get_or xs m 0) (sym (add_assoc k at j)))

-- a word of a part is a word of the whole
pub le-part : (n : ℕ) (xs : List ℕ) (a k at : ℕ) → at + n ≤ k → le n (part xs a k) at ≡ le n xs (a + at)
le-part n xs a k at h =
    le-ext n (part xs a k) xs at (a + at)
    (λ j l. get_or-take k (drop a xs) (at + j) 0 (omega arith) ∙ get_or-drop a xs (at + j) 0 ∙ ap (λ (m : ℕ). get_or xs m 0) (sym (add_assoc a at j)))

-- a byte of the low n bytes of a number
low_byte : (n x k : ℕ) → k < n → x % 2 ^ (8 * n) / 2 ^ (8 * k) % 256 ≡ x / 2 ^ (8 * k) % 256
low_byte n x k h =
    ap (λ (j : ℕ). x % 2 ^ j / 2 ^ (8 * k) % 256) {x = 8 * n} {y = (8 * (n - suc k) + 8) + 8 * k} (omega arith)
    ∙ ap (λ (y : ℕ). y % 256) (field x (8 * (n - suc k) + 8) (8 * k))
    ∙ mod-mod-pow (x / 2 ^ (8 * k)) (8 * (n - suc k)) 8

-- byte k of a word
pub le-byte : (n : ℕ) (xs : List ℕ) (at k : ℕ) → ((i : ℕ) → get_or xs i 0 < 256) → k < n → le n xs at / 2 ^ (8 * k) % 256 ≡ get_or xs (at + k) 0
unfolding le
le-byte zero xs at k b h = absurd (not-suc-le-zero h)
le-byte (suc n) xs at k b h =
    rw (
      mod-eq_of_lt (b (at + n)),
      add_comm (le n xs at) (2 ^ (8 * n) * get_or xs (at + n) 0),
      mul_comm (2 ^ (8 * n)) (get_or xs (at + n) 0),
    )
    (⊎_elim
    (λ (e : k ≡ n).
    rw (e, high (get_or xs (at + n) 0) (8 * n) (le-lt n xs at))
    (mod-eq_of_lt (b (at + n))))
    (λ (w : k < n).
    sym (low_byte n (get_or xs (at + n) 0 * 2 ^ (8 * n) + le n xs at) k w)
    ∙ ap (λ (y : ℕ). y / 2 ^ (8 * k) % 256) (low (get_or xs (at + n) 0) (8 * n) (le-lt n xs at))
    ∙ le-byte n xs at k b w)
    (eq-or-lt_of_le (le_of_suc-le-suc h)))

-- the bytes of a word are the part that it was read from
pub bytes_le : (n : ℕ) (xs : List ℕ) (at : ℕ) → ((i : ℕ) → get_or xs i 0 < 256) → at + n ≤ length xs → bytes n (le n xs at) ≡ part xs at n
bytes_le n xs at b h =
    ext_get_or 0 (bytes n (le n xs at)) (part xs at n) (length-bytes n _ ∙ sym (length_part xs at n h))
    (λ i l.
    let w : i < n = omega (arith, length-bytes n (le n xs at)) in
    get_d-bytes n (le n xs at) i w
    ∙ le-byte n xs at i b w
    ∙ sym (get_or-take n (drop at xs) i 0 w ∙ get_or-drop at xs i 0))

-- only the low bytes count
pub bytes_low : (n m v : ℕ) → n ≤ m → bytes n (v % 2 ^ (8 * m)) ≡ bytes n v
bytes_low n m v h =
    ext_get_or 0 (bytes n (v % 2 ^ (8 * m))) (bytes n v) (length-bytes n _ ∙ sym (length-bytes n v))
    (λ i l.
    let w : i < n = omega (arith, length-bytes n (v % 2 ^ (8 * m))) in
    get_d-bytes n (v % 2 ^ (8 * m)) i w ∙ low_byte m v i (omega arith) ∙ sym (get_d-bytes n v i w))

-- a word stored where it was read changes nothing
pub put-own : (n : ℕ) (xs : List ℕ) (at : ℕ) → ((i : ℕ) → get_or xs i 0 < 256) → put n xs at (le n xs at) ≡ xs
unfolding put
put-own n xs at b = own n (λ k h. h)
  where
    own : (m : ℕ) → ((k : ℕ) → k < m → k < n) → put m xs at (le n xs at) ≡ xs
    own zero f = refl
    own (suc m) f =
        rw (own m (λ k h. f k (omega arith)), le-byte n xs at m b (f m (omega arith)))
        (set-get_or xs (at + m) 0)
