-- Parts of a list: a write in a part, seen in the whole.
use Rattle.std.proofs.Common.{◌≡◌, ℕ, zero, suc, ◌+◌, ◌-◌, ◌*◌, ◌/◌, ◌%◌, ◌^◌, ◌<◌, ◌≤◌, List, [], ◌∷◌, ◌++◌, length, get_or, take, drop, set, sym, refl, ap, ◌∙◌, append_assoc, add-zero, add_assoc, add-suc, suc-add, zero-add, arith, length-append, length-drop, take-append-drop, length-take, length-take-le, drop-cons}
use borrow.Rule.Slice.PartMut.{put_mid}
use lib.Seq.{set-append_left, set_at, drop-drop}
use Rattle.util.specs.Word.{put, bytes}
use Rattle.util.specs.Part.{part, splice}
use Rattle.util.proofs.Word.{length-put}

-- a part inside the list has its length
pub length_part : (xs : List ℕ) (a k : ℕ) → a + k ≤ length xs → length (part xs a k) ≡ k
length_part xs a k h = simp (length-take, length-drop) (omega arith)

-- a part in its own place is the list
pub splice-same : (xs : List ℕ) (a k : ℕ) → splice xs a k (part xs a k) ≡ xs
splice-same xs a k = ap (λ (l : List ℕ). take a xs ++ l) (take-append-drop k (drop a xs)) ∙ take-append-drop a xs

-- another part of the same length leaves the list's length
pub length-splice : (xs : List ℕ) (a k : ℕ) (ys : List ℕ) → a + k ≤ length xs → length ys ≡ k → length (splice xs a k ys) ≡ length xs
length-splice xs a k ys h e = simp (length-append, length-take, length-drop, e) (omega arith)

set_append_right : (xs ys : List ℕ) (i v : ℕ) → set (xs ++ ys) (length xs + i) v ≡ xs ++ set ys i v
set_append_right [] ys i v = ap (λ (n : ℕ). set ys n v) (zero-add i)
set_append_right (x ∷ xs) ys i v =
    ap (λ (n : ℕ). set (x ∷ (xs ++ ys)) n v) (suc-add (length xs) i) ∙ ap (λ (l : List ℕ). x ∷ l) (set_append_right xs ys i v)

-- a byte stored in the part is one stored in the whole
pub splice-set : (xs : List ℕ) (a k : ℕ) (ys : List ℕ) (i v : ℕ) → a ≤ length xs → i < length ys → splice xs a k (set ys i v) ≡ set (splice xs a k ys) (a + i) v
splice-set xs a k ys i v ha hi =
    ap (λ (l : List ℕ). take a xs ++ l) (sym (set-append_left ys (drop k (drop a xs)) i v hi))
    ∙ sym (set_append_right (take a xs) (ys ++ drop k (drop a xs)) i v)
    ∙ ap (λ (n : ℕ). set (splice xs a k ys) (n + i) v) (length-take-le a xs ha)

-- and so is a word of n bytes
pub splice-put : (n : ℕ) (xs : List ℕ) (a k : ℕ) (ys : List ℕ) (i v : ℕ) → a ≤ length xs → i + n ≤ length ys
    → splice xs a k (put n ys i v) ≡ put n (splice xs a k ys) (a + i) v
unfolding put
splice-put zero xs a k ys i v ha h = refl
splice-put (suc n) xs a k ys i v ha h =
    splice-set xs a k (put n ys i v) (i + n) _ ha (omega (arith, length-put n ys i v))
    ∙ ap (λ (l : List ℕ). set l (a + (i + n)) (v / 2 ^ (8 * n) % 256)) (splice-put n xs a k ys i v ha (omega arith))
    ∙ ap (λ (m : ℕ). set (put n (splice xs a k ys) (a + i) v) m (v / 2 ^ (8 * n) % 256)) (sym (add_assoc a i n))

-- a word stored in the list's own part is one stored in the list
pub part-put : (n : ℕ) (xs : List ℕ) (a k i v : ℕ) → a + k ≤ length xs → i + n ≤ k → splice xs a k (put n (part xs a k) i v) ≡ put n xs (a + i) v
part-put n xs a k i v ha h =
    splice-put n xs a k (part xs a k) i v (omega arith) (omega (arith, length_part xs a k ha))
    ∙ ap (λ (l : List ℕ). put n l (a + i) v) (splice-same xs a k)

pub length-bytes : (n v : ℕ) → length (bytes n v) ≡ n
unfolding bytes
length-bytes zero v = refl
length-bytes (suc n) v = simp (length-append, length-bytes n v) (omega arith)

-- a word stored is its bytes in the place of those that stood there
pub put-splice : (n : ℕ) (xs : List ℕ) (at v : ℕ) → at + n ≤ length xs → put n xs at v ≡ take at xs ++ (bytes n v ++ drop (at + n) xs)
unfolding put bytes
put-splice zero xs at v h = rw (add-zero at) (sym (take-append-drop at xs))
put-splice (suc n) xs at v h =
    rw (put-splice n xs at v (omega arith), drop-cons xs (at + n) 0 (omega arith))
    (rw (← append_assoc (take at xs) (bytes n v) (get_or xs (at + n) 0 ∷ drop (suc (at + n)) xs))
    (set_at (take at xs ++ bytes n v) _ _ _ (at + n) (simp (length-append, length-take-le at xs (omega arith), length-bytes n v))
    ∙ append_assoc (take at xs) (bytes n v) _
    ∙ ap (λ (l : List ℕ). take at xs ++ l) (rw (add-suc at n) (sym (append_assoc (bytes n v) (v / 2 ^ (8 * n) % 256 ∷ []) (drop (suc (at + n)) xs))))))

-- and so is one that is copied over them
pub put_copied : (n : ℕ) (s ys : List ℕ) (at v : ℕ) → at + n ≤ length s → ys ≡ bytes n v → put_mid at (at + n - at) s ys ≡ put n s at v
put_copied n s ys at v h e =
    let k : at + n - at ≡ n = omega arith in
    rw (k, e, drop-drop n at s) (sym (put-splice n s at v h))
