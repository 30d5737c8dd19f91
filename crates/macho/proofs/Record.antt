-- Records as lists of fields: each law goes by induction over the fields, and the records' own laws are instances.
use mathlib.Core.Path.{◌≡◌, refl, sym, ap, ap₂, ◌∙◌, subst}
use mathlib.Core.List.{List, [], ◌∷◌, ◌++◌, append_assoc}
use Prim.Native.Nat.{ℕ, zero, suc, ◌+◌, ◌≤◌, ◌<◌}
use native.Mathlib.Omega.{arith}
use native.Mathlib.Nat.{add-zero, add_assoc, mod-eq_of_lt}
use lib.ListN.{length, get_or, set, take, drop, length-append}
use lib.Seq.{sets, take-add, drop-drop, drop-cons, get_or-set_other}
use Rattle.util.specs.Word.{le, put, bytes}
use Rattle.util.specs.Part.{part}
use Rattle.util.proofs.Word.{le-ext}
use Rattle.util.proofs.Part.{length-bytes}
use Rattle.util.proofs.Bytes.{sets-append, put-sets, le_bytes, le-append-left, le-append-right, bytes_le}
use Rattle.macho.specs.Record.{Field, ◌of◌, unused, size_of, bytes_of, Fits, Zeros}

-- where byte k of the record from byte `at` on stands
abbrev pub byte_at : ℕ → ℕ → ℕ
byte_at at zero = at
byte_at at (suc k) = at + suc k

byte-is : (at k : ℕ) → byte_at at k ≡ at + k
byte-is at zero = sym (add-zero at)
byte-is at (suc k) = refl

-- the fields stored one by one, from byte k on of the record at `at`
abbrev pub puts_from : ℕ → List Field → List ℕ → ℕ → List ℕ
puts_from k [] s at = s
puts_from k (n of v ∷ fs) s at = puts_from (k + n) fs (put n s (byte_at at k) v) at
puts_from k (unused ∷ fs) s at = puts_from (k + 1) fs (put 1 s (byte_at at k) 0) at

-- a field stored, then the bytes of those after it
field-sets : (n v : ℕ) (fs : List Field) (s : List ℕ) (k at : ℕ)
    → sets (put n s (byte_at at k) v) (at + (k + n)) (bytes_of fs) ≡ sets s (at + k) (bytes n v ++ bytes_of fs)
field-sets n v fs s k at =
    rw (byte-is at k, put-sets n s (at + k) v)
    (sym (sets-append (bytes n v) (bytes_of fs) s (at + k) (at + (k + n)) (ap (λ (m : ℕ). at + k + m) (length-bytes n v) ∙ add_assoc at k n)))

puts-from : (k : ℕ) (fs : List Field) (s : List ℕ) (at : ℕ) → puts_from k fs s at ≡ sets s (at + k) (bytes_of fs)
unfolding bytes_of bytes
puts-from k [] s at = refl
puts-from k (n of v ∷ fs) s at = puts-from (k + n) fs (put n s (byte_at at k) v) at ∙ field-sets n v fs s k at
puts-from k (unused ∷ fs) s at = puts-from (k + 1) fs (put 1 s (byte_at at k) 0) at ∙ field-sets 1 0 fs s k at

-- a record stored field by field is its bytes stored
pub puts : (fs : List Field) (s : List ℕ) (at : ℕ) → puts_from 0 fs s at ≡ sets s at (bytes_of fs)
puts fs s at = puts-from 0 fs s at ∙ ap (λ (i : ℕ). sets s i (bytes_of fs)) (add-zero at)

-- the fields' bytes have their size
pub length-bytes_of : (fs : List Field) → length (bytes_of fs) ≡ size_of fs
unfolding bytes_of
length-bytes_of [] = refl
length-bytes_of (n of v ∷ fs) = simp (length-append, length-bytes n v, length-bytes_of fs)
length-bytes_of (unused ∷ fs) = omega (arith, length-bytes_of fs)

-- the bytes of fields and more fields
bytes_of-append : (fs gs : List Field) → bytes_of (fs ++ gs) ≡ bytes_of fs ++ bytes_of gs
unfolding bytes_of
bytes_of-append [] gs = refl
bytes_of-append (n of v ∷ fs) gs = rw (bytes_of-append fs gs) (sym (append_assoc (bytes n v) (bytes_of fs) (bytes_of gs)))
bytes_of-append (unused ∷ fs) gs = ap (λ (xs : List ℕ). 0 ∷ xs) (bytes_of-append fs gs)

-- a record whose first fields were stored together, the others one by one
pub puts-after : (fs gs : List Field) (s : List ℕ) (at : ℕ) → puts_from (size_of fs) gs (sets s at (bytes_of fs)) at ≡ sets s at (bytes_of (fs ++ gs))
puts-after fs gs s at =
    rw (bytes_of-append fs gs)
    (puts-from (size_of fs) gs (sets s at (bytes_of fs)) at
    ∙ sym (sets-append (bytes_of fs) (bytes_of gs) s at (at + size_of fs) (ap (λ (n : ℕ). at + n) (length-bytes_of fs))))

-- the fields stand from byte k on of the record at `at`
abbrev pub HoldsFrom : ℕ → List Field → List ℕ → ℕ → Type 0
HoldsFrom k [] s at = Unit {0}
HoldsFrom k (n of v ∷ fs) s at = (le n s (byte_at at k) ≡ v) × HoldsFrom (k + n) fs s at
HoldsFrom k (unused ∷ fs) s at = HoldsFrom (k + 1) fs s at

-- fields that fit stand in their own bytes
pub held : (fs : List Field) (xs ys : List ℕ) (k at : ℕ) → length xs ≡ at + k → Fits fs → HoldsFrom k fs (xs ++ (bytes_of fs ++ ys)) at
unfolding bytes_of
held [] xs ys k at e h = tt
held (n of v ∷ fs) xs ys k at e h =
    let l : length xs + 0 ≡ at + k = omega arith in
    let w : 0 + n ≤ length (bytes n v) = omega (arith, length-bytes n v) in
    let m : length (xs ++ bytes n v) ≡ at + (k + n) = simp (length-append, length-bytes n v) (omega arith) in (
      ap (le n (xs ++ (bytes n v ++ bytes_of fs ++ ys))) (byte-is at k)
          ∙ le-append-right n xs (bytes n v ++ bytes_of fs ++ ys) 0 (at + k) l
          ∙ ap (λ (z : List ℕ). le n z 0) (append_assoc (bytes n v) (bytes_of fs) ys)
          ∙ le-append-left n (bytes n v) (bytes_of fs ++ ys) 0 w
          ∙ le_bytes n v
          ∙ mod-eq_of_lt h.0,
      subst (λ (z : List ℕ). HoldsFrom (k + n) fs z at)
          (append_assoc xs (bytes n v) (bytes_of fs ++ ys) ∙ ap (λ (z : List ℕ). xs ++ z) (sym (append_assoc (bytes n v) (bytes_of fs) ys)))
          (held fs (xs ++ bytes n v) ys (k + n) at m h.1),
    )
held (unused ∷ fs) xs ys k at e h =
    subst (λ (z : List ℕ). HoldsFrom (k + 1) fs z at)
    (append_assoc xs (0 ∷ []) (bytes_of fs ++ ys))
    (held fs (xs ++ (0 ∷ [])) ys (k + 1) at (simp length-append (omega arith)) h)

-- a part, then the part after it
part-add : (s : List ℕ) (i n m : ℕ) → part s i (n + m) ≡ part s i n ++ part s (i + n) m
part-add s i n m = take-add n m (drop i s) ∙ ap (λ (z : List ℕ). part s i n ++ take m z) (drop-drop n i s)

part-one : (s : List ℕ) (i : ℕ) → i < length s → part s i 1 ≡ get_or s i 0 ∷ []
part-one s i l = rw (drop-cons s i 0 l)

-- the bytes of fields that stand in a list are that part of it
pub part_held : (fs : List Field) (s : List ℕ) (k at : ℕ) → ((i : ℕ) → get_or s i 0 < 256) → at + k + size_of fs ≤ length s
    → HoldsFrom k fs s at → Zeros fs s (at + k) → bytes_of fs ≡ part s (at + k) (size_of fs)
unfolding bytes_of
part_held [] s k at b l h z = refl
part_held (n of v ∷ fs) s k at b l h z =
    let e = add_assoc at k n in
    ap₂ (λ (x y : List ℕ). x ++ y)
    (ap (bytes n) (sym h.0 ∙ ap (le n s) (byte-is at k)) ∙ bytes_le n s (at + k) b (omega arith))
    (part_held fs s (k + n) at b (omega arith) h.1 (subst (Zeros fs s) e z) ∙ ap (λ (i : ℕ). part s i (size_of fs)) (sym e))
    ∙ sym (part-add s (at + k) n (size_of fs))
part_held (unused ∷ fs) s k at b l h z =
    let e = add_assoc at k 1 in
    ap₂ (λ (x y : List ℕ). x ++ y)
    (sym (part-one s (at + k) (omega arith) ∙ ap (λ (x : ℕ). x ∷ []) z.0))
    (part_held fs s (k + 1) at b (omega arith) h (subst (Zeros fs s) e z.1) ∙ ap (λ (i : ℕ). part s i (size_of fs)) (sym e))
    ∙ sym (part-add s (at + k) 1 (size_of fs))

-- fields are fixed by their bytes
pub held-ext : (fs : List Field) (s t : List ℕ) (k i j : ℕ) → ((m : ℕ) → k ≤ m → m < k + size_of fs → get_or s (i + m) 0 ≡ get_or t (j + m) 0)
    → HoldsFrom k fs t j → HoldsFrom k fs s i
held-ext [] s t k i j f h = tt
held-ext (n of v ∷ fs) s t k i j f h = (
  le-ext n s t (byte_at i k) (byte_at j k) (λ m l. same m (f (k + m) (omega arith) (omega arith))) ∙ h.0,
  held-ext fs s t (k + n) i j (λ m a b. f m (omega arith) (omega arith)) h.1,
)
  where
    same : (m : ℕ) → get_or s (i + (k + m)) 0 ≡ get_or t (j + (k + m)) 0 → get_or s (byte_at i k + m) 0 ≡ get_or t (byte_at j k + m) 0
    same m e = rw (byte-is i k, byte-is j k, add_assoc i k m, add_assoc j k m) e
held-ext (unused ∷ fs) s t k i j f h = held-ext fs s t (k + 1) i j (λ m a b. f m (omega arith) (omega arith)) h

-- what an unused byte holds changes no field
pub held-unused : (fs gs : List Field) (s : List ℕ) (k at v : ℕ) → HoldsFrom k (fs ++ (unused ∷ gs)) s at
    → HoldsFrom k (fs ++ (unused ∷ gs)) (set s (at + (k + size_of fs)) v) at
held-unused [] gs s k at v h =
    held-ext gs (set s (at + (k + 0)) v) s (k + 1) at at
    (λ m a b. get_or-set_other s (at + (k + 0)) (at + m) v 0 (λ e. omega arith))
    h
held-unused (n of w ∷ fs) gs s k at v h = (
  le-ext n (set s (at + (k + (n + size_of fs))) v) s (byte_at at k) (byte_at at k)
      (λ m l. rw (byte-is at k) (get_or-set_other s (at + (k + (n + size_of fs))) (at + k + m) v 0 (λ e. omega arith)))
      ∙ h.0,
  rw (← add_assoc k n (size_of fs)) (held-unused fs gs s (k + n) at v h.1),
)
held-unused (unused ∷ fs) gs s k at v h = rw (← add_assoc k 1 (size_of fs)) (held-unused fs gs s (k + 1) at v h)
