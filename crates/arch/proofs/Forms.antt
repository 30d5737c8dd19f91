-- A set of bits has a record's form where the list has it that the bits were made of: a union's bit is set where one of its parts has it.
use mathlib.Core.Path.{◌≡◌, refl, sym, ap, ap₂, ◌∙◌}
use mathlib.Core.Bool.{Bool, true, false, not, ◌||◌, true≢false, false≢true}
use mathlib.Core.List.{List, [], ◌∷◌}
use Prim.Native.Nat.{ℕ, zero, suc, ◌+◌, ◌-◌, ◌*◌, ◌/◌, ◌%◌, ◌^◌, ◌<◌, ◌≤◌}
use native.Mathlib.Omega.{arith}
use native.Mathlib.Nat.{div-eq_of_lt, zero-div, one-mul}
use borrow.Author.Tests.{eq-eqb, ne_eqb, ltb-true, ltb-false, eqb-true}
use lib.Bits.{bit_or, or_shr, or_mod, or_zero_l}
use lib.Dec.{eqb, ltb}
use lib.ListN.{length, get_or-eq_default}
use lib.Pow.{pow-lt, pow-add, shl-shr}
use Rattle.util.proofs.Below.{every, every-at}
use Rattle.util.proofs.Choice.{both}
use Rattle.util.specs.Bits.{field, has_bit}
use Rattle.macho.specs.MachRel.{pcrel_of, p2size_of, extern_of, type_of, form_of}
use Rattle.macho.specs.declared.mach_rel.MachRel.{MachRel}
use Rattle.macho.proofs.Packed.{form-fields}
use Rattle.arch.specs.Form.{Form, form_in, same_form, member, form_number, bit_of, bits_of, fields_fit}
use Rattle.arch.specs.Form.{forms_in, supported_in, table_fits}

-- the number in a record's bits is its form's
pub form-number : (r : MachRel) → form_of r.bits ≡ form_number (form_in r)
form-number r = form-fields r.bits

-- a bit of a union
or-bit : (x y : ℕ) → x < 2 → y < 2 → eqb (bit_or x y) 1 ≡ (eqb x 1 || eqb y 1)
or-bit zero y h g = ap (λ (z : ℕ). eqb z 1) (or_zero_l y)
or-bit (suc zero) zero h g = refl
or-bit (suc zero) (suc zero) h g = refl
or-bit (suc zero) (suc (suc y)) h g = absurd (omega arith)
or-bit (suc (suc x)) y h g = absurd (omega arith)

pub has-or : (a b k : ℕ) → has_bit (bit_or a b) k ≡ (has_bit a k || has_bit b k)
has-or a b k =
    ap (λ (x : ℕ). eqb x 1) (ap (λ (x : ℕ). x % 2 ^ 1) (or_shr a b k) ∙ or_mod (a / 2 ^ k) (b / 2 ^ k) 1)
    ∙ or-bit (field a k 1) (field b k 1) (omega arith) (omega arith)

-- the bits of a power of two
bit_below : (p k : ℕ) → p < k → field (2 ^ p) k 1 ≡ 0
bit_below p k h = ap (λ (x : ℕ). x % 2 ^ 1) (div-eq_of_lt (pow-lt h))

bit_at : (k : ℕ) → field (2 ^ k) k 1 ≡ 1
bit_at k = ap (λ (x : ℕ). x % 2 ^ 1) (ap (λ (x : ℕ). x / 2 ^ k) (sym (one-mul (2 ^ k))) ∙ shl-shr 1 k)

bit-above : (j k : ℕ) → field (2 ^ (suc j + k)) k 1 ≡ 0
bit-above j k =
    ap (λ (x : ℕ). x % 2 ^ 1) (ap (λ (x : ℕ). x / 2 ^ k) (pow-add 2 (suc j) k) ∙ shl-shr (2 ^ suc j) k)
    ∙ omega arith

pub has-power : (p k : ℕ) → has_bit (2 ^ p) k ≡ eqb k p
has-power p k = by (ltb p k) refl (ltb k p) refl
  where
    by : (s : Bool) → ltb p k ≡ s → (t : Bool) → ltb k p ≡ t → has_bit (2 ^ p) k ≡ eqb k p
    by true e t g = let h = ltb-true p k e in rw (bit_below p k h, ne_eqb k p (λ q. omega arith))
    by false e true g =
        let h = ltb-true k p g in
        let d : p ≡ suc (p - k - 1) + k = omega arith in
        ap (λ (x : ℕ). eqb x 1) (ap (λ (x : ℕ). field (2 ^ x) k 1) d ∙ bit-above (p - k - 1) k) ∙ sym (ne_eqb k p (λ q. omega arith))
    by false e false g =
        let h = ltb-false p k e in
        let l = ltb-false k p g in
        let d : p ≡ k = omega arith in
        ap (λ (x : ℕ). eqb (field (2 ^ x) k 1) 1) d ∙ ap (λ (x : ℕ). eqb x 1) (bit_at k) ∙ sym (eq-eqb k p (omega arith))

-- a test by what it says
tested : (a b : ℕ) (t : Bool) → (t ≡ true → a ≡ b) → (a ≡ b → t ≡ true) → eqb a b ≡ t
tested a b true f g = eq-eqb a b (f refl)
tested a b false f g = ne_eqb a b (λ e. true≢false (sym (g e)))

-- the fields of a form are such as a record can have
abbrev Fits : Form → Type 0
Fits f = (f.pcrel < 2) × (f.p2size < 4) × (f.ext < 2)

first_fits : (f : Form) (fs : List Form) → fields_fit (f ∷ fs) ≡ true → Fits f × (fields_fit fs ≡ true)
first_fits f fs h =
    let p = both (ltb f.pcrel 2) _ h in
    let s = both (ltb f.p2size 4) _ p.1 in
    let e = both (ltb f.ext 2) _ s.1 in
    ((ltb-true f.pcrel 2 p.0, ltb-true f.p2size 4 s.0, ltb-true f.ext 2 e.0), e.1)

record-fits : (r : MachRel) → Fits (form_in r)
record-fits r = (omega arith, omega arith, omega arith)

-- the fields of a form from its number
number-fields : (f : Form) → Fits f → (form_number f % 2 ≡ f.pcrel) × (form_number f / 2 % 4 ≡ f.p2size) × (form_number f / 8 ≡ f.ext)
number-fields f h = (omega arith, omega arith, omega arith)

-- numbers are equal where forms are
pub same_number : (f g : Form) → Fits f → Fits g → eqb (form_number f) (form_number g) ≡ same_form f g
same_number f g hf hg = tested (form_number f) (form_number g) (same_form f g) there back
  where
    there : same_form f g ≡ true → form_number f ≡ form_number g
    there t =
        let p = both (eqb f.pcrel g.pcrel) _ t in
        let s = both (eqb f.p2size g.p2size) _ p.1 in
        omega (arith, eqb-true f.pcrel g.pcrel p.0, eqb-true f.p2size g.p2size s.0, eqb-true f.ext g.ext s.1)

    back : form_number f ≡ form_number g → same_form f g ≡ true
    back e =
        let a = number-fields f hf in
        let b = number-fields g hg in
        rw (
          eq-eqb f.pcrel g.pcrel (sym a.0 ∙ ap (λ (x : ℕ). x % 2) e ∙ b.0),
          eq-eqb f.p2size g.p2size (sym a.1 ∙ ap (λ (x : ℕ). x / 2 % 4) e ∙ b.1),
          eq-eqb f.ext g.ext (sym a.2 ∙ ap (λ (x : ℕ). x / 8) e ∙ b.2),
        )

-- a record's form is in a set of bits where it is in the list that the set was made of
pub has-member : (fs : List Form) (r : MachRel) → fields_fit fs ≡ true → has_bit (bits_of fs) (form_of r.bits) ≡ member (form_in r) fs
has-member [] r h = ap (λ (x : ℕ). eqb (x % 2) 1) (zero-div (2 ^ form_of r.bits))
has-member (f ∷ fs) r h =
    let g = first_fits f fs h in
    has-or (bit_of f) (bits_of fs) (form_of r.bits)
    ∙ ap₂ (λ (a b : Bool). a || b)
    (has-power (form_number f) (form_of r.bits)
    ∙ ap (λ (k : ℕ). eqb k (form_number f)) (form-number r)
    ∙ same_number (form_in r) f (record-fits r) g.0)
    (has-member fs r g.1)

-- the forms of each type of a table that fits
fits-at : (table : List (List Form)) (ty : ℕ) → table_fits table ≡ true → fields_fit (forms_in table ty) ≡ true
fits-at [] ty h = refl
fits-at (fs ∷ table) zero h = (both (fields_fit fs) (table_fits table) h).0
fits-at (fs ∷ table) (suc ty) h = fits-at table ty (both (fields_fit fs) (table_fits table) h).1

-- whatever the machine: a record's form is in the bits of its type's forms where the table has it
pub supported-bits : (table : List (List Form)) (r : MachRel) → table_fits table ≡ true
    → has_bit (bits_of (forms_in table (type_of r.bits))) (form_of r.bits) ≡ supported_in table r
supported-bits table r h = has-member (forms_in table (type_of r.bits)) r (fits-at table (type_of r.bits) h)

-- a type past the table's end takes no form
pub past-table : (table : List (List Form)) (r : MachRel) → length table ≤ type_of r.bits → supported_in table r ≡ false
past-table table r h = ap (member (form_in r)) (get_or-eq_default table [] {n = type_of r.bits} h)

-- ---- a test of every type and form, computed

-- a test of type and fields that holds of every type and form holds of each record
pub each-form : (f : ℕ → ℕ → ℕ → ℕ → Bool) → every (λ k. f (k / 16) (k % 2) (k / 2 % 4) (k / 8 % 2)) 256 ≡ true
    → (r : MachRel) → f (type_of r.bits) (pcrel_of r.bits) (p2size_of r.bits) (extern_of r.bits) ≡ true
each-form f h r = at (type_of r.bits) (pcrel_of r.bits) (p2size_of r.bits) (extern_of r.bits) (omega arith) (omega arith) (omega arith) (omega arith)
  where
    at : (ty p s e : ℕ) → ty < 16 → p < 2 → s < 4 → e < 2 → f ty p s e ≡ true
    at ty p s e ht hp hs he =
        let k = ty * 16 + e * 8 + s * 2 + p in
        let kt : k / 16 ≡ ty = omega arith in
        let kp : k % 2 ≡ p = omega arith in
        let half : k / 2 ≡ ty * 8 + e * 4 + s = omega arith in
        let eighth : k / 8 ≡ ty * 2 + e = omega arith in
        let ks : k / 2 % 4 ≡ s = rw half (omega arith) in
        let ke : k / 8 % 2 ≡ e = rw eighth (omega arith) in
        rw (kt, kp, ks, ke) at (every-at (λ k. f (k / 16) (k % 2) (k / 2 % 4) (k / 8 % 2)) 256 h k (omega arith))

-- a test that follows from another
pub implied : (a b : Bool) → (not a || b) ≡ true → a ≡ true → b ≡ true
implied true b h e = h
implied false b h e = absurd (false≢true e)
