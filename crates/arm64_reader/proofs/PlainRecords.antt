-- A plain record reads whatever stands at its place: its form is one that its type takes, it names a symbol, and its type is none of those whose bytes
-- are looked at. Each by one test of every type and form.
use Rattle.std.specs.Prelude.{Ok}
use mathlib.Core.Path.{◌≡◌, refl, sym, ap, ◌∙◌}
use mathlib.Core.Bool.{Bool, true, false, not, ◌&&◌, ◌||◌}
use mathlib.Core.List.{List}
use Prim.Native.Nat.{ℕ, ◌/◌, ◌%◌, ◌^◌, ◌<◌}
use native.Mathlib.Omega.{arith}
use borrow.Author.Tests.{ne_eqb, eqb-false, not-true}
use lib.Dec.{eqb}
use lib.Pow.{shr-shr}
use Rattle.util.specs.Choice.{choose}
use Rattle.util.proofs.Below.{every, every-at}
use Rattle.util.proofs.Choice.{both}
use Rattle.macho.specs.MachRel.{idx_of, p2size_of, extern_of, type_of}
use Rattle.macho.specs.Types.{ARM64_RELOC_UNSIGNED, ARM64_RELOC_GOT_LOAD_PAGEOFF12, ARM64_RELOC_TLVP_LOAD_PAGEOFF12, ARM64_RELOC_ADDEND}
use Rattle.macho.specs.Types.{ARM64_RELOC_AUTHENTICATED_POINTER}
use Rattle.macho.specs.declared.mach_rel.MachRel.{MachRel}
use Rattle.arch.specs.Entry.{entry_of, targeted}
use Rattle.arch.specs.Form.{form, member}
use Rattle.arch.specs.Target.{target_of}
use Rattle.arch.proofs.Forms.{each-form, implied}
use Rattle.arm64_reader.specs.Support.{forms_of, supported_of}
use Rattle.arm64_reader.specs.Plain.{plain_forms, plain_of}
use Rattle.arm64_reader.specs.Check.{pointer32, check_reloc}
use Rattle.arm64_reader.specs.Record.{addend_of, record_of}

-- it is no ADDEND, and its step is its entry
abbrev pub Plain : MachRel → Type 0
Plain r =
    (type_of r.bits ≡ ARM64_RELOC_ADDEND → ⊥)
    × ((loc sections : List ℕ) (subtracted : Bool) (offset next : ℕ)
    → record_of loc sections r subtracted offset 0 next ≡ Ok (entry_of r subtracted offset (idx_of r.bits) 0, next))

-- what is needed of a record
module _ (r : MachRel) where
  by_tests : supported_of r ≡ true → eqb (extern_of r.bits) 1 ≡ true → eqb (type_of r.bits) ARM64_RELOC_UNSIGNED ≡ false
      → eqb (type_of r.bits) ARM64_RELOC_GOT_LOAD_PAGEOFF12 ≡ false → eqb (type_of r.bits) ARM64_RELOC_TLVP_LOAD_PAGEOFF12 ≡ false
      → eqb (type_of r.bits) ARM64_RELOC_ADDEND ≡ false → eqb (type_of r.bits) ARM64_RELOC_AUTHENTICATED_POINTER ≡ false → Plain r
  unfolding record_of check_reloc pointer32 addend_of targeted target_of choose
  by_tests s x u g t a n = (eqb-false _ _ a, λ loc sections subtracted offset next. simp (s, x, u, g, t, n))

  -- and what a plain one has
  tests : plain_of r ≡ true → supported_of r ≡ true
  unfolding plain_of plain_forms supported_of forms_of every choose
  tests h = implied _ _ (each-form (λ ty p s e. not (member (form p s e) (plain_forms ty)) || member (form p s e) (forms_of ty)) refl r) h

  abbrev unlooked : ℕ → ℕ → Bool
  unlooked ty ext =
      eqb ext 1
      && (not (eqb ty ARM64_RELOC_UNSIGNED)
      && (not (eqb ty ARM64_RELOC_GOT_LOAD_PAGEOFF12)
      && (not (eqb ty ARM64_RELOC_TLVP_LOAD_PAGEOFF12) && (not (eqb ty ARM64_RELOC_ADDEND) && not (eqb ty ARM64_RELOC_AUTHENTICATED_POINTER)))))

  fields : plain_of r ≡ true → unlooked (type_of r.bits) (extern_of r.bits) ≡ true
  unfolding plain_of plain_forms every choose
  fields h = implied _ _ (each-form (λ ty p s e. not (member (form p s e) (plain_forms ty)) || unlooked ty e) refl r) h

pub plain-reads : (r : MachRel) → plain_of r ≡ true → Plain r
plain-reads r h =
    let x = both (eqb (extern_of r.bits) 1) _ (fields r h) in
    let u = both (not (eqb (type_of r.bits) ARM64_RELOC_UNSIGNED)) _ x.1 in
    let g = both (not (eqb (type_of r.bits) ARM64_RELOC_GOT_LOAD_PAGEOFF12)) _ u.1 in
    let t = both (not (eqb (type_of r.bits) ARM64_RELOC_TLVP_LOAD_PAGEOFF12)) _ g.1 in
    let a = both (not (eqb (type_of r.bits) ARM64_RELOC_ADDEND)) (not (eqb (type_of r.bits) ARM64_RELOC_AUTHENTICATED_POINTER)) t.1 in
    by_tests r (tests r h) x.0
    (not-true (eqb (type_of r.bits) ARM64_RELOC_UNSIGNED) u.0)
    (not-true (eqb (type_of r.bits) ARM64_RELOC_GOT_LOAD_PAGEOFF12) g.0)
    (not-true (eqb (type_of r.bits) ARM64_RELOC_TLVP_LOAD_PAGEOFF12) t.0)
    (not-true (eqb (type_of r.bits) ARM64_RELOC_ADDEND) a.0)
    (not-true (eqb (type_of r.bits) ARM64_RELOC_AUTHENTICATED_POINTER) a.1)

-- ---- type and form as one number, bits 24 to 31 of a record

-- whether they are a plain record's
abbrev pub plain_byte : ℕ → Bool
plain_byte k = member (form (k % 2) (k / 2 % 4) (k / 8 % 2)) (plain_forms (k / 16))

by_byte : (r : MachRel) → r.bits < 2 ^ 32 → plain_of r ≡ plain_byte (r.bits / 2 ^ 24)
unfolding plain_of
by_byte r h =
    let k = r.bits / 2 ^ 24 in
    let t : type_of r.bits ≡ k / 16 = omega arith in
    let s : p2size_of r.bits ≡ k / 2 % 4 = ap (λ (x : ℕ). x % 4) (sym (shr-shr r.bits 24 1)) in
    let e : extern_of r.bits ≡ k / 8 % 2 = ap (λ (x : ℕ). x % 2) (sym (shr-shr r.bits 24 3)) in
    rw (t, s, e)

-- a number that is one
pub plain-byte : (r : MachRel) (n : ℕ) → r.bits < 2 ^ 32 → r.bits / 2 ^ 24 ≡ n → plain_byte n ≡ true → true ≡ plain_of r
plain-byte r n h e p = sym (by_byte r h ∙ ap plain_byte e ∙ p)

-- one that is none of the eight
pub other_byte : (r : MachRel) (k : ℕ) → r.bits < 2 ^ 32 → r.bits / 2 ^ 24 ≡ k → (k ≡ 0x1c → ⊥) → (k ≡ 0x1e → ⊥) → (k ≡ 0x2d → ⊥) → (k ≡ 0x3d → ⊥)
    → (k ≡ 0x4c → ⊥) → (k ≡ 0x5d → ⊥) → (k ≡ 0x7d → ⊥) → (k ≡ 0x8d → ⊥) → false ≡ plain_of r
unfolding plain_forms every choose
other_byte r k h e n1c n1e n2d n3d n4c n5d n7d n8d =
    let f = every-at
    (λ j. eqb j 0x1c || (eqb j 0x1e || (eqb j 0x2d || (eqb j 0x3d || (eqb j 0x4c || (eqb j 0x5d || (eqb j 0x7d || (eqb j 0x8d || not (plain_byte j)))))))))
    256 refl k (omega arith) in
    sym
    (by_byte r h
    ∙ ap plain_byte e
    ∙ not-true (plain_byte k)
    (rw (
      ne_eqb k 0x1c n1c,
      ne_eqb k 0x1e n1e,
      ne_eqb k 0x2d n2d,
      ne_eqb k 0x3d n3d,
      ne_eqb k 0x4c n4c,
      ne_eqb k 0x5d n5d,
      ne_eqb k 0x7d n7d,
      ne_eqb k 0x8d n8d,
    ) at f))
