-- What a turn of a table's meaning comes to in each of its cases, as data to match on.
use mathlib.Core.Path.{◌≡◌}
use mathlib.Core.Bool.{true, false}
use mathlib.Core.List.{List}
use Prim.Native.Nat.{ℕ}
use borrow.Author.Tests.{eqb-true, eqb-false}
use lib.Dec.{eqb}
use Rattle.util.specs.Bits.{extend}
use Rattle.util.specs.Diagram.{matches}
use Rattle.util.specs.Word.{le}
use Rattle.util.proofs.Choice.{split}
use Rattle.macho.specs.Authenticated.{authenticated}
use Rattle.macho.specs.MachRel.{idx_of, p2size_of, type_of}
use Rattle.macho.specs.Types.{ARM64_RELOC_UNSIGNED, ARM64_RELOC_SUBTRACTOR, ARM64_RELOC_ADDEND, ARM64_RELOC_AUTHENTICATED_POINTER}
use Rattle.macho.specs.declared.mach_rel.MachRel.{MachRel}
use Rattle.arm64_reader.specs.Header.{nothing, less, is_defined, takes_addend, referent_of, pointer_of, authenticated_of, word_of, Turn, stop, wait, give}
use Rattle.arm64_reader.specs.Header.{lack_of, subtractor-type, subtractor-place, subtractor-size, addend-form, addend-type, addend-place}
use Rattle.arm64_reader.specs.Header.{not-authenticated, minus, plus, turn_alone, turn_minus, turn_plus}

-- a record that completes nothing
pub data Alone (contents sections : List ℕ) (r : MachRel) : Turn → Type 0 where
  odd-addend : type_of r.bits ≡ ARM64_RELOC_ADDEND → Alone contents sections r (stop addend-form)
  addend : type_of r.bits ≡ ARM64_RELOC_ADDEND → Alone contents sections r (wait (plus r))
  unknown : (type_of r.bits ≡ ARM64_RELOC_ADDEND → ⊥) → is_defined r ≡ false → Alone contents sections r (stop (lack_of r))
  subtractor : type_of r.bits ≡ ARM64_RELOC_SUBTRACTOR → is_defined r ≡ true → Alone contents sections r (wait (minus r))
  pointer : type_of r.bits ≡ ARM64_RELOC_UNSIGNED → is_defined r ≡ true → Alone contents sections r (give (pointer_of contents sections r nothing))
  authenticated-pointer : type_of r.bits ≡ ARM64_RELOC_AUTHENTICATED_POINTER → is_defined r ≡ true
      → matches authenticated (le 8 contents r.offset) ≡ true → Alone contents sections r (give (authenticated_of contents r))
  other-bits : type_of r.bits ≡ ARM64_RELOC_AUTHENTICATED_POINTER → is_defined r ≡ true
      → matches authenticated (le 8 contents r.offset) ≡ false → Alone contents sections r (stop not-authenticated)
  word : (type_of r.bits ≡ ARM64_RELOC_ADDEND → ⊥) → (type_of r.bits ≡ ARM64_RELOC_SUBTRACTOR → ⊥) → (type_of r.bits ≡ ARM64_RELOC_UNSIGNED → ⊥)
      → (type_of r.bits ≡ ARM64_RELOC_AUTHENTICATED_POINTER → ⊥) → is_defined r ≡ true → Alone contents sections r (give (word_of r 0))

pub alone : (contents sections : List ℕ) (r : MachRel) → Alone contents sections r (turn_alone contents sections r)
unfolding turn_alone
alone contents sections r =
    split A (eqb ty ARM64_RELOC_ADDEND) _ _
    (λ a. split A (is_defined r) _ _ (λ _. addend (eqb-true ty ARM64_RELOC_ADDEND a)) (λ _. odd-addend (eqb-true ty ARM64_RELOC_ADDEND a)))
    (λ a.
    split A (is_defined r) _ _
    (λ f.
    split A (eqb ty ARM64_RELOC_SUBTRACTOR) _ _ (λ s. subtractor (eqb-true ty ARM64_RELOC_SUBTRACTOR s) f)
    (λ s.
    split A (eqb ty ARM64_RELOC_AUTHENTICATED_POINTER) _ _
    (λ t.
    let p = eqb-true ty ARM64_RELOC_AUTHENTICATED_POINTER t in
    split A (matches authenticated (le 8 contents r.offset)) _ _ (λ m. authenticated-pointer p f m) (λ m. other-bits p f m))
    (λ t.
    split (λ m. A (give m)) (eqb ty ARM64_RELOC_UNSIGNED) _ _ (λ u. pointer (eqb-true ty ARM64_RELOC_UNSIGNED u) f)
    (λ u.
    word (eqb-false ty ARM64_RELOC_ADDEND a) (eqb-false ty ARM64_RELOC_SUBTRACTOR s) (eqb-false ty ARM64_RELOC_UNSIGNED u)
    (eqb-false ty ARM64_RELOC_AUTHENTICATED_POINTER t) f))))
    (λ f. unknown (eqb-false ty ARM64_RELOC_ADDEND a) f))
  where
    ty : ℕ
    ty = type_of r.bits

    A : Turn → Type 0
    A = Alone contents sections r

-- a record after SUBTRACTOR s
pub data AfterMinus (contents sections : List ℕ) (s r : MachRel) : Turn → Type 0 where
  other-type : AfterMinus contents sections s r (stop subtractor-type)
  unknown : type_of r.bits ≡ ARM64_RELOC_UNSIGNED → is_defined r ≡ false → AfterMinus contents sections s r (stop (lack_of r))
  other_place : AfterMinus contents sections s r (stop subtractor-place)
  other-size : AfterMinus contents sections s r (stop subtractor-size)
  difference : type_of r.bits ≡ ARM64_RELOC_UNSIGNED → is_defined r ≡ true → r.offset ≡ s.offset → p2size_of r.bits ≡ p2size_of s.bits
      → AfterMinus contents sections s r (give (pointer_of contents sections r (less (referent_of s))))

pub after_minus : (contents sections : List ℕ) (s r : MachRel) → AfterMinus contents sections s r (turn_minus contents sections s r)
unfolding turn_minus
after_minus contents sections s r =
    split A (eqb (type_of r.bits) ARM64_RELOC_UNSIGNED) _ _
    (λ u.
    split A (is_defined r) _ _
    (λ f.
    split A (eqb r.offset s.offset) _ _
    (λ o.
    split A (eqb (p2size_of r.bits) (p2size_of s.bits)) _ _
    (λ z.
    difference (eqb-true (type_of r.bits) ARM64_RELOC_UNSIGNED u) f (eqb-true r.offset s.offset o)
    (eqb-true (p2size_of r.bits) (p2size_of s.bits) z))
    (λ _. other-size))
    (λ _. other_place))
    (λ f. unknown (eqb-true (type_of r.bits) ARM64_RELOC_UNSIGNED u) f))
    (λ _. other-type)
  where
    A : Turn → Type 0
    A = AfterMinus contents sections s r

-- a record after ADDEND a
pub data AfterPlus (a r : MachRel) : Turn → Type 0 where
  other-type : AfterPlus a r (stop addend-type)
  unknown : is_defined r ≡ false → AfterPlus a r (stop (lack_of r))
  other_place : AfterPlus a r (stop addend-place)
  sum : takes_addend (type_of r.bits) ≡ true → is_defined r ≡ true → r.offset ≡ a.offset → AfterPlus a r (give (word_of r (extend (idx_of a.bits) 24)))

pub after_plus : (a r : MachRel) → AfterPlus a r (turn_plus a r)
unfolding turn_plus
after_plus a r =
    split A (takes_addend (type_of r.bits)) _ _
    (λ t.
    split A (is_defined r) _ _
    (λ f. split A (eqb r.offset a.offset) _ _ (λ o. sum t f (eqb-true r.offset a.offset o)) (λ _. other_place))
    (λ f. unknown f))
    (λ _. other-type)
  where
    A : Turn → Type 0
    A = AfterPlus a r
