-- Forms of either machine: each fact by one test of every type and form, computed for each table (`each-form` of arch).
use mathlib.Core.Path.{◌≡◌, refl, sym, ◌∙◌}
use mathlib.Core.Logic.{◌⊎◌, inl, inr}
use mathlib.Core.Bool.{Bool, true, not, ◌&&◌, ◌||◌}
use mathlib.Core.List.{List}
use Prim.Native.Nat.{ℕ, ◌/◌, ◌%◌}
use borrow.Author.Tests.{eq-eqb, eqb-true}
use lib.Dec.{eqb}
use Rattle.util.specs.Choice.{choose}
use Rattle.util.proofs.Below.{every}
use Rattle.util.proofs.Choice.{both, either}
use Rattle.macho.specs.MachRel.{pcrel_of, p2size_of, extern_of, type_of}
use Rattle.macho.specs.declared.mach_rel.MachRel.{MachRel}
use Rattle.arch.specs.Form.{Form, form, member, forms_in, supported_in, table_fits}
use Rattle.arch.proofs.Forms.{each-form, implied, supported-bits, past-table}
use Rattle.arm64_reader.specs.Support as Arm64
use Rattle.x86_64_reader.specs.Support as X86
use Rattle.claims.specs.Forms.{Machine, arm64, x86-64, table_of, unsigned_of, subtractor_of, Forms}

-- a test of type and fields that follows from the table, and whether it holds of every type and form
abbrev follows : List (List Form) → (ℕ → ℕ → ℕ → ℕ → Bool) → ℕ → ℕ → ℕ → ℕ → Bool
follows table f ty p s e = not (member (form p s e) (forms_in table ty)) || f ty p s e

abbrev Holds : List (List Form) → (ℕ → ℕ → ℕ → ℕ → Bool) → Type 0
Holds table f = every (λ k. follows table f (k / 16) (k % 2) (k / 2 % 4) (k / 8 % 2)) 256 ≡ true

fact : (table : List (List Form)) (f : ℕ → ℕ → ℕ → ℕ → Bool) → Holds table f → (r : MachRel) → supported_in table r ≡ true
    → f (type_of r.bits) (pcrel_of r.bits) (p2size_of r.bits) (extern_of r.bits) ≡ true
fact table f h r s = implied _ _ (each-form (follows table f) h r) s

-- the tests
abbrev sized : ℕ → ℕ → ℕ → ℕ → Bool
sized ty p s e = eqb s 0 || (eqb s 2 || eqb s 3)

abbrev eight : ℕ → ℕ → ℕ → ℕ → Bool
eight ty p s e = not (eqb s 3) || eqb p 0

abbrev byte : ℕ → ℕ → ℕ → ℕ → Bool
byte ty p s e = not (eqb s 0) || (eqb p 1 && eqb e 1)

abbrev symbol : ℕ → ℕ → ℕ → ℕ → ℕ → Bool
symbol subtractor ty p s e = not (eqb ty subtractor) || eqb e 1

sized-holds : (m : Machine) → Holds (table_of m) sized
unfolding every choose
sized-holds arm64 = refl
sized-holds x86-64 = refl

eight-holds : (m : Machine) → Holds (table_of m) eight
unfolding every choose
eight-holds arm64 = refl
eight-holds x86-64 = refl

byte-holds : (m : Machine) → Holds (table_of m) byte
unfolding every choose
byte-holds arm64 = refl
byte-holds x86-64 = refl

symbol-holds : (m : Machine) → Holds (table_of m) (symbol (subtractor_of m))
unfolding every choose
symbol-holds arm64 = refl
symbol-holds x86-64 = refl

fits : (m : Machine) → table_fits (table_of m) ≡ true
fits arm64 = refl
fits x86-64 = refl

-- the forms of UNSIGNED and SUBTRACTOR are arm64's
unsigned_is : (m : Machine) → forms_in (table_of m) (unsigned_of m) ≡ forms_in (table_of arm64) (unsigned_of arm64)
unsigned_is arm64 = refl
unsigned_is x86-64 = refl

subtractor-is : (m : Machine) → forms_in (table_of m) (subtractor_of m) ≡ forms_in (table_of arm64) (subtractor_of arm64)
subtractor-is arm64 = refl
subtractor-is x86-64 = refl

sizes : (r : MachRel) → sized (type_of r.bits) (pcrel_of r.bits) (p2size_of r.bits) (extern_of r.bits) ≡ true
    → (p2size_of r.bits ≡ 0) ⊎ ((p2size_of r.bits ≡ 2) ⊎ (p2size_of r.bits ≡ 3))
sizes r h =
    either (eqb (p2size_of r.bits) 0) (eqb (p2size_of r.bits) 2 || eqb (p2size_of r.bits) 3) h
    (λ e. inl (eqb-true _ _ e))
    (λ g. either (eqb (p2size_of r.bits) 2) (eqb (p2size_of r.bits) 3) g (λ e. inr (inl (eqb-true _ _ e))) (λ e. inr (inr (eqb-true _ _ e))))

pub forms : Forms
unfolding Arm64.supported_of X86.supported_of
forms =
    record {
      arm64-by-table = λ r. refl;
      x86-by-table = λ r. refl;
      fits = fits;
      supported-bits = supported-bits;
      past-table = past-table;
      sizes = λ m r s. sizes r (fact (table_of m) sized (sized-holds m) r s);
      eight-bytes = λ m r s e.
          eqb-true (pcrel_of r.bits) 0 (implied _ _ (fact (table_of m) eight (eight-holds m) r s) (eq-eqb _ _ e));
      one_byte = λ m r s e.
          let b = both (eqb (pcrel_of r.bits) 1) (eqb (extern_of r.bits) 1)
          (implied _ _ (fact (table_of m) byte (byte-holds m) r s) (eq-eqb _ _ e)) in
          (eqb-true (pcrel_of r.bits) 1 b.0, eqb-true (extern_of r.bits) 1 b.1);
      unsigned-alike = λ m n. unsigned_is m ∙ sym (unsigned_is n);
      subtractor-alike = λ m n. subtractor-is m ∙ sym (subtractor-is n);
      subtractor-symbol = λ m r s e.
          eqb-true (extern_of r.bits) 1 (implied _ _ (fact (table_of m) (symbol (subtractor_of m)) (symbol-holds m) r s) (eq-eqb _ _ e));
    }
