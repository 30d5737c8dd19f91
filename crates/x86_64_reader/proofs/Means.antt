-- What an entry says of its place: as many bytes as were read; the bias; and for a section the displacement that stood there.
use mathlib.Core.Path.{◌≡◌, refl, ap, ◌∙◌}
use mathlib.Core.Bool.{true, not, ◌||◌}
use mathlib.Core.List.{List, [], ◌∷◌}
use Prim.Native.Nat.{ℕ, ◌+◌, ◌-◌, ◌%◌, ◌^◌, ◌<◌}
use native.Mathlib.Omega.{arith}
use borrow.Author.Tests.{ne_eqb, eqb-true}
use lib.Dec.{eqb, lit<, lit≤}
use lib.ListN.{get_or}
use Rattle.util.specs.Choice.{choose}
use Rattle.util.specs.Word.{le}
use Rattle.util.specs.Wrap.{sum, diff}
use Rattle.util.proofs.Below.{every}
use Rattle.util.proofs.Word.{le-lt}
use Rattle.util.proofs.Choice.{chosen}
use Rattle.util.proofs.Extend.{extend-lt}
use Rattle.util.proofs.Wrap.{sum_lt, sum-diff, diff-sum}
use Rattle.macho.specs.MachRel.{idx_of, pcrel_of, p2size_of, extern_of, type_of}
use Rattle.macho.specs.Types.{X86_64_RELOC_SIGNED_1, X86_64_RELOC_SIGNED_2, X86_64_RELOC_SIGNED_4}
use Rattle.macho.specs.declared.mach_rel.MachRel.{MachRel}
use Rattle.arch.specs.Form.{form, member, forms_in}
use Rattle.arch.specs.Target.{addend_in}
use Rattle.arch.proofs.Forms.{each-form, implied}
use Rattle.x86_64_reader.specs.Support.{forms, supported_of}
use Rattle.x86_64_reader.specs.Addend.{width_of, bias_of, embedded_at, added_by, displacement}

-- a supported record reads as many bytes as its entry's size says
pub width_is : (r : MachRel) → supported_of r ≡ true → width_of (p2size_of r.bits) ≡ 2 ^ p2size_of r.bits
unfolding supported_of width_of every choose
width_is r h =
    eqb-true _ _
    (implied _ _ (each-form (λ ty p s e. not (member (form p s e) (forms_in forms ty)) || eqb (width_of s) (2 ^ s)) refl r) h)

-- what stands in a place has 64 bits
embedded-lt : (s : List ℕ) (at p : ℕ) → embedded_at s at p < 2 ^ 64
unfolding embedded_at
embedded-lt s at p =
    chosen (λ (v : ℕ). v < 2 ^ 64) (eqb p 0) _ _ (extend-lt (le 1 s at) 8 (lit≤ tt))
    (chosen (λ (v : ℕ). v < 2 ^ 64) (eqb p 2) _ _ (extend-lt (le 4 s at) 32 (lit≤ tt)) (le-lt 8 s at))

-- the bias of each type
pub biased : bias_of X86_64_RELOC_SIGNED_1 ∷ bias_of X86_64_RELOC_SIGNED_2 ∷ bias_of X86_64_RELOC_SIGNED_4 ∷ [] ≡ 1 ∷ 2 ∷ 4 ∷ []
unfolding bias_of choose
biased = refl

pub unbiased : (ty : ℕ) → (ty ≡ X86_64_RELOC_SIGNED_1 → ⊥) → (ty ≡ X86_64_RELOC_SIGNED_2 → ⊥) → (ty ≡ X86_64_RELOC_SIGNED_4 → ⊥) → bias_of ty ≡ 0
unfolding bias_of choose
unbiased ty a b c = rw (ne_eqb ty X86_64_RELOC_SIGNED_1 a, ne_eqb ty X86_64_RELOC_SIGNED_2 b, ne_eqb ty X86_64_RELOC_SIGNED_4 c)

sum-four : (a o : ℕ) → sum (sum a o) 4 ≡ sum a (o + 4)
sum-four a o = omega arith

sum_comm : (a b : ℕ) → sum a b ≡ sum b a
sum_comm a b = ap (λ (n : ℕ). n % 2 ^ 64) {x = a + b} {y = b + a} (omega arith)

back : (a o v b s : ℕ) → v < 2 ^ 64 → s < 2 ^ 64 → b < 2 ^ 64
    → diff (diff (sum s (diff (sum (sum a (o + 4)) (sum v b)) s)) (sum (sum a o) 4)) b ≡ v
back a o v b s hv hs hb =
    ap (λ (x : ℕ). diff x b)
    (ap (λ (x : ℕ). diff x (sum (sum a o) 4)) (sum-diff (sum (sum a (o + 4)) (sum v b)) s (sum_lt (sum a (o + 4)) (sum v b)) hs)
    ∙ ap (diff (sum (sum a (o + 4)) (sum v b))) (sum-four a o)
    ∙ diff-sum (sum a (o + 4)) (sum v b) (sum_lt a (o + 4)) (sum_lt v b)
    ∙ sum_comm v b)
    ∙ diff-sum b v hb hv

bias-most : (ty : ℕ) → bias_of ty < 2 ^ 64
unfolding bias_of
bias-most ty =
    chosen P (eqb ty X86_64_RELOC_SIGNED_1) _ _ (lit< tt)
    (chosen P (eqb ty X86_64_RELOC_SIGNED_2) _ _ (lit< tt) (chosen P (eqb ty X86_64_RELOC_SIGNED_4) _ _ (lit< tt) (lit< tt)))
  where
    P : ℕ → Type 0
    P v = v < 2 ^ 64

-- a pc-relative record of a section: where section and place stay at the addresses that the reader was lent, the displacement is the one that stood there
pub displacement-kept : (contents sections : List ℕ) (address : ℕ) (r : MachRel) → extern_of r.bits ≡ 0 → pcrel_of r.bits ≡ 1
    → get_or sections (idx_of r.bits - 1) 0 < 2 ^ 64
    → displacement (type_of r.bits) (sum address r.offset)
    (sum (get_or sections (idx_of r.bits - 1) 0) (addend_in sections r (added_by contents address r)))
    ≡ embedded_at contents r.offset (p2size_of r.bits)
unfolding added_by choose
displacement-kept contents sections address r x p h =
    rw (ap (λ (e : ℕ). eqb e 1) x, ap (λ (q : ℕ). eqb q 1) p)
    (back address r.offset (embedded_at contents r.offset (p2size_of r.bits)) (bias_of (type_of r.bits))
    (get_or sections (idx_of r.bits - 1) 0) (embedded-lt contents r.offset (p2size_of r.bits)) h (bias-most (type_of r.bits)))
