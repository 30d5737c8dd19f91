-- What an entry writes lies within its width: no case of its type stores more.
use mathlib.Core.Path.{◌≡◌, refl}
use mathlib.Core.Bool.{Bool, true, false}
use Prim.Native.Nat.{ℕ, zero-le, ◌%◌, ◌^◌, ◌≤◌}
use native.Mathlib.Nat.{le_trans}
use borrow.Author.Tests.{eqb-false}
use lib.Dec.{eqb, lit≤}
use Rattle.util.specs.Choice.{choose}
use Rattle.util.proofs.Choice.{chosen, split, choose-true}
use Rattle.macho.specs.Types.{ARM64_RELOC_UNSIGNED, ARM64_RELOC_AUTHENTICATED_POINTER}
use Rattle.macho.specs.declared.reloc.Reloc.{Reloc}
use Rattle.macho.specs.declared.resolved.Resolved.{Resolved}
use Rattle.arm64_fixup_entry.specs.Target.{imported_symbol, is_pointer, width_of}
use Rattle.arm64_fixup_entry.specs.Check.{subtracts}
use Rattle.arm64_fixup_entry.specs.Change.{bytes_in, silent, word_change, difference, change_of}
use Rattle.arm64_fixup_entry.specs.declared.target.Bases.{Bases}
use Rattle.arm64_fixup_entry.specs.declared.change.Site.{Site}
use Rattle.arm64_fixup_entry.specs.declared.change.Write.TheVariants.{Word, Pointer}
use Rattle.arm64_fixup_entry.specs.declared.change.Change.{Change}
use Rattle.arm64_fixup_entry.proofs.Shapes.{of_word}

-- that a change stores at most n bytes
Fits : ℕ → Change → Type 0
Fits n c = bytes_in c.write ≤ n

word_fits : (s : Site) (e : Reloc) (t : Resolved) (word : ℕ) → Fits 4 (word_change s e t word)
unfolding Fits
word_fits s = of_word (Fits 4) s (lit≤ tt) (λ w. lit≤ tt) (λ w kind target. lit≤ tt) (λ kind size. lit≤ tt)

-- a width that is not 0
pub wide : (e : Reloc) (t : Resolved) → eqb (width_of e t) 0 ≡ false → 4 ≤ width_of e t
unfolding width_of
wide e t =
    chosen P _ _ _ (chosen P (imported_symbol e t) 0 8 zero-out (λ h. lit≤ tt))
    (chosen P _ _ _ (chosen P _ 4 8 (λ h. lit≤ tt) (λ h. lit≤ tt)) (chosen P _ _ 4 (chosen P _ 4 0 (λ h. lit≤ tt) zero-out) (λ h. lit≤ tt)))
  where
    P : ℕ → Type 0
    P n = eqb n 0 ≡ false → 4 ≤ n

    zero-out : P 0
    zero-out h = absurd (eqb-false 0 0 h refl)

pointer-wide : (e : Reloc) (t : Resolved) → is_pointer e.ty ≡ true → eqb (width_of e t) 0 ≡ false → 8 ≤ width_of e t
unfolding width_of
pointer-wide e t u =
    rw (choose-true {A = ℕ} (is_pointer e.ty) (choose (imported_symbol e t) 0 8) _ u)
    (chosen (λ (n : ℕ). eqb n 0 ≡ false → 8 ≤ n) (imported_symbol e t) 0 8 (λ h. absurd (eqb-false 0 0 h refl)) (λ h. lit≤ tt))

difference-fits : (e : Reloc) (t : Resolved) (value : ℕ) → eqb e.ty ARM64_RELOC_UNSIGNED ≡ false
    → eqb e.ty ARM64_RELOC_AUTHENTICATED_POINTER ≡ false → subtracts e.ty ≡ true
    → Fits (width_of e t) (difference e value)
unfolding width_of difference Fits choose
difference-fits e t value u a s = rw (u, a, s) (go (eqb e.size 4))
  where
    go : (q : Bool) → bytes_in (choose q (silent (Word (value % 2 ^ 32))) (silent (Pointer value))).write ≤ choose q 4 8
    go true = lit≤ tt
    go false = lit≤ tt

-- what entry i stores fits in its width
pub change-fits : (b : Bases) (i : ℕ) (e : Reloc) (t : Resolved) (next : Reloc) (next_target : Resolved) (word : ℕ)
    → bytes_in (change_of b i e t next next_target word).write ≤ width_of e t
unfolding change_of Fits
change-fits b i e t next next_target word =
    split (Fits (width_of e t)) (eqb (width_of e t) 0) _ _ (λ z. zero-le)
    (λ z.
    split (Fits (width_of e t)) (eqb e.ty ARM64_RELOC_UNSIGNED) _ _ (λ u. pointer-wide e t (rw u) z)
    (λ u.
    split (Fits (width_of e t)) (eqb e.ty ARM64_RELOC_AUTHENTICATED_POINTER) _ _ (λ a. pointer-wide e t (rw (u, a)) z)
    (λ a.
    split (Fits (width_of e t)) (subtracts e.ty) _ _ (λ s. difference-fits e t _ u a s)
    (λ s. le_trans (word_fits _ e t word) (wide e t z)))))
