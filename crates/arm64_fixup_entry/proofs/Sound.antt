-- What a passed check says: each test of the chain failed.
use Rattle.std.specs.Prelude.{Result, Ok, Err, ⊤}
use mathlib.Core.Path.{◌≡◌, refl, sym, ◌∙◌}
use mathlib.Core.Bool.{Bool, true, false, true≢false}
use Prim.Native.Nat.{ℕ, ◌+◌, ◌-◌, ◌^◌, ◌≤◌, ◌<◌}
use native.Mathlib.Omega.{arith}
use borrow.Author.Tests.{ltb-false, leb-false, eqb-false}
use lib.Dec.{eqb, leb}
use Rattle.util.specs.Choice.{choose}
use Rattle.macho.specs.Types.{ARM64_RELOC_AUTHENTICATED_POINTER}
use Rattle.macho.specs.declared.reloc.Reloc.{Reloc}
use Rattle.macho.specs.declared.resolved.Resolved.{Resolved}
use Rattle.macho.specs.declared.refusal.Refusal.{Refusal}
use Rattle.arm64_fixup_entry.specs.Target.{imported_symbol, address_of, from_image, width_of}
use Rattle.arm64_fixup_entry.specs.Check.{outside, misflagged, overflows, unsupported, subtracts, lacks_next, lacks_symbol, too_far, short, check_of}
use Rattle.arm64_fixup_entry.specs.declared.target.Bases.{Bases}

-- an entry that is turned down with no number
pub record Sound (len : ℕ) (b : Bases) (e : Reloc) (t : Resolved) (last : Bool) : Type 0 where
  pub flags : misflagged t ≡ false
  pub address : address_of b e < 2 ^ 64
  pub known : unsupported e.ty ≡ false
  pub paired : lacks_next e.ty last ≡ false
  pub symbol : lacks_symbol e t ≡ false
  pub near : too_far b e t ≡ false
  pub inside : e.offset + width_of e t ≤ len

-- a test that was passed
pub passed : (t : Bool) (r : Refusal) (c : Result ⊤ Refusal) → choose t (Err r) c ≡ Ok tt → (t ≡ false) × (c ≡ Ok tt)
unfolding choose
passed true r c e = let z : ◌≡◌ {A = ℕ} 0 1 = cc in absurd (omega arith)
passed false r c e = (refl, e)

pub sound : (len : ℕ) (b : Bases) (e : Reloc) (t : Resolved) (last : Bool) → check_of len b e t last ≡ Ok tt → Sound len b e t last
unfolding check_of
sound len b e t last h =
    let p₁ = passed (outside len e) _ _ h in
    let p₂ = passed (misflagged t) _ _ p₁.1 in
    let p₃ = passed (overflows b e) _ _ p₂.1 in
    let p₄ = passed (unsupported e.ty) _ _ p₃.1 in
    let p₅ = passed (lacks_next e.ty last) _ _ p₄.1 in
    let p₆ = passed (lacks_symbol e t) _ _ p₅.1 in
    let p₇ = passed (too_far b e t) _ _ p₆.1 in
    let p₈ = passed (short len e t) _ _ p₇.1 in
    record {
      flags = p₂.0;
      address = leb-false _ _ p₃.0;
      known = p₄.0;
      paired = p₅.0;
      symbol = p₆.0;
      near = p₇.0;
      inside = omega (arith, ltb-false len e.offset p₁.0, ltb-false (len - e.offset) (width_of e t) p₈.0);
    }

-- a SUBTRACTOR that passes is not the last entry
pub followed : (len : ℕ) (b : Bases) (e : Reloc) (t : Resolved) (i n : ℕ)
    → check_of len b e t (eqb (i + 1) n) ≡ Ok tt → subtracts e.ty ≡ true → i < n → i + 1 < n
followed len b e t i n h s l =
    let e : eqb (i + 1) n ≡ false = go (eqb (i + 1) n) (sound len b e t _ h).paired in
    omega (arith, eqb-false (i + 1) n e)
  where
    go : (last : Bool) → lacks_next e.ty last ≡ false → last ≡ false
    go true p = absurd (true≢false (sym s ∙ p))
    go false p = refl

-- an authenticated pointer that passes and is written lies less than 2^32 above the image base
pub near-image : {len : ℕ} {b : Bases} {e : Reloc} {t : Resolved} {last : Bool} → Sound len b e t last → e.ty ≡ ARM64_RELOC_AUTHENTICATED_POINTER
    → imported_symbol e t ≡ false → from_image b e t < 2 ^ 32
near-image {b = b} {e = e} {t = t} s h i =
    let far : too_far b e t ≡ leb (2 ^ 32) (from_image b e t) = rw (h, i) in
    leb-false (2 ^ 32) (from_image b e t) (sym far ∙ s.near)
