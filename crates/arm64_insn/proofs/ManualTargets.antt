-- In reach, an immediate made of a displacement leads to the target: by the law of sign-extended displacements.
use mathlib.Core.Path.{◌≡◌, refl, sym, ap, ◌∙◌}
use mathlib.Core.Bool.{Bool, true, false}
use Prim.Native.Nat.{ℕ, ◌+◌, ◌*◌, ◌%◌, ◌^◌, ◌<◌}
use native.Mathlib.Nat.{add-zero}
use native.Mathlib.Omega.{arith}
use borrow.Author.Tests.{ltb-true, ltb-false, lt-ltb, le-ltb}
use lib.Dec.{ltb, lit<}
use lib.Pow.{mod-pow-add}
use Rattle.util.specs.Choice.{choose}
use Rattle.util.specs.Bits.{field, extend}
use Rattle.util.specs.Wrap.{sum, diff, in_range}
use Rattle.util.proofs.Extend.{extend-low, extend-reaches}
use Rattle.arm64_insn.specs.Page.{page_of, adrp_page}
use Rattle.arm64_insn.specs.ManualTargets.{adr_target, literal_target, branch_target}

-- a multiple of 2^k is its bits from k on, shifted up
whole : (d j k : ℕ) → d % 2 ^ k ≡ 0 → field d k j * 2 ^ k ≡ d % 2 ^ (j + k)
whole d j k h = sym (mod-pow-add d j k ∙ ap (λ (r : ℕ). field d k j * 2 ^ k + r) h ∙ add-zero _)

module _ (t p : ℕ) (ht : t < 2 ^ 64) (hp : p < 2 ^ 64) where
  -- ADR
  pub adr-reaches : in_range (diff t p) (2 ^ 20) (2 ^ 20) ≡ true → adr_target (diff t p % 2 ^ 21) p ≡ t
  unfolding adr_target
  adr-reaches h = rw (extend-low (diff t p) 21) (extend-reaches t p 21 (lit< tt) (lit< tt) ht hp h)

  -- a literal load of a target that is a whole number of words away
  pub literal-reaches : in_range (diff t p) (2 ^ 20) (2 ^ 20) ≡ true → diff t p % 4 ≡ 0 → literal_target (field (diff t p) 2 19) p ≡ t
  unfolding literal_target
  literal-reaches h w =
      rw (whole (diff t p) 19 2 w, extend-low (diff t p) 21) (extend-reaches t p 21 (lit< tt) (lit< tt) ht hp h)

  -- B and BL
  pub branch-reaches : in_range (diff t p) (2 ^ 27) (2 ^ 27) ≡ true → diff t p % 4 ≡ 0 → branch_target (field (diff t p) 2 26) p ≡ t
  unfolding branch_target
  branch-reaches h w =
      rw (whole (diff t p) 26 2 w, extend-low (diff t p) 28) (extend-reaches t p 28 (lit< tt) (lit< tt) ht hp h)

-- the manual's own sum for ADRP: the immediate with 12 zeros below it, as a signed number of 33 bits
pub adrp-page : (imm p : ℕ) → adrp_page imm p ≡ sum (page_of p) (extend (imm * 2 ^ 12) 33)
unfolding adrp_page choose
adrp-page imm p = go (ltb (imm % 2 ^ 21) (2 ^ 20)) refl
  where
    e : (imm * 2 ^ 12) % 2 ^ 33 ≡ imm % 2 ^ 21 * 2 ^ 12
    e = omega arith

    go : (b : Bool) → ltb (imm % 2 ^ 21) (2 ^ 20) ≡ b → sum (page_of p) (extend imm 21 * 2 ^ 12) ≡ sum (page_of p) (extend (imm * 2 ^ 12) 33)
    go true u =
        let l = ltb-true (imm % 2 ^ 21) (2 ^ 20) u in
        rw (u, e, lt-ltb (imm % 2 ^ 21 * 2 ^ 12) (2 ^ 32) (omega arith))
    go false u =
        let l = ltb-false (imm % 2 ^ 21) (2 ^ 20) u in
        rw (u, e, le-ltb (imm % 2 ^ 21 * 2 ^ 12) (2 ^ 32) (omega arith)) (omega arith)

-- ADRP
pub adrp-reaches : (t p : ℕ) → t < 2 ^ 64 → p < 2 ^ 64 → in_range (diff (page_of t) (page_of p)) (2 ^ 32) (2 ^ 32) ≡ true
    → adrp_page (field (diff (page_of t) (page_of p)) 12 21) p ≡ page_of t
unfolding page_of
adrp-reaches t p ht hp h =
    let w : diff (page_of t) (page_of p) % 2 ^ 12 ≡ 0 = omega arith in
    adrp-page (field (diff (page_of t) (page_of p)) 12 21) p
    ∙ rw (whole (diff (page_of t) (page_of p)) 21 12 w, extend-low (diff (page_of t) (page_of p)) 33)
    (extend-reaches (page_of t) (page_of p) 33 (lit< tt) (lit< tt) (omega arith) (omega arith) h)
