-- The value at a place, from its first byte up: what is put together so far stands below the value of the bytes that follow.
use mathlib.Core.Path.{◌≡◌, sym, ap, ◌∙◌, subst}
use mathlib.Core.List.{List}
use Prim.Native.Nat.{ℕ, ◌+◌, ◌*◌, ◌%◌, ◌≤◌, ◌<◌}
use native.Mathlib.Omega.{arith}
use native.Mathlib.Numerals.{add-one}
use native.Mathlib.Nat.{mul-add, mul_assoc, mul_comm, mul-le-mul_left}
use lib.ListN.{length, get_or}
use Rattle.uleb.proofs.Reading.{Stands, last-stands, more-stands}

-- a byte of seven bits at a scale has room below the next one
pub has_room : (value scale g : ℕ) → value < scale → g < 128 → value + scale * g < 128 * scale
has_room value scale g h b =
    let most : g ≤ 127 = omega arith in
    omega (arith, mul-le-mul_left scale most)

-- what stands at a place follows from what stands at i: that is scaled, and the bytes between have the value below it
abbrev pub Above : List ℕ → ℕ → ℕ → ℕ → ℕ → Type 0
Above l at value scale i = (v end : ℕ) → Stands l i v end → Stands l at (value + scale * v) end

-- there are none between at first
pub above-first : (l : List ℕ) (at : ℕ) → Above l at 0 1 at
above-first l at v end s =
    let same : v ≡ 0 + 1 * v = omega arith in
    subst (λ (x : ℕ). Stands l at x end) same s

-- one byte further up
pub above_more : (l : List ℕ) (at value scale i : ℕ) → i < length l → 128 ≤ get_or l i 0 → Above l at value scale i
    → Above l at (value + scale * (get_or l i 0 % 128)) (128 * scale) (i + 1)
above_more l at value scale i h b f v end s =
    subst (λ (x : ℕ). Stands l at x end) (scaled (get_or l i 0 % 128))
    (f (get_or l i 0 % 128 + 128 * v) end (more-stands l i v end h b (rw (← add-one i) s)))
  where
    scaled : (g : ℕ) → value + scale * (g + 128 * v) ≡ value + scale * g + 128 * scale * v
    scaled g =
        let moved : scale * (128 * v) ≡ 128 * scale * v = sym (mul_assoc scale 128 v) ∙ ap (λ (x : ℕ). x * v) (mul_comm scale 128) in
        omega (arith, mul-add scale g (128 * v), moved)

-- at its last byte it is whole
pub above-last : (l : List ℕ) (at value scale i : ℕ) → i < length l → get_or l i 0 < 128 → Above l at value scale i
    → Stands l at (value + scale * get_or l i 0) (i + 1)
above-last l at value scale i h b f = f (get_or l i 0) (i + 1) (last-stands l i h b)
