-- The order of work as an order of hints: strictly rising in object number, then whether it is an ADRP_ADRP hint, then list position (RULES 8.28).
use Rattle.std.specs.Prelude.{◌≡◌, Bool, true, false, List, [], ◌∷◌, ℕ, ◌<◌}
use Rattle.util.specs.All.{All}

-- hint i is worked before hint j
pub data Before (obj : ℕ → ℕ) (late : ℕ → Bool) (i j : ℕ) : Type 0 where
  by-object : obj i < obj j → Before obj late i j
  by-pass : obj i ≡ obj j → late i ≡ false → late j ≡ true → Before obj late i j
  by-position : obj i ≡ obj j → late i ≡ late j → i < j → Before obj late i j

-- each member of a list is worked before all that follow it
pub data Rising (obj : ℕ → ℕ) (late : ℕ → Bool) : List ℕ → Type 0 where
  last : Rising obj late []
  first : {k : ℕ} {l : List ℕ} → All (Before obj late k) l → Rising obj late l → Rising obj late (k ∷ l)
