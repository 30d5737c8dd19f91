-- Two numbers by cases, by the tests of them.
use Rattle.std.proofs.Common.{◌≡◌, ℕ, ◌<◌, ◌≤◌, Bool, true, false, eqb, ltb, ◌≢◌, refl, ltb-false, ltb-true, eqb-true}
use borrow.Author.Tests.{eqb-false}

pub same_or : {G : Type 0} (j k : ℕ) → (j ≡ k → G) → (j ≢ k → G) → G
same_or {G} j k f g = go (eqb j k) refl
  where
    go : (b : Bool) → eqb j k ≡ b → G
    go true e = f (eqb-true j k e)
    go false e = g (eqb-false j k e)

pub less-or : {G : Type 0} (j k : ℕ) → (j < k → G) → (k ≤ j → G) → G
less-or {G} j k f g = go (ltb j k) refl
  where
    go : (b : Bool) → ltb j k ≡ b → G
    go true e = f (ltb-true j k e)
    go false e = g (ltb-false j k e)
