-- Runs of hint steps by a list (RULES 9.22 to 9.26): their answers, lists that keep each object's order, hints that share no byte.
-- `write` gives the image after hint k, `out` its answer, `add` the tally with one answer more, `foot` the bytes that count as hint k's.
use Rattle.std.specs.Prelude.{◌≡◌, ◌≢◌, Bool, List, [], ◌∷◌, ℕ, ◌<◌}
use Rattle.image.specs.Local.{Apart}
use Rattle.arm64_hint_order.specs.Lists.{of_obj, own_list}

-- the answers of a list's steps from an image on, in the list's order
abbrev pub answers : {A : Type 0} → (ℕ → List ℕ → List ℕ) → (ℕ → List ℕ → A) → List ℕ → List ℕ → List A
answers write out [] x = []
answers write out (k ∷ l) x = out k x ∷ answers write out l (write k x)

-- a tally with a list of answers more
abbrev pub add_all : {A T : Type 0} → (A → T → T) → List A → T → T
add_all add [] t = t
add_all add (a ∷ more) t = add_all add more (add a t)

-- a list in which each object's hints stand in the run's order
abbrev pub Kept : (ℕ → ℕ) → (ℕ → Bool) → ℕ → List ℕ → Type 0
Kept obj late n l = (o : ℕ) → of_obj obj o l ≡ of_obj obj o (own_list obj late n)

-- hints of different objects share no byte
abbrev pub ObjectsApart : ℕ → (ℕ → ℕ) → (ℕ → ℕ → Bool) → Type 0
ObjectsApart n obj foot = (i j : ℕ) → i < n → j < n → obj i ≢ obj j → Apart (foot i) (foot j)

-- no other hint shares a byte with hint k
abbrev pub Alone : ℕ → (ℕ → ℕ → Bool) → ℕ → Type 0
Alone n foot k = (j : ℕ) → j < n → j ≢ k → Apart (foot j) (foot k)
