-- What holds of both ways of a choice holds of the choice; tests that agree.
use Rattle.std.proofs.Common.{◌≡◌, Bool, true, false, not, ◌&&◌, ◌||◌, sym, refl}
use mathlib.Core.Bool.{false≢true}
use Rattle.util.specs.Choice.{choose}

-- by the test
pub split {ℓ} : {A : Type 0} (P : A → Type ℓ) (t : Bool) (a b : A) → (t ≡ true → P a) → (t ≡ false → P b) → P (choose t a b)
unfolding choose
split P true a b f g = f refl
split P false a b f g = g refl

-- whatever the test says
pub chosen {ℓ} : {A : Type 0} (P : A → Type ℓ) (t : Bool) (a b : A) → P a → P b → P (choose t a b)
chosen P t a b p q = split P t a b (λ _. p) (λ _. q)

-- a choice between the same
pub choose-same : {A : Type 0} (t : Bool) (a b : A) → a ≡ b → choose t a b ≡ b
choose-same {A} t a b e = chosen (λ (x : A). x ≡ b) t a b e refl

-- a choice whose test holds, and one whose test fails
pub choose-true : {A : Type 0} (t : Bool) (a b : A) → t ≡ true → choose t a b ≡ a
unfolding choose
choose-true t a b e = rw e

pub choose-false : {A : Type 0} (t : Bool) (a b : A) → t ≡ false → choose t a b ≡ b
unfolding choose
choose-false t a b e = rw e

-- a function of a choice
pub choose-ap : {A B : Type 0} (f : A → B) (t : Bool) (a b : A) → f (choose t a b) ≡ choose t (f a) (f b)
unfolding choose
choose-ap f true a b = refl
choose-ap f false a b = refl

-- a test and one that holds
pub and-true : (t : Bool) → (t && true) ≡ t
and-true true = refl
and-true false = refl

-- a test and one that fails
pub and-false : (t : Bool) → (t && false) ≡ false
and-false true = refl
and-false false = refl

-- both of two tests hold
pub both : (s t : Bool) → (s && t) ≡ true → (s ≡ true) × (t ≡ true)
both true t h = (refl, h)
both false t h = absurd (false≢true h)

-- neither holds
pub neither : (s t : Bool) → (s || t) ≡ false → (s ≡ false) × (t ≡ false)
neither true t h = absurd (false≢true (sym h))
neither false t h = (refl, h)

-- one of two tests holds
pub either : {G : Type 0} (s t : Bool) → (s || t) ≡ true → (s ≡ true → G) → (t ≡ true → G) → G
either true t h f g = f refl
either false t h f g = g h

-- a choice that gives what its second way does not
pub choose-first : {A : Type 0} (t : Bool) (a b c : A) → choose t a b ≡ c → (b ≡ c → ⊥) → (t ≡ true) × (a ≡ c)
unfolding choose
choose-first true a b c e f = (refl, e)
choose-first false a b c e f = absurd (f e)

-- whether two tests agree
abbrev pub agree : Bool → Bool → Bool
agree true b = b
agree false b = not b

pub agree-is : (a b : Bool) → agree a b ≡ true → a ≡ b
agree-is true b e = sym e
agree-is false false e = refl
agree-is false true e = e
