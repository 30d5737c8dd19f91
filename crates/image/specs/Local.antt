-- Steps on an image of bytes that read and write only the bytes of a footprint (RULES 8.30).
use Rattle.std.specs.Prelude.{◌≡◌, Bool, true, false, List, ℕ, length, get_or}

-- two images hold the same bytes in a footprint
abbrev pub SameBytes : (ℕ → Bool) → List ℕ → List ℕ → Type 0
SameBytes foot x y = (b : ℕ) → foot b ≡ true → get_or x b 0 ≡ get_or y b 0

-- two footprints share no byte
abbrev pub Apart : (ℕ → Bool) → (ℕ → Bool) → Type 0
Apart foot foot' = (b : ℕ) → foot b ≡ true → foot' b ≡ true → ⊥

-- an answer that depends on the bytes of the footprint alone
abbrev pub Reads : {A : Type 0} → (ℕ → Bool) → (List ℕ → A) → Type 0
Reads foot out = (x y : List ℕ) → SameBytes foot x y → out x ≡ out y

-- a change of the bytes of the footprint alone, which depends on them alone
pub record Writes (foot : ℕ → Bool) (write : List ℕ → List ℕ) : Type 0 where
  pub size : (x : List ℕ) → length (write x) ≡ length x
  pub stays : (x : List ℕ) (b : ℕ) → foot b ≡ false → get_or (write x) b 0 ≡ get_or x b 0
  pub makes : (x y : List ℕ) → length x ≡ length y → SameBytes foot x y → SameBytes foot (write x) (write y)

-- a step: what it writes and what it answers
pub record Local {A : Type 0} (foot : ℕ → Bool) (write : List ℕ → List ℕ) (out : List ℕ → A) : Type 0 where
  pub writes : Writes foot write
  pub reads : Reads foot out
