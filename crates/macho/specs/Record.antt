-- A record: its fields one after another, each a number of so many bytes, the lowest byte first (RULES 2.2, 2.8).
use Rattle.std.specs.Prelude.{◌≡◌, ℕ, ◌+◌, ◌-◌, ◌*◌, ◌^◌, ◌<◌, List, [], ◌∷◌, ◌++◌, get_or}
use Rattle.util.specs.Word.{bytes}

infix 69 ◌of◌
-- n bytes that hold v; and a byte that holds nothing, ignored when read and zero when written
pub data Field : Type 0 where
  ◌of◌ : ℕ → ℕ → Field
  unused : Field

-- how many bytes the fields take
abbrev pub size_of : List Field → ℕ
size_of [] = 0
size_of (n of v ∷ fs) = n + size_of fs
size_of (unused ∷ fs) = 1 + size_of fs

-- the bytes of the fields
unfoldable pub bytes_of : List Field → List ℕ
bytes_of [] = []
bytes_of (n of v ∷ fs) = bytes n v ++ bytes_of fs
bytes_of (unused ∷ fs) = 0 ∷ bytes_of fs

-- each field has room for what it holds
abbrev pub Fits : List Field → Type 0
Fits [] = Unit {0}
Fits (n of v ∷ fs) = (v < 2 ^ (8 * n)) × Fits fs
Fits (unused ∷ fs) = Fits fs

-- the unused bytes of fields that start at byte `at` are zero
abbrev pub Zeros : List Field → List ℕ → ℕ → Type 0
Zeros [] s at = Unit {0}
Zeros (n of v ∷ fs) s at = Zeros fs s (at + n)
Zeros (unused ∷ fs) s at = (get_or s at 0 ≡ 0) × Zeros fs s (at + 1)

-- the bytes of a list of records, from those of one
unfoldable pub list_bytes : {A : Type 0} → (A → List ℕ) → List A → List ℕ
list_bytes f [] = []
list_bytes f (r ∷ rs) = f r ++ list_bytes f rs

-- the most records that a list may have (RULES 3.9)
abbrev pub most_records : ℕ
most_records = 2 ^ 32 - 1
