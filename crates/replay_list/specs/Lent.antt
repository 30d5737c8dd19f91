-- The slots that a call is lent (tests/driver/lent.rs).
use Rattle.std.specs.Prelude.{ℕ, ◌+◌, ◌*◌, ◌%◌, ◌≤◌, ◌<◌, List, ◌≡◌, ltb, length, get_or}
use Rattle.util.specs.Choice.{choose}

-- the byte at i of slots before a call
abbrev pub pattern_at : ℕ → ℕ
pattern_at i = (i % 256 * 37 + 11) % 256

-- the byte at i of slots that records were filled into from the front
unfoldable pub due_at : List ℕ → ℕ → ℕ
due_at records i = choose (ltb i (length records)) (get_or records i 0) (pattern_at i)

-- slots have the records from the front and are otherwise as before the call
abbrev pub Filled : List ℕ → List ℕ → Type 0
Filled slots records = (length records ≤ length slots) × ((i : ℕ) → i < length slots → get_or slots i 0 ≡ due_at records i)
