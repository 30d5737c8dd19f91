-- The bytes that an entry reads or writes, its footprint (place and width), and those that it writes in a run (RULES 5.24, 5.25).
use Rattle.std.specs.Prelude.{ℕ, ◌+◌, ◌≤◌, ◌<◌, ◌≡◌, false}
use mathlib.Core.List.{List, Memᴰ}
use Rattle.util.specs.Choice.{choose}
use Rattle.util.specs.Word.{le}
use Rattle.macho.specs.declared.report.Report.{Report}
use Rattle.arm64_fixup_entry.specs.Target.{width_of}
use Rattle.arm64_fixup_entry.specs.Change.{bytes_in}
use Rattle.arm64_fixup.specs.Walk.{lent_entry, lent_target, entry_count, consumed, Fixed, change_at, fix_to}
use Rattle.arm64_fixup.specs.Answer.{fixed, outcome_of}
use Rattle.arm64_fixup_entry.specs.declared.target.Bases.{Bases}

-- where entry i's bytes start
abbrev pub offset_at : List ℕ → ℕ → ℕ
offset_at entries i = (lent_entry entries i).offset

-- how many they are: none of an entry that a SUBTRACTOR consumes
unfoldable pub width_at : List ℕ → List ℕ → ℕ → ℕ
width_at entries targets i = choose (consumed entries i) 0 (width_of (lent_entry entries i) (lent_target targets i))

-- byte p is in entry i's footprint: it reads or writes it
abbrev pub Touches : List ℕ → List ℕ → ℕ → ℕ → Type 0
Touches entries targets i p = (offset_at entries i ≤ p) × (p < offset_at entries i + width_at entries targets i)

-- how many bytes entry i writes at its turn, on the section as the entries before it leave it: none where it only reports
unfoldable pub written_at : List ℕ → Bases → List ℕ → List ℕ → ℕ → ℕ
written_at section b entries targets i =
    choose (consumed entries i) 0 (bytes_in (change_at b entries targets (fix_to b entries targets section i).section i).write)

-- entry i writes byte p
abbrev pub Writes : List ℕ → Bases → List ℕ → List ℕ → ℕ → ℕ → Type 0
Writes section b entries targets i p = (offset_at entries i ≤ p) × (p < offset_at entries i + written_at section b entries targets i)

-- no other entry writes a byte of entry k's footprint. The whole footprint is meant: what entry k makes of one byte depends on the word there
abbrev pub Alone : List ℕ → Bases → List ℕ → List ℕ → ℕ → Type 0
Alone section b entries targets k =
    (i p : ℕ) → i < entry_count entries → (i ≡ k → ⊥) → Touches entries targets k p → Writes section b entries targets i p → ⊥

-- entry k of an accepted call that ends with f: no SUBTRACTOR consumes it, and no other entry writes its bytes
pub record Lone (section : List ℕ) (b : Bases) (entries targets slots : List ℕ) (f : Fixed) (k : ℕ) : Type 0 where
  pub accepted : outcome_of section b entries targets slots ≡ fixed f
  pub listed : k < entry_count entries
  pub worked : consumed entries k ≡ false
  pub alone : Alone section b entries targets k

-- no report of a call that ends with f names entry k
abbrev pub Unreported : Fixed → ℕ → Type 0
Unreported f k = (r : Report) → Memᴰ r f.reports → r.entry ≡ k → ⊥

-- the 4-byte word at entry k's place
abbrev pub word_at : List ℕ → List ℕ → ℕ → ℕ
word_at entries section k = le 4 section (offset_at entries k)

-- the 8-byte word there
abbrev pub pointer_at : List ℕ → List ℕ → ℕ → ℕ
pointer_at entries section k = le 8 section (offset_at entries k)
