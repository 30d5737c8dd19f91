-- A replay of a list: records read one after the other, and the table that they and the last line make.
use Rattle.std.specs.Prelude.{ℕ, ◌<◌, Bool, List, [], ◌∷◌, ◌++◌, ◌≡◌, take, Option}
use Rattle.std.specs.Borrow.{Bor}
use Rattle.std.specs.Io.KnownBytes.{Appends, Consumes, IsAtEnd}
use Rattle.replay_list.specs.Head.{title_text, IsRead}
use Rattle.replay_list.specs.Seen.{none, after, after_text, last_text}
use Rattle.replay_list.specs.declared.head.Head.{Head}
use Rattle.replay_list.specs.declared.seen.Seen.{Seen}

-- a record, bytes that its body is at the front of, and what the test said of the two
pub record Turn : Type 0 where
  pub head : Head
  pub body : List ℕ
  pub holds : Bool

-- how far a list was replayed after some turns, the last one first
unfoldable pub seen_after : List Turn → Seen
seen_after [] = none
seen_after (t ∷ ts) = after (seen_after ts) t.head.what t.holds

-- what a turn writes: a title, and what comes after a record
abbrev pub turn_text : Seen → Turn → List ℕ
turn_text s t = title_text t.head t.body ++ after_text s t.head.what t.holds

-- what some turns write
unfoldable pub table : List Turn → List ℕ
table [] = []
table (t ∷ ts) = table ts ++ turn_text (seen_after ts) t

-- of a turn: a record (below 0xfe) was read of the known bytes, at the end (0xfe) none was left, and the test said of it what the turn has
abbrev pub IsTurn : (Head → Bor (List ℕ) → Bool → Type 0) → Option (List ℕ) → Option (List ℕ) → Turn → Type 0
IsTurn test old new t = (t.head.what < 0xfe → IsRead old new t.head t.body) × (t.head.what ≡ 0xfe → Consumes old new [] × IsAtEnd new)
    × ((lent : Bor (List ℕ)) × (lent.now ≡ take t.head.len t.body) × test t.head lent t.holds)

-- so it is of some turns, one after the other, each while a record might still be read
unfoldable pub AreTurns : (Head → Bor (List ℕ) → Bool → Type 0) → Option (List ℕ) → Option (List ℕ) → List Turn → Type 0
AreTurns test old new [] = old ≡ new
AreTurns test old new (t ∷ ts) = (mid : Option (List ℕ)) × AreTurns test old mid ts × (0 < (seen_after ts).left) × IsTurn test mid new t

-- a list was replayed until no record may be read any more: what was written is the turns' table, and the last line
abbrev pub Replayed : (Head → Bor (List ℕ) → Bool → Type 0) → Option (List ℕ) → Option (List ℕ) → Option (List ℕ) → Option (List ℕ) → Type 0
Replayed test old new written_before written_after = (ts : List Turn) × AreTurns test old new ts × ((seen_after ts).left ≡ 0)
    × Appends written_before written_after (table ts ++ last_text (seen_after ts))
