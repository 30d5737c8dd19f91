-- The 16 bytes that a record starts with (tests/driver/answers.rs).
use Rattle.std.specs.Prelude.{ℕ, List, [], ◌≡◌, ◌++◌, get_or, take, length, Option, nat_eq}
use Rattle.std.specs.Io.KnownBytes.{Consumes}
use Rattle.util.specs.Choice.{choose}
use Rattle.util.specs.Word.{le}
use Rattle.replay_list.specs.declared.head.Head.{Head}

-- a head with no body
abbrev pub bare : ℕ → Head
bare what = record { what = what; number = 0; len = 0; v1 = 0; v2 = 0; v3 = 0; v4 = 0; v5 = 0 }

-- the head that 16 bytes hold
unfoldable pub head_of : List ℕ → Head
head_of s =
    record {
      what = get_or s 0 0;
      number = get_or s 1 0;
      len = le 2 s 2;
      v1 = le 2 s 4;
      v2 = le 2 s 6;
      v3 = le 2 s 8;
      v4 = le 2 s 10;
      v5 = le 2 s 12;
    }

-- what is written of a record whose body is at the front of `body`: a title's text
abbrev pub title_text : Head → List ℕ → List ℕ
title_text h body = choose (nat_eq h.what 0) (take h.len body) []

-- a record was read of the known bytes: its 16 bytes, and its body, which is at the front of `body`
abbrev pub IsRead : Option (List ℕ) → Option (List ℕ) → Head → List ℕ → Type 0
IsRead old new h body = (first : List ℕ) × (length first ≡ 16) × (h ≡ head_of first) × Consumes old new (first ++ take h.len body)
