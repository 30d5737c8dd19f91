-- A hint at other bytes.
use Rattle.std.specs.Prelude.{ℕ, List}
use denote.Ref.{at_last}
use Rattle.arm64_hint_words.specs.declared.hint.Hint.{Hint}

-- the hint whose borrow, its pointer and its ghost name as they are, stands at the list of bytes
abbrev pub holding : Hint → List ℕ → Hint
holding h bytes = record { buf = at_last h.buf bytes; insns = h.insns; n = h.n }
