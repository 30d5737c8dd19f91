-- The words of a hint in the bytes of its section (arch/arm64.rs, `Hint::get`, `Hint::set` and `Hint::addr`; RULES 8.6, 8.10, 8.11).
-- A place past the word count is not looked at (RULES 3.17): it reads as 0, and nothing is stored there.
use Rattle.std.specs.Prelude.{ℕ, ◌+◌, ◌≤◌, ◌<◌, List, map, ltb, length, get_or, take, Some, None, Option}
use Rattle.util.specs.Choice.{choose}
use Rattle.util.specs.Word.{put}
use Rattle.util.specs.All.{All}
use Rattle.macho.specs.declared.hint.HintInsn.{HintInsn}
use Rattle.image.specs.Words.{words_at}
use Rattle.arm64_hint_terms.specs.declared.answer.Insns.{Insns}

-- ---- places in a list

-- the offsets of places in their section
abbrev pub offsets : List HintInsn → List ℕ
offsets insns = map (λ i. i.off) insns

-- the addresses of their words
abbrev pub addresses : List HintInsn → List ℕ
addresses insns = map (λ i. i.addr) insns

-- words with their addresses, in the order of the places; zeros past them
abbrev pub insns_with : List HintInsn → List ℕ → Insns
insns_with insns words =
    record {
      w0 = get_or words 0 0;
      w1 = get_or words 1 0;
      w2 = get_or words 2 0;
      p0 = get_or (addresses insns) 0 0;
      p1 = get_or (addresses insns) 1 0;
      p2 = get_or (addresses insns) 2 0;
    }

-- the words that stand at the places
abbrev pub insns_read : List ℕ → List HintInsn → Insns
insns_read bytes insns = insns_with insns (words_at (offsets insns) bytes)

-- the words of the places lie in len bytes
abbrev pub InBytes : ℕ → List HintInsn → Type 0
InBytes len insns = All (λ at. at + 4 ≤ len) (offsets insns)

-- ---- one place of a hint with the word count n

-- the word of place i
abbrev pub word_in : List ℕ → List HintInsn → ℕ → ℕ → ℕ
word_in bytes insns n i = get_or (words_at (offsets (take n insns)) bytes) i 0

-- its address
abbrev pub addr_in : List HintInsn → ℕ → ℕ → ℕ
addr_in insns n i = get_or (addresses (take n insns)) i 0

-- place i
abbrev pub place_at : List HintInsn → ℕ → HintInsn
place_at insns i = get_or insns i (record { off = 0; rel = 0; addr = 0 })

-- the bytes with a new word at place i, where there is one
abbrev pub set_in : List ℕ → List HintInsn → ℕ → ℕ → Option ℕ → List ℕ
set_in bytes insns n i None = bytes
set_in bytes insns n i (Some word) = choose (ltb i n) (put 4 bytes (place_at insns i).off word) bytes

-- place i is one of the three, and its word lies in the bytes, unless it is past the word count
pub record Fits (bytes : List ℕ) (insns : List HintInsn) (n i : ℕ) : Type 0 where
  pub one : i < 3
  pub within : i < n → (place_at insns i).off + 4 ≤ length bytes
