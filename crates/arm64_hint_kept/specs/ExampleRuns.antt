-- Hints of the runs of several, and what the claims say of every hint of such a run (RULES 9.29) where all of them meet every premise.
use Rattle.std.specs.Prelude.{◌≡◌, false, List, [], ◌∷◌, ◌++◌, ℕ, zero, suc, ◌+◌, ◌<◌}
use Rattle.macho.specs.Hint.{no_entry, hint_count, hint_of}
use Rattle.macho.specs.declared.hint.HintRecord.{HintRecord}
use Rattle.arm64_machine.specs.Machine.{Other, State, run}
use Rattle.arm64_machine.specs.SameRun.{spared, Agree}
use Rattle.arm64_hint_places.specs.Hint.{is_skipped, addrs_of}
use Rattle.arm64_hint_work.specs.declared.tally.Tally.{Tally}
use Rattle.arm64_hint_run.specs.Run.{worked}
use Rattle.arm64_hint_kept.specs.HintsKept.{codes, Alone, Close, Premises, NoneData}
use Rattle.arm64_hint_kept.specs.PartCalls.{Call}
use Rattle.arm64_hint_kept.specs.Examples.{words, place, none-at, hint_in, lent, pair, counts}

-- positions 0 to 3: example 6 (RULES 11.6), of object 2; then of object 1 one of no kind, one out of reach, and one whose sum passes 2^64 - 1
abbrev pub four : List HintRecord
four =
    hint_in 2 2 0 8 (place 0 0 0x1000) (place 4 1 0x1004) none-at
    ∷ hint_in 9 1 0 0 none-at none-at none-at
    ∷ hint_in 7 1 8 8 (place 0 0 0x1000) (place 4 1 0x1004) none-at
    ∷ hint_in 2 1 16 8 (place 0 0 0xfffffffffffff000) (place 4 1 0xfffffffffffff004) none-at
    ∷ []

-- their words before the run
abbrev pub four_words : List ℕ
four_words = words (0x90000000 ∷ 0xf9400401 ∷ 0x90008000 ∷ 0x91000000 ∷ 0x90000001 ∷ 0xbd29d025 ∷ [])

-- and after it
abbrev pub four_after : List ℕ
four_after = words (0xd503201f ∷ 0x58000021 ∷ 0x90008000 ∷ 0x91000000 ∷ 0x90000001 ∷ 0xbd29d025 ∷ [])

-- two hints of an object in one part, whose words share no byte: adrp x0; ldr x1, [x0, #0x100]; adrp x0; add x0, x0, #3
abbrev pub beside_first : ℕ → List HintRecord
beside_first object =
    hint_in 2 object 0 16 (place 0 0 0x1000) (place 4 1 0x1004) none-at
    ∷ hint_in 7 object 0 16 (place 8 0 0x1008) (place 12 1 0x100c) none-at
    ∷ []

-- one of another object, whose part begins at a byte of the image: adrp x0; add x0, x0, #16; str x1, [x0]
abbrev pub beside_last : ℕ → List HintRecord
beside_last start = hint_in 5 0 start 12 (place 0 0 0x1010) (place 4 1 0x1014) (place 8 no_entry 0x1018) ∷ []

-- all three in one run
abbrev pub beside : List HintRecord
beside = beside_first 1 ++ beside_last 16

-- a call for the first two, and one for the last
abbrev pub beside_calls : ℕ → Call
beside_calls zero = record { start = 0; len = 16; hints = lent (beside_first 0); entries = pair; at = λ j. j }
beside_calls (suc c) = record { start = 16; len = 12; hints = lent (beside_last 0); entries = pair; at = λ j. j + 2 }

-- what they count
abbrev pub beside_counts : ℕ → Tally
beside_counts zero = counts 2 0 0 0
beside_counts (suc c) = counts 1 0 0 0

-- their words before the run
abbrev pub beside_words : List ℕ
beside_words = words (0x90000000 ∷ 0xf9408001 ∷ 0x90000000 ∷ 0x91000c00 ∷ 0x90001000 ∷ 0x91004000 ∷ 0xf9000001 ∷ [])

-- and after it
abbrev pub beside_after : List ℕ
beside_after = words (0xd503201f ∷ 0x580007e1 ∷ 0x70ffffc0 ∷ 0xd503201f ∷ 0x90001000 ∷ 0xd503201f ∷ 0xf9000801 ∷ [])

-- a hint whose first word stands after its second: ldr x1, [x0, #8]; adrp x0
abbrev pub falling : List HintRecord
falling = hint_in 2 0 0 8 (place 4 0 0x1004) (place 0 1 0x1000) none-at ∷ []

-- one object, whose hint of kind 1 stands first and is worked last: adrp x0; adrp x0; ldr x1, [x0, #8]
abbrev pub late : List HintRecord
late =
    hint_in 1 0 0 12 (place 0 0 0x1000) (place 4 0 0x1004) none-at
    ∷ hint_in 2 0 0 12 (place 4 0 0x1004) (place 8 1 0x1008) none-at
    ∷ []

-- the words before the run
abbrev pub late_words : List ℕ
late_words = words (0x90000000 ∷ 0x90000000 ∷ 0xf9400401 ∷ [])

-- and after it
abbrev pub late_after : List ℕ
late_after = words (0x90000000 ∷ 0xd503201f ∷ 0x58000001 ∷ [])

-- a list l of a run's hint steps ends with the image `last`; none of the hints is skipped, and each one meets all that Literally.ends supposes, from
-- state s; and so its words run in the last image as in the first: from s with every premise, and from every state with those that are needed
pub record AllEnd (image hints entries l last : List ℕ) (o : Other) (s : State) : Type 0 where
  pub leaves : (worked image hints entries l).image ≡ last
  pub not-skipped : (k : ℕ) → k < hint_count hints → is_skipped (hint_of hints k) ≡ false
  pub alone : (k : ℕ) → k < hint_count hints → Alone hints k
  pub none-data : (k : ℕ) → k < hint_count hints → (j : ℕ) → j < hint_count hints
      → NoneData (addrs_of (hint_of hints j)) (run o (codes (hint_of hints k) image) s).log
  pub meets : (k : ℕ) → k < hint_count hints → Premises (hint_of hints k) image o s
  pub agree : (k : ℕ) → k < hint_count hints
      → let h = hint_of hints k in Agree (spared (codes h image)) (run o (codes h image) s) (run o (codes h last) s)
  pub close : (k : ℕ) → k < hint_count hints → Close (hint_of hints k) image last
