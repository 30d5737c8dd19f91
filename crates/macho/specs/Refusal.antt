-- The numbers of RULES 3.1, and what a call says with them.
use Rattle.std.specs.Prelude.{ℕ, List, Result, Ok, Err, ⊤}
use Rattle.std.proofs.lemmas.List.Edits.{sets}
use Rattle.macho.specs.declared.refusal.Refusal.{Refusal}
use Rattle.macho.specs.declared.refusal.Refusal.TheVariants.{Lengths, Slots, Bounds, LoneAddend, Unsupported, Unfit}
use Rattle.macho.specs.declared.refusal.Refusal.TheVariants.{NoSection, LoneSubtractor, Overflow, NeedsSymbol, Flags, NoEntry, Malformed, Trailing}
use Rattle.macho.specs.declared.refusal.Refusal.TheVariants.{NotAuthenticated, FarFromImage}

-- the number of each refusal
abbrev pub number_of : Refusal → ℕ
number_of Lengths = 1
number_of Slots = 2
number_of Bounds = 3
number_of LoneAddend = 4
number_of Unsupported = 5
number_of Unfit = 6
number_of NoSection = 7
number_of LoneSubtractor = 8
number_of Overflow = 9
number_of NeedsSymbol = 10
number_of Flags = 11
number_of NoEntry = 12
number_of Malformed = 13
number_of Trailing = 14
number_of NotAuthenticated = 15
number_of FarFromImage = 16

-- the number of what a call says: 0 where it refuses nothing
abbrev pub answer_number : {A : Type 0} → Result A Refusal → ℕ
answer_number (Ok a) = 0
answer_number (Err x) = number_of x

-- what a call leaves in what it was lent for its answer: a refusal keeps it as it was
abbrev pub left_in : {A : Type 0} → Result A Refusal → A → A
left_in (Ok a) old = a
left_in (Err x) old = old

-- the first refusal of two checks
abbrev pub first : Result ⊤ Refusal → Result ⊤ Refusal → Result ⊤ Refusal
first (Err x) c = Err x
first (Ok tt) c = c

-- how many slots an answer filled: none where it refuses
abbrev pub filled_of : Result ℕ Refusal → ℕ
filled_of (Ok n) = n
filled_of (Err x) = 0

-- what an answer leaves in lent slots: the elements that it fills at their start, or what they held where it refuses
abbrev pub out_by : Result ℕ Refusal → List ℕ → List ℕ → List ℕ
out_by (Err x) filled slots = slots
out_by (Ok n) filled slots = sets slots 0 filled
