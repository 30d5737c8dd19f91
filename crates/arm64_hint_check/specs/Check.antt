-- Which number a hint run is turned down with (RULES 3.6, 3.9): 1, then by list position 3 (part, then words) and 12; a listed run has 2 after 1
-- (RULES 3.20).
use Rattle.std.specs.Prelude.{ℕ, zero, suc, ◌+◌, ◌*◌, ◌/◌, ◌%◌, ◌≤◌, ◌≡◌, Bool, false, ◌&&◌, ◌||◌, not, List, [], ◌∷◌, eqb, ltb, leb, length, Result, Ok, Err, ⊤}
use Rattle.util.specs.Choice.{choose}
use Rattle.macho.specs.Record.{most_records}
use Rattle.macho.specs.Hint.{hint_size, no_entry, hint_count, hint_of}
use Rattle.macho.specs.Reloc.{reloc_size}
use Rattle.macho.specs.RuleRecord.{rule_record_size}
use Rattle.macho.specs.declared.hint.HintInsn.{HintInsn}
use Rattle.macho.specs.declared.hint.HintRecord.{HintRecord}
use Rattle.macho.specs.declared.refusal.Refusal.TheVariants.{Lengths, Slots, Bounds, NoEntry}
use Rattle.macho.specs.declared.refusal.Refusal.{Refusal}
use Rattle.macho.specs.Refusal.{answer_number, first}
use Rattle.arm64_hint_places.specs.Hint.{is_skipped, insns_in}

-- whether len bytes are whole records of a size, at most 2^32 - 1 of them
unfoldable pub is_list : ℕ → ℕ → Bool
is_list len size = eqb (len % size) 0 && leb (len / size) most_records

-- the same as a statement
abbrev pub IsList : ℕ → ℕ → Type 0
IsList len size = (len % size ≡ 0) × (len / size ≤ most_records)

-- number 1: the lengths of hints and entries in bytes
unfoldable pub check_lists : ℕ → ℕ → Result ⊤ Refusal
check_lists hints entries = choose (is_list hints hint_size && is_list entries reloc_size) (Ok tt) (Err Lengths)

-- number 3: the part ends past an image of len bytes
abbrev pub part_past : ℕ → HintRecord → Bool
part_past len h = ltb len (h.start + h.len)

-- number 3: a place's word ends past a part of len bytes
abbrev pub ends_past : ℕ → HintInsn → Bool
ends_past len i = ltb len (i.off + 4)

-- number 12: a place names an entry past the count
abbrev pub names_absent : ℕ → HintInsn → Bool
names_absent count i = not (eqb i.rel no_entry) && leb count i.rel

-- whether one of the places passes a test
abbrev pub any_of : (HintInsn → Bool) → List HintInsn → Bool
any_of test [] = false
any_of test (i ∷ is) = test i || any_of test is

-- the numbers of one hint, for an image of len bytes and a number of entries; a skipped hint is not looked at, nor a place past the word count
unfoldable pub check_hint : ℕ → ℕ → HintRecord → Result ⊤ Refusal
check_hint len count h =
    choose (is_skipped h) (Ok tt)
    (choose (part_past len h) (Err Bounds)
    (choose (any_of (ends_past h.len) (insns_in h)) (Err Bounds)
    (choose (any_of (names_absent count) (insns_in h)) (Err NoEntry) (Ok tt))))

-- the first refusal among the first k hints
unfoldable pub check_to : ℕ → ℕ → List ℕ → ℕ → Result ⊤ Refusal
check_to len count hints zero = Ok tt
check_to len count hints (suc k) = first (check_to len count hints k) (check_hint len count (hint_of hints k))

-- the first refusal of a run
unfoldable pub check_all : ℕ → List ℕ → ℕ → Result ⊤ Refusal
check_all len hints entries = first (check_lists (length hints) entries) (check_to len (entries / reloc_size) hints (hint_count hints))

-- number 2: the lengths of hints and slots in bytes, which must have room for a record of each hint
unfoldable pub check_slots : ℕ → ℕ → Result ⊤ Refusal
check_slots hints slots = choose (ltb slots (rule_record_size * (hints / hint_size))) (Err Slots) (Ok tt)

-- the first refusal of a listed run, with the slots' length in bytes
unfoldable pub check_listed : ℕ → List ℕ → ℕ → ℕ → Result ⊤ Refusal
check_listed len hints entries slots =
    first (check_lists (length hints) entries)
    (first (check_slots (length hints) slots) (check_to len (entries / reloc_size) hints (hint_count hints)))

-- a check's word, with whether the hints are grouped
unfoldable pub checked_as : Result ⊤ Refusal → Bool → Result Bool Refusal
checked_as (Ok tt) g = Ok g
checked_as (Err x) g = Err x

-- its number: 0 where all hints are fit
abbrev pub checked_number : Result Bool Refusal → ℕ
checked_number a = answer_number a
