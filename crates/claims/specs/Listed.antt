-- The listed hint run (RULES 16): which rule rewrote the words of each hint, and how many of them.
use Rattle.std.specs.Prelude.{◌≡◌, false, ◌&&◌, List, [], ◌∷◌, ◌++◌, map, ℕ, ◌*◌, ◌≤◌, ◌<◌, eqb, length, get_or, drop, replicate, Result, Ok, Err, Option}
use Rattle.macho.specs.Hint.{hint_size, hint_count, hint_of}
use Rattle.macho.specs.Reloc.{reloc_size}
use Rattle.macho.specs.Record.{list_bytes}
use Rattle.macho.specs.RuleRecord.{rule_record_size, rule_record_at, rule_record_bytes, rule_skipped, rule_declined, rule_literal, rule_adr, rule_turned_down}
use Rattle.macho.specs.Refusal.{number_of}
use Rattle.macho.specs.declared.rule_record.RuleRecord.{RuleRecord}
use Rattle.macho.specs.declared.refusal.Refusal.TheVariants.{Lengths, Slots, Overflow}
use Rattle.arm64_hint_terms.specs.declared.answer.Plan.{Plan}
use Rattle.arm64_hint_terms.specs.declared.answer.NoRewrite.{NoRewrite}
use Rattle.arm64_hint_terms.specs.declared.answer.Insns.{Insns}
use Rattle.image.specs.Words.{in_words}
use Rattle.image.specs.Steps.{answered, written}
use Rattle.arm64_hint_order.specs.Lists.{Once, run_list}
use Rattle.arm64_hint_order.specs.Cursor.{object_at, order_of}
use Rattle.arm64_hint_places.specs.Hint.{is_skipped}
use Rattle.arm64_hint_check.specs.Check.{is_list, check_lists}
use Rattle.arm64_hint_rules.specs.Rule.{outcome_number, news_of}
use Rattle.arm64_hint_work.specs.Step.{places_of, steps_of}
use Rattle.arm64_hint_work.specs.Acted.{rule_of, changed_of}
use Rattle.arm64_hint_work.specs.declared.tally.Tally.{Tally}
use Rattle.arm64_hint_run.specs.Run as Run
use Rattle.arm64_hint_run.specs.Records.{record_of, records_of}
use Rattle.arm64_hint_listed.specs.Listed.{listed_of, image_of, slots_of}
use Rattle.arm64_hint_listed.specs.Totals.{totals}
use Rattle.arm64_hint_listed.specs.Rows.{Row, Reached, written_at}
use Rattle.arm64_hint_kept.specs.Examples.{words, none-at, hint_in, lent, single, pair, counts}
use Rattle.arm64_hint_kept.specs.ExampleRuns.{four, four_words, four_after}

-- a record of a position, an object, a rule and a number of words
abbrev pub listed : (position object rule changed : ℕ) → RuleRecord
listed position object rule changed = record { position = position; object = object; rule = rule; changed = changed }

-- slots of n bytes
abbrev pub room : ℕ → List ℕ
room n = replicate n 0xaa

-- the words of a hint of ADRP_ADD_STR
abbrev pub equal_words : List ℕ
equal_words = words (0x90000000 ∷ 0x91000c00 ∷ 0xf9000001 ∷ [])

-- two skipped hints of object 5: an ADRP_ADRP with no word count, and one of no kind
abbrev pub skipped_two : List ℕ
skipped_two = lent (record { kind = 1; n = 0; object = 5; start = 0; len = 0; insn0 = none-at; insn1 = none-at; insn2 = none-at }
    ∷ hint_in 9 5 0 0 none-at none-at none-at ∷ [])

-- what is claimed of listed runs
pub record Listed : Type 0 where
  -- RULES 16.1: with room for the records, answer and image are those of the plain run, in every case and with every number
  pub same-run : (image hints entries slots : List ℕ) → rule_record_size * hint_count hints ≤ length slots
      → (listed_of image hints entries slots ≡ Run.run_of image hints entries) × (image_of image hints entries slots ≡ Run.image_of image hints entries)
  -- a listed run that is done had that room, so that what is claimed of a hint run that is done is claimed of it
  pub done : (image hints entries slots : List ℕ) (t : Tally) → listed_of image hints entries slots ≡ Ok t
      → (rule_record_size * hint_count hints ≤ length slots)
      × (Run.run_of image hints entries ≡ Ok t)
      × (image_of image hints entries slots ≡ Run.image_of image hints entries)
  -- RULES 3.17: neither answer nor image depends on what the slots hold
  pub slots-ignored : (image hints entries slots others : List ℕ) → length slots ≡ length others
      → (listed_of image hints entries slots ≡ listed_of image hints entries others) × (image_of image hints entries slots ≡ image_of image hints entries others)
  -- RULES 3.20: number 1 comes first, whatever the slots
  pub number-1 : (image hints entries slots : List ℕ) → (is_list (length hints) hint_size && is_list (length entries) reloc_size) ≡ false
      → listed_of image hints entries slots ≡ Err Lengths
  -- then 2, whatever the hints and the image
  pub number-2 : (image hints entries slots : List ℕ) → check_lists (length hints) (length entries) ≡ Ok tt
      → length slots < rule_record_size * hint_count hints → listed_of image hints entries slots ≡ Err Slots
  -- RULES 16.2: where it is done the slots hold a record for each hint from the front on, and after them what they held
  pub filled : (image hints entries slots : List ℕ) (t : Tally) → listed_of image hints entries slots ≡ Ok t
      → slots_of image hints entries slots
      ≡ list_bytes rule_record_bytes (records_of image hints entries (order_of hints)) ++ drop (rule_record_size * hint_count hints) slots
  -- the last six bytes of a record are zero
  pub zero-bytes : (r : RuleRecord) → drop 10 (rule_record_bytes r) ≡ 0 ∷ 0 ∷ 0 ∷ 0 ∷ 0 ∷ 0 ∷ []
  -- RULES 16.6: the positions are the order of work, and so each hint's once (Kept.own-list)
  pub positions : (image hints entries : List ℕ) → map (λ r. r.position) (records_of image hints entries (order_of hints)) ≡ order_of hints
  pub once : (image hints entries : List ℕ) → Once (hint_count hints) (map (λ r. r.position) (records_of image hints entries (order_of hints)))
  -- the objects are those of the hints at these positions
  pub objects : (image hints entries : List ℕ) → map (λ r. r.object) (records_of image hints entries (order_of hints)) ≡ map (object_at hints) (order_of hints)
  -- RULES 16.3: the slot of a hint's turn holds its position, its object, and rule and words changed of what came of it on the image that the hints before
  -- it left
  pub slot : (image hints entries slots : List ℕ) (t : Tally) → listed_of image hints entries slots ≡ Ok t → (l : List ℕ) (k : ℕ) (m : List ℕ)
      → order_of hints ≡ l ++ (k ∷ m)
      → rule_record_at (slots_of image hints entries slots) (rule_record_size * length l)
      ≡ record_of hints k (answered (steps_of hints entries) k (run_list (written (steps_of hints entries)) l image))
  -- RULES 16.8: the totals of the records are the tally
  pub totals-are : (image hints entries slots : List ℕ) (t : Tally) → listed_of image hints entries slots ≡ Ok t
      → t ≡ totals (records_of image hints entries (order_of hints))
  -- RULES 16.3: rule 0 is a skipped hint, and nothing else is
  pub skipped : (hints entries : List ℕ) (k : ℕ) (image : List ℕ)
      → eqb (rule_of (answered (steps_of hints entries) k image)) rule_skipped ≡ is_skipped (hint_of hints k)
  -- rule 7 is number 9, and nothing else is
  pub turned_down : (o : Option (Result Plan NoRewrite × Insns)) → eqb (rule_of o) rule_turned_down ≡ eqb (outcome_number o) (number_of Overflow)
  -- RULES 16.4: the words changed are the places that get a new word, also where it is equal to the old one
  pub changed : (hints entries : List ℕ) (k : ℕ) (image : List ℕ) → changed_of (answered (steps_of hints entries) k image)
      ≡ length (written_at (places_of (hint_of hints k)) (news_of (answered (steps_of hints entries) k image)))
  -- no byte but those of these places changes
  pub no_other : (hints entries : List ℕ) (k : ℕ) (image : List ℕ) (b : ℕ)
      → in_words (written_at (places_of (hint_of hints k)) (news_of (answered (steps_of hints entries) k image))) b ≡ false
      → get_or (written (steps_of hints entries) k image) b 0 ≡ get_or image b 0
  -- of a hint that is not skipped, rule and words changed are a row of its kind: the table Row (arm64_hint_listed/specs/Rows)
  pub rows : (hints entries : List ℕ) (k : ℕ) (image : List ℕ) → is_skipped (hint_of hints k) ≡ false
      → Row (hint_of hints k).kind (rule_of (answered (steps_of hints entries) k image)) (changed_of (answered (steps_of hints entries) k image))
  -- each row is reached by a decision of its kind
  pub reached : {kind rule changed : ℕ} → Row kind rule changed → Reached kind rule changed
  -- one hint of each count, in the order 1, 2, 3, 0, with two bytes more than the records take
  pub four-listed : (listed_of four_words (lent four) pair (room 66) ≡ Ok (counts 1 1 1 1))
      × (image_of four_words (lent four) pair (room 66) ≡ four_after)
      × (slots_of four_words (lent four) pair (room 66)
      ≡ list_bytes rule_record_bytes (listed 1 1 rule_skipped 0 ∷ listed 2 1 rule_declined 0 ∷ listed 3 1 rule_turned_down 0 ∷ listed 0 2 rule_literal 2 ∷ [])
      ++ room 2)
  -- with one byte less than they take
  pub four-short : (listed_of four_words (lent four) pair (room 63) ≡ Err Slots)
      × (image_of four_words (lent four) pair (room 63) ≡ four_words)
      × (slots_of four_words (lent four) pair (room 63) ≡ room 63)
  -- RULES 16.4: a word that is written and equal to the old one is counted: adrp x0; add x0, x0, #3; str x1, [x0]
  pub same_word : (slots_of equal_words (lent (single 5 0x1000 3)) pair (room 16) ≡ list_bytes rule_record_bytes (listed 0 0 rule_adr 3 ∷ []))
      × (image_of equal_words (lent (single 5 0x1000 3)) pair (room 16) ≡ words (0x70000000 ∷ 0xd503201f ∷ 0xf9000001 ∷ []))
  -- RULES 16.6: a skipped ADRP_ADRP hint stands in its object's second pass
  pub second-pass : slots_of [] skipped_two [] (room 32) ≡ list_bytes rule_record_bytes (listed 1 5 rule_skipped 0 ∷ listed 0 5 rule_skipped 0 ∷ [])
