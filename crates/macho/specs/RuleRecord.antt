-- What a listed hint run says of one hint, 16 bytes, and the numbers of the rules (RULES 16.2, 16.3).
use Rattle.std.specs.Prelude.{ℕ, ◌+◌, List, [], ◌∷◌}
use Rattle.util.specs.Word.{le}
use Rattle.macho.specs.Record.{Field, ◌of◌, unused, bytes_of}
use Rattle.macho.specs.declared.rule_record.RuleRecord.{RuleRecord}

-- its size in bytes
abbrev pub rule_record_size : ℕ
rule_record_size = 16

-- the record from byte `at` on
unfoldable pub rule_record_at : List ℕ → ℕ → RuleRecord
rule_record_at s at = record { position = le 4 s at; object = le 4 s (at + 4); rule = le 1 s (at + 8); changed = le 1 s (at + 9) }

-- its fields in order
abbrev pub rule_record_fields : RuleRecord → List Field
rule_record_fields r =
    4 of r.position ∷ 4 of r.object ∷ 1 of r.rule ∷ 1 of r.changed
    ∷ unused ∷ unused ∷ unused ∷ unused ∷ unused ∷ unused ∷ []

-- its bytes
unfoldable pub rule_record_bytes : RuleRecord → List ℕ
rule_record_bytes r = bytes_of (rule_record_fields r)

-- rule 0: the hint was skipped
abbrev pub rule_skipped : ℕ
rule_skipped = 0

-- rule 1: it declined
abbrev pub rule_declined : ℕ
rule_declined = 1

-- rule 2: the second ADRP dropped
abbrev pub rule_second_adrp : ℕ
rule_second_adrp = 2

-- rule 3: literal load
abbrev pub rule_literal : ℕ
rule_literal = 3

-- rule 4: ADR
abbrev pub rule_adr : ℕ
rule_adr = 4

-- rule 5: fold
abbrev pub rule_fold : ℕ
rule_fold = 5

-- rule 6: literal load of a GOT slot
abbrev pub rule_got_slot : ℕ
rule_got_slot = 6

-- rule 7: turned down by 9
abbrev pub rule_turned_down : ℕ
rule_turned_down = 7
