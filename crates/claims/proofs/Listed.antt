-- The listed hint run: its laws, and four runs computed.
use mathlib.Core.Path.{◌≡◌, refl, sym, subst}
use mathlib.Core.List.{List, [], ◌∷◌}
use Prim.Native.Nat.{ℕ}
use lib.ListN.{drop}
use Rattle.util.specs.Word.{bytes}
use Rattle.macho.specs.Hint.{hint_count}
use Rattle.macho.specs.Record.{bytes_of}
use Rattle.macho.specs.RuleRecord.{rule_record_bytes}
use Rattle.macho.specs.declared.rule_record.RuleRecord.{RuleRecord}
use Rattle.arm64_hint_order.specs.Lists.{Once}
use Rattle.arm64_hint_order.specs.Cursor.{object_at, late_at, order_of}
use Rattle.arm64_hint_order.proofs.Own.{own-once}
use Rattle.arm64_hint_check.specs.Check.{check_slots, check_listed}
use Rattle.arm64_hint_run.specs.Records.{records_of}
use Rattle.arm64_hint_listed.specs.Listed.{listed_of, image_of, slots_of}
use Rattle.arm64_hint_listed.proofs.Records as Records
use Rattle.arm64_hint_listed.proofs.Reached as Reached
use Rattle.arm64_hint_listed.proofs.Answers as Answers
use Rattle.arm64_hint_kept.proofs.Computing.{runs}
use Rattle.claims.specs.Listed.{Listed}

-- what a closed listed run computes with
unfoldable computed : Unit {0}
unfolding runs check_slots check_listed rule_record_bytes records_of listed_of image_of slots_of
computed = tt

zeros-are : (r : RuleRecord) → drop 10 (rule_record_bytes r) ≡ 0 ∷ 0 ∷ 0 ∷ 0 ∷ 0 ∷ 0 ∷ []
unfolding rule_record_bytes bytes_of bytes
zeros-are r = refl

pub listed : Listed
unfolding computed
listed =
    record {
      same-run = Answers.same-run;
      done = Answers.done;
      slots-ignored = Answers.slots-ignored;
      number-1 = Answers.not-lists;
      number-2 = Answers.too_short;
      filled = Answers.slots_filled;
      zero-bytes = zeros-are;
      positions = λ image hints entries. Records.positions hints entries (order_of hints) image;
      once = λ image hints entries.
          subst (λ (l : List ℕ). Once (hint_count hints) l) (sym (Records.positions hints entries (order_of hints) image))
          (own-once (object_at hints) (late_at hints) (hint_count hints));
      objects = λ image hints entries. Records.objects hints entries (order_of hints) image;
      slot = Answers.slot-holds;
      totals-are = Answers.totals-of;
      skipped = Reached.skipped-is;
      turned_down = Reached.turned-down-is;
      changed = Reached.changed-places;
      no_other = Reached.no_other;
      rows = Reached.in_table;
      reached = Reached.reached;
      four-listed = (refl, refl, refl);
      four-short = (refl, refl, refl);
      same_word = (refl, refl);
      second-pass = refl;
    }
