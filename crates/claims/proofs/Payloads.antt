-- Hint payloads: by the laws of uleb and hint_payload; the examples by computation.
use Rattle.std.specs.Prelude.{Result, Ok}
use mathlib.Core.Path.{◌≡◌, refl, ap, ◌∙◌}
use mathlib.Core.Bool.{true}
use mathlib.Core.Logic.{⊎_elim, inl, inr}
use mathlib.Core.List.{List, ◌++◌}
use Prim.Native.Nat.{ℕ, ◌-◌, ◌*◌, ◌^◌, ◌≤◌}
use native.Mathlib.Omega.{arith}
use lib.ListN.{length, drop}
use lib.Seq.{sets}
use Rattle.util.specs.Choice.{choose}
use Rattle.util.proofs.Puts.{put_front}
use Rattle.macho.specs.Refusal.{answer_number, out_by}
use Rattle.macho.specs.declared.refusal.Refusal.{Refusal}
use Rattle.macho.specs.declared.refusal.Refusal.TheVariants.{Malformed, Trailing}
use Rattle.uleb.specs.Values.{values_of}
use Rattle.uleb.specs.Shortest.{uleb_within, ulebs_of}
use Rattle.uleb.proofs.Spelled as Spelled
use Rattle.uleb.proofs.Short as Short
use Rattle.hint_payload.specs.Row.{addresses_left, expected_in, is_whole}
use Rattle.hint_payload.specs.Payload.{Payload, holds, fails, all_zero, payload_from, payload_of}
use Rattle.hint_payload.specs.Answer.{row_in, count_in, read_to, row_to, write_to, bytes_to}
use Rattle.hint_payload.specs.Exact.{HasTrailing, IsBroken}
use Rattle.hint_payload.proofs.Whole as Whole
use Rattle.hint_payload.proofs.Exact as Exact
use Rattle.hint_payload.proofs.Back as Back
use Rattle.hint_payload.proofs.Answers as Answers
use Rattle.hauklivo.specs.Lent.{lent_number, lent_count}
use Rattle.hauklivo.specs.Payload.{read_number_to, read_count_to, write_number_to, write_count_to}
use Rattle.claims.specs.Payloads.{Payloads}

-- ---- the calls

-- the reader's answer to a payload that holds a row
read-row : (p slots row : List ℕ) → payload_of p ≡ holds row → length p ≤ 2 ^ 32 - 1 → length p ≤ length slots
    → read_to p (length slots) ≡ Ok (length row)
read-row p slots row h l n = Answers.read-else p (length slots) l n ∙ ap count_in h

call-read : (p slots : List ℕ) (count : ℕ) (row : List ℕ) → payload_of p ≡ holds row → length p ≤ 2 ^ 32 - 1 → length p ≤ length slots
    → (read_number_to p slots ≡ 0) × (read_count_to p slots count ≡ length row) × (row_to p slots ≡ row ++ drop (length row) slots)
unfolding lent_count lent_number choose
call-read p slots count row h l n =
    let e : read_to p (length slots) ≡ Ok (length row) = read-row p slots row h l n in (
      ap answer_number e,
      ap (λ (a : Result ℕ Refusal). lent_count a count) e,
      ap (λ (a : Result ℕ Refusal). out_by a (row_in (payload_of p)) slots) e
          ∙ ap (λ (q : Payload). sets slots 0 (row_in q)) h
          ∙ put_front row slots (length row) refl (omega (arith, Back.holds-most p row h)),
    )

call-write : (row out : List ℕ) (count : ℕ) → is_whole row ≡ true → length row ≤ 2 ^ 32 - 1 → 10 * length row ≤ length out
    → (write_number_to row out ≡ 0)
    × (write_count_to row out count ≡ length (ulebs_of row))
    × (bytes_to row out ≡ ulebs_of row ++ drop (length (ulebs_of row)) out)
unfolding lent_count lent_number choose
call-write row out count w l n =
    let e : write_to row (length out) ≡ Ok (length (ulebs_of row)) = Answers.write-else row (length out) w l n in (
      ap answer_number e,
      ap (λ (a : Result ℕ Refusal). lent_count a count) e,
      ap (λ (a : Result ℕ Refusal). out_by a (ulebs_of row) out) e ∙ put_front (ulebs_of row) out (length (ulebs_of row)) refl (omega (arith, Short.written-most row)),
    )

-- the reader's number of a payload that fails
read-fails : (p slots : List ℕ) (x : Refusal) → length p ≤ 2 ^ 32 - 1 → length p ≤ length slots → payload_of p ≡ fails x
    → read_number_to p slots ≡ answer_number (count_in (fails x))
read-fails p slots x l n h = ap answer_number (Answers.read-else p (length slots) l n ∙ ap count_in h)

pub payloads : Payloads
unfolding values_of payload_of payload_from addresses_left expected_in all_zero read_to ulebs_of uleb_within choose
payloads =
    record {
      follows = Spelled.append-one;
      rest = Spelled.rest-is;
      any-length = Spelled.any-length;
      only-spellings = λ bs v after rest a h. Spelled.only-spellings bs v after rest h a;
      ended_is = refl;
      only-ended = Spelled.no_bytes;
      cut-is = Spelled.all_more;
      only-cut = Spelled.only-more;
      zero-spelled = Spelled.zero-spelled;
      value-back = Spelled.value-back;
      shortest = Spelled.shortest;
      sizes = λ v. (Spelled.some_byte v, Spelled.ten-bytes v, Spelled.its-bytes v);
      written-short = Short.written-short;
      written-spell = Short.written-spell;
      written-shortest = Short.written-shortest;
      hints-whole = Whole.hints-whole;
      whole-hints = Whole.whole-hints;
      holds-hints = λ p row h. (Back.holds-whole p row h, Back.holds_fits p row h, Back.holds-most p row h);
      ends = Exact.ends;
      closes = Exact.closes;
      only-holds = λ p row h. (Back.holds-whole p row h, Back.holds_fits p row h, Exact.only-holds p row h);
      malformed = Exact.malformed;
      only-malformed = Exact.only-malformed;
      trailing = Exact.trailing;
      only-trailing = Exact.only-trailing;
      only-fails = λ p x h.
          ⊎_elim (λ (t : (x ≡ Trailing) × HasTrailing p). inl t.0) (λ (t : (x ≡ Malformed) × IsBroken p). inr t.0) (Exact.only-fails p x h);
      none = refl;
      zero-kind = (refl, refl);
      zero-count = refl;
      zero-address = refl;
      padded = refl;
      not-padded = refl;
      cut-value = refl;
      cut-hint = refl;
      cut-count = refl;
      any-kind = (refl, refl, refl);
      largest = refl;
      above-largest = refl;
      call-read = call-read;
      read-long = λ p slots h. ap answer_number (Answers.read-long p (length slots) h);
      read-narrow = λ p slots h l. ap answer_number (Answers.read-narrow p (length slots) h l);
      read-malformed = λ p slots. read-fails p slots Malformed;
      read-trailing = λ p slots. read-fails p slots Trailing;
      number-13 = (refl, refl);
      number-14 = refl;
      call-write = call-write;
      write-long = λ row out h. ap answer_number (Answers.write-long row (length out) h);
      write-broken = λ row out h. ap answer_number (Answers.write-broken row (length out) h);
      write-narrow = λ row out w h l. ap answer_number (Answers.write-narrow row (length out) w h l);
      written = refl;
      writer-1 = λ out. (ap answer_number (Answers.write-broken _ (length out) refl), ap answer_number (Answers.write-broken _ (length out) refl));
      row_back = Back.row_back;
      read_again = λ row slots count w a l n. call-read (ulebs_of row) slots count row (Back.row_back row w a) l n;
      held_back = λ p row h. (Back.held_back p row h, Back.never-longer p row h);
      written-again = λ p row out h l n.
          ap answer_number (Answers.write-else row (length out) (Back.holds-whole p row h) (omega (arith, Back.holds-most p row h)) n);
      same_bytes = Back.same_bytes;
    }
