-- Authenticated pointers: the theorems of the crates below, and from the reader's slot to the fix-up's word: what the one takes from the stored word, the other
-- puts back.
use mathlib.Core.Path.{◌≡◌, sym, ap, ◌∙◌}
use mathlib.Core.Bool.{true, false}
use mathlib.Core.List.{List}
use Prim.Native.Nat.{ℕ, ◌*◌, ◌%◌, ◌^◌, ◌<◌}
use native.Mathlib.Omega.{arith}
use lib.ListN.{length, get_or}
use Rattle.util.specs.Bits.{field}
use Rattle.util.specs.Diagram.{matches}
use Rattle.util.specs.Word.{le}
use Rattle.util.proofs.Word.{le-lt}
use Rattle.macho.specs.Authenticated as Word
use Rattle.macho.specs.Authenticated.{signing_in, authenticated_word}
use Rattle.macho.specs.Reloc.{reloc_size, reloc_at}
use Rattle.macho.specs.Types.{ARM64_RELOC_AUTHENTICATED_POINTER}
use Rattle.macho.specs.declared.reloc.Reloc.{Reloc}
use Rattle.macho.specs.declared.resolved.Resolved.{Resolved}
use Rattle.macho.proofs.Signing as Signing
use Rattle.arch.specs.Table.{records_of}
use Rattle.arch.specs.Walk.{entries}
use Rattle.arm64_reader.specs.Read.{read_relocs, slots_to}
use Rattle.arm64_reader.proofs.AuthenticatedRecords as Records
use Rattle.arm64_reader.proofs.AuthenticatedTables as Tables
use Rattle.arm64_reader.proofs.AuthenticatedExamples as Examples
use Rattle.arm64_reader.proofs.Lengths as Lengths
use Rattle.arm64_reader.proofs.Slots as Slots
use Rattle.arm64_fixup_entry.specs.Target.{imported_symbol, from_image}
use Rattle.arm64_fixup_entry.specs.Change.{authenticated_value}
use Rattle.arm64_fixup_entry.specs.declared.target.Bases.{Bases}
use Rattle.arm64_fixup.specs.Walk.{lent_entry, lent_target, Fixed}
use Rattle.arm64_fixup.specs.Footprint.{Lone, pointer_at}
use Rattle.arm64_fixup.proofs.Authenticated as Fixup
use Rattle.arm64_fixup.proofs.AuthenticatedExamples as Calls
use Rattle.claims.specs.Authenticated.{Authenticated}

-- a word made of an entry that says what a stored word says has that word's upper half
upper : (b : Bases) (e : Reloc) (t : Resolved) (word : ℕ) → word < 2 ^ 64 → matches Word.authenticated word ≡ true → e.signing ≡ signing_in word
    → field (authenticated_value b e t) 32 32 ≡ field word 32 32
unfolding authenticated_value
upper b e t word h m s =
    ap (λ (x : ℕ). field (authenticated_word (from_image b e t % 2 ^ 32) x) 32 32) s
    ∙ Signing.signing-kept word (from_image b e t % 2 ^ 32) h m (omega arith)

-- from the reader's slot j to entry k of the fix-up
kept : (section records sections slots : List ℕ) (es : List Reloc) (j : ℕ) → read_relocs section records sections slots ≡ entries es → j < length es
    → (b : Bases) (list targets reports : List ℕ) (f : Fixed) (k : ℕ) → Lone section b list targets reports f k
    → lent_entry list k ≡ reloc_at (slots_to section records sections slots) (reloc_size * j)
    → (lent_entry list k).ty ≡ ARM64_RELOC_AUTHENTICATED_POINTER → imported_symbol (lent_entry list k) (lent_target targets k) ≡ false
    → field (pointer_at list f.section k) 32 32 ≡ field (pointer_at list section k) 32 32
kept section records sections slots es j e l b list targets reports f k lone same type own =
    let d : Reloc = lent_entry list k in
    let is : d ≡ get_or es j d = same ∙ Slots.slot-entry section records sections slots es j d e l in
    let read = Tables.authenticated-entries section sections false (records_of records) d es (Lengths.filled section records sections slots e) j l
    (ap (λ (r : Reloc). r.ty) (sym is) ∙ type) in
    let place : (get_or es j d).offset ≡ d.offset = ap (λ (r : Reloc). r.offset) (sym is) in
    let word : le 8 section (get_or es j d).offset ≡ le 8 section d.offset = ap (le 8 section) place in
    ap (λ (w : ℕ). field w 32 32) (Fixup.authenticated-word lone type own)
    ∙ upper b d (lent_target targets k) (le 8 section d.offset) (le-lt 8 section d.offset) (ap (matches Word.authenticated) (sym word) ∙ read.1)
    (ap (λ (r : Reloc). r.signing) is ∙ read.2 ∙ ap signing_in word)

pub authenticated : Authenticated
authenticated =
    record {
      stored = Signing.authenticated-is;
      entry-bytes = λ word.
          let s = Signing.signing-fields word in
          (s.0, s.1, s.2, Signing.signing-lt word);
      finished = Signing.word_fields;
      again = Signing.word-again;
      one_form = Records.authenticated-form;
      no-later-type = Records.later-form;
      reads = Records.authenticated-reads;
      read = λ contents sections first rs es k d e l. Tables.authenticated-entries contents sections first rs d es e k l;
      other-types = λ contents sections first rs es k d e l. Tables.other_entries contents sections first rs d es e k l;
      in-slot = Slots.slot-entry;
      kept = kept;
      kept-occurs = (Examples.stored-slot, Calls.lone);
      number-15 = Examples.zeros-refused;
      assembled = Examples.assembled;
      after-addend = Examples.after-addend;
      after-subtractor = Examples.after-subtractor;
      means = Examples.authenticated-means;
      reader-order = Examples.first-number;
      values = Calls.values;
      not-looked-at = Calls.not-looked-at;
      imported = Calls.imported;
      taken = Calls.taken;
      far = Calls.far;
      order = Calls.order;
    }
