-- The calls' contracts are the toolchain's; a refusal leaves what was lent, by cases on the answers.
use Rattle.std.specs.Prelude.{Result, Ok, Err}
use mathlib.Core.Path.{◌≡◌, refl, sym}
use mathlib.Core.Bool.{Bool, true, false}
use mathlib.Core.List.{List}
use Prim.Native.Nat.{ℕ}
use lib.Dec.{ltb}
use lib.ListN.{length}
use Rattle.util.specs.Choice.{choose}
use Rattle.util.proofs.Choice.{chosen}
use Rattle.macho.specs.Refusal.{answer_number, out_by}
use Rattle.macho.proofs.Numbered.{numbered}
use Rattle.macho.specs.declared.refusal.Refusal.{Refusal}
use Rattle.arch.specs.Walk as Walk
use Rattle.arch.specs.Walk.{Reading}
use Rattle.arm64_insn.specs.Reach.{adrp_reaches}
use Rattle.arm64_reader.specs.Read.{read_relocs}
use Rattle.x86_64_reader.specs.Read as X86
use Rattle.arm64_fixup.specs.Answer as Answer
use Rattle.arm64_fixup.specs.Answer.{Outcome, bases_of, outcome_of}
use Rattle.arm64_fixup.specs.Stub.{words_in, stub_answer, stub_number, thunk_check}
use Rattle.arm64_hint_work.specs.declared.tally.Tally.{Tally}
use Rattle.arm64_hint_run.specs.Run.{run_of, image_of, run_number, tally_after}
use Rattle.arm64_hint_run.proofs.Answers.{refused-leaves}
use Rattle.arm64_hint_listed.specs.Listed as Listed
use Rattle.arm64_hint_listed.proofs.Answers as Answers
use Rattle.uleb.specs.Shortest.{ulebs_of}
use Rattle.hint_payload.specs.Payload.{payload_of}
use Rattle.hint_payload.specs.Answer.{row_in, read_to, write_to}
use Rattle.lister_text.specs.Listing.{lines, list_of}
use Rattle.hauklivo.specs.Lent.{lent_number, lent_count}
use Rattle.hauklivo.specs.Stub as Stub
use Rattle.hauklivo.specs.Hints as Hints
use Rattle.hauklivo.proofs.Lent.{count_kept}
use Rattle.hauklivo.proofs.reader.hauklivo_read_relocs.Met as ReadRelocs
use Rattle.hauklivo.proofs.reader.hauklivo_read_relocs_x86_64.Met as ReadRelocsX86
use Rattle.hauklivo.proofs.fixup.hauklivo_apply_reloc_alloc.Met as ApplyRelocAlloc
use Rattle.hauklivo.proofs.stub.hauklivo_write_stub.Met as WriteStub
use Rattle.hauklivo.proofs.stub.hauklivo_write_thunk.Met as WriteThunk
use Rattle.hauklivo.proofs.hints.hauklivo_apply_hints.Met as ApplyHints
use Rattle.hauklivo.proofs.hints.hauklivo_apply_hints_listed.Met as ApplyHintsListed
use Rattle.hauklivo.proofs.lister.hauklivo_list.Met as List'
use Rattle.hauklivo.proofs.payload.hauklivo_read_hints.Met as ReadHints
use Rattle.hauklivo.proofs.payload.hauklivo_write_hints.Met as WriteHints
use Rattle.hauklivo.proofs.ldst.hauklivo_load_store_class.Met as LoadStoreClass
use Rattle.hauklivo.proofs.version.hauklivo_version.Met as Version
use Rattle.hauklivo.proofs.version.hauklivo_version_5.Met as Version5
use Rattle.claims.specs.Calls.{Calls}

reader : (a : Reading) (slots : List ℕ) (count : ℕ) → (answer_number (Walk.answer_of a) ≡ 0 → ⊥)
    → (Walk.slots_after a slots ≡ slots) × (lent_count (Walk.answer_of a) count ≡ count)
reader (Walk.refused x) slots count ne = (refl, sym (count_kept x (Err x) count refl))
reader (Walk.entries es) slots count ne = absurd (ne refl)

fix-up : (a : Outcome) (section slots : List ℕ) (count : ℕ) → (answer_number (Answer.answer_of a) ≡ 0 → ⊥)
    → (Answer.section_after a section ≡ section) × (Answer.slots_after a slots ≡ slots) × (lent_count (Answer.answer_of a) count ≡ count)
fix-up (Answer.refused x) section slots count ne = (refl, refl, sym (count_kept x (Err x) count refl))
fix-up (Answer.fixed f) section slots count ne = absurd (ne refl)

answered : (a : Result ℕ Refusal) (filled out : List ℕ) (count : ℕ) → (answer_number a ≡ 0 → ⊥) → (out_by a filled out ≡ out) × (lent_count a count ≡ count)
answered (Err x) filled out count ne = (refl, sym (count_kept x (Err x) count refl))
answered (Ok n) filled out count ne = absurd (ne refl)

stub : (buf : List ℕ) (addr ptr reaches : ℕ) → (Stub.stub_number_to buf addr ptr ≡ 0 → ⊥)
    → (Stub.stub_to buf addr ptr ≡ buf) × (Stub.reaches_to buf addr ptr reaches ≡ reaches)
unfolding stub_answer words_in lent_number choose
stub buf addr ptr reaches ne = go (ltb (length buf) 12) refl
  where
    go : (t : Bool) → ltb (length buf) 12 ≡ t → (Stub.stub_to buf addr ptr ≡ buf) × (Stub.reaches_to buf addr ptr reaches ≡ reaches)
    go true e = (rw e, rw e)
    go false e = absurd (ne (rw e (chosen (λ (a : Result Bool Refusal). stub_number a ≡ 0) (adrp_reaches ptr addr) (Ok true) (Ok false) refl refl)))

thunk : (buf : List ℕ) (addr target : ℕ) → (Stub.thunk_number_to buf ≡ 0 → ⊥) → Stub.thunk_to buf addr target ≡ buf
unfolding thunk_check words_in choose
thunk buf addr target ne = go (ltb (length buf) 12) refl
  where
    go : (t : Bool) → ltb (length buf) 12 ≡ t → Stub.thunk_to buf addr target ≡ buf
    go true e = rw e
    go false e = absurd (ne (rw e))

hint-run : (image hints entries : List ℕ) (tally : Tally) → (Hints.number_to image hints entries ≡ 0 → ⊥)
    → (Hints.image_to image hints entries ≡ image) × (Hints.tally_to image hints entries tally ≡ tally)
hint-run image hints entries tally = go (run_of image hints entries) refl
  where
    go : (a : Result Tally Refusal) → run_of image hints entries ≡ a → (run_number a ≡ 0 → ⊥) → (image_of image hints entries ≡ image) × (tally_after tally a ≡ tally)
    go (Ok t) e ne = absurd (ne refl)
    go (Err x) e ne = (refused-leaves image hints entries x e, refl)

listed-run : (image hints entries records : List ℕ) (tally : Tally) → (Hints.listed_number_to image hints entries records ≡ 0 → ⊥)
    → (Hints.listed_image_to image hints entries records ≡ image)
    × (Hints.records_to image hints entries records ≡ records)
    × (Hints.listed_tally_to image hints entries records tally ≡ tally)
listed-run image hints entries records tally = go (Listed.listed_of image hints entries records) refl
  where
    go : (a : Result Tally Refusal) → Listed.listed_of image hints entries records ≡ a → (run_number a ≡ 0 → ⊥)
        → (Listed.image_of image hints entries records ≡ image) × (Listed.slots_of image hints entries records ≡ records) × (tally_after tally a ≡ tally)
    go (Ok t) e ne = absurd (ne refl)
    go (Err x) e ne = let l = Answers.refused-leaves image hints entries records x e in (l.0, l.1, refl)

pub calls : Calls
calls =
    record {
      read-relocs = λ M. ReadRelocs.met;
      read-relocs-x86-64 = λ M. ReadRelocsX86.met;
      apply-reloc-alloc = λ M. ApplyRelocAlloc.met;
      write-stub = λ M. WriteStub.met;
      write-thunk = λ M. WriteThunk.met;
      apply-hints = λ M. ApplyHints.met;
      apply-hints-listed = λ M. ApplyHintsListed.met;
      list = λ M. List'.met;
      read-hints = λ M. ReadHints.met;
      write-hints = λ M. WriteHints.met;
      load-store-class = λ M. LoadStoreClass.met;
      version = λ M. Version.met;
      version-5 = λ M. Version5.met;
      numbered = numbered;
      read-relocs-refused = λ contents records sections slots count. reader (read_relocs contents records sections slots) slots count;
      read-relocs-x86-64-refused = λ contents records sections address slots count.
          reader (X86.read_relocs contents records sections address slots) slots count;
      apply-reloc-alloc-refused = λ section base tls image entries targets slots count.
          fix-up (outcome_of section (bases_of base tls image) entries targets slots) section slots count;
      write-stub-refused = stub;
      write-thunk-refused = thunk;
      apply-hints-refused = hint-run;
      apply-hints-listed-refused = listed-run;
      list-refused = λ words out count. answered (list_of words (length out)) (lines words) out count;
      read-hints-refused = λ payload slots count. answered (read_to payload (length slots)) (row_in (payload_of payload)) slots count;
      write-hints-refused = λ row out count. answered (write_to row (length out)) (ulebs_of row) out count;
    }
