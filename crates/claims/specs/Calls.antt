-- The calls that a linker makes (RULES 1.1 to 1.3, 2.28, 14.9, 14.10, 16.1): each meets its contract, and one that is refused has changed nothing that it
-- was lent. They are the functions of hauklivo; hauklivo_c exports each to C with the same clauses.
use Rattle.std.specs.Prelude.{◌≡◌, List, ℕ, ◌≤◌}
use Rattle.macho.specs.Refusal as Refusal
use Rattle.macho.specs.declared.refusal.Refusal.{Refusal}
use Rattle.arm64_reader.specs.Read as Read
use Rattle.x86_64_reader.specs.Read as ReadX86
use Rattle.arm64_fixup.specs.Answer as Answer
use Rattle.arm64_hint_work.specs.declared.tally.Tally.{Tally}
use Rattle.hint_payload.specs.Answer.{row_to, bytes_to}
use Rattle.lister_text.specs.Listing.{out_after}
use Rattle.hauklivo.specs.Reader as Reader
use Rattle.hauklivo.specs.ReaderX86 as ReaderX86
use Rattle.hauklivo.specs.Fixup as Fixup
use Rattle.hauklivo.specs.Stub as Stub
use Rattle.hauklivo.specs.Hints as Hints
use Rattle.hauklivo.specs.Lister as Lister
use Rattle.hauklivo.specs.Payload as Payload
use Rattle.hauklivo.proofs.reader.hauklivo_read_relocs.Statement as ReadRelocs
use Rattle.hauklivo.proofs.reader.hauklivo_read_relocs_x86_64.Statement as ReadRelocsX86
use Rattle.hauklivo.proofs.fixup.hauklivo_apply_reloc_alloc.Statement as ApplyRelocAlloc
use Rattle.hauklivo.proofs.stub.hauklivo_write_stub.Statement as WriteStub
use Rattle.hauklivo.proofs.stub.hauklivo_write_thunk.Statement as WriteThunk
use Rattle.hauklivo.proofs.hints.hauklivo_apply_hints.Statement as ApplyHints
use Rattle.hauklivo.proofs.hints.hauklivo_apply_hints_listed.Statement as ApplyHintsListed
use Rattle.hauklivo.proofs.lister.hauklivo_list.Statement as List'
use Rattle.hauklivo.proofs.payload.hauklivo_read_hints.Statement as ReadHints
use Rattle.hauklivo.proofs.payload.hauklivo_write_hints.Statement as WriteHints
use Rattle.hauklivo.proofs.ldst.hauklivo_load_store_class.Statement as LoadStoreClass
use Rattle.hauklivo.proofs.version.hauklivo_version.Statement as Version
use Rattle.hauklivo.proofs.version.hauklivo_version_5.Statement as Version5

-- `statement M` is made by the toolchain from the code and its contract. It says of the compiled function, in every memory that can be lent as its
-- parameters say: it touches no other memory, it returns, and its answer and every lent byte are what its `ensures` say. No call here has a `requires`
pub record Calls : Type 2 where
  -- RULES 1.1 to 1.3: the readers, of arm64 and of x86_64 (hauklivo/src/reader.rt)
  pub read-relocs : (M : Type 1) → ReadRelocs.statement M
  pub read-relocs-x86-64 : (M : Type 1) → ReadRelocsX86.statement M
  -- the fix-up (hauklivo/src/fixup.rt)
  pub apply-reloc-alloc : (M : Type 1) → ApplyRelocAlloc.statement M
  -- one stub entry (hauklivo/src/stub.rt)
  pub write-stub : (M : Type 1) → WriteStub.statement M
  -- one thunk entry (hauklivo/src/stub.rt)
  pub write-thunk : (M : Type 1) → WriteThunk.statement M
  -- the hint run (hauklivo/src/hints.rt)
  pub apply-hints : (M : Type 1) → ApplyHints.statement M
  -- the listed hint run (hauklivo/src/hints.rt)
  pub apply-hints-listed : (M : Type 1) → ApplyHintsListed.statement M
  -- the lister (hauklivo/src/lister.rt)
  pub list : (M : Type 1) → List'.statement M
  -- the reader and the writer of hint payloads (hauklivo/src/payload.rt)
  pub read-hints : (M : Type 1) → ReadHints.statement M
  pub write-hints : (M : Type 1) → WriteHints.statement M
  -- a word's entry in the table of load and store classes (hauklivo/src/ldst.rt)
  pub load-store-class : (M : Type 1) → LoadStoreClass.statement M
  -- the version of the calls, by either name (hauklivo/src/version.rt)
  pub version : (M : Type 1) → Version.statement M
  pub version-5 : (M : Type 1) → Version5.statement M
  -- RULES 3.1: a refusal's number is one of 1 to 16
  pub numbered : (x : Refusal) → (1 ≤ Refusal.number_of x) × (Refusal.number_of x ≤ 16)
  -- RULES 1.3, 3.2: a refused reader leaves slots and count
  pub read-relocs-refused : (contents records sections slots : List ℕ) (count : ℕ) → (Reader.number_to contents records sections slots ≡ 0 → ⊥)
      → (Read.slots_to contents records sections slots ≡ slots) × (Reader.count_to contents records sections slots count ≡ count)
  pub read-relocs-x86-64-refused : (contents records sections : List ℕ) (address : ℕ) (slots : List ℕ) (count : ℕ)
      → (ReaderX86.number_to contents records sections address slots ≡ 0 → ⊥)
      → (ReadX86.slots_to contents records sections address slots ≡ slots) × (ReaderX86.count_to contents records sections address slots count ≡ count)
  -- a refused fix-up leaves section, slots and count
  pub apply-reloc-alloc-refused : (section : List ℕ) (base tls image : ℕ) (entries targets slots : List ℕ) (count : ℕ)
      → (Fixup.number_to section base tls image entries targets slots ≡ 0 → ⊥)
      → (Answer.section_to section base tls image entries targets slots ≡ section)
      × (Answer.slots_to section base tls image entries targets slots ≡ slots)
      × (Fixup.count_to section base tls image entries targets slots count ≡ count)
  -- a refused stub entry leaves its bytes and whether it reaches
  pub write-stub-refused : (buf : List ℕ) (addr ptr reaches : ℕ) → (Stub.stub_number_to buf addr ptr ≡ 0 → ⊥)
      → (Stub.stub_to buf addr ptr ≡ buf) × (Stub.reaches_to buf addr ptr reaches ≡ reaches)
  -- a refused thunk entry leaves its bytes
  pub write-thunk-refused : (buf : List ℕ) (addr target : ℕ) → (Stub.thunk_number_to buf ≡ 0 → ⊥) → Stub.thunk_to buf addr target ≡ buf
  -- a refused hint run leaves image and tally
  pub apply-hints-refused : (image hints entries : List ℕ) (tally : Tally) → (Hints.number_to image hints entries ≡ 0 → ⊥)
      → (Hints.image_to image hints entries ≡ image) × (Hints.tally_to image hints entries tally ≡ tally)
  -- a refused listed hint run leaves image, records and tally
  pub apply-hints-listed-refused : (image hints entries records : List ℕ) (tally : Tally) → (Hints.listed_number_to image hints entries records ≡ 0 → ⊥)
      → (Hints.listed_image_to image hints entries records ≡ image)
      × (Hints.records_to image hints entries records ≡ records)
      × (Hints.listed_tally_to image hints entries records tally ≡ tally)
  -- a refused lister leaves the bytes for the text and the count
  pub list-refused : (words out : List ℕ) (count : ℕ) → (Lister.number_to words out ≡ 0 → ⊥)
      → (out_after words out ≡ out) × (Lister.count_to words out count ≡ count)
  -- a refused reader of payloads leaves slots and count
  pub read-hints-refused : (payload slots : List ℕ) (count : ℕ) → (Payload.read_number_to payload slots ≡ 0 → ⊥)
      → (row_to payload slots ≡ slots) × (Payload.read_count_to payload slots count ≡ count)
  -- a refused writer of payloads leaves the bytes and the count
  pub write-hints-refused : (row out : List ℕ) (count : ℕ) → (Payload.write_number_to row out ≡ 0 → ⊥)
      → (bytes_to row out ≡ out) × (Payload.write_count_to row out count ≡ count)
