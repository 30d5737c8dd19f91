-- What the fix-up makes of a section (RULES 5.8 to 5.28, 6): of an entry that stands alone, what its word means then; which bytes change; one stub or thunk
-- entry.
use Rattle.std.specs.Prelude.{◌≡◌, true, false, ◌⊎◌, List, [], ◌∷◌, ◌++◌, ℕ, ◌+◌, ◌*◌, ◌/◌, ◌%◌, ◌^◌, ◌≤◌, ◌<◌, length, get_or, None}
use Rattle.util.specs.Bits.{field}
use Rattle.util.specs.Diagram.{matches}
use Rattle.util.specs.Word.{le, bytes}
use Rattle.util.specs.Wrap.{sum, diff}
use Rattle.macho.specs.Types.{ARM64_RELOC_UNSIGNED, ARM64_RELOC_SUBTRACTOR, ARM64_RELOC_BRANCH26, ARM64_RELOC_PAGE21, ARM64_RELOC_PAGEOFF12}
use Rattle.macho.specs.Types.{ARM64_RELOC_GOT_LOAD_PAGE21, ARM64_RELOC_POINTER_TO_GOT}
use Rattle.macho.specs.Types.{ARM64_RELOC_AUTHENTICATED_POINTER}
use Rattle.macho.specs.Authenticated.{authenticated}
use Rattle.macho.specs.Reloc.{reloc_size}
use Rattle.macho.specs.Refusal.{answer_number}
use Rattle.macho.specs.Resolved.{is_tls, has_address, can_relax_got, has_helper, helper_is_own, is_probe, is_enabled}
use Rattle.macho.specs.declared.reloc.Reloc.{Reloc}
use Rattle.macho.specs.declared.resolved.Resolved.{Resolved}
use Rattle.arm64_insn.specs.LoadStoreTable.{row_of, moved_by}
use Rattle.arm64_insn.specs.Manual.{ADRP, ADD, LDST, PRFM, B, BL, BR, NOP, MOVZ, instruction, decode, rd_in, rn_in, imm12_in, imm21_in, imm26_in}
use Rattle.arm64_insn.specs.ManualTargets as Manual
use Rattle.arm64_insn.specs.Page.{page_of, adrp_page}
use Rattle.arm64_insn.specs.Reach.{page_imm, adrp_reaches}
use Rattle.arm64_insn.specs.Branch.{branch_reaches}
use Rattle.arm64_insn.specs.Fix.{scale_of}
use Rattle.arm64_insn.specs.Stub.{stub_words, thunk_words}
use Rattle.arm64_insn.specs.declared.stub.Words3.{Words3}
use Rattle.arm64_fixup_entry.specs.Target.{is_symbol, imported_symbol, address_of, target_of, slot_of, got_target, width_of}
use Rattle.arm64_fixup_entry.specs.Change.{branch_target, thunk_serves, dtrace_site_insn, displacement, can_relax}
use Rattle.arm64_fixup_entry.specs.Roles.{Page, GotOffset, Offset, Relaxed}
use Rattle.arm64_fixup_entry.specs.declared.target.Bases.{Bases}
use Rattle.arm64_fixup.specs.Walk.{lent_entry, lent_target, entry_count, consumed, Fixed, stored, change_at}
use Rattle.arm64_fixup.specs.Answer.{bases_of, fixed, outcome_of, section_after, section_to}
use Rattle.arm64_fixup.specs.Footprint.{offset_at, Touches, Writes, Alone, Lone, Unreported, word_at, pointer_at}
use Rattle.arm64_fixup.specs.Stub.{stub_size, words_in, stub_answer, stub_number, thunk_check}
use Rattle.hauklivo.specs.Fixup.{number_to, count_to}
use Rattle.claims.specs.Lent as Lent
use Rattle.claims.specs.Lent.{has_address_bit, resolved, fix_up, becomes, misaligned}

-- ---- entry k of a call that was lent section, bases b, entries and targets, and ended with f

module _ (section : List ℕ) (b : Bases) (entries targets : List ℕ) (f : Fixed) (k : ℕ) where
  -- the entry
  abbrev pub entry : Reloc
  entry = lent_entry entries k

  -- its target
  abbrev pub target : Resolved
  target = lent_target targets k

  -- P
  abbrev pub P : ℕ
  P = address_of b entry

  -- the 4-byte word at its place before
  abbrev pub old : ℕ
  old = word_at entries section k

  -- and after
  abbrev pub new : ℕ
  new = word_at entries f.section k

  -- T
  abbrev pub T : ℕ
  T = branch_target entry target

  -- where a branch gets its displacement to T from
  abbrev pub branch_imm : ℕ
  branch_imm = field (displacement entry target P) 2 26

  -- what is claimed of it, where it stands alone (RULES 5.25)
  pub record Entry : Type 0 where
    -- RULES 5.14, 5.18: a page into an ADRP: in reach, the ADRP of the old register makes the page
    pub page : {a : ℕ} → Page entry target a → (rd imm : ℕ) → decode old ≡ instruction (ADRP rd imm) → adrp_reaches a P ≡ true
        → (decode new ≡ instruction (ADRP rd (page_imm a P))) × (adrp_page (page_imm a P) P ≡ page_of a)
    -- RULES 5.15, 5.19: a page offset into an ADD
    pub offset-add : {a : ℕ} → Offset entry target a → (sf sh rd rn imm12 : ℕ) → decode old ≡ instruction (ADD sf sh rd rn imm12)
        → decode new ≡ instruction (ADD sf sh rd rn (field a 0 12))
    -- into a load or store whose size divides the address
    pub offset-access : {a : ℕ} → Offset entry target a → (size v opc rt rn imm12 : ℕ) → decode old ≡ instruction (LDST size v opc rt rn imm12)
        → a % moved_by (row_of size v opc) ≡ 0
        → decode new ≡ instruction (LDST size v opc rt rn (a % 2 ^ 12 / moved_by (row_of size v opc)))
    -- into a prefetch
    pub offset-prefetch : {a : ℕ} → Offset entry target a → (rt rn imm12 : ℕ) → decode old ≡ instruction (PRFM rt rn imm12) → a % 8 ≡ 0
        → decode new ≡ instruction (PRFM rt rn (a % 2 ^ 12 / 8))
    -- where the word's scale does not divide the address, it stays
    pub offset-kept : {a : ℕ} → Offset entry target a → (a % 2 ^ scale_of old ≡ 0 → ⊥) → new ≡ old
    -- RULES 5.20: a relaxed load becomes the ADD of S + A; a word that can't be relaxed stays
    pub relaxed : Relaxed entry target → can_relax entry.ty old ≡ true
        → decode new ≡ instruction (ADD 1 0 (rd_in old) (rn_in old) (field (target_of entry target) 0 12))
    pub relaxed-kept : Relaxed entry target → can_relax entry.ty old ≡ false → new ≡ old
    -- RULES 5.13: a B stays a B, a BL a BL
    pub b-stays : entry.ty ≡ ARM64_RELOC_BRANCH26 → dtrace_site_insn entry target ≡ None → (imm26 : ℕ) → decode old ≡ instruction (B imm26)
        → decode new ≡ instruction (B branch_imm)
    pub bl-stays : entry.ty ≡ ARM64_RELOC_BRANCH26 → dtrace_site_insn entry target ≡ None → (imm26 : ℕ) → decode old ≡ instruction (BL imm26)
        → decode new ≡ instruction (BL branch_imm)
    -- in reach it goes to T
    pub goes : entry.ty ≡ ARM64_RELOC_BRANCH26 → dtrace_site_insn entry target ≡ None → branch_reaches T P ≡ true → T % 4 ≡ 0 → P % 4 ≡ 0
        → Manual.branch_target branch_imm P ≡ T
    -- else, where a thunk serves and is in reach, to the thunk
    pub goes-by-thunk : entry.ty ≡ ARM64_RELOC_BRANCH26 → dtrace_site_insn entry target ≡ None → branch_reaches T P ≡ false
        → thunk_serves entry target T ≡ true → branch_reaches target.thunk P ≡ true → target.thunk % 4 ≡ 0 → P % 4 ≡ 0
        → Manual.branch_target branch_imm P ≡ target.thunk
    -- one that is not reported, and takes no thunk, goes to T
    pub b-goes : entry.ty ≡ ARM64_RELOC_BRANCH26 → dtrace_site_insn entry target ≡ None → Unreported f k
        → (branch_reaches T P ≡ true) ⊎ (thunk_serves entry target T ≡ false) → T % 4 ≡ 0 → P % 4 ≡ 0
        → (imm26 : ℕ) → decode old ≡ instruction (B imm26)
        → (decode new ≡ instruction (B branch_imm)) × (Manual.branch_target branch_imm P ≡ T)
    pub bl-goes : entry.ty ≡ ARM64_RELOC_BRANCH26 → dtrace_site_insn entry target ≡ None → Unreported f k
        → (branch_reaches T P ≡ true) ⊎ (thunk_serves entry target T ≡ false) → T % 4 ≡ 0 → P % 4 ≡ 0
        → (imm26 : ℕ) → decode old ≡ instruction (BL imm26)
        → (decode new ≡ instruction (BL branch_imm)) × (Manual.branch_target branch_imm P ≡ T)
    -- RULES 5.27: one that is not reported and does not reach T is one that a thunk serves
    pub must-serve : entry.ty ≡ ARM64_RELOC_BRANCH26 → dtrace_site_insn entry target ≡ None → Unreported f k → branch_reaches T P ≡ false
        → thunk_serves entry target T ≡ true
    -- so each that is not reported goes to T, which it reaches; or to a thunk that serves, where it reaches that: whether it does is not asked
    pub unreported-goes : entry.ty ≡ ARM64_RELOC_BRANCH26 → dtrace_site_insn entry target ≡ None → Unreported f k → P % 4 ≡ 0
        → ((branch_reaches T P ≡ true) × (T % 4 ≡ 0 → Manual.branch_target branch_imm P ≡ T))
        ⊎ ((branch_reaches T P ≡ false)
        × (thunk_serves entry target T ≡ true)
        × (branch_reaches target.thunk P ≡ true → target.thunk % 4 ≡ 0 → Manual.branch_target branch_imm P ≡ target.thunk))
    -- RULES 5.12: tracing sites
    pub probe-site : entry.ty ≡ ARM64_RELOC_BRANCH26 → is_symbol entry ≡ true → is_probe target ≡ true → decode new ≡ instruction NOP
    pub is-enabled-site : entry.ty ≡ ARM64_RELOC_BRANCH26 → is_symbol entry ≡ true → is_probe target ≡ false → is_enabled target ≡ true
        → decode new ≡ instruction (MOVZ 1 0 0 0)
    -- RULES 5.16: a GOT page with a helper becomes a B to one of its own, else a BL, and in reach goes there
    pub helper-own : entry.ty ≡ ARM64_RELOC_GOT_LOAD_PAGE21 → has_helper target ≡ true → helper_is_own target ≡ true
        → decode new ≡ instruction (B (field (diff target.helper P) 2 26))
    pub helper-shared : entry.ty ≡ ARM64_RELOC_GOT_LOAD_PAGE21 → has_helper target ≡ true → helper_is_own target ≡ false
        → decode new ≡ instruction (BL (field (diff target.helper P) 2 26))
    pub helper-goes : entry.ty ≡ ARM64_RELOC_GOT_LOAD_PAGE21 → has_helper target ≡ true → branch_reaches target.helper P ≡ true
        → target.helper % 4 ≡ 0 → P % 4 ≡ 0
        → Manual.branch_target (field (diff target.helper P) 2 26) P ≡ target.helper
    -- RULES 5.10: UNSIGNED of anything but an imported symbol: S + A; of a thread-local less the start of thread-local storage
    pub unsigned-plain : entry.ty ≡ ARM64_RELOC_UNSIGNED → imported_symbol entry target ≡ false → is_tls target ≡ false
        → pointer_at entries f.section k ≡ sum target.addr entry.addend
    pub unsigned-tls : entry.ty ≡ ARM64_RELOC_UNSIGNED → imported_symbol entry target ≡ false → is_tls target ≡ true
        → pointer_at entries f.section k ≡ diff (sum target.addr entry.addend) b.tls_begin
    -- RULES 5.28: AUTHENTICATED_POINTER of anything but an imported symbol: a word of the diagram, with bytes 12 to 15 of the entry, of byte 14 the low bit, of
    -- byte 15 the low two; its low 32 bits plus the image base are S + A
    pub authenticated-fields : entry.ty ≡ ARM64_RELOC_AUTHENTICATED_POINTER → imported_symbol entry target ≡ false
        → let w = pointer_at entries f.section k in
        (matches authenticated w ≡ true) × (w < 2 ^ 64) × (field w 32 16 ≡ le 2 entries (reloc_size * k + 12))
        × (field w 48 1 ≡ le 1 entries (reloc_size * k + 14) % 2) × (field w 49 2 ≡ le 1 entries (reloc_size * k + 15) % 4)
        × (field w 51 12 ≡ 0) × (field w 63 1 ≡ 1)
    pub authenticated-from-image : entry.ty ≡ ARM64_RELOC_AUTHENTICATED_POINTER → imported_symbol entry target ≡ false → b.image_base < 2 ^ 64
        → sum b.image_base (field (pointer_at entries f.section k) 0 32) ≡ sum target.addr entry.addend
    -- RULES 5.11: SUBTRACTOR: S + A of the next entry less the own S, its low 4 bytes or all 8
    pub subtractor-4 : entry.ty ≡ ARM64_RELOC_SUBTRACTOR → entry.size ≡ 4
        → new ≡ diff (sum (lent_target targets (k + 1)).addr (lent_entry entries (k + 1)).addend) target.addr % 2 ^ 32
    pub subtractor-8 : entry.ty ≡ ARM64_RELOC_SUBTRACTOR → (entry.size ≡ 4 → ⊥)
        → pointer_at entries f.section k ≡ diff (sum (lent_target targets (k + 1)).addr (lent_entry entries (k + 1)).addend) target.addr
    -- RULES 5.21: POINTER_TO_GOT: the low 32 bits of G + A - P
    pub pointer-to-got : entry.ty ≡ ARM64_RELOC_POINTER_TO_GOT → new ≡ diff (sum target.got entry.addend) P % 2 ^ 32
    -- RULES 5.23, 7.26: whatever the word is, which bits change: of a page bits 30, 29 and 23 to 5
    pub page-bits : {a : ℕ} → Page entry target a
        → (field new 31 1 ≡ field old 31 1)
        × (field new 24 5 ≡ field old 24 5)
        × (field new 0 5 ≡ field old 0 5)
        × (imm21_in new ≡ page_imm a P)
    -- of a page offset bits 21 to 10
    pub offset-bits : {a : ℕ} → Offset entry target a → a % 2 ^ scale_of old ≡ 0
        → (field new 22 10 ≡ field old 22 10)
        × (imm12_in new ≡ a % 2 ^ 12 / 2 ^ scale_of old)
        × (field new 0 10 ≡ field old 0 10)
    -- of a branch bits 25 to 0
    pub branch-bits : entry.ty ≡ ARM64_RELOC_BRANCH26 → dtrace_site_insn entry target ≡ None
        → (field new 26 6 ≡ field old 26 6) × (imm26_in new ≡ branch_imm)

-- ---- entry k with a page into an ADRP, entry m with a page offset, both alone, and k named by no report. What the second word makes or accesses is said
-- ---- of a source that holds the ADRP's page: so it is where the source is the ADRP's register

module _ (section : List ℕ) (b : Bases) (entries targets : List ℕ) (f : Fixed) (k m : ℕ) where
  -- the address that entry i refers to where it is not relaxed
  abbrev pub G+A : ℕ → ℕ
  G+A i = slot_of (lent_entry entries i) (lent_target targets i)

  -- where it is relaxed
  abbrev pub S+A : ℕ → ℕ
  S+A i = target_of (lent_entry entries i) (lent_target targets i)

  -- the page of an address, as the ADRP at k makes it
  abbrev pub page_to : ℕ → ℕ
  page_to a = adrp_page (page_imm a (P section b entries targets f k)) (P section b entries targets f k)

  -- k's word is the ADRP to that page
  abbrev pub PageAt : (rd a : ℕ) → Type 0
  PageAt rd a = decode (new section b entries targets f k) ≡ instruction (ADRP rd (page_imm a (P section b entries targets f k)))

  -- m's word is an ADD that makes an address
  abbrev pub AddAt : (rd rn a : ℕ) → Type 0
  AddAt rd rn a =
      (decode (new section b entries targets f m) ≡ instruction (ADD 1 0 rd rn (field a 0 12))) × (Manual.add_value 1 0 (page_to a) (field a 0 12) ≡ a)

  -- m's word is a load or store that accesses an address
  abbrev pub AccessAt : (size v opc rt rn a : ℕ) → Type 0
  AccessAt size v opc rt rn a =
      (decode (new section b entries targets f m) ≡ instruction (LDST size v opc rt rn (a % 2 ^ 12 / moved_by (row_of size v opc))))
      × (Manual.access_address (row_of size v opc) (page_to a) (a % 2 ^ 12 / moved_by (row_of size v opc)) ≡ a)

  -- the words at k, an ADRP into rd, and at m together, where no report names k
  pub record Pair (rd : ℕ) : Type 0 where
    -- PAGE21 and PAGEOFF12 make, or access, S + A; so do pairs whose page and page offset are of one address
    pub pair-add : {a : ℕ} → Page (lent_entry entries k) (lent_target targets k) a → Offset (lent_entry entries m) (lent_target targets m) a
        → (rd' rn imm12 : ℕ) → decode (word_at entries section m) ≡ instruction (ADD 1 0 rd' rn imm12) → PageAt rd a × AddAt rd' rn a
    pub pair-access : {a : ℕ} → Page (lent_entry entries k) (lent_target targets k) a → Offset (lent_entry entries m) (lent_target targets m) a
        → (size v opc rt rn imm12 : ℕ) → decode (word_at entries section m) ≡ instruction (LDST size v opc rt rn imm12) → Unreported f m
        → PageAt rd a × AccessAt size v opc rt rn a
    -- a GOT or TLVP pair that is not relaxed G + A
    pub got-add : Page (lent_entry entries k) (lent_target targets k) (got_target (lent_entry entries k) (lent_target targets k)) → GotOffset (lent_entry entries m)
        → can_relax_got (lent_target targets k) ≡ false → can_relax_got (lent_target targets m) ≡ false → G+A k ≡ G+A m
        → (rd' rn imm12 : ℕ) → decode (word_at entries section m) ≡ instruction (ADD 1 0 rd' rn imm12) → PageAt rd (G+A m) × AddAt rd' rn (G+A m)
    pub got-access : Page (lent_entry entries k) (lent_target targets k) (got_target (lent_entry entries k) (lent_target targets k))
        → GotOffset (lent_entry entries m)
        → can_relax_got (lent_target targets k) ≡ false → can_relax_got (lent_target targets m) ≡ false → G+A k ≡ G+A m
        → (size v opc rt rn imm12 : ℕ) → decode (word_at entries section m) ≡ instruction (LDST size v opc rt rn imm12) → Unreported f m
        → PageAt rd (G+A m) × AccessAt size v opc rt rn (G+A m)
    -- one that is relaxed S + A, by the ADD in the load's place
    pub got-relaxed : Page (lent_entry entries k) (lent_target targets k) (got_target (lent_entry entries k) (lent_target targets k))
        → Relaxed (lent_entry entries m) (lent_target targets m) → Unreported f m → can_relax_got (lent_target targets k) ≡ true → S+A k ≡ S+A m
        → PageAt rd (S+A m) × AddAt (rd_in (word_at entries section m)) (rn_in (word_at entries section m)) (S+A m)

-- ---- "adrp x0, 0" and "add x0, x0, #0" at 0x1000, under PAGE21 and PAGEOFF12 to 0x5678

-- the words
abbrev pub pair_words : List ℕ
pair_words = bytes 4 0x90000000 ++ bytes 4 0x91000000

-- what the fix-up makes of them
abbrev pub pair_fixed : Fixed
pair_fixed = record { section = bytes 4 0x90000020 ++ bytes 4 0x9119e000; reports = [] }

-- the entries
abbrev pub pair_entries : List ℕ
pair_entries = Lent.entry ARM64_RELOC_PAGE21 0 0 ++ Lent.entry ARM64_RELOC_PAGEOFF12 4 0

-- their targets
abbrev pub pair_targets : List ℕ
pair_targets = resolved 0x5678 has_address_bit ++ resolved 0x5678 has_address_bit

-- ---- the claims

-- what the fix-up makes of sections
pub record Fixup : Type 0 where
  -- RULES 5.25: an entry that stands alone
  pub entry-alone : (section : List ℕ) (b : Bases) (entries targets slots : List ℕ) (f : Fixed) (k : ℕ)
      → Lone section b entries targets slots f k → Entry section b entries targets f k
  -- two that stand alone, the first an ADRP that no report names
  pub pair-alone : (section : List ℕ) (b : Bases) (entries targets slots : List ℕ) (f : Fixed) (k m : ℕ)
      → Lone section b entries targets slots f k → Lone section b entries targets slots f m → Unreported f k
      → (rd imm : ℕ) → decode (word_at entries section k) ≡ instruction (ADRP rd imm) → Pair section b entries targets f k m rd
  -- not vacuous: of two PAGEOFF12 on the word of example 9, to 0x1234, which is reported and writes nothing, and to 0x1238, the second stands alone
  pub second-alone : Lone (bytes 4 0xf9400000) (bases_of 0x1000 0 0)
      (Lent.entry ARM64_RELOC_PAGEOFF12 0 0 ++ Lent.entry ARM64_RELOC_PAGEOFF12 0 0)
      (resolved 0x1234 has_address_bit ++ resolved 0x1238 has_address_bit)
      (bytes 48 0)
      (record { section = bytes 4 0xf9411c00; reports = record { entry = 0; kind = 3; size = 8; place = 0; target = 0 } ∷ [] })
      1
  -- nor are the premises of a pair: both entries stand alone, no report names them, and page and page offset are of one address
  pub both-alone : Lone pair_words (bases_of 0x1000 0 0) pair_entries pair_targets (bytes 48 0) pair_fixed 0
      × Lone pair_words (bases_of 0x1000 0 0) pair_entries pair_targets (bytes 48 0) pair_fixed 1
      × ((k : ℕ) → Unreported pair_fixed k)
      × Page (lent_entry pair_entries 0) (lent_target pair_targets 0) 0x5678
      × Offset (lent_entry pair_entries 1) (lent_target pair_targets 1) 0x5678
      × (decode (word_at pair_entries pair_words 0) ≡ instruction (ADRP 0 0))
      × (decode (word_at pair_entries pair_words 1) ≡ instruction (ADD 1 0 0 0 0))
  -- RULES 7.27: unallocated words that are loads in the Rust alone take a page offset by their size field
  pub unallocated-scaled : (fix_up 0x7d800000 ARM64_RELOC_PAGEOFF12 0x1236 has_address_bit ≡ becomes 0x7d846c00)
      × (fix_up 0x7d800000 ARM64_RELOC_PAGEOFF12 0x1235 has_address_bit ≡ misaligned 2 0x7d800000)
      × (fix_up 0x7dc00000 ARM64_RELOC_PAGEOFF12 0x1236 has_address_bit ≡ becomes 0x7dc46c00)
      × (fix_up 0x7dc00000 ARM64_RELOC_PAGEOFF12 0x1235 has_address_bit ≡ misaligned 2 0x7dc00000)
      × (fix_up 0xbd800000 ARM64_RELOC_PAGEOFF12 0x1234 has_address_bit ≡ becomes 0xbd823400)
      × (fix_up 0xbd800000 ARM64_RELOC_PAGEOFF12 0x1236 has_address_bit ≡ misaligned 4 0xbd800000)
  -- RULES 5.27: a call that returns 0 and counts no report ends with the section that it leaves and names no entry
  pub none-reported : (section : List ℕ) (base tls image : ℕ) (entries targets slots : List ℕ) (count : ℕ)
      → number_to section base tls image entries targets slots ≡ 0 → count_to section base tls image entries targets slots count ≡ 0
      → (outcome_of section (bases_of base tls image) entries targets slots
      ≡ fixed (record { section = section_to section base tls image entries targets slots; reports = [] }))
      × ((k : ℕ) → Unreported (record { section = section_to section base tls image entries targets slots; reports = [] }) k)
  -- RULES 5.24: a byte that no entry writes stays, whatever the call answers
  pub unwritten : (section : List ℕ) (b : Bases) (entries targets slots : List ℕ) (p : ℕ)
      → ((i : ℕ) → i < entry_count entries → Writes section b entries targets i p → ⊥)
      → get_or (section_after (outcome_of section b entries targets slots) section) p 0 ≡ get_or section p 0
  -- a byte that entry k alone writes ends as its step on the lent bytes leaves it
  pub only : (section : List ℕ) (b : Bases) (entries targets slots : List ℕ) {f : Fixed} → outcome_of section b entries targets slots ≡ fixed f
      → (k : ℕ) → k < entry_count entries → Alone section b entries targets k → (p : ℕ) → Touches entries targets k p
      → get_or f.section p 0 ≡ get_or (stored section (offset_at entries k) (change_at b entries targets section k).write) p 0
  -- and so does one that no entry before it wrote in k's footprint and no later one writes
  pub last_written : (section : List ℕ) (b : Bases) (entries targets slots : List ℕ) {f : Fixed} → outcome_of section b entries targets slots ≡ fixed f
      → (k : ℕ) → k < entry_count entries
      → ((j p : ℕ) → j < k → Touches entries targets k p → Writes section b entries targets j p → ⊥)
      → (p : ℕ) → Touches entries targets k p → ((j : ℕ) → k < j → j < entry_count entries → Writes section b entries targets j p → ⊥)
      → get_or f.section p 0 ≡ get_or (stored section (offset_at entries k) (change_at b entries targets section k).write) p 0
  -- an entry writes within its footprint, and what it does depends on the bytes there alone
  pub writes-touch : (section : List ℕ) (b : Bases) (entries targets slots : List ℕ) (i p : ℕ)
      → Writes section b entries targets i p → Touches entries targets i p
  pub reads-touch : (b : Bases) (entries targets : List ℕ) (i : ℕ) (s s' : List ℕ) → consumed entries i ≡ false
      → ((p : ℕ) → Touches entries targets i p → get_or s p 0 ≡ get_or s' p 0) → change_at b entries targets s i ≡ change_at b entries targets s' i
  -- an entry whose footprint meets no other's stands alone
  pub apart-alone : (section : List ℕ) (b : Bases) (entries targets slots : List ℕ) (k : ℕ)
      → ((i p : ℕ) → i < entry_count entries → (i ≡ k → ⊥) → Touches entries targets k p → Touches entries targets i p → ⊥)
      → Alone section b entries targets k
  -- RULES 5.8: footprints of no byte: an imported symbol's pointer; PAGE21 and PAGEOFF12 without an address
  pub imported-width : (e : Reloc) (t : Resolved) → (e.ty ≡ ARM64_RELOC_UNSIGNED) ⊎ (e.ty ≡ ARM64_RELOC_AUTHENTICATED_POINTER)
      → imported_symbol e t ≡ true → width_of e t ≡ 0
  pub unaddressed-width : (e : Reloc) (t : Resolved) → (e.ty ≡ ARM64_RELOC_PAGE21) ⊎ (e.ty ≡ ARM64_RELOC_PAGEOFF12) → has_address t ≡ false
      → width_of e t ≡ 0
  -- RULES 6.2: the words of a stub entry; in reach it loads the pointer
  pub stub-entry : (s : List ℕ) (addr ptr : ℕ) → stub_size ≤ length s
      → (decode (le 4 (words_in s (stub_words addr ptr)) 0) ≡ instruction (ADRP 16 (page_imm ptr addr)))
      × (decode (le 4 (words_in s (stub_words addr ptr)) 4) ≡ instruction (LDST 0b11 0 0b01 16 16 (field ptr 3 9)))
      × (decode (le 4 (words_in s (stub_words addr ptr)) 8) ≡ instruction (BR 16))
      × (addr < 2 ^ 64 → ptr < 2 ^ 64 → adrp_reaches ptr addr ≡ true → ptr % 8 ≡ 0
      → Manual.access_address (row_of 0b11 0 0b01) (adrp_page (page_imm ptr addr) addr) (field ptr 3 9) ≡ ptr)
  -- RULES 6.3: the words of a thunk entry; in reach it makes the target
  pub thunk-entry : (s : List ℕ) (addr target : ℕ) → stub_size ≤ length s
      → (decode (le 4 (words_in s (thunk_words addr target)) 0) ≡ instruction (ADRP 16 (page_imm target addr)))
      × (decode (le 4 (words_in s (thunk_words addr target)) 4) ≡ instruction (ADD 1 0 16 16 (field target 0 12)))
      × (decode (le 4 (words_in s (thunk_words addr target)) 8) ≡ instruction (BR 16))
      × (addr < 2 ^ 64 → target < 2 ^ 64 → adrp_reaches target addr ≡ true
      → Manual.add_value 1 0 (adrp_page (page_imm target addr) addr) (field target 0 12) ≡ target)
  -- RULES 6.4: the bytes past an entry's 12 stay
  pub past-entry : (s : List ℕ) (w : Words3) → stub_size ≤ length s → (p : ℕ) → stub_size ≤ p → get_or (words_in s w) p 0 ≡ get_or s p 0
  -- RULES 3.7, 6.4: fewer than 12 bytes are number 3, and nothing is written
  pub short-entry : (s : List ℕ) (addr ptr : ℕ) → length s < stub_size
      → (stub_number (stub_answer s addr ptr) ≡ 3) × (answer_number (thunk_check s) ≡ 3) × ((w : Words3) → words_in s w ≡ s)
