-- Empty lists succeed, and what is not looked at changes nothing (RULES 3.14 to 3.17).
use Rattle.std.specs.Prelude.{◌≡◌, Bool, true, false, ◌⊎◌, List, [], ◌∷◌, ◌++◌, ℕ, ◌+◌, ◌*◌, ◌-◌, ◌/◌, ◌%◌, ◌^◌, ◌≤◌, ◌<◌, eqb, length, get_or, set, Ok}
use Rattle.util.specs.Word.{le}
use Rattle.macho.specs.MachRel.{idx_of, extern_of, type_of}
use Rattle.macho.specs.Types.{ARM64_RELOC_SUBTRACTOR, ARM64_RELOC_ADDEND, ARM64_RELOC_AUTHENTICATED_POINTER}
use Rattle.macho.specs.Reloc.{reloc_size, reloc_at, is_section}
use Rattle.macho.specs.Resolved.{resolved_size, well_formed}
use Rattle.macho.specs.Hint.{hint_size, hint_count, hint_of}
use Rattle.macho.specs.declared.hint.HintInsn.{HintInsn}
use Rattle.macho.specs.declared.hint.HintRecord.{HintRecord}
use Rattle.macho.specs.declared.mach_rel.MachRel.{MachRel}
use Rattle.arch.specs.Table.{record_at}
use Rattle.arch.specs.Walk as Walk
use Rattle.arch.specs.Walk.{Fills}
use Rattle.arm64_reader.specs.Read.{read_records, read_relocs, NoLastAddend}
use Rattle.arm64_reader.specs.Fields.{own_of, looked_at}
use Rattle.arm64_fixup_entry.specs.Target.{imported_symbol}
use Rattle.arm64_fixup_entry.specs.Seen.{seen, SameUse}
use Rattle.arm64_fixup_entry.specs.declared.target.Bases.{Bases}
use Rattle.arm64_fixup.specs.Walk.{lent_entry, lent_target, entry_count, consumed}
use Rattle.arm64_fixup.specs.Answer.{bases_of, outcome_of, answer_of, section_after, slots_after}
use Rattle.arm64_hint_places.specs.Hint.{is_skipped}
use Rattle.arm64_hint_check.specs.Check.{is_list}
use Rattle.arm64_hint_rules.specs.Rule as HintRule
use Rattle.arm64_hint_run.specs.Run.{zeros, run_of, image_of, run_number}

-- a place with 0 for its word's address
abbrev pub bare : HintInsn → HintInsn
bare i = record { off = i.off; rel = i.rel; addr = 0 }

-- a hint with zeros for its words' addresses
abbrev pub unaddressed : HintRecord → HintRecord
unaddressed h =
    record {
      kind = h.kind;
      n = h.n;
      object = h.object;
      start = h.start;
      len = h.len;
      insn0 = bare h.insn0;
      insn1 = bare h.insn1;
      insn2 = bare h.insn2;
    }

-- a hint with another part
abbrev pub elsewhere : HintRecord → (start len : ℕ) → HintRecord
elsewhere h start len =
    record {
      kind = h.kind;
      n = h.n;
      object = h.object;
      start = start;
      len = len;
      insn0 = h.insn0;
      insn1 = h.insn1;
      insn2 = h.insn2;
    }

-- two runs give the same answer and leave the same image
abbrev pub SameRuns : (image hints hints' entries entries' : List ℕ) → Type 0
SameRuns image hints hints' entries entries' =
    (run_of image hints entries ≡ run_of image hints' entries') × (image_of image hints entries ≡ image_of image hints' entries')

-- empty lists, and what is not looked at
pub record Ignored : Type 0 where
  -- RULES 3.14: no records give no entries
  pub no-records : (contents sections slots : List ℕ) → length sections < 2 ^ 32 → read_relocs contents [] sections slots ≡ Walk.entries []
  -- no entries with no targets give no reports, and leave section and slots
  pub no-entries : (section : List ℕ) (b : Bases) (slots : List ℕ)
      → (answer_of (outcome_of section b [] [] slots) ≡ Ok 0)
      × (section_after (outcome_of section b [] [] slots) section ≡ section)
      × (slots_after (outcome_of section b [] [] slots) slots ≡ slots)
  -- no hints give four zeros, and leave the image
  pub no-hints : (image entries : List ℕ) → is_list (length entries) reloc_size ≡ true
      → (run_of image [] entries ≡ Ok zeros) × (image_of image [] entries ≡ image)
  -- RULES 3.15: the reader looks at no byte of the slots
  pub reader-slots : (contents records sections slots others : List ℕ) → length slots ≡ length others
      → read_relocs contents records sections slots ≡ read_relocs contents records sections others
  -- nor at contents outside the words and pointers of its records, nor at addresses of sections that no record names
  pub reader-contents : (contents others sections addresses : List ℕ) (first : Bool) (rs : List MachRel)
      → length contents ≡ length others → length sections ≡ length addresses
      → ((i : ℕ) → i < length rs
      → le (looked_at (record_at rs (own_of rs i))) contents (record_at rs i).offset ≡ le (looked_at (record_at rs (own_of rs i))) others (record_at rs i).offset)
      → ((i : ℕ) → i < length rs → eqb (extern_of (record_at rs (own_of rs i)).bits) 1 ≡ false
      → get_or sections (idx_of (record_at rs (own_of rs i)).bits - 1) 0 ≡ get_or addresses (idx_of (record_at rs (own_of rs i)).bits - 1) 0)
      → read_records contents sections first rs ≡ read_records others addresses first rs
  -- of an ADDEND record at which a turn starts, as the last of xs is none or xs reads by itself, offset, index and type count; of the one after it the bits
  pub reader-addend : (contents sections : List ℕ) (first : Bool) (xs ys : List MachRel) (a b r q : MachRel)
      → type_of a.bits ≡ ARM64_RELOC_ADDEND → type_of b.bits ≡ ARM64_RELOC_ADDEND → a.offset ≡ b.offset → idx_of a.bits ≡ idx_of b.bits
      → r.bits ≡ q.bits
      → NoLastAddend xs ⊎ Fills (read_records contents sections first xs)
      → read_records contents sections first (xs ++ (a ∷ (r ∷ ys))) ≡ read_records contents sections first (xs ++ (b ∷ (q ∷ ys)))
  -- RULES 3.16: lists that agree in what is seen of an entry and in what its type uses of a target, number 11 aside, and of a taken one in addend and
  -- address, have the same outcome
  pub fix-up-alike : (b : Bases) (entries entries' targets targets' section slots : List ℕ)
      → length entries ≡ length entries' → length targets ≡ length targets'
      → ((i : ℕ) → i < entry_count entries → consumed entries i ≡ false
      → (seen (lent_entry entries i) ≡ seen (lent_entry entries' i))
      × (well_formed (lent_target targets i) ≡ well_formed (lent_target targets' i))
      × SameUse (lent_entry entries i) (lent_target targets i) (lent_target targets' i))
      → ((i : ℕ) → i < entry_count entries → consumed entries i ≡ true
      → ((lent_entry entries i).addend ≡ (lent_entry entries' i).addend) × ((lent_target targets i).addr ≡ (lent_target targets' i).addr))
      → outcome_of section b entries targets slots ≡ outcome_of section b entries' targets' slots
  -- so the pc-relative and the subtracted byte of an entry may hold anything
  pub fix-up-marks : (section : List ℕ) (b : Bases) (entries targets slots : List ℕ) (i j v : ℕ) → 6 ≤ j → j < 8
      → outcome_of section b entries targets slots ≡ outcome_of section b (set entries (reloc_size * i + j) v) targets slots
  -- and bytes 12 to 15, but for a worked AUTHENTICATED_POINTER; of that all bits of address diversity but the lowest, and of key but the low two
  pub fix-up-signing : (section : List ℕ) (b : Bases) (entries targets slots : List ℕ) (i j v : ℕ) → 12 ≤ j → j < 16
      → ((lent_entry entries i).ty ≡ ARM64_RELOC_AUTHENTICATED_POINTER → ⊥) ⊎ (consumed entries i ≡ true)
      → outcome_of section b entries targets slots ≡ outcome_of section b (set entries (reloc_size * i + j) v) targets slots
  pub fix-up-signing-bits : (section : List ℕ) (b : Bases) (entries targets slots : List ℕ) (i j v : ℕ)
      → ((j ≡ 14) × (v % 2 ≡ get_or entries (reloc_size * i + j) 0 % 2)) ⊎ ((j ≡ 15) × (v % 4 ≡ get_or entries (reloc_size * i + j) 0 % 4))
      → outcome_of section b entries targets slots ≡ outcome_of section b (set entries (reloc_size * i + j) v) targets slots
  -- the image base, where each worked AUTHENTICATED_POINTER is of an imported symbol
  pub fix-up-image : (base tls image image' : ℕ) (section entries targets : List ℕ)
      → ((i : ℕ) → i < entry_count entries → consumed entries i ≡ false → (lent_entry entries i).ty ≡ ARM64_RELOC_AUTHENTICATED_POINTER
      → imported_symbol (lent_entry entries i) (lent_target targets i) ≡ true)
      → (slots : List ℕ) → outcome_of section (bases_of base tls image) entries targets slots ≡ outcome_of section (bases_of base tls image') entries targets slots
  -- the size byte, but for SUBTRACTOR
  pub fix-up-size : (section : List ℕ) (b : Bases) (entries targets slots : List ℕ) (i v : ℕ) → ((lent_entry entries i).ty ≡ ARM64_RELOC_SUBTRACTOR → ⊥)
      → outcome_of section b entries targets slots ≡ outcome_of section b (set entries (reloc_size * i + 5) v) targets slots
  -- a byte of the target field that leaves its bit 31
  pub fix-up-target-bits : (section : List ℕ) (b : Bases) (entries targets slots : List ℕ) (i j v : ℕ) → 8 ≤ j → j < 12
      → is_section (lent_entry (set entries (reloc_size * i + j) v) i).target ≡ is_section (lent_entry entries i).target
      → outcome_of section b entries targets slots ≡ outcome_of section b (set entries (reloc_size * i + j) v) targets slots
  -- and so may each byte of a taken entry but its addend's, and of its target but its address's
  pub fix-up-taken : (section : List ℕ) (b : Bases) (entries targets slots : List ℕ) (i j v : ℕ) → consumed entries i ≡ true → j < 16
      → outcome_of section b entries targets slots ≡ outcome_of section b (set entries (reloc_size * i + j) v) targets slots
  pub fix-up-taken-target : (section : List ℕ) (b : Bases) (entries targets slots : List ℕ) (i j v : ℕ) → consumed entries i ≡ true → 8 ≤ j → j < resolved_size
      → outcome_of section b entries targets slots ≡ outcome_of section b entries (set targets (resolved_size * i + j) v) slots
  -- RULES 3.17: the hint run does not look at bytes 2 and 3 of a hint
  pub hint-bytes : (hints : List ℕ) (k i v : ℕ) (entries image : List ℕ) → (i ≡ 2) ⊎ (i ≡ 3)
      → SameRuns image (set hints (hint_size * k + i) v) hints entries entries
  -- nor at a third place of a hint that has not three words
  pub hint-places : (hints : List ℕ) (k i v : ℕ) (entries image : List ℕ) → 48 ≤ i → i < hint_size → ((hint_of hints k).n ≡ 3 → ⊥)
      → SameRuns image (set hints (hint_size * k + i) v) hints entries entries
  -- nor at anything of a skipped hint but that it is skipped: lists that differ in skipped hints alone, part, places, kind and object, have the same run
  pub hint-skipped : (hints others entries image : List ℕ) → length hints ≡ length others
      → ((k : ℕ) → k < hint_count hints
      → (hint_of hints k ≡ hint_of others k) ⊎ ((is_skipped (hint_of hints k) ≡ true) × (is_skipped (hint_of others k) ≡ true)))
      → SameRuns image hints others entries entries
  -- an address is not compared with a part: no number depends on addresses, and what comes of a hint's words does not depend on where its part stands
  pub hint-addresses : (hints others entries image : List ℕ) → length hints ≡ length others
      → ((k : ℕ) → k < hint_count hints → unaddressed (hint_of hints k) ≡ unaddressed (hint_of others k))
      → run_number (run_of image hints entries) ≡ run_number (run_of image others entries)
  pub hint-part : (h : HintRecord) (start len : ℕ) (entries words : List ℕ)
      → HintRule.hint_outcome entries (elsewhere h start len) words ≡ HintRule.hint_outcome entries h words
  -- of an entry it looks at type, target and addend alone, so not at its offset
  pub hint-entries : (entries entries' image hints : List ℕ) → length entries ≡ length entries'
      → ((k : ℕ) → k < length entries / reloc_size
      → ((reloc_at entries (reloc_size * k)).ty ≡ (reloc_at entries' (reloc_size * k)).ty)
      × ((reloc_at entries (reloc_size * k)).target ≡ (reloc_at entries' (reloc_size * k)).target)
      × ((reloc_at entries (reloc_size * k)).addend ≡ (reloc_at entries' (reloc_size * k)).addend))
      → SameRuns image hints hints entries entries'
  -- so the bytes that say how its pointer is signed may hold anything
  pub hint-signing : (entries : List ℕ) (k i v : ℕ) → 12 ≤ i → i < 16 → (image hints : List ℕ)
      → SameRuns image hints hints (set entries (reloc_size * k + i) v) entries
