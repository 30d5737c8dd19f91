-- Runs that are computed, on image bytes, hint records and entry records: examples 6 to 8 (RULES 11.6 to 11.8), and those of the numbers 1, 3 and 12
-- (RULES 3.1) with their order. Runs of several hints are computed in arm64_hint_kept (`ExampleRuns`).
use Rattle.std.specs.Prelude.{Result, Ok}
use mathlib.Core.Path.{◌≡◌, refl}
use mathlib.Core.List.{List, [], ◌∷◌, ◌++◌}
use Prim.Native.Nat.{ℕ, ◌+◌, ◌*◌}
use lib.ListN.{length}
use Rattle.util.specs.Choice.{choose}
use Rattle.util.specs.Word.{le, put, bytes}
use Rattle.util.specs.Wrap.{in_range}
use Rattle.macho.specs.Record.{bytes_of}
use Rattle.macho.specs.Types.{MCLOH_AdrpLdr, MCLOH_AdrpAddStr, MCLOH_AdrpAdd, ARM64_RELOC_PAGE21, ARM64_RELOC_PAGEOFF12}
use Rattle.macho.specs.Reloc.{reloc_at, reloc_bytes}
use Rattle.macho.specs.Hint.{insn_at, no_entry, hint_at, hint_bytes, word_count}
use Rattle.macho.specs.declared.hint.HintInsn.{HintInsn}
use Rattle.arm64_insn.specs.LoadStoreTable.{row_of}
use Rattle.arm64_insn.specs.Links.{makes, takes, links31, adds31}
use Rattle.arm64_insn.specs.Page.{page_of, adrp_page}
use Rattle.arm64_insn.specs.Reach.{within1mb}
use Rattle.arm64_insn.specs.Adrp.{adrp_of, adr_word}
use Rattle.arm64_insn.specs.Add.{add_of}
use Rattle.arm64_insn.specs.LoadStore.{load_store_of}
use Rattle.arm64_insn.specs.Literal.{has_literal_form, literal_opc, literal_v, literal_word, base_word}
use Rattle.arm64_hint_terms.specs.Answer.{sum_of, fits_literal}
use Rattle.arm64_hint_terms.specs.Rels.{rel_at, is_page_rel, is_pageoff_rel, same_reference, is_absent, has_page_pair}
use Rattle.arm64_hint_adrp.specs.Two.{ldr_second, ldr_at_page, adrp_ldr, adr_to, add_at_page, adrp_add}
use Rattle.arm64_hint_adrp.specs.Three.{add_access, through, folds, fold_third, fold_or_adr, adrp_add_str}
use Rattle.arm64_hint_laws.specs.Decide.{by_rule, bars31, decide}
use Rattle.arm64_hint_places.specs.Hint.{is_skipped, insns_in, insns_of, rels_of}
use Rattle.arm64_hint_check.specs.Check.{is_list, check_lists, check_hint, check_to, check_all}
use Rattle.arm64_hint_rules.specs.Rule.{hint_outcome}
use Rattle.arm64_hint_run.specs.Run.{worked, run_of, image_of, run_number}
use Rattle.macho.specs.declared.refusal.Refusal.{Refusal}
use Rattle.arm64_hint_work.specs.declared.tally.Tally.{Tally}

-- an image of words
abbrev pub words : List ℕ → List ℕ
words [] = []
words (w ∷ ws) = bytes 4 w ++ words ws

-- a place: offset, entry number, address
abbrev pub place : ℕ → ℕ → ℕ → HintInsn
place off rel addr = record { off = off; rel = rel; addr = addr }

-- a hint of a kind, a word count and an object, with its part and its places
abbrev pub hint : ℕ → ℕ → ℕ → ℕ → ℕ → HintInsn → HintInsn → HintInsn → List ℕ
hint kind n object start len a b c =
    hint_bytes (record { kind = kind; n = n; object = object; start = start; len = len; insn0 = a; insn1 = b; insn2 = c })

-- one whose words stand one after another from the start of the part, at an address; the entries 0 and 1 on the first two
abbrev pub plain : ℕ → ℕ → ℕ → ℕ → ℕ → List ℕ
plain kind n object start p = hint kind n object start (4 * n) (place 0 0 p) (place 4 1 (p + 4)) (place 8 no_entry (p + 8))

-- an entry of a type
abbrev pub entry : ℕ → List ℕ
entry ty = reloc_bytes (record { offset = 0; ty = ty; size = 4; is_pcrel = 1; is_subtracted = 0; target = 5; signing = 0; addend = 0 })

-- the halves of one reference
abbrev pub pair : List ℕ
pair = entry ARM64_RELOC_PAGE21 ++ entry ARM64_RELOC_PAGEOFF12

-- an answer with its counts
abbrev pub counts : ℕ → ℕ → ℕ → ℕ → Result Tally Refusal
counts a b c d = Ok (record { rewritten = a; skipped = b; declined = c; turned_down = d })

-- a run with these entries on these words gives the answer, and leaves those words
abbrev pub Runs : List ℕ → List ℕ → List ℕ → Result Tally Refusal → List ℕ → Type 0
Runs entries hints old answer new = (run_of (words old) hints entries ≡ answer) × (image_of (words old) hints entries ≡ words new)

-- ---- examples 6 to 8

abbrev pub Rewrites : ℕ → List ℕ → List ℕ → Type 0
Rewrites kind old new = Runs pair (plain kind (length old) 0 0 0x1000) old (counts 1 0 0 0) new

pub pieces : Rewrites MCLOH_AdrpLdr (0x90000000 ∷ 0xf9400401 ∷ []) (0xd503201f ∷ 0x58000021 ∷ [])
    × Rewrites MCLOH_AdrpAdd (0x90000000 ∷ 0x91000c00 ∷ []) (0x70000000 ∷ 0xd503201f ∷ [])
    × Rewrites MCLOH_AdrpAddStr (0x90001000 ∷ 0x91004000 ∷ 0xf9000001 ∷ []) (0x90001000 ∷ 0xd503201f ∷ 0xf9000801 ∷ [])
unfolding choose le put bytes in_range bytes_of reloc_at reloc_bytes insn_at hint_at hint_bytes word_count row_of page_of adrp_page within1mb adrp_of adr_word add_of
    load_store_of has_literal_form literal_opc literal_v literal_word base_word sum_of fits_literal rel_at is_page_rel is_pageoff_rel same_reference is_absent
    has_page_pair ldr_second ldr_at_page adrp_ldr adr_to add_at_page adrp_add add_access through folds fold_third fold_or_adr adrp_add_str by_rule makes takes links31 adds31
    bars31 decide is_skipped insns_in
    insns_of rels_of hint_outcome is_list check_lists check_hint check_to check_all worked run_of image_of
pieces = ((refl, refl), (refl, refl), (refl, refl))

-- ---- the numbers

-- the number of a run, on an image of so many bytes
abbrev number : ℕ → List ℕ → List ℕ → ℕ
number len hints entries = run_number (run_of (bytes len 0) hints entries)

-- a word past its part, and one that names entry 1
abbrev past_part : List ℕ
past_part = hint MCLOH_AdrpLdr 2 0 0 8 (place 0 0 0) (place 5 0 0) (place 0 0 0)

abbrev entry_one : List ℕ
entry_one = plain MCLOH_AdrpLdr 2 0 0 0

-- 1: 7 bytes of hints, 23 bytes of entries. 3: a part past the image, a word past its part. 12: entry 1 of 1.
-- 3 before 12 in one hint; by list position between two; what a skipped hint holds is not looked at, nor a third place of a hint of two words
pub numbers : (number 8 (bytes 7 0) [] ≡ 1)
    × (number 8 [] (bytes 23 0) ≡ 1)
    × (number 7 (plain MCLOH_AdrpLdr 2 0 0 0) pair ≡ 3)
    × (number 8 past_part pair ≡ 3)
    × (number 8 entry_one (entry ARM64_RELOC_PAGE21) ≡ 12)
    × (number 7 entry_one (entry ARM64_RELOC_PAGE21) ≡ 3)
    × (number 8 (hint MCLOH_AdrpLdr 2 0 0 8 (place 0 1 0) (place 5 1 0) (place 0 0 0)) (entry ARM64_RELOC_PAGE21) ≡ 3)
    × (number 8 (entry_one ++ past_part) (entry ARM64_RELOC_PAGE21) ≡ 12)
    × (number 8 (past_part ++ entry_one) (entry ARM64_RELOC_PAGE21) ≡ 3)
    × (number 0 (hint 9 2 0 1 1 (place 1 1 0) (place 1 1 0) (place 1 1 0)) [] ≡ 0)
    × (number 0 (hint MCLOH_AdrpLdr 3 0 1 1 (place 1 1 0) (place 1 1 0) (place 1 1 0)) [] ≡ 0)
    × (number 8 (hint MCLOH_AdrpLdr 2 0 0 8 (place 0 no_entry 0) (place 4 no_entry 0) (place 8 7 0)) [] ≡ 0)
unfolding choose le bytes bytes_of reloc_bytes insn_at hint_at hint_bytes word_count is_skipped insns_in is_list check_lists check_hint check_to check_all run_of
numbers = (refl, refl, refl, refl, refl, refl, refl, refl, refl, refl, refl, refl)
