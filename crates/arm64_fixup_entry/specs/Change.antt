-- What one entry does to the section and reports (RULES 5.9 to 5.23; arch/arm64.rs, `apply_reloc_alloc`).
use Rattle.std.specs.Prelude.{ℕ, ◌%◌, ◌^◌, Bool, ◌&&◌, ◌||◌, eqb, Result, Ok, Err, Option, Some, None}
use Rattle.util.specs.Choice.{choose}
use Rattle.util.specs.Wrap.{sum, diff}
use Rattle.util.specs.Diagram.{matches}
use Rattle.macho.specs.Types.{ARM64_RELOC_UNSIGNED, ARM64_RELOC_BRANCH26, ARM64_RELOC_PAGE21, ARM64_RELOC_PAGEOFF12, ARM64_RELOC_GOT_LOAD_PAGE21}
use Rattle.macho.specs.Types.{ARM64_RELOC_GOT_LOAD_PAGEOFF12, ARM64_RELOC_POINTER_TO_GOT, ARM64_RELOC_TLVP_LOAD_PAGE21, ARM64_RELOC_TLVP_LOAD_PAGEOFF12}
use Rattle.macho.specs.Types.{ARM64_RELOC_AUTHENTICATED_POINTER}
use Rattle.macho.specs.Authenticated.{authenticated_word}
use Rattle.macho.specs.Report.{adrp_reach, branch_reach, alignment, non_ldr}
use Rattle.macho.specs.Resolved.{is_tls, can_relax_got, has_thunk, has_helper, helper_is_own, is_probe, is_enabled}
use Rattle.macho.specs.declared.reloc.Reloc.{Reloc}
use Rattle.macho.specs.declared.resolved.Resolved.{Resolved}
use Rattle.macho.specs.declared.report.Report as R
use Rattle.arm64_insn.specs.Encoding.{add, ldr_immediate}
use Rattle.arm64_insn.specs.Reach.{adrp_reaches}
use Rattle.arm64_insn.specs.Branch.{branch_reaches, branch_word, helper_word}
use Rattle.arm64_insn.specs.Fix.{nop_word, is_enabled_word, adrp_with, offset_with, relaxed_word}
use Rattle.arm64_fixup_entry.specs.Target.{is_symbol, imported_symbol, address_of, target_of, slot_of, got_target, from_image, width_of}
use Rattle.arm64_fixup_entry.specs.Check.{subtracts}
use Rattle.arm64_fixup_entry.specs.declared.target.Bases.{Bases}
use Rattle.arm64_fixup_entry.specs.declared.change.Site.{Site}
use Rattle.arm64_fixup_entry.specs.declared.change.Write.{Write}
use Rattle.arm64_fixup_entry.specs.declared.change.Write.TheVariants.{Nothing, Word, Pointer}
use Rattle.arm64_fixup_entry.specs.declared.change.Change.{Change}

-- how many bytes a write stores
abbrev pub bytes_in : Write → ℕ
bytes_in Nothing = 0
bytes_in (Word v) = 4
bytes_in (Pointer v) = 8

-- a write with no report
abbrev pub silent : Write → Change
silent w = record { write = w; told = None }

-- a write with a report
abbrev pub reported : Write → R.Report → Change
reported w r = record { write = w; told = Some r }

-- a report of kind 1 or 2, with P and the target
abbrev pub reach_report : Site → ℕ → ℕ → R.Report
reach_report s kind target = record { entry = s.entry; kind = kind; size = 0; place = s.addr; target = target }

-- a report of kind 3, with the size of the access, or 4, with none
abbrev pub word_report : Site → ℕ → ℕ → R.Report
word_report s kind size = record { entry = s.entry; kind = kind; size = size; place = 0; target = 0 }

-- UNSIGNED: S + A, less the thread-local start if thread-local
unfoldable pub unsigned_value : Bases → Reloc → Resolved → ℕ
unsigned_value b e t = choose (is_tls t) (diff (target_of e t) b.tls_begin) (target_of e t)

-- AUTHENTICATED_POINTER: S + A less the image base in 32 bits, and how the entry says that it is signed
unfoldable pub authenticated_value : Bases → Reloc → Resolved → ℕ
authenticated_value b e t = authenticated_word (from_image b e t % 2 ^ 32) e.signing

-- an AUTHENTICATED_POINTER: nothing for an imported symbol, else its value
unfoldable pub authenticated_change : Bases → Reloc → Resolved → Change
authenticated_change b e t = choose (imported_symbol e t) (silent Nothing) (silent (Pointer (authenticated_value b e t)))

-- SUBTRACTOR: the next entry's S + A, minus the own S
unfoldable pub subtractor_value : Resolved → Reloc → Resolved → ℕ
subtractor_value t next next_target = diff (target_of next next_target) t.addr

-- its low 4 bytes if the own size field is 4, else 8
unfoldable pub difference : Reloc → ℕ → Change
difference e value = choose (eqb e.size 4) (silent (Word (value % 2 ^ 32))) (silent (Pointer value))

-- what the branch of a tracing site becomes: NOP for a symbol's probe, "movz x0, #0" for is-enabled
unfoldable pub dtrace_site_insn : Reloc → Resolved → Option ℕ
dtrace_site_insn e t = choose (is_symbol e) (choose (is_probe t) (Some nop_word) (choose (is_enabled t) (Some is_enabled_word) None)) None

-- T: the branch target of a symbol, S of a section, plus A
unfoldable pub branch_target : Reloc → Resolved → ℕ
branch_target e t = sum (choose (is_symbol e) t.branch t.addr) e.addend

-- a symbol's thunk serves where A is 0 and ADRP reaches T from it
unfoldable pub thunk_serves : Reloc → Resolved → ℕ → Bool
thunk_serves e t target = is_symbol e && has_thunk t && eqb e.addend 0 && adrp_reaches target t.thunk

-- T - P in the branch's reach; otherwise by the thunk; else report 2, with T - P all the same
unfoldable pub branch : Site → Reloc → Resolved → ℕ → Change
branch s e t word =
    choose (branch_reaches (branch_target e t) s.addr) (silent (Word (branch_word word (diff (branch_target e t) s.addr))))
    (choose (thunk_serves e t (branch_target e t)) (silent (Word (branch_word word (diff t.thunk s.addr))))
    (reported (Word (branch_word word (diff (branch_target e t) s.addr))) (reach_report s branch_reach (branch_target e t))))

-- the displacement that a branch at p gets: to T in reach; else to the thunk, where it serves; else to T all the same
abbrev pub displacement : Reloc → Resolved → ℕ → ℕ
displacement e t p =
    choose (branch_reaches (branch_target e t) p) (diff (branch_target e t) p)
    (choose (thunk_serves e t (branch_target e t)) (diff t.thunk p) (diff (branch_target e t) p))

-- BRANCH26, a tracing site first
abbrev pub branch_unless : Option ℕ → Change → Change
branch_unless (Some w) c = silent (Word w)
branch_unless None c = c

-- ADRP to the target's page; out of reach report 1, with the word all the same
unfoldable pub page21 : Site → ℕ → ℕ → Change
page21 s target word =
    choose (adrp_reaches target s.addr) (silent (Word (adrp_with word target s.addr)))
    (reported (Word (adrp_with word target s.addr)) (reach_report s adrp_reach target))

-- a word with its page offset; report 3 where the access size does not divide the target
abbrev pub fitted : Site → Result ℕ ℕ → Change
fitted s (Ok w) = silent (Word w)
fitted s (Err n) = reported Nothing (word_report s alignment n)

-- PAGEOFF12: the target's page offset
unfoldable pub pageoff12 : Site → ℕ → ℕ → Change
pageoff12 s target word = fitted s (offset_with word target)

-- a GOT page: B (own) or BL to the helper, where there is one
unfoldable pub got_page21 : Site → Reloc → Resolved → ℕ → Change
got_page21 s e t word =
    choose (has_helper t) (silent (Word (helper_word (helper_is_own t) (diff t.helper s.addr))))
    (page21 s (got_target e t) word)

-- what a relaxed page offset takes: LDR W or X, for GOT also a 64-bit ADD
abbrev pub can_relax : ℕ → ℕ → Bool
can_relax ty word = matches ldr_immediate word || (eqb ty ARM64_RELOC_GOT_LOAD_PAGEOFF12 && matches add word)

-- the relaxed page offset: ADD of the target's page offset, else report 4
unfoldable pub relaxed : Site → ℕ → ℕ → ℕ → Change
relaxed s ty target word = choose (can_relax ty word) (silent (Word (relaxed_word word target))) (reported Nothing (word_report s non_ldr 0))

-- GOT and thread-local page offsets: S + A if relaxed, else G + A
unfoldable pub got_pageoff12 : Site → Reloc → Resolved → ℕ → Change
got_pageoff12 s e t word = choose (can_relax_got t) (relaxed s e.ty (target_of e t) word) (pageoff12 s (slot_of e t) word)

-- POINTER_TO_GOT: the low 32 bits of G + A - P
unfoldable pub pointer_to_got : Site → Reloc → Resolved → ℕ
pointer_to_got s e t = diff (slot_of e t) s.addr % 2 ^ 32

-- the types that put the page offset of a GOT or TLVP slot into a word
abbrev pub is_got_offset : ℕ → Bool
is_got_offset ty = eqb ty ARM64_RELOC_GOT_LOAD_PAGEOFF12 || eqb ty ARM64_RELOC_TLVP_LOAD_PAGEOFF12

-- the types that work on the 4-byte word at the place. Any other number would do nothing: 0, 1 and 11 do not come here, and the check turns down
-- the rest
unfoldable pub word_change : Site → Reloc → Resolved → ℕ → Change
word_change s e t word =
    choose (eqb e.ty ARM64_RELOC_BRANCH26) (branch_unless (dtrace_site_insn e t) (branch s e t word))
    (choose (eqb e.ty ARM64_RELOC_PAGE21) (page21 s (target_of e t) word)
    (choose (eqb e.ty ARM64_RELOC_PAGEOFF12) (pageoff12 s (target_of e t) word)
    (choose (eqb e.ty ARM64_RELOC_GOT_LOAD_PAGE21) (got_page21 s e t word)
    (choose (eqb e.ty ARM64_RELOC_TLVP_LOAD_PAGE21) (page21 s (got_target e t) word)
    (choose (eqb e.ty ARM64_RELOC_POINTER_TO_GOT) (silent (Word (pointer_to_got s e t)))
    (choose (is_got_offset e.ty) (got_pageoff12 s e t word)
    (silent Nothing)))))))

-- entry i, with the entry after it and the word at its place: nothing where it touches no byte
unfoldable pub change_of : Bases → ℕ → Reloc → Resolved → Reloc → Resolved → ℕ → Change
change_of b i e t next next_target word =
    choose (eqb (width_of e t) 0) (silent Nothing)
    (choose (eqb e.ty ARM64_RELOC_UNSIGNED) (silent (Pointer (unsigned_value b e t)))
    (choose (eqb e.ty ARM64_RELOC_AUTHENTICATED_POINTER) (silent (Pointer (authenticated_value b e t)))
    (choose (subtracts e.ty) (difference e (subtractor_value t next next_target))
    (word_change (record { entry = i; addr = address_of b e }) e t word))))
