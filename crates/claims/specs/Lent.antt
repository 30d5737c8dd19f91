-- Lent records as bytes, for the examples: entries, resolved targets, relocation records, hints; and the fix-up of one word. Words of an image, places
-- of a hint and the halves of a reference are those of arm64_hint_kept/specs/Examples.
use Rattle.std.specs.Prelude.{List, [], ◌∷◌, ◌++◌, ℕ, ◌+◌, ◌*◌, ◌^◌}
use Rattle.util.specs.Word.{bytes}
use Rattle.macho.specs.Reloc.{reloc_bytes}
use Rattle.macho.specs.Resolved.{resolved_bytes}
use Rattle.macho.specs.Report.{report_size}
use Rattle.macho.specs.Hint.{no_entry, hint_bytes}
use Rattle.macho.specs.declared.resolved.Resolved.{Resolved}
use Rattle.macho.specs.declared.hint.HintInsn.{HintInsn}
use Rattle.arm64_fixup.specs.Answer.{bases_of, Outcome, fixed, outcome_of}
use Rattle.arm64_hint_kept.specs.Examples.{place}

-- a NOP
abbrev pub nop : List ℕ
nop = bytes 4 0xd503201f

-- a relocation record: its offset, and the bits of its second word
abbrev pub mach_rel : ℕ → ℕ → List ℕ
mach_rel offset bits = bytes 4 offset ++ bytes 4 bits

-- an entry of a type at an offset, with its target field; no addend
abbrev pub entry : (ty offset target : ℕ) → List ℕ
entry ty offset target =
    reloc_bytes (record { offset = offset; ty = ty; size = 8; is_pcrel = 0; is_subtracted = 0; target = target; signing = 0; addend = 0 })

-- the flags of a resolved target that the examples set: has an address (Twelve.flags holds them against macho's)
abbrev pub has_address_bit : ℕ
has_address_bit = 2 ^ 2

-- GOT can be relaxed
abbrev pub can_relax_got_bit : ℕ
can_relax_got_bit = 2 ^ 3

-- a resolved target at an address, its branch target the same, with flags
abbrev pub target : (addr flags : ℕ) → Resolved
target addr flags = record { addr = addr; got = 0; branch = addr; thunk = 0; helper = 0; flags = flags; zero = 0 }

-- its bytes
abbrev pub resolved : (addr flags : ℕ) → List ℕ
resolved addr flags = resolved_bytes (target addr flags)

-- the fix-up of one word at 0x1000 by one entry of a type, to an address with flags
abbrev pub fix_up : (word ty addr flags : ℕ) → Outcome
fix_up word ty addr flags = outcome_of (bytes 4 word) (bases_of 0x1000 0 0) (entry ty 0 0) (resolved addr flags) (bytes report_size 0)

-- the word that it leaves, with no report
abbrev pub becomes : ℕ → Outcome
becomes word = fixed (record { section = bytes 4 word; reports = [] })

-- with a report of an alignment
abbrev pub misaligned : (size word : ℕ) → Outcome
misaligned size word = fixed (record { section = bytes 4 word; reports = record { entry = 0; kind = 3; size = size; place = 0; target = 0 } ∷ [] })

-- a hint of a kind with n words, of object 0, with its part and its places
abbrev pub hint : (kind n start len : ℕ) (a b c : HintInsn) → List ℕ
hint kind n start len a b c =
    hint_bytes (record { kind = kind; n = n; object = 0; start = start; len = len; insn0 = a; insn1 = b; insn2 = c })

-- one whose n words stand one after another from the image's start, at an address; the entries 0 and 1 on the first two
abbrev pub plain : (kind n addr : ℕ) → List ℕ
plain kind n addr = hint kind n 0 (4 * n) (place 0 0 addr) (place 4 1 (addr + 4)) (place 8 no_entry (addr + 8))
