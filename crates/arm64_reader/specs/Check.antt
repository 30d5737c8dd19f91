-- The checks of one relocation record (arch/arm64.rs, `check_reloc`; RULES 4.6 to 4.8: numbers 3, 5 and 6).
use Rattle.std.specs.Prelude.{ℕ, Bool, not, ◌&&◌, ◌||◌, List, length, eqb, ltb, Result, Ok, Err, Option, Some, None, ⊤}
use Rattle.util.specs.Choice.{choose}
use Rattle.util.specs.Word.{le}
use Rattle.util.specs.Diagram.{matches}
use Rattle.macho.specs.MachRel.{p2size_of, type_of}
use Rattle.macho.specs.Types.{ARM64_RELOC_UNSIGNED, ARM64_RELOC_GOT_LOAD_PAGEOFF12, ARM64_RELOC_TLVP_LOAD_PAGEOFF12}
use Rattle.macho.specs.declared.mach_rel.MachRel.{MachRel}
use Rattle.macho.specs.declared.refusal.Refusal.TheVariants.{Bounds, Unsupported, Unfit}
use Rattle.macho.specs.declared.refusal.Refusal.{Refusal}
use Rattle.arm64_insn.specs.declared.ldst.LoadStore.{LoadStore}
use Rattle.arm64_insn.specs.Encoding.{add_unshifted}
use Rattle.arm64_insn.specs.LoadStore.{load_store_of}
use Rattle.arm64_reader.specs.Support.{supported_of}

-- the bytes that a decoded word loads, 0 where it is no load
abbrev pub loaded_in : Option LoadStore → ℕ
loaded_in None = 0
loaded_in (Some l) = choose l.is_store 0 l.size

-- the same of a word
unfoldable pub loaded_bytes : ℕ → ℕ
loaded_bytes word = loaded_in (load_store_of word)

-- whether a GOT page offset may stand on a word: an unshifted ADD of either width, or an 8-byte load
unfoldable pub got_fits : ℕ → Bool
got_fits word = matches add_unshifted word || eqb (loaded_bytes word) 8

-- whether a TLVP page offset may stand on a word: a load
unfoldable pub tlvp_fits : ℕ → Bool
tlvp_fits word = not (eqb (loaded_bytes word) 0)

-- a 4-byte UNSIGNED that is not directly after a SUBTRACTOR record
unfoldable pub pointer32 : MachRel → Bool → Bool
pointer32 r subtracted = eqb (type_of r.bits) ARM64_RELOC_UNSIGNED && (eqb (p2size_of r.bits) 2 && not subtracted)

-- a page offset against the word at its place: 3, then 6
unfoldable pub word_check : ℕ → List ℕ → Result ⊤ Refusal
word_check ty loc =
    choose (ltb (length loc) 4) (Err Bounds)
    (choose (choose (eqb ty ARM64_RELOC_GOT_LOAD_PAGEOFF12) (got_fits (le 4 loc 0)) (tlvp_fits (le 4 loc 0))) (Ok tt) (Err Unfit))

-- a record; `subtracted` says whether the record directly before it is SUBTRACTOR, `loc` are the contents from its offset on: 5, 3, 6
unfoldable pub check_reloc : MachRel → Bool → List ℕ → Result ⊤ Refusal
check_reloc r subtracted loc =
    choose (supported_of r)
    (choose (pointer32 r subtracted) (Err Unsupported)
    (choose (eqb (type_of r.bits) ARM64_RELOC_GOT_LOAD_PAGEOFF12) (word_check (type_of r.bits) loc)
    (choose (eqb (type_of r.bits) ARM64_RELOC_TLVP_LOAD_PAGEOFF12) (word_check (type_of r.bits) loc) (Ok tt))))
    (Err Unsupported)
