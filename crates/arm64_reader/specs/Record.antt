-- What stands at one relocation record (arch/arm64.rs, a turn of `read_relocs`; RULES 4.3 to 4.12, 3.4).
use Rattle.std.specs.Prelude.{ℕ, ◌+◌, Bool, List, length, drop, eqb, ltb, Result, Ok, Err}
use Rattle.util.specs.Bits.{extend}
use Rattle.util.specs.Choice.{choose}
use Rattle.util.specs.Diagram.{matches}
use Rattle.util.specs.Word.{le}
use Rattle.macho.specs.Authenticated.{authenticated, signing_in}
use Rattle.macho.specs.MachRel.{idx_of, p2size_of, type_of}
use Rattle.macho.specs.Reloc.{with_signing}
use Rattle.macho.specs.Types.{ARM64_RELOC_UNSIGNED, ARM64_RELOC_SUBTRACTOR, ARM64_RELOC_ADDEND, ARM64_RELOC_AUTHENTICATED_POINTER}
use Rattle.macho.specs.declared.mach_rel.MachRel.{MachRel}
use Rattle.macho.specs.declared.refusal.Refusal.TheVariants.{Bounds, LoneAddend, NotAuthenticated}
use Rattle.arch.specs.Entry.{entry_of, targeted}
use Rattle.arch.specs.Table.{record_at, subtracted_at}
use Rattle.arch.specs.Walk.{passing}
use Rattle.macho.specs.declared.refusal.Refusal.{Refusal}
use Rattle.macho.specs.declared.reloc.Reloc.{Reloc}
use Rattle.arm64_reader.specs.Check.{check_reloc}

-- UNSIGNED replaces an earlier addend by the stored 4 or 8 signed bytes: 3 where they do not fit
unfoldable pub addend_of : MachRel → List ℕ → ℕ → Result ℕ Refusal
addend_of r loc addend =
    choose (eqb (type_of r.bits) ARM64_RELOC_UNSIGNED)
    (choose (eqb (p2size_of r.bits) 2)
    (choose (ltb (length loc) 4) (Err Bounds) (Ok (extend (le 4 loc 0) 32)))
    (choose (ltb (length loc) 8) (Err Bounds) (Ok (le 8 loc 0))))
    (Ok addend)

-- a refusal of the addend, else the entry with its target
abbrev pub adding : List ℕ → MachRel → Bool → ℕ → ℕ → Result ℕ Refusal → Result (Reloc × ℕ) Refusal
adding sections r subtracted offset next (Ok addend) = targeted sections r subtracted offset addend next
adding sections r subtracted offset next (Err x) = Err x

-- an authenticated pointer: 3 where its 8 bytes are not there, 15 where the stored word is none; the stored 32 bits, signed, replace an earlier addend,
-- and the entry keeps how the pointer is signed
unfoldable pub authenticated_record : List ℕ → MachRel → Bool → ℕ → ℕ → Result (Reloc × ℕ) Refusal
authenticated_record loc r subtracted offset next =
    choose (ltb (length loc) 8) (Err Bounds)
    (choose (matches authenticated (le 8 loc 0))
    (Ok (with_signing (entry_of r subtracted offset (idx_of r.bits) (extend (le 8 loc 0) 32)) (signing_in (le 8 loc 0)), next))
    (Err NotAuthenticated))

-- an entry's own record after its checks, by its type
abbrev pub entered : List ℕ → List ℕ → MachRel → Bool → ℕ → ℕ → ℕ → Result (Reloc × ℕ) Refusal
entered loc sections r subtracted offset addend next =
    choose (eqb (type_of r.bits) ARM64_RELOC_AUTHENTICATED_POINTER) (authenticated_record loc r subtracted offset next)
    (adding sections r subtracted offset next (addend_of r loc addend))

-- an entry's own record r at an offset, with the addend that an ADDEND record gave, or 0; `loc` are the contents from the offset on
unfoldable pub record_of : List ℕ → List ℕ → MachRel → Bool → ℕ → ℕ → ℕ → Result (Reloc × ℕ) Refusal
record_of loc sections r subtracted offset addend next =
    passing (check_reloc r subtracted loc) (entered loc sections r subtracted offset addend next)

-- the entry whose own record is record j of a list; `before` says whether the record before the list is SUBTRACTOR
abbrev pub own_at : List ℕ → List ℕ → Bool → List MachRel → ℕ → ℕ → ℕ → Result (Reloc × ℕ) Refusal
own_at contents sections before rs j offset addend =
    record_of (drop offset contents) sections (record_at rs j) (subtracted_at ARM64_RELOC_SUBTRACTOR before rs j) offset addend (j + 1)

-- what stands at record i of a list: 3 where its offset is past the contents; an ADDEND record, of whatever form, gives its offset and its
-- signed index to the record after it, and is 4 where there is none
unfoldable pub step_at : List ℕ → List ℕ → Bool → List MachRel → ℕ → Result (Reloc × ℕ) Refusal
step_at contents sections before rs i =
    choose (ltb (length contents) (record_at rs i).offset) (Err Bounds)
    (choose (eqb (type_of (record_at rs i).bits) ARM64_RELOC_ADDEND)
    (choose (ltb (i + 1) (length rs))
    (own_at contents sections before rs (i + 1) (record_at rs i).offset (extend (idx_of (record_at rs i).bits) 24))
    (Err LoneAddend))
    (own_at contents sections before rs i (record_at rs i).offset 0))
