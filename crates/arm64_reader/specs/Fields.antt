-- What the entries of a table hold, as functions of its records (RULES 4.2 to 4.14).
use Rattle.std.specs.Prelude.{ℕ, suc, ◌+◌, Bool, true, false, List, [], ◌∷◌, eqb}
use Rattle.util.specs.Bits.{extend}
use Rattle.util.specs.Choice.{choose}
use Rattle.util.specs.Word.{le}
use Rattle.macho.specs.Authenticated.{signing_in}
use Rattle.macho.specs.MachRel.{idx_of, p2size_of, type_of}
use Rattle.macho.specs.Reloc.{with_signing}
use Rattle.macho.specs.Types.{ARM64_RELOC_UNSIGNED, ARM64_RELOC_SUBTRACTOR, ARM64_RELOC_GOT_LOAD_PAGEOFF12, ARM64_RELOC_TLVP_LOAD_PAGEOFF12}
use Rattle.macho.specs.Types.{ARM64_RELOC_ADDEND, ARM64_RELOC_AUTHENTICATED_POINTER}
use Rattle.macho.specs.declared.mach_rel.MachRel.{MachRel}
use Rattle.macho.specs.declared.reloc.Reloc.{Reloc}
use Rattle.arch.specs.Entry.{entry_of}
use Rattle.arch.specs.Table.{record_at, subtracted_at}
use Rattle.arch.specs.Target.{target_in, addend_in}

-- whether a record is ADDEND
abbrev pub is_addend : MachRel → Bool
is_addend r = eqb (type_of r.bits) ARM64_RELOC_ADDEND

-- the numbers of the records at which entries start, the first record being number k: every record but those directly after an ADDEND record at
-- which an entry starts; `second` says whether the first is such a one
abbrev pub starts : ℕ → Bool → List MachRel → List ℕ
starts k second [] = []
starts k true (r ∷ rs) = starts (suc k) false rs
starts k false (r ∷ rs) = k ∷ starts (suc k) (is_addend r) rs

-- how many records are directly after an ADDEND record at which an entry starts: as many as ADDEND records head a pair
abbrev pub pairs : Bool → List MachRel → ℕ
pairs second [] = 0
pairs true (r ∷ rs) = suc (pairs false rs)
pairs false (r ∷ rs) = pairs (is_addend r) rs

-- the own record of the entry that starts at record i
abbrev pub own_of : List MachRel → ℕ → ℕ
own_of rs i = choose (is_addend (record_at rs i)) (i + 1) i

-- what the ADDEND record at which an entry starts gives it, else 0
abbrev pub given_of : List MachRel → ℕ → ℕ
given_of rs i = choose (is_addend (record_at rs i)) (extend (idx_of (record_at rs i).bits) 24) 0

-- how many bytes of the contents, from the entry's offset on, an own record is read against: the pointer of an UNSIGNED, an authenticated one, the
-- word under a GOT or TLVP page offset
unfoldable pub looked_at : MachRel → ℕ
looked_at r =
    choose (eqb (type_of r.bits) ARM64_RELOC_UNSIGNED) (choose (eqb (p2size_of r.bits) 2) 4 8)
    (choose (eqb (type_of r.bits) ARM64_RELOC_AUTHENTICATED_POINTER) 8
    (choose (eqb (type_of r.bits) ARM64_RELOC_GOT_LOAD_PAGEOFF12) 4 (choose (eqb (type_of r.bits) ARM64_RELOC_TLVP_LOAD_PAGEOFF12) 4 0)))

-- what a record adds: an UNSIGNED what stands at the place, an authenticated pointer the low 32 bits of it, any other what the ADDEND record gave
unfoldable pub held_in : MachRel → ℕ → ℕ → ℕ → ℕ
held_in r word pointer given =
    choose (eqb (type_of r.bits) ARM64_RELOC_UNSIGNED) (choose (eqb (p2size_of r.bits) 2) (extend word 32) pointer)
    (choose (eqb (type_of r.bits) ARM64_RELOC_AUTHENTICATED_POINTER) (extend pointer 32) given)

-- the four bytes of its entry that say how its pointer is signed: of an authenticated pointer what its stored word says, of any other 0
unfoldable pub signed_by : MachRel → ℕ → ℕ
signed_by r pointer = choose (eqb (type_of r.bits) ARM64_RELOC_AUTHENTICATED_POINTER) (signing_in pointer) 0

-- the entry that starts at record i: its offset is of that record, everything else of its own
unfoldable pub entry_from : List ℕ → List ℕ → Bool → List MachRel → ℕ → Reloc
entry_from contents sections before rs i =
    let offset = (record_at rs i).offset in
    let own = record_at rs (own_of rs i) in
    with_signing
    (entry_of own (subtracted_at ARM64_RELOC_SUBTRACTOR before rs (own_of rs i)) offset (target_in own)
    (addend_in sections own (held_in own (le 4 contents offset) (le 8 contents offset) (given_of rs i))))
    (signed_by own (le 8 contents offset))
