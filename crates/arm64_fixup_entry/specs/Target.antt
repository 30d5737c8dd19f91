-- What an entry and its resolved target say together (RULES 5.2, 5.3, 5.8, 5.17).
use Rattle.std.specs.Prelude.{ℕ, ◌+◌, Bool, ◌&&◌, ◌||◌, not, eqb}
use Rattle.util.specs.Choice.{choose}
use Rattle.util.specs.Wrap.{sum, diff}
use Rattle.macho.specs.Types.{ARM64_RELOC_UNSIGNED, ARM64_RELOC_SUBTRACTOR, ARM64_RELOC_PAGE21, ARM64_RELOC_PAGEOFF12, ARM64_RELOC_AUTHENTICATED_POINTER}
use Rattle.macho.specs.Reloc.{is_section}
use Rattle.macho.specs.Resolved.{is_imported, has_address, can_relax_got}
use Rattle.macho.specs.declared.reloc.Reloc.{Reloc}
use Rattle.macho.specs.declared.resolved.Resolved.{Resolved}
use Rattle.arm64_fixup_entry.specs.declared.target.Bases.{Bases}

-- whether an entry's target is a symbol
abbrev pub is_symbol : Reloc → Bool
is_symbol e = not (is_section e.target)

-- an imported symbol, whose pointers dyld fills
abbrev pub imported_symbol : Reloc → Resolved → Bool
imported_symbol e t = is_symbol e && is_imported t

-- P: base plus offset
abbrev pub address_of : Bases → Reloc → ℕ
address_of b e = b.base + e.offset

-- S + A
unfoldable pub target_of : Reloc → Resolved → ℕ
target_of e t = sum t.addr e.addend

-- G + A
unfoldable pub slot_of : Reloc → Resolved → ℕ
slot_of e t = sum t.got e.addend

-- what a GOT or thread-local load refers to: S + A where it is relaxed, else G + A
unfoldable pub got_target : Reloc → Resolved → ℕ
got_target e t = choose (can_relax_got t) (target_of e t) (slot_of e t)

-- S + A less the image base
unfoldable pub from_image : Bases → Reloc → Resolved → ℕ
from_image b e t = diff (target_of e t) b.image_base

-- the types that write a pointer of 8 bytes, but for an imported symbol
abbrev pub is_pointer : ℕ → Bool
is_pointer ty = eqb ty ARM64_RELOC_UNSIGNED || eqb ty ARM64_RELOC_AUTHENTICATED_POINTER

-- the types that do nothing to a target without an address
abbrev pub acts_on_address : ℕ → Bool
acts_on_address ty = eqb ty ARM64_RELOC_PAGE21 || eqb ty ARM64_RELOC_PAGEOFF12

-- the bytes at its offset that an entry reads or writes: none for an imported symbol's pointer and where an address is missing
unfoldable pub width_of : Reloc → Resolved → ℕ
width_of e t =
    choose (is_pointer e.ty) (choose (imported_symbol e t) 0 8)
    (choose (eqb e.ty ARM64_RELOC_SUBTRACTOR) (choose (eqb e.size 4) 4 8)
    (choose (acts_on_address e.ty) (choose (has_address t) 4 0) 4))
