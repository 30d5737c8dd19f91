-- Which number an entry of a fix-up is turned down with (RULES 5.5 to 5.8).
use Rattle.std.specs.Prelude.{ℕ, ◌-◌, ◌^◌, Bool, ◌&&◌, ◌||◌, not, eqb, ltb, leb, Result, Ok, Err, ⊤}
use Rattle.util.specs.Choice.{choose}
use Rattle.macho.specs.Types.{ARM64_RELOC_SUBTRACTOR, ARM64_RELOC_GOT_LOAD_PAGE21, ARM64_RELOC_GOT_LOAD_PAGEOFF12, ARM64_RELOC_POINTER_TO_GOT}
use Rattle.macho.specs.Types.{ARM64_RELOC_TLVP_LOAD_PAGE21, ARM64_RELOC_TLVP_LOAD_PAGEOFF12, ARM64_RELOC_ADDEND, ARM64_RELOC_AUTHENTICATED_POINTER}
use Rattle.macho.specs.Reloc.{is_section}
use Rattle.macho.specs.Resolved.{has_helper, well_formed}
use Rattle.macho.specs.declared.reloc.Reloc.{Reloc}
use Rattle.macho.specs.declared.resolved.Resolved.{Resolved}
use Rattle.macho.specs.declared.refusal.Refusal.TheVariants.{Bounds, Flags, Overflow, Unsupported, LoneSubtractor, NeedsSymbol, FarFromImage}
use Rattle.arm64_fixup_entry.specs.Target.{imported_symbol, address_of, from_image, width_of}
use Rattle.arm64_fixup_entry.specs.declared.target.Bases.{Bases}
use Rattle.macho.specs.declared.refusal.Refusal.{Refusal}

-- number 3: the offset is past the section
abbrev pub outside : ℕ → Reloc → Bool
outside len e = ltb len e.offset

-- number 11: flags that no target has, or last bytes that are not zero
abbrev pub misflagged : Resolved → Bool
misflagged t = not (well_formed t)

-- number 9: P passes 2^64 - 1
abbrev pub overflows : Bases → Reloc → Bool
overflows b e = leb (2 ^ 64) (address_of b e)

-- number 5: ADDEND, 10, or a type above that is not AUTHENTICATED_POINTER, 11
abbrev pub unsupported : ℕ → Bool
unsupported ty = leb ARM64_RELOC_ADDEND ty && not (eqb ty ARM64_RELOC_AUTHENTICATED_POINTER)

-- a type that takes the entry after it, too
abbrev pub subtracts : ℕ → Bool
subtracts ty = eqb ty ARM64_RELOC_SUBTRACTOR

-- number 8: no entry after it
abbrev pub lacks_next : ℕ → Bool → Bool
lacks_next ty last = last && subtracts ty

-- the types that take a symbol's GOT slot, or its address where they are relaxed, GOT_LOAD_PAGE21 aside
abbrev pub uses_got : ℕ → Bool
uses_got ty =
    eqb ty ARM64_RELOC_GOT_LOAD_PAGEOFF12 || eqb ty ARM64_RELOC_POINTER_TO_GOT || eqb ty ARM64_RELOC_TLVP_LOAD_PAGE21 || eqb ty ARM64_RELOC_TLVP_LOAD_PAGEOFF12

-- the types that need a symbol: those, AUTHENTICATED_POINTER, and a GOT page without a helper
abbrev pub needs_symbol : ℕ → Resolved → Bool
needs_symbol ty t = choose (eqb ty ARM64_RELOC_GOT_LOAD_PAGE21) (not (has_helper t)) (eqb ty ARM64_RELOC_AUTHENTICATED_POINTER || uses_got ty)

-- number 10: a section where a symbol is needed
abbrev pub lacks_symbol : Reloc → Resolved → Bool
lacks_symbol e t = is_section e.target && needs_symbol e.ty t

-- number 16: an authenticated pointer that is written, whose S + A less the image base, wrapped, is 2^32 or more
abbrev pub too_far : Bases → Reloc → Resolved → Bool
too_far b e t = eqb e.ty ARM64_RELOC_AUTHENTICATED_POINTER && not (imported_symbol e t) && leb (2 ^ 32) (from_image b e t)

-- number 3: fewer bytes at the offset than the entry reads or writes
abbrev pub short : ℕ → Reloc → Resolved → Bool
short len e t = ltb (len - e.offset) (width_of e t)

-- the first number of an entry of a type from 10 up, with so many bytes at its offset: 5, 10, 16, 3
unfoldable pub late_of : ℕ → Bases → Reloc → Resolved → Result ⊤ Refusal
late_of room b e t =
    choose (unsupported e.ty) (Err Unsupported)
    (choose (lacks_symbol e t) (Err NeedsSymbol)
    (choose (too_far b e t) (Err FarFromImage)
    (choose (ltb room (width_of e t)) (Err Bounds) (Ok tt))))

-- the first number of one entry, in the order of RULES 5.6: 3 (offset), 11, 9, 5, 8, 10, 16, 3
unfoldable pub check_of : ℕ → Bases → Reloc → Resolved → Bool → Result ⊤ Refusal
check_of len b e t last =
    choose (outside len e) (Err Bounds)
    (choose (misflagged t) (Err Flags)
    (choose (overflows b e) (Err Overflow)
    (choose (unsupported e.ty) (Err Unsupported)
    (choose (lacks_next e.ty last) (Err LoneSubtractor)
    (choose (lacks_symbol e t) (Err NeedsSymbol)
    (choose (too_far b e t) (Err FarFromImage)
    (choose (short len e t) (Err Bounds) (Ok tt))))))))
