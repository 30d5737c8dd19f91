-- What the entries of a hint's places say (arch/arm64.rs, `is_page_rel`, `is_pageoff_rel` and `has_page_pair`; RULES 8.7 to 8.9).
use Rattle.std.specs.Prelude.{ℕ, ◌*◌, Bool, true, false, ◌&&◌, ◌||◌, not, List, eqb, ltb, Option, Some, None}
use Rattle.util.specs.Choice.{choose}
use Rattle.macho.specs.Reloc.{reloc_size, reloc_at}
use Rattle.macho.specs.Types.{ARM64_RELOC_PAGE21, ARM64_RELOC_GOT_LOAD_PAGE21, ARM64_RELOC_TLVP_LOAD_PAGE21}
use Rattle.macho.specs.Types.{ARM64_RELOC_PAGEOFF12, ARM64_RELOC_GOT_LOAD_PAGEOFF12, ARM64_RELOC_TLVP_LOAD_PAGEOFF12}
use Rattle.macho.specs.Hint.{no_entry}
use Rattle.macho.specs.declared.reloc.Reloc.{Reloc}
use Rattle.arm64_hint_terms.specs.declared.rels.Rels.{Rels}

-- the entry that a number names in a list of entries; no_entry names none
unfoldable pub rel_at : List ℕ → ℕ → Option Reloc
rel_at entries number = choose (eqb number no_entry) None (Some (reloc_at entries (reloc_size * number)))

-- whether an entry is a half of a reference, by the types of that half: plain, by a GOT slot, and by a thread-local slot; with got, a plain one is not
abbrev pub is_half : Option Reloc → Bool → ℕ → ℕ → ℕ → Bool
is_half None got plain got_slot tlv_slot = false
is_half (Some r) got plain got_slot tlv_slot = choose (eqb r.ty plain) (not got) (eqb r.ty got_slot || eqb r.ty tlv_slot)

-- whether an entry is the page half of a reference; with got, of a reference to a GOT slot or one relaxed from it
unfoldable pub is_page_rel : Option Reloc → Bool → Bool
is_page_rel rel got = is_half rel got ARM64_RELOC_PAGE21 ARM64_RELOC_GOT_LOAD_PAGE21 ARM64_RELOC_TLVP_LOAD_PAGE21

-- the same for the page-offset half
unfoldable pub is_pageoff_rel : Option Reloc → Bool → Bool
is_pageoff_rel rel got = is_half rel got ARM64_RELOC_PAGEOFF12 ARM64_RELOC_GOT_LOAD_PAGEOFF12 ARM64_RELOC_TLVP_LOAD_PAGEOFF12

-- whether two places have equal targets and addends, or neither has an entry
unfoldable pub same_reference : Option Reloc → Option Reloc → Bool
same_reference None None = true
same_reference None (Some b) = false
same_reference (Some a) None = false
same_reference (Some a) (Some b) = eqb a.target b.target && eqb a.addend b.addend

-- whether a place has no entry
unfoldable pub is_absent : Option Reloc → Bool
is_absent None = true
is_absent (Some r) = false

-- the two halves of one reference on the first two of n words, and no entry on a third
unfoldable pub has_page_pair : Rels → ℕ → Bool → Bool
has_page_pair r n got =
    is_page_rel r.r0 got && is_pageoff_rel r.r1 got && same_reference r.r0 r.r1 && (ltb n 3 || is_absent r.r2)

-- page halves on both of the first two words, of whatever references
unfoldable pub both_pages : Rels → Bool
both_pages r = is_page_rel r.r0 false && is_page_rel r.r1 false
