-- What a table of arm64 relocation records means. Apple's headers say it where they speak, and are quoted: `struct relocation_info` of mach-o/reloc.h, `enum
-- reloc_type_arm64` of mach-o/arm64/reloc.h. Of which forms a type takes they say little: there it is what the linker applies (RULES 4.6, 4.16 to 4.22).
use Rattle.std.specs.Prelude.{ℕ, ◌+◌, ◌-◌, ◌^◌, ◌<◌, ◌≤◌, Bool, true, false, not, ◌&&◌, ◌||◌, List, [], ◌∷◌, get_or, eqb, leb}
use Rattle.util.specs.Bits.{extend}
use Rattle.util.specs.Choice.{choose}
use Rattle.util.specs.Diagram.{matches}
use Rattle.util.specs.Word.{le}
use Rattle.util.specs.Wrap.{diff}
use Rattle.macho.specs.Authenticated.{authenticated, diversity_in, address_diversity_in, key_in}
use Rattle.macho.specs.MachRel.{idx_of, pcrel_of, p2size_of, extern_of, type_of}
use Rattle.macho.specs.Types.{ARM64_RELOC_UNSIGNED, ARM64_RELOC_SUBTRACTOR, ARM64_RELOC_PAGE21, ARM64_RELOC_PAGEOFF12, ARM64_RELOC_GOT_LOAD_PAGE21}
use Rattle.macho.specs.Types.{ARM64_RELOC_TLVP_LOAD_PAGE21, ARM64_RELOC_ADDEND, ARM64_RELOC_AUTHENTICATED_POINTER}
use Rattle.macho.specs.declared.mach_rel.MachRel.{MachRel}
use Rattle.arm64_reader.specs.Support.{supported_of}

-- ---- a record

-- the types that are a "pc-rel distance to page of target", "of GOT slot", "of TLVP slot"
abbrev pub is_page_distance : ℕ → Bool
is_page_distance ty = eqb ty ARM64_RELOC_PAGE21 || (eqb ty ARM64_RELOC_GOT_LOAD_PAGE21 || eqb ty ARM64_RELOC_TLVP_LOAD_PAGE21)

-- the types that an ADDEND record "must be followed by": "PAGE21 or PAGEOFF12"
abbrev pub takes_addend : ℕ → Bool
takes_addend ty = eqb ty ARM64_RELOC_PAGE21 || eqb ty ARM64_RELOC_PAGEOFF12

-- whether the headers have a record: its type is of the enum, whose last one stands in newer headers only, and r_pcrel is 1 where the comment says "pc-rel".
-- They say no more of the fields: page offsets are "scaled by r_length", and nothing ties r_length or r_extern to a type
abbrev pub in_header : MachRel → Bool
in_header r = leb (type_of r.bits) ARM64_RELOC_AUTHENTICATED_POINTER && (not (is_page_distance (type_of r.bits)) || eqb (pcrel_of r.bits) 1)

-- whether it is defined: the headers have it, and the linker's table has its form (RULES 4.6); from there come size, extern and r_pcrel of the other types
unfoldable pub is_defined : MachRel → Bool
is_defined r = in_header r && supported_of r

-- ---- a relocation

-- what a record refers to: "symbol index if r_extern == 1 or section ordinal if r_extern == 0"; ordinals count from 1
pub data Referent : Type 0 where
  symbol : ℕ → Referent
  section : ℕ → Referent

-- what is subtracted
pub data Less : Type 0 where
  nothing : Less
  less : Referent → Less

-- whether that is nothing
abbrev pub is_nothing : Less → Bool
is_nothing nothing = true
is_nothing (less x) = false

-- how a pointer is signed: not at all, or with a diversity, an address diversity and a key
pub data Signing : Type 0 where
  not-signed : Signing
  signed : (diversity address_diversity key : ℕ) → Signing

-- a relocation: its type, its place as an offset, how many bytes are there, what it refers to, what is added (as 64 bits), what is subtracted, and how
-- its pointer is signed
pub record Relocation : Type 0 where
  pub ty : ℕ
  pub place : ℕ
  pub size : ℕ
  pub target : Referent
  pub addend : ℕ
  pub minus : Less
  pub signing : Signing

-- what the fields r_symbolnum and r_extern name
abbrev pub referent_of : MachRel → Referent
referent_of r = choose (eqb (extern_of r.bits) 1) (symbol (idx_of r.bits)) (section (idx_of r.bits))

-- the signed number that stands in the 4 or 8 bytes of a pointer
abbrev pub stored_at : List ℕ → ℕ → ℕ → ℕ
stored_at contents place p2size = choose (eqb p2size 2) (extend (le 4 contents place) 32) (le 8 contents place)

-- what a pointer adds: what stands in its bytes; with r_extern that "does not include value of sym referenced", without it is an address, and the section's
-- own is taken off
abbrev pub added_by : List ℕ → List ℕ → MachRel → ℕ
added_by contents sections r =
    let stored = stored_at contents r.offset (p2size_of r.bits) in
    choose (eqb (extern_of r.bits) 1) stored (diff stored (get_or sections (idx_of r.bits - 1) 0))

-- the relocation of a pointer, and that of any other record with an addend
abbrev pub pointer_of : List ℕ → List ℕ → MachRel → Less → Relocation
pointer_of contents sections r minus =
    record {
      ty = type_of r.bits;
      place = r.offset;
      size = 2 ^ p2size_of r.bits;
      target = referent_of r;
      addend = added_by contents sections r;
      minus = minus;
      signing = not-signed;
    }

-- the relocation of an authenticated pointer, by its stored word, as LLVM's assembler writes it: the low 32 bits are added, as a signed number
abbrev pub authenticated_of : List ℕ → MachRel → Relocation
authenticated_of contents r =
    let stored = le 8 contents r.offset in
    record {
      ty = type_of r.bits;
      place = r.offset;
      size = 2 ^ p2size_of r.bits;
      target = referent_of r;
      addend = extend stored 32;
      minus = nothing;
      signing = signed (diversity_in stored) (address_diversity_in stored) (key_in stored);
    }

-- what a record on an instruction says, with an addend
abbrev pub word_of : MachRel → ℕ → Relocation
word_of r addend =
    record {
      ty = type_of r.bits;
      place = r.offset;
      size = 2 ^ p2size_of r.bits;
      target = referent_of r;
      addend = addend;
      minus = nothing;
      signing = not-signed;
    }

-- ---- a table

-- why a table is not defined
pub data Reason : Type 0 where
  -- the headers do not have the record
  not-in-header : Reason
  -- they have it, and the linker does not apply its type or form
  not-applied : Reason
  -- SUBTRACTOR "must be followed by a ARM64_RELOC_UNSIGNED": no record follows, or one of another type; the pair is one relocation, and has one place and size
  subtractor-last subtractor-type subtractor-place subtractor-size : Reason
  -- ADDEND "must be followed by PAGE21 or PAGEOFF12": the same, without size; its form is not that of the linker's table
  addend-form addend-last addend-type addend-place : Reason
  -- the word stored for an authenticated pointer has other fixed bits than LLVM's assembler writes
  not-authenticated : Reason

-- which of the first two
abbrev pub lack_of : MachRel → Reason
lack_of r = choose (in_header r) not-applied not-in-header

-- what the record before leaves to be completed: nothing, a difference, an addend
pub data Pending : Type 0 where
  none : Pending
  minus : MachRel → Pending
  plus : MachRel → Pending

-- what a record does: it is not defined, it waits for the next, it completes a relocation
pub data Turn : Type 0 where
  stop : Reason → Turn
  wait : Pending → Turn
  give : Relocation → Turn

-- a record that completes nothing
unfoldable pub turn_alone : List ℕ → List ℕ → MachRel → Turn
turn_alone contents sections r =
    choose (eqb (type_of r.bits) ARM64_RELOC_ADDEND) (choose (is_defined r) (wait (plus r)) (stop addend-form))
    (choose (is_defined r)
    (choose (eqb (type_of r.bits) ARM64_RELOC_SUBTRACTOR) (wait (minus r))
    (choose (eqb (type_of r.bits) ARM64_RELOC_AUTHENTICATED_POINTER)
    (choose (matches authenticated (le 8 contents r.offset)) (give (authenticated_of contents r)) (stop not-authenticated))
    (give (choose (eqb (type_of r.bits) ARM64_RELOC_UNSIGNED) (pointer_of contents sections r nothing) (word_of r 0)))))
    (stop (lack_of r)))

-- a record after SUBTRACTOR s
unfoldable pub turn_minus : List ℕ → List ℕ → MachRel → MachRel → Turn
turn_minus contents sections s r =
    choose (eqb (type_of r.bits) ARM64_RELOC_UNSIGNED)
    (choose (is_defined r)
    (choose (eqb r.offset s.offset)
    (choose (eqb (p2size_of r.bits) (p2size_of s.bits)) (give (pointer_of contents sections r (less (referent_of s)))) (stop subtractor-size))
    (stop subtractor-place))
    (stop (lack_of r)))
    (stop subtractor-type)

-- a record after ADDEND a: the linker takes the addend from r_symbolnum, as signed (RULES 4.4); the headers do not say where it stands
unfoldable pub turn_plus : MachRel → MachRel → Turn
turn_plus a r =
    choose (takes_addend (type_of r.bits))
    (choose (is_defined r) (choose (eqb r.offset a.offset) (give (word_of r (extend (idx_of a.bits) 24))) (stop addend-place)) (stop (lack_of r)))
    (stop addend-type)

-- what a record says by what the one before it left pending
abbrev pub turn_of : List ℕ → List ℕ → Pending → MachRel → Turn
turn_of contents sections none r = turn_alone contents sections r
turn_of contents sections (minus s) r = turn_minus contents sections s r
turn_of contents sections (plus a) r = turn_plus a r

-- what a table means
pub data Meaning : Type 0 where
  undefined : Reason → Meaning
  relocations : List Relocation → Meaning

-- a relocation before those of the rest
abbrev pub with_first : Relocation → Meaning → Meaning
with_first m (undefined x) = undefined x
with_first m (relocations ms) = relocations (m ∷ ms)

-- a turn, then what the rest means after it
abbrev pub follow : Turn → (Pending → Meaning) → Meaning
follow (stop x) rest = undefined x
follow (wait p) rest = rest p
follow (give m) rest = with_first m (rest none)

-- the end of a table
abbrev pub end_of : Pending → Meaning
end_of none = relocations []
end_of (minus s) = undefined subtractor-last
end_of (plus a) = undefined addend-last

-- a table, record by record
unfoldable pub meaning_from : List ℕ → List ℕ → Pending → List MachRel → Meaning
meaning_from contents sections p [] = end_of p
meaning_from contents sections p (r ∷ rs) = follow (turn_of contents sections p r) (λ q. meaning_from contents sections q rs)

-- a whole table
abbrev pub meaning_of : List ℕ → List ℕ → List MachRel → Meaning
meaning_of contents sections rs = meaning_from contents sections none rs

-- ---- what a table asks of its section

-- a referent that there is: a symbol, or one of so many sections
abbrev pub Known : ℕ → Referent → Type 0
Known sections (symbol n) = Unit {0}
Known sections (section k) = (0 < k) × (k ≤ sections)

-- the bytes of each relocation lie in the section, and each section that one refers to is there
abbrev pub Present : ℕ → ℕ → List Relocation → Type 0
Present size sections [] = Unit {0}
Present size sections (m ∷ ms) = ((m.place + m.size ≤ size) × Known sections m.target) × Present size sections ms

-- a pointer of 4 bytes of which nothing is subtracted
abbrev pub is_lone_pointer32 : Relocation → Bool
is_lone_pointer32 m = eqb m.ty ARM64_RELOC_UNSIGNED && (eqb m.size 4 && is_nothing m.minus)

-- whether there is one
abbrev pub has_lone_pointer32 : List Relocation → Bool
has_lone_pointer32 [] = false
has_lone_pointer32 (m ∷ ms) = is_lone_pointer32 m || has_lone_pointer32 ms

-- the reasons in spite of which a table can be read: each but a record that is not in the headers or not applied, an ADDEND record with none after it, and
-- a stored word that is no authenticated pointer's
abbrev pub is_tolerated : Reason → Bool
is_tolerated not-in-header = false
is_tolerated not-applied = false
is_tolerated subtractor-last = true
is_tolerated subtractor-type = true
is_tolerated subtractor-place = true
is_tolerated subtractor-size = true
is_tolerated addend-form = true
is_tolerated addend-last = false
is_tolerated addend-type = true
is_tolerated addend-place = true
is_tolerated not-authenticated = false
