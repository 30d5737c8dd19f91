-- What a list of entries says (RULES 2.16, 4.21).
use Rattle.std.specs.Prelude.{ℕ, ◌+◌, ◌-◌, List, [], ◌∷◌, eqb}
use Rattle.util.specs.Choice.{choose}
use Rattle.macho.specs.Authenticated.{diversity_of, address_diversity_of, key_of}
use Rattle.macho.specs.Reloc.{target_section, is_section}
use Rattle.macho.specs.Types.{ARM64_RELOC_SUBTRACTOR, ARM64_RELOC_AUTHENTICATED_POINTER}
use Rattle.macho.specs.declared.reloc.Reloc.{Reloc}
use Rattle.arm64_reader.specs.Header.{Referent, symbol, section, Signing, not-signed, signed, Less, nothing, less, Relocation}

-- what an entry's target names: bit 31 set means section, counted from 0
abbrev pub named_by : ℕ → Referent
named_by target = choose (is_section target) (section (target - target_section + 1)) (symbol target)

-- how an entry's pointer is signed: its four bytes say it of an authenticated one
unfoldable pub signing_of : Reloc → Signing
signing_of e =
    choose (eqb e.ty ARM64_RELOC_AUTHENTICATED_POINTER)
    (signed (diversity_of e.signing) (address_diversity_of e.signing) (key_of e.signing)) not-signed

-- an entry as a relocation
abbrev pub say_one : Less → Reloc → Relocation
say_one m e =
    record {
      ty = e.ty;
      place = e.offset;
      size = e.size;
      target = named_by e.target;
      addend = e.addend;
      minus = m;
      signing = signing_of e;
    }

-- a SUBTRACTOR entry is what is subtracted in the entry after it
abbrev pub said_from : Less → List Reloc → List Relocation
said_from m [] = []
said_from m (e ∷ es) = choose (eqb e.ty ARM64_RELOC_SUBTRACTOR) (said_from (less (named_by e.target)) es) (say_one m e ∷ said_from nothing es)

-- what a list of entries says
abbrev pub said : List Reloc → List Relocation
said es = said_from nothing es
