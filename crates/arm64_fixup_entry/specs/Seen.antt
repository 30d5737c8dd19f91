-- What the fix-up looks at of an entry and of its resolved target, by the entry's type (RULES 2.15, 2.18, 3.16).
use Rattle.std.specs.Prelude.{◌≡◌, true, false, ◌⊎◌, eqb}
use Rattle.util.specs.Choice.{choose}
use Rattle.macho.specs.Types.{ARM64_RELOC_UNSIGNED, ARM64_RELOC_SUBTRACTOR, ARM64_RELOC_BRANCH26, ARM64_RELOC_PAGE21, ARM64_RELOC_PAGEOFF12}
use Rattle.macho.specs.Types.{ARM64_RELOC_GOT_LOAD_PAGE21, ARM64_RELOC_POINTER_TO_GOT, ARM64_RELOC_TLVP_LOAD_PAGE21, ARM64_RELOC_AUTHENTICATED_POINTER}
use Rattle.macho.specs.Authenticated.{signing_used}
use Rattle.macho.specs.Reloc.{target_section, is_section}
use Rattle.macho.specs.Resolved.{is_imported, is_tls, has_address, can_relax_got, has_thunk, has_helper, helper_is_own, is_probe, is_enabled}
use Rattle.macho.specs.declared.reloc.Reloc.{Reloc}
use Rattle.macho.specs.declared.resolved.Resolved.{Resolved}
use Rattle.arm64_fixup_entry.specs.Target.{is_symbol}
use Rattle.arm64_fixup_entry.specs.Check.{unsupported, subtracts}
use Rattle.arm64_fixup_entry.specs.Roles.{GotOffset}

-- an entry with zeros for what is not looked at: marks, signing but for AUTHENTICATED_POINTER, the size but for SUBTRACTOR, of that the addend, the
-- target's bits 0 to 30
abbrev pub seen : Reloc → Reloc
seen e =
    record {
      offset = e.offset;
      ty = e.ty;
      size = choose (subtracts e.ty) e.size 0;
      is_pcrel = 0;
      is_subtracted = 0;
      target = choose (is_section e.target) target_section 0;
      signing = choose (eqb e.ty ARM64_RELOC_AUTHENTICATED_POINTER) (signing_used e.signing) 0;
      addend = choose (subtracts e.ty) 0 e.addend;
    }

-- what a GOT or TLVP load refers to is the same: S where both are relaxed, G where neither is
abbrev pub SameSlot : Resolved → Resolved → Type 0
SameSlot t t' =
    ((can_relax_got t ≡ true) × (can_relax_got t' ≡ true) × (t.addr ≡ t'.addr)) ⊎ ((can_relax_got t ≡ false) × (can_relax_got t' ≡ false) × (t.got ≡ t'.got))

-- targets that agree in the fields and flags that an entry of its type uses: a row for each type
pub data SameUse (e : Reloc) (t t' : Resolved) : Type 0 where
  same-unsigned : e.ty ≡ ARM64_RELOC_UNSIGNED → t.addr ≡ t'.addr → is_tls t ≡ is_tls t' → (is_symbol e ≡ true → is_imported t ≡ is_imported t') → SameUse e t t'
  same-authenticated : e.ty ≡ ARM64_RELOC_AUTHENTICATED_POINTER → t.addr ≡ t'.addr → (is_symbol e ≡ true → is_imported t ≡ is_imported t') → SameUse e t t'
  same-subtractor : e.ty ≡ ARM64_RELOC_SUBTRACTOR → t.addr ≡ t'.addr → SameUse e t t'
  same-branch-symbol : e.ty ≡ ARM64_RELOC_BRANCH26 → is_symbol e ≡ true → t.branch ≡ t'.branch → t.thunk ≡ t'.thunk → has_thunk t ≡ has_thunk t'
      → is_probe t ≡ is_probe t' → is_enabled t ≡ is_enabled t' → SameUse e t t'
  same-branch-section : e.ty ≡ ARM64_RELOC_BRANCH26 → is_symbol e ≡ false → t.addr ≡ t'.addr → SameUse e t t'
  same-page : (e.ty ≡ ARM64_RELOC_PAGE21) ⊎ (e.ty ≡ ARM64_RELOC_PAGEOFF12) → has_address t ≡ has_address t' → t.addr ≡ t'.addr → SameUse e t t'
  same-got-helper : e.ty ≡ ARM64_RELOC_GOT_LOAD_PAGE21 → has_helper t ≡ true → has_helper t' ≡ true → t.helper ≡ t'.helper → helper_is_own t ≡ helper_is_own t'
      → SameUse e t t'
  same-got-page : e.ty ≡ ARM64_RELOC_GOT_LOAD_PAGE21 → has_helper t ≡ false → has_helper t' ≡ false → SameSlot t t' → SameUse e t t'
  same-tlv-page : e.ty ≡ ARM64_RELOC_TLVP_LOAD_PAGE21 → SameSlot t t' → SameUse e t t'
  same-got-offset : GotOffset e → SameSlot t t' → SameUse e t t'
  same-pointer-to-got : e.ty ≡ ARM64_RELOC_POINTER_TO_GOT → t.got ≡ t'.got → SameUse e t t'
  -- a type that is turned down uses nothing
  same-unknown : unsupported e.ty ≡ true → SameUse e t t'
  same-all : t ≡ t' → SameUse e t t'
