-- Which entries put a target's page, and which its page offset, into the word at their place (RULES 5.26).
use Rattle.std.specs.Prelude.{◌≡◌, true, false, ◌⊎◌, ℕ}
use Rattle.macho.specs.Types.{ARM64_RELOC_PAGE21, ARM64_RELOC_PAGEOFF12}
use Rattle.macho.specs.Types.{ARM64_RELOC_GOT_LOAD_PAGE21, ARM64_RELOC_GOT_LOAD_PAGEOFF12, ARM64_RELOC_TLVP_LOAD_PAGE21, ARM64_RELOC_TLVP_LOAD_PAGEOFF12}
use Rattle.macho.specs.Resolved.{has_address, can_relax_got, has_helper}
use Rattle.macho.specs.declared.reloc.Reloc.{Reloc}
use Rattle.macho.specs.declared.resolved.Resolved.{Resolved}
use Rattle.arm64_fixup_entry.specs.Target.{target_of, slot_of, got_target}

-- the page of a target: S + A; for GOT without a helper and TLVP S + A if relaxed, else G + A
pub data Page (e : Reloc) (t : Resolved) : ℕ → Type 0 where
  page : e.ty ≡ ARM64_RELOC_PAGE21 → has_address t ≡ true → Page e t (target_of e t)
  got-page : e.ty ≡ ARM64_RELOC_GOT_LOAD_PAGE21 → has_helper t ≡ false → Page e t (got_target e t)
  tlv-page : e.ty ≡ ARM64_RELOC_TLVP_LOAD_PAGE21 → Page e t (got_target e t)

-- a type of GOT or TLVP page offset
abbrev pub GotOffset : Reloc → Type 0
GotOffset e = (e.ty ≡ ARM64_RELOC_GOT_LOAD_PAGEOFF12) ⊎ (e.ty ≡ ARM64_RELOC_TLVP_LOAD_PAGEOFF12)

-- the page offset of a target, into an ADD, a load or a store: S + A; for GOT and TLVP, not relaxed, G + A
pub data Offset (e : Reloc) (t : Resolved) : ℕ → Type 0 where
  offset : e.ty ≡ ARM64_RELOC_PAGEOFF12 → has_address t ≡ true → Offset e t (target_of e t)
  got-offset : GotOffset e → can_relax_got t ≡ false → Offset e t (slot_of e t)

-- a relaxed page offset, which makes an ADD of S + A
pub record Relaxed (e : Reloc) (t : Resolved) : Type 0 where
  pub type : GotOffset e
  pub relaxes : can_relax_got t ≡ true
