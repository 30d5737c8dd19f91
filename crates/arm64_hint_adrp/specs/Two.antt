-- The rules ADRP_ADRP, ADRP_LDR and ADRP_ADD (arch/arm64.rs, `loh_adrp_adrp`, `loh_adrp_ldr` and `loh_adrp_add`; RULES 8.16, 8.17, 8.22).
use Rattle.std.specs.Prelude.{ℕ, Bool, ◌&&◌, eqb, Result, Err, Option, Some, None}
use Rattle.util.specs.Choice.{choose}
use Rattle.arm64_insn.specs.Page.{adrp_page}
use Rattle.arm64_insn.specs.Reach.{within1mb}
use Rattle.arm64_insn.specs.Adrp.{adrp_of}
use Rattle.arm64_insn.specs.Add.{add_of}
use Rattle.arm64_insn.specs.LoadStore.{load_store_of}
use Rattle.arm64_insn.specs.declared.adrp.Adrp.{Adrp}
use Rattle.arm64_hint_terms.specs.declared.answer.Plan.{Plan}
use Rattle.arm64_hint_terms.specs.declared.answer.NoRewrite.{NoRewrite}
use Rattle.arm64_hint_terms.specs.declared.answer.NoRewrite.TheVariants.{Declined}
use Rattle.arm64_insn.specs.declared.add.Add.{Add}
use Rattle.arm64_insn.specs.declared.ldst.LoadStore.{LoadStore}
use Rattle.arm64_hint_terms.specs.Answer.{sum_of, summed, fits_literal}
use Rattle.arm64_hint_terms.specs.Plans.{dropped, literal_second, adr_first}
use Rattle.arm64_hint_terms.specs.declared.answer.Insns.{Insns}
use Rattle.arm64_hint_terms.specs.declared.answer.Rewrite.TheVariants.{Literal}

-- two ADRPs of one page into one register
unfoldable pub same_page : Insns → Adrp → Adrp → Result Plan NoRewrite
same_page s a b =
    choose (eqb a.rd b.rd && eqb (adrp_page a.imm s.p0) (adrp_page b.imm s.p1)) dropped (Err Declined)

-- by what the words decode to
abbrev pub adrp_adrp_with : Insns → Option Adrp → Option Adrp → Result Plan NoRewrite
adrp_adrp_with s None _ = Err Declined
adrp_adrp_with s (Some a) None = Err Declined
adrp_adrp_with s (Some a) (Some b) = same_page s a b

-- ADRP_ADRP: the second of two ADRPs is redundant; pages says that both entries are page halves
unfoldable pub adrp_adrp : Insns → Bool → Result Plan NoRewrite
adrp_adrp s pages = choose pages (adrp_adrp_with s (adrp_of s.w0) (adrp_of s.w1)) (Err Declined)

-- a load of target as a literal load
unfoldable pub ldr_second : Insns → LoadStore → ℕ → Result Plan NoRewrite
ldr_second s ld target = choose (fits_literal ld target s.p1) (literal_second Literal s ld target) (Err Declined)

-- an access through the ADRP's register
unfoldable pub ldr_at_page : Insns → Adrp → LoadStore → Result Plan NoRewrite
ldr_at_page s a ld =
    choose (eqb ld.base a.rd) (summed (sum_of (adrp_page a.imm s.p0) ld.offset) (ldr_second s ld)) (Err Declined)

-- by what the words decode to
abbrev pub adrp_ldr_with : Insns → Option Adrp → Option LoadStore → Result Plan NoRewrite
adrp_ldr_with s None _ = Err Declined
adrp_ldr_with s (Some a) None = Err Declined
adrp_ldr_with s (Some a) (Some ld) = ldr_at_page s a ld

-- ADRP_LDR: a load from within 1 MiB of itself; pair says that the entries are the halves of one reference
unfoldable pub adrp_ldr : Insns → Bool → Result Plan NoRewrite
adrp_ldr s pair = choose pair (adrp_ldr_with s (adrp_of s.w0) (load_store_of s.w1)) (Err Declined)

-- target by an ADR into rd
unfoldable pub adr_to : Insns → ℕ → ℕ → Result Plan NoRewrite
adr_to s rd target = choose (within1mb s.p0 target) (adr_first s rd target) (Err Declined)

-- an ADD to the ADRP's register
unfoldable pub add_at_page : Insns → Adrp → Add → Result Plan NoRewrite
add_at_page s a d = choose (eqb d.rn a.rd) (summed (sum_of (adrp_page a.imm s.p0) d.imm) (adr_to s d.rd)) (Err Declined)

-- by what the words decode to
abbrev pub adrp_add_with : Insns → Option Adrp → Option Add → Result Plan NoRewrite
adrp_add_with s None _ = Err Declined
adrp_add_with s (Some a) None = Err Declined
adrp_add_with s (Some a) (Some d) = add_at_page s a d

-- ADRP_ADD: an address within 1 MiB of the ADRP
unfoldable pub adrp_add : Insns → Bool → Result Plan NoRewrite
adrp_add s pair = choose pair (adrp_add_with s (adrp_of s.w0) (add_of s.w1)) (Err Declined)
