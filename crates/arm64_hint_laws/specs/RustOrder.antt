-- The two rules that the Rust has in another order (RULES 8.18, 8.20): in ADRP_ADD_LDR and ADRP_ADD_STR its ADR comes before the fold. What that
-- order decides, by the decoders of arm64_insn and whatever number 31 links, the hints that the two orders decide otherwise, which docs/DIFFERENCES lists,
-- and where an ADR fits in the kinds of a GOT load, which keep it first.
use Rattle.std.specs.Prelude.{◌≡◌, ◌⊎◌, true, false, ℕ, ◌+◌, ◌%◌, eqb, Result, Ok, Err, Option, Some, None}
use Rattle.util.specs.Choice.{choose}
use Rattle.macho.specs.Types.{MCLOH_AdrpAddLdr, MCLOH_AdrpAddStr, ARM64_RELOC_PAGE21, ARM64_RELOC_PAGEOFF12}
use Rattle.arm64_insn.specs.Reach.{within1mb}
use Rattle.arm64_insn.specs.Fix.{nop_word}
use Rattle.arm64_insn.specs.declared.add.Add.{Add}
use Rattle.arm64_insn.specs.declared.ldst.LoadStore.{LoadStore}
use Rattle.arm64_hint_terms.specs.Answer.{sum_of, summed, fits_literal}
use Rattle.arm64_hint_terms.specs.Plans.{rewritten, literal_third, adr_third}
use Rattle.arm64_hint_terms.specs.Rels.{has_page_pair}
use Rattle.arm64_hint_adrp.specs.Three.{through, fold_third}
use Rattle.arm64_hint_terms.specs.declared.answer.Insns.{Insns}
use Rattle.arm64_hint_terms.specs.declared.answer.Rewrite.TheVariants.{Adr, Fold}
use Rattle.arm64_hint_terms.specs.declared.answer.Plan.{Plan}
use Rattle.arm64_hint_terms.specs.declared.answer.NoRewrite.{NoRewrite}
use Rattle.macho.specs.declared.reloc.Reloc.{Reloc}
use Rattle.arm64_hint_terms.specs.declared.answer.NoRewrite.TheVariants.{Declined, Nine}
use Rattle.arm64_hint_terms.specs.declared.rels.Rels.{Rels}
use Rattle.arm64_hint_laws.specs.Decide.{by_rule, decide}
use Rattle.arm64_hint_laws.specs.Written.{ThirdAccess}

-- the accessed address by an ADR, in reach of the ADRP; else the fold
unfoldable pub adr_or_fold : Insns → ℕ → Add → LoadStore → ℕ → Result Plan NoRewrite
adr_or_fold s addr d ls target = choose (within1mb s.p0 target) (adr_third s ls target) (fold_third addr d ls)

-- ADRP_ADD_LDR in that order: a literal load, else as above
abbrev pub ldr_in_rust_order : Insns → Result (ℕ × Add × LoadStore) NoRewrite → Result Plan NoRewrite
ldr_in_rust_order s (Err Declined) = Err Declined
ldr_in_rust_order s (Err Nine) = Err Nine
ldr_in_rust_order s (Ok (addr, d, ld)) =
    summed (sum_of addr ld.offset) (λ target. choose (fits_literal ld target s.p2) (literal_third s ld target) (adr_or_fold s addr d ld target))

-- ADRP_ADD_STR in that order
abbrev pub str_in_rust_order : Insns → Result (ℕ × Add × LoadStore) NoRewrite → Result Plan NoRewrite
str_in_rust_order s (Err Declined) = Err Declined
str_in_rust_order s (Err Nine) = Err Nine
str_in_rust_order s (Ok (addr, d, st)) = choose st.is_store (summed (sum_of addr st.offset) (adr_or_fold s addr d st)) (Err Declined)

-- what is decided with the rules of these two kinds in the Rust's order
unfoldable pub in_rust_order : ℕ → Insns → Rels → Result Plan NoRewrite
in_rust_order kind s r =
    choose (eqb kind MCLOH_AdrpAddLdr) (ldr_in_rust_order s (through s (has_page_pair r 3 false)))
    (choose (eqb kind MCLOH_AdrpAddStr) (str_in_rust_order s (through s (has_page_pair r 3 false)))
    (by_rule kind s r))

-- a hint that both the fold and the ADR fit, of a kind whose rule comes to them: the words are ADRP, ADD to its register that makes addr, and an
-- access of addr through the ADD's, with no offset of its own; the bytes moved divide addr, which is within 1 MiB of the ADRP; a load of kind 3 has
-- no literal form that reaches, and kind 5 takes stores alone
pub record BothFit (kind : ℕ) (s : Insns) (r : Rels) : Type 0 where
  pub d : Add
  pub addr : ℕ
  pub ls : LoadStore
  pub pair : has_page_pair r 3 false ≡ true
  pub words : ThirdAccess s d addr ls addr
  pub no-offset : ls.offset ≡ 0
  pub divides : addr % ls.size ≡ 0
  pub near : within1mb s.p0 addr ≡ true
  pub comes : ((kind ≡ MCLOH_AdrpAddLdr) × (fits_literal ls addr s.p2 ≡ false)) ⊎ ((kind ≡ MCLOH_AdrpAddStr) × (ls.is_store ≡ true))

-- ADRP, the ADD to its register that a load of a GOT slot was relaxed to and that makes addr, and the access ls through the ADD's; and an ADR of addr
-- fits: addr is within 1 MiB of the ADRP
pub record AdrFits (s : Insns) (r : Rels) (d : Add) (addr : ℕ) (ls : LoadStore) : Type 0 where
  pub pair : has_page_pair r 3 true ≡ true
  pub words : ThirdAccess s d addr ls (addr + ls.offset)
  pub reach : within1mb s.p0 addr ≡ true

-- an entry of a type, of one target
abbrev half : ℕ → Option Reloc
half ty = Some (record { offset = 0; ty = ty; size = 4; is_pcrel = 0; is_subtracted = 0; target = 5; signing = 0; addend = 16 })

-- the halves of one reference on the first two places
abbrev pub halves : Rels
halves = record { r0 = half ARM64_RELOC_PAGE21; r1 = half ARM64_RELOC_PAGEOFF12; r2 = None }

-- ADRP x1; ADD x2, x1, #8; and an access through x2
abbrev pub through8 : ℕ → Insns
through8 access = record { w0 = 0x90000241; w1 = 0x91002022; w2 = access; p0 = 0x100000000; p1 = 0x100000004; p2 = 0x100000008 }

-- with an access that both fit, in a kind: the word that the fold writes in its place; the Rust's order has the ADR of 0x100048008 into x2, and writes
-- the access as it was
abbrev pub Moves : ℕ → ℕ → ℕ → Type 0
Moves kind access new =
    BothFit kind (through8 access) halves
    × (decide kind (through8 access) halves ≡ rewritten Fold None (Some nop_word) (Some new))
    × (in_rust_order kind (through8 access) halves ≡ rewritten Adr (Some 0x10240042) (Some nop_word) (Some access))

-- LDRB w5, [x2] becomes LDRB w5, [x1, #8], and STR x5, [x2] becomes STR x5, [x1, #8], in ADRP_ADD_LDR too
abbrev pub MovedExamples : Type 0
MovedExamples =
    Moves MCLOH_AdrpAddLdr 0x39400045 0x39402025 × Moves MCLOH_AdrpAddLdr 0xf9000045 0xf9000425 × Moves MCLOH_AdrpAddStr 0xf9000045 0xf9000425
