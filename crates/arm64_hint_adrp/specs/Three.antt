-- The rules ADRP_ADD_LDR and ADRP_ADD_STR (arch/arm64.rs, `adrp_add_ldst`, `loh_adrp_add_ldr` and `loh_adrp_add_str`; RULES 8.18, 8.20).
use Rattle.std.specs.Prelude.{ℕ, ◌%◌, Bool, ◌&&◌, eqb, Result, Ok, Err, Option, Some, None}
use Rattle.util.specs.Choice.{choose}
use Rattle.arm64_insn.specs.Page.{adrp_page}
use Rattle.arm64_insn.specs.Reach.{within1mb}
use Rattle.arm64_insn.specs.Adrp.{adrp_of}
use Rattle.arm64_insn.specs.Add.{add_of}
use Rattle.arm64_insn.specs.LoadStore.{load_store_of}
use Rattle.arm64_insn.specs.declared.adrp.Adrp.{Adrp}
use Rattle.arm64_hint_terms.specs.declared.answer.Plan.{Plan}
use Rattle.arm64_hint_terms.specs.declared.answer.NoRewrite.{NoRewrite}
use Rattle.arm64_hint_terms.specs.declared.answer.NoRewrite.TheVariants.{Declined, Nine}
use Rattle.arm64_insn.specs.declared.add.Add.{Add}
use Rattle.arm64_insn.specs.declared.ldst.LoadStore.{LoadStore}
use Rattle.arm64_hint_terms.specs.Answer.{sum_of, summed, fits_literal}
use Rattle.arm64_hint_terms.specs.Plans.{literal_third, adr_third, folded}
use Rattle.arm64_hint_terms.specs.declared.answer.Insns.{Insns}

-- the address that ADRP and ADD make, with the access through it
abbrev pub through_at : Add → LoadStore → Option ℕ → Result (ℕ × Add × LoadStore) NoRewrite
through_at d ls None = Err Nine
through_at d ls (Some addr) = Ok (addr, d, ls)

-- an ADD to the ADRP's register, and an access through what the ADD made
unfoldable pub add_access : Insns → Adrp → Add → LoadStore → Result (ℕ × Add × LoadStore) NoRewrite
add_access s a d ls =
    choose (eqb d.rn a.rd && eqb ls.base d.rd) (through_at d ls (sum_of (adrp_page a.imm s.p0) d.imm)) (Err Declined)

-- by what the words decode to
abbrev pub through_with : Insns → Option Adrp → Option Add → Option LoadStore → Result (ℕ × Add × LoadStore) NoRewrite
through_with s None _ _ = Err Declined
through_with s (Some a) None _ = Err Declined
through_with s (Some a) (Some d) None = Err Declined
through_with s (Some a) (Some d) (Some ls) = add_access s a d ls

-- the words as ADRP, ADD and access; pair says that the entries are the halves of one reference
unfoldable pub through : Insns → Bool → Result (ℕ × Add × LoadStore) NoRewrite
through s pair = choose pair (through_with s (adrp_of s.w0) (add_of s.w1) (load_store_of s.w2)) (Err Declined)

-- whether the ADD folds into an access: that has no offset of its own, and the ADD makes a multiple of the bytes moved
unfoldable pub folds : ℕ → LoadStore → Bool
folds addr ls = eqb ls.offset 0 && eqb (addr % ls.size) 0

-- the fold of the ADD's immediate into an access
unfoldable pub fold_third : ℕ → Add → LoadStore → Result Plan NoRewrite
fold_third addr d ls = choose (folds addr ls) (folded ls d.rn d.imm) (Err Declined)

-- the fold; else the accessed address by an ADR, in reach of the ADRP
unfoldable pub fold_or_adr : Insns → ℕ → Add → LoadStore → ℕ → Result Plan NoRewrite
fold_or_adr s addr d ls target =
    choose (folds addr ls) (folded ls d.rn d.imm) (choose (within1mb s.p0 target) (adr_third s ls target) (Err Declined))

-- an access of target through addr: a literal load, else as above
unfoldable pub load_through : Insns → ℕ → Add → LoadStore → ℕ → Result Plan NoRewrite
load_through s addr d ld target = choose (fits_literal ld target s.p2) (literal_third s ld target) (fold_or_adr s addr d ld target)

-- by what the words make
abbrev pub adrp_add_ldr_with : Insns → Result (ℕ × Add × LoadStore) NoRewrite → Result Plan NoRewrite
adrp_add_ldr_with s (Err Declined) = Err Declined
adrp_add_ldr_with s (Err Nine) = Err Nine
adrp_add_ldr_with s (Ok (addr, d, ld)) = summed (sum_of addr ld.offset) (load_through s addr d ld)

-- ADRP_ADD_LDR: literal load, fold or ADR; a store passes on to the last two
unfoldable pub adrp_add_ldr : Insns → Bool → Result Plan NoRewrite
adrp_add_ldr s pair = adrp_add_ldr_with s (through s pair)

-- by what the words make; the first sum comes before the test for a store
abbrev pub adrp_add_str_with : Insns → Result (ℕ × Add × LoadStore) NoRewrite → Result Plan NoRewrite
adrp_add_str_with s (Err Declined) = Err Declined
adrp_add_str_with s (Err Nine) = Err Nine
adrp_add_str_with s (Ok (addr, d, st)) = choose st.is_store (summed (sum_of addr st.offset) (fold_or_adr s addr d st)) (Err Declined)

-- ADRP_ADD_STR: fold or ADR, of a store
unfoldable pub adrp_add_str : Insns → Bool → Result Plan NoRewrite
adrp_add_str s pair = adrp_add_str_with s (through s pair)
