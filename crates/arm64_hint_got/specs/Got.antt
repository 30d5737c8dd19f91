-- The rules ADRP_LDR_GOT, ADRP_LDR_GOT_LDR and ADRP_LDR_GOT_STR (arch/arm64.rs, `got_load`, `got_literal`, `loh_adrp_ldr_got`,
-- `loh_adrp_ldr_got_ldr` and `loh_adrp_ldr_got_str`; RULES 8.19, 8.21, 8.23 to 8.25).
use Rattle.std.specs.Prelude.{ℕ, ◌≡◌, ◌+◌, ◌%◌, Bool, ◌&&◌, not, eqb, ltb, Result, Ok, Err, Option, Some, None}
use Rattle.util.specs.Choice.{choose}
use Rattle.arm64_insn.specs.Page.{adrp_page}
use Rattle.arm64_insn.specs.Reach.{within1mb}
use Rattle.arm64_insn.specs.Adrp.{adrp_of}
use Rattle.arm64_insn.specs.Add.{add_of}
use Rattle.arm64_insn.specs.LoadStore.{load_store_of}
use Rattle.arm64_insn.specs.Literal.{has_literal_form}
use Rattle.arm64_insn.specs.declared.adrp.Adrp.{Adrp}
use Rattle.arm64_hint_terms.specs.declared.answer.Plan.{Plan}
use Rattle.arm64_hint_terms.specs.declared.answer.AddAccess.{AddAccess}
use Rattle.arm64_hint_terms.specs.declared.answer.NoRewrite.{NoRewrite}
use Rattle.arm64_hint_got.specs.declared.GotLoad.{GotLoad}
use Rattle.arm64_hint_terms.specs.declared.answer.NoRewrite.TheVariants.{Declined, Nine}
use Rattle.arm64_hint_got.specs.declared.GotLoad.TheVariants.{Slot, Relaxed}
use Rattle.arm64_insn.specs.declared.add.Add.{Add}
use Rattle.arm64_insn.specs.declared.ldst.LoadStore.{LoadStore}
use Rattle.arm64_hint_terms.specs.Answer.{sum_of, summed}
use Rattle.arm64_hint_terms.specs.Plans.{literal_second, literal_third, adr_first, folded}
use Rattle.arm64_hint_adrp.specs.Two.{adr_to}
use Rattle.arm64_hint_adrp.specs.Three.{fold_third}
use Rattle.arm64_hint_terms.specs.declared.answer.Insns.{Insns}
use Rattle.arm64_hint_terms.specs.declared.answer.Rewrite.TheVariants as R

-- an 8-byte load into a general register, through the register rd
unfoldable pub loads_slot : LoadStore → ℕ → Bool
loads_slot ld rd = eqb ld.size 8 && not ld.is_float && not ld.is_store && eqb ld.base rd

-- a load of the slot at an address
abbrev pub slot_at : LoadStore → Option ℕ → Result GotLoad NoRewrite
slot_at ld None = Err Nine
slot_at ld (Some slot) = Ok (Slot slot ld)

-- an ADD that makes the target
abbrev pub relaxed_at : Add → Option ℕ → Result GotLoad NoRewrite
relaxed_at d None = Err Nine
relaxed_at d (Some target) = Ok (Relaxed target d)

-- the second word as a load of the slot
unfoldable pub slot_load : Insns → Adrp → LoadStore → Result GotLoad NoRewrite
slot_load s a ld = choose (loads_slot ld a.rd) (slot_at ld (sum_of (adrp_page a.imm s.p0) ld.offset)) (Err Declined)

-- the second word as the ADD that a relaxed load became
unfoldable pub relaxed_load : Insns → Adrp → Add → Result GotLoad NoRewrite
relaxed_load s a d = choose (eqb d.rn a.rd) (relaxed_at d (sum_of (adrp_page a.imm s.p0) d.imm)) (Err Declined)

-- by what the words decode to: a load or store comes before an ADD
abbrev pub got_load_with : Insns → Option Adrp → Option LoadStore → Option Add → Result GotLoad NoRewrite
got_load_with s None _ _ = Err Declined
got_load_with s (Some a) (Some ld) _ = slot_load s a ld
got_load_with s (Some a) None (Some d) = relaxed_load s a d
got_load_with s (Some a) None None = Err Declined

-- the GOT load as it now stands; pair says that the entries are the halves of one reference to a GOT slot
unfoldable pub got_load : Insns → Bool → Result GotLoad NoRewrite
got_load s pair = choose pair (got_load_with s (adrp_of s.w0) (load_store_of s.w1) (add_of s.w1)) (Err Declined)

-- by the GOT load
abbrev pub adrp_ldr_got_with : Insns → Result GotLoad NoRewrite → Result Plan NoRewrite
adrp_ldr_got_with s (Err Declined) = Err Declined
adrp_ldr_got_with s (Err Nine) = Err Nine
adrp_ldr_got_with s (Ok (Slot slot got)) = choose (within1mb s.p1 slot) (literal_second R.Slot s got slot) (Err Declined)
adrp_ldr_got_with s (Ok (Relaxed target d)) = adr_to s d.rd target

-- ADRP_LDR_GOT: a slot within 1 MiB of its load, or a target within 1 MiB of the ADRP
unfoldable pub adrp_ldr_got : Insns → Bool → Result Plan NoRewrite
adrp_ldr_got s pair = adrp_ldr_got_with s (got_load s pair)

-- the slot's load as a literal load: end, the slot plus the access's offset, is a multiple of 4, and end and slot are in reach
unfoldable pub slot_to : Insns → ℕ → LoadStore → LoadStore → ℕ → Result Plan NoRewrite
slot_to s slot got ls end =
    choose (eqb ls.base got.reg && eqb (end % 4) 0 && within1mb s.p1 end && within1mb s.p1 slot)
    (literal_second R.Slot s got slot)
    (Err Declined)

-- an access through the load of a GOT slot
unfoldable pub got_literal : Insns → ℕ → LoadStore → LoadStore → Result Plan NoRewrite
got_literal s slot got ls = summed (sum_of slot ls.offset) (slot_to s slot got ls)

-- the fold of the ADD's immediate into a load, added to the load's own offset
unfoldable pub fold_load : ℕ → Add → LoadStore → Result Plan NoRewrite
fold_load target d ld =
    choose (eqb (target % ld.size) 0 && ltb (d.imm + ld.offset) 4096) (folded ld d.rn (d.imm + ld.offset)) (Err Declined)

-- the target by an ADR in reach of the ADRP, else the fold
unfoldable pub adr_or_fold_load : Insns → ℕ → Add → LoadStore → Result Plan NoRewrite
adr_or_fold_load s target d ld = choose (within1mb s.p0 target) (adr_first s ld.base target) (fold_load target d ld)

-- a load of end, in reach of a literal load, else as above
unfoldable pub relaxed_to : Insns → ℕ → Add → LoadStore → ℕ → Result Plan NoRewrite
relaxed_to s target d ld end = choose (within1mb s.p2 end) (literal_third s ld end) (adr_or_fold_load s target d ld)

-- a load through the ADD; the sum of target and offset is reached for a literal form and a target that is a multiple of 4
unfoldable pub relaxed_ldr : Insns → ℕ → Add → LoadStore → Result Plan NoRewrite
relaxed_ldr s target d ld =
    choose (has_literal_form ld && eqb (target % 4) 0)
    (summed (sum_of target ld.offset) (relaxed_to s target d ld))
    (adr_or_fold_load s target d ld)

-- by the GOT load
abbrev pub got_ldr_by : Insns → LoadStore → Result GotLoad NoRewrite → Result Plan NoRewrite
got_ldr_by s ld (Err Declined) = Err Declined
got_ldr_by s ld (Err Nine) = Err Nine
got_ldr_by s ld (Ok (Slot slot got)) = got_literal s slot got ld
got_ldr_by s ld (Ok (Relaxed target d)) = choose (eqb d.rd ld.base) (relaxed_ldr s target d ld) (Err Declined)

-- by what the third word decodes to
abbrev pub got_ldr_with : Insns → Bool → Option LoadStore → Result Plan NoRewrite
got_ldr_with s pair None = Err Declined
got_ldr_with s pair (Some ld) = got_ldr_by s ld (got_load s pair)

-- ADRP_LDR_GOT_LDR: a store passes on to all but a literal load of its own
unfoldable pub adrp_ldr_got_ldr : Insns → Bool → Result Plan NoRewrite
adrp_ldr_got_ldr s pair = got_ldr_with s pair (load_store_of s.w2)

-- a store through the ADD: the target by an ADR in reach of the ADRP, else the fold
unfoldable pub relaxed_str : Insns → ℕ → Add → LoadStore → Result Plan NoRewrite
relaxed_str s target d st = choose (within1mb s.p0 target) (adr_first s st.base target) (fold_third target d st)

-- by the GOT load
abbrev pub got_str_by : Insns → LoadStore → Result GotLoad NoRewrite → Result Plan NoRewrite
got_str_by s st (Err Declined) = Err Declined
got_str_by s st (Err Nine) = Err Nine
got_str_by s st (Ok (Slot slot got)) = got_literal s slot got st
got_str_by s st (Ok (Relaxed target d)) = choose (eqb d.rd st.base) (relaxed_str s target d st) (Err Declined)

-- by what the third word decodes to; the test for a store comes before any sum
abbrev pub got_str_with : Insns → Bool → Option LoadStore → Result Plan NoRewrite
got_str_with s pair None = Err Declined
got_str_with s pair (Some st) = choose st.is_store (got_str_by s st (got_load s pair)) (Err Declined)

-- what an access through a GOT load answers, where `made` says which answers a target and the ADD to the access's base may get
abbrev pub ThroughGot : Insns → LoadStore → Result GotLoad NoRewrite → (ℕ → AddAccess → Result Plan NoRewrite → Type 0) → Result Plan NoRewrite → Type 0
ThroughGot s ls (Err x) made r = r ≡ Err x
ThroughGot s ls (Ok (Slot slot got)) made r = r ≡ got_literal s slot got ls
ThroughGot s ls (Ok (Relaxed target d)) made r = ((d.rd ≡ ls.base → ⊥) → r ≡ Err Declined) × (d.rd ≡ ls.base → (m : AddAccess) × (m.add ≡ d) × (m.access ≡ ls) × made target m r)

-- ADRP_LDR_GOT_STR
unfoldable pub adrp_ldr_got_str : Insns → Bool → Result Plan NoRewrite
adrp_ldr_got_str s pair = got_str_with s pair (load_store_of s.w2)
