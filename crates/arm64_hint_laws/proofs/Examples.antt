-- Examples of what is decided, each computed. For every kind each of its rewrites and, but for ADRP_ADRP and ADRP_ADD, nine; the orders of tests and
-- sums that RULES 8.13 to 8.25 ask for; what entries let through. With `Written` they say that the table of rewrites there is exact.
use Rattle.std.specs.Prelude.{Result, Err, Option, Some, None}
use mathlib.Core.Path.{◌≡◌, refl}
use mathlib.Core.List.{List, [], ◌∷◌}
use Prim.Native.Nat.{ℕ, ◌+◌}
use Rattle.util.specs.Choice.{choose}
use Rattle.util.specs.Wrap.{in_range}
use Rattle.macho.specs.Types.{MCLOH_AdrpAdrp, MCLOH_AdrpLdr, MCLOH_AdrpAddLdr, MCLOH_AdrpLdrGotLdr}
use Rattle.macho.specs.Types.{MCLOH_AdrpAddStr, MCLOH_AdrpLdrGotStr, MCLOH_AdrpAdd, MCLOH_AdrpLdrGot}
use Rattle.macho.specs.Types.{ARM64_RELOC_PAGE21, ARM64_RELOC_PAGEOFF12, ARM64_RELOC_GOT_LOAD_PAGE21, ARM64_RELOC_GOT_LOAD_PAGEOFF12}
use Rattle.macho.specs.Types.{ARM64_RELOC_TLVP_LOAD_PAGE21, ARM64_RELOC_TLVP_LOAD_PAGEOFF12}
use Rattle.macho.specs.Hint.{word_count}
use Rattle.arm64_insn.specs.LoadStoreTable.{row_of}
use Rattle.arm64_insn.specs.Links.{makes, takes, links31, adds31}
use Rattle.arm64_insn.specs.Page.{page_of, adrp_page}
use Rattle.arm64_insn.specs.Reach.{within1mb}
use Rattle.arm64_insn.specs.Adrp.{adrp_of, adr_word}
use Rattle.arm64_insn.specs.Add.{add_of}
use Rattle.arm64_insn.specs.Fix.{nop_word}
use Rattle.arm64_insn.specs.LoadStore.{load_store_of}
use Rattle.arm64_insn.specs.Literal.{has_literal_form, literal_opc, literal_v, literal_word, base_word}
use Rattle.arm64_hint_terms.specs.Answer.{sum_of, fits_literal}
use Rattle.arm64_hint_terms.specs.Plans.{rewritten}
use Rattle.arm64_hint_terms.specs.Rels.{is_page_rel, is_pageoff_rel, same_reference, is_absent, has_page_pair, both_pages}
use Rattle.arm64_hint_adrp.specs.Two.{same_page, adrp_adrp, ldr_second, ldr_at_page, adrp_ldr, adr_to, add_at_page, adrp_add}
use Rattle.arm64_hint_adrp.specs.Three.{add_access, through, folds, fold_third, fold_or_adr, load_through, adrp_add_ldr, adrp_add_str}
use Rattle.arm64_hint_got.specs.Got.{loads_slot, slot_load, relaxed_load, got_load, adrp_ldr_got, slot_to, got_literal}
use Rattle.arm64_hint_got.specs.Got.{fold_load, adr_or_fold_load, relaxed_to, relaxed_ldr, adrp_ldr_got_ldr, relaxed_str, adrp_ldr_got_str}
use Rattle.arm64_hint_laws.specs.Decide.{by_rule, bars31, decide}
use Rattle.arm64_hint_laws.specs.RustOrder.{halves}
use Rattle.arm64_hint_terms.specs.declared.answer.Insns.{Insns}
use Rattle.arm64_hint_terms.specs.declared.answer.Rewrite.TheVariants.{Drop, Literal, Adr, Fold, Slot}
use Rattle.arm64_hint_terms.specs.declared.answer.Plan.{Plan}
use Rattle.arm64_hint_terms.specs.declared.answer.NoRewrite.{NoRewrite}
use Rattle.macho.specs.declared.reloc.Reloc.{Reloc}
use Rattle.arm64_hint_terms.specs.declared.answer.NoRewrite.TheVariants.{Declined, Nine}
use Rattle.arm64_hint_terms.specs.declared.rels.Rels.{Rels}

-- an entry of a type, a target and an addend
abbrev added : ℕ → ℕ → ℕ → Option Reloc
added ty target addend =
    Some
    (record { offset = 0; ty = ty; size = 4; is_pcrel = 0; is_subtracted = 0; target = target; signing = 0; addend = addend })

-- an entry of a type and a target, with one addend for all
abbrev entry : ℕ → ℕ → Option Reloc
entry ty target = added ty target 16

abbrev rels : Option Reloc → Option Reloc → Option Reloc → Rels
rels a b c = record { r0 = a; r1 = b; r2 = c }

abbrev pages : Rels
pages = rels (entry ARM64_RELOC_PAGE21 5) (entry ARM64_RELOC_PAGE21 5) None

abbrev pair : Rels
pair = halves

abbrev got_pair : Rels
got_pair = rels (entry ARM64_RELOC_GOT_LOAD_PAGE21 5) (entry ARM64_RELOC_GOT_LOAD_PAGEOFF12 5) None

abbrev third_entry : Rels
third_entry = rels (entry ARM64_RELOC_PAGE21 5) (entry ARM64_RELOC_PAGEOFF12 5) (entry ARM64_RELOC_PAGEOFF12 5)

abbrev two_targets : Rels
two_targets = rels (entry ARM64_RELOC_PAGE21 5) (entry ARM64_RELOC_PAGEOFF12 6) None

abbrev two_pages : Rels
two_pages = rels (entry ARM64_RELOC_PAGE21 5) (entry ARM64_RELOC_PAGE21 6) None

abbrev two_addends : Rels
two_addends = rels (entry ARM64_RELOC_PAGE21 5) (added ARM64_RELOC_PAGEOFF12 5 0) None

-- halves of one reference by other types: of a thread-local variable's slot, and of different types
abbrev tlvp_pair : Rels
tlvp_pair = rels (entry ARM64_RELOC_TLVP_LOAD_PAGE21 5) (entry ARM64_RELOC_TLVP_LOAD_PAGEOFF12 5) None

abbrev got_then_tlvp : Rels
got_then_tlvp = rels (entry ARM64_RELOC_GOT_LOAD_PAGE21 5) (entry ARM64_RELOC_TLVP_LOAD_PAGEOFF12 5) None

abbrev got_then_plain : Rels
got_then_plain = rels (entry ARM64_RELOC_GOT_LOAD_PAGE21 5) (entry ARM64_RELOC_PAGEOFF12 5) None

abbrev plain_then_got : Rels
plain_then_got = rels (entry ARM64_RELOC_PAGE21 5) (entry ARM64_RELOC_GOT_LOAD_PAGEOFF12 5) None

-- words at an address, each 4 after the one before
abbrev at : ℕ → ℕ → ℕ → ℕ → Insns
at p a b c = record { w0 = a; w1 = b; w2 = c; p0 = p; p1 = p + 4; p2 = p + 8 }

-- a hint, and what is decided of it
pub record Row : Type 0 where
  pub kind : ℕ
  pub entries : Rels
  pub words : Insns
  pub gives : Result Plan NoRewrite

abbrev row : ℕ → Rels → Insns → Result Plan NoRewrite → Row
row k r s d = record { kind = k; entries = r; words = s; gives = d }

abbrev pub decided_of : List Row → List (Result Plan NoRewrite)
decided_of [] = []
decided_of (e ∷ es) = decide e.kind e.words e.entries ∷ decided_of es

abbrev pub given_of : List Row → List (Result Plan NoRewrite)
given_of [] = []
given_of (e ∷ es) = e.gives ∷ given_of es

-- every rewrite of every kind, and nine
abbrev pub rewrites : List Row
rewrites =
    row MCLOH_AdrpAdrp pages (at 0x100000000 0x90000000 0x90000000 0) (rewritten Drop None (Some nop_word) None)
    -- example 6 (RULES 11.6)
    ∷ row MCLOH_AdrpLdr pair (at 0x1000 0x90000000 0xf9400401 0) (rewritten Literal (Some nop_word) (Some 0x58000021) None)
    ∷ row MCLOH_AdrpLdr pair (at 0x100000000 0x90000001 0xbd661820 0) (rewritten Literal (Some nop_word) (Some 0x1c0130a0) None)
    ∷ row MCLOH_AdrpLdr pair (at 0x1000 0x90000000 0xb9400801 0) (rewritten Literal (Some nop_word) (Some 0x18000021) None)
    ∷ row MCLOH_AdrpLdr pair (at 0x1000 0x90000000 0xb9800801 0) (rewritten Literal (Some nop_word) (Some 0x98000021) None)
    ∷ row MCLOH_AdrpLdr pair (at 0x1000 0x90000000 0xfd400401 0) (rewritten Literal (Some nop_word) (Some 0x5c000021) None)
    ∷ row MCLOH_AdrpLdr pair (at 0x1000 0x90000000 0x3dc00401 0) (rewritten Literal (Some nop_word) (Some 0x9c000061) None)
    ∷ row MCLOH_AdrpLdr pair (at 0xfffffffffffff000 0x90000001 0xbd29d025 0) (Err Nine)
    ∷ row MCLOH_AdrpAddLdr pair (at 0x33db2ef9865cfeb4 0x90000001 0x91000021 0x3ddc0025) (rewritten Literal (Some nop_word) (Some nop_word) (Some 0x9c030a25))
    ∷ row MCLOH_AdrpAddLdr pair (at 0xfffffffffffff000 0xf0fff800 0x91004001 0x3d400022) (rewritten Fold None (Some nop_word) (Some 0x3d404002))
    ∷ row MCLOH_AdrpAddLdr pair (at 0x100000000 0x90000241 0x91001022 0xf9000045) (rewritten Adr (Some 0x10240022) (Some nop_word) (Some 0xf9000045))
    ∷ row MCLOH_AdrpAddLdr pair (at 0x1000 0x905bed00 0x912f2001 0x3d000025) (rewritten Fold None (Some nop_word) (Some 0x3d2f2005))
    ∷ row MCLOH_AdrpAddLdr pair (at 0xfffffffffffff000 0x90000000 0x913ffc01 0x39400422) (Err Nine)
    ∷ row MCLOH_AdrpLdrGotLdr got_pair (at 0x100000000 0xd0000180 0xf9400402 0x39c00042) (rewritten Slot (Some nop_word) (Some 0x58190022) None)
    ∷ row MCLOH_AdrpLdrGotLdr got_pair (at 0x100000000 0xf00001c1 0x91001021 0xfd400820) (rewritten Literal (Some nop_word) (Some nop_word) (Some 0x5c1d8060))
    ∷ row MCLOH_AdrpLdrGotLdr got_pair (at 0xfffffffffffff000 0xb0fffa01 0x91004020 0x79800001) (rewritten Adr (Some 0x10a08080) (Some nop_word) None)
    ∷ row MCLOH_AdrpLdrGotLdr got_pair (at 0x1000 0x90008000 0x91004000 0x3dc00800) (rewritten Fold None (Some nop_word) (Some 0x3dc00c00))
    ∷ row MCLOH_AdrpLdrGotLdr got_pair (at 0xfffffffffffff000 0x90000000 0xf9400001 0xf9480022) (Err Nine)
    ∷ row MCLOH_AdrpAddStr pair (at 0x100000000 0x90000241 0x91001022 0xf9000045) (rewritten Adr (Some 0x10240022) (Some nop_word) (Some 0xf9000045))
    -- example 8 (RULES 11.8)
    ∷ row MCLOH_AdrpAddStr pair (at 0x1000 0x90001000 0x91004000 0xf9000001) (rewritten Fold None (Some nop_word) (Some 0xf9000801))
    ∷ row MCLOH_AdrpAddStr pair (at 0xfffffffffffff000 0x90000000 0x913ffc01 0x39000422) (Err Nine)
    ∷ row MCLOH_AdrpLdrGotStr got_pair (at 0x3c530a3734f415e4 0xb0000000 0xf9400001 0xf93dfc3f) (rewritten Slot (Some nop_word) (Some 0x580050c1) None)
    ∷ row MCLOH_AdrpLdrGotStr got_pair (at 0x1000 0xb0000080 0x91004000 0xfd000802) (rewritten Adr (Some 0x10088080) (Some nop_word) None)
    ∷ row MCLOH_AdrpLdrGotStr got_pair (at 0x1000 0xb0530841 0x91000022 0x3d000042) (rewritten Fold None (Some nop_word) (Some 0x3d000022))
    ∷ row MCLOH_AdrpLdrGotStr got_pair (at 0xfffffffffffff000 0x90000000 0xf9400001 0xf9080022) (Err Nine)
    -- example 7 (RULES 11.7)
    ∷ row MCLOH_AdrpAdd pair (at 0x1000 0x90000000 0x91000c00 0) (rewritten Adr (Some 0x70000000) (Some nop_word) None)
    ∷ row MCLOH_AdrpAdd pair (at 0x1000 0x90008000 0x91000000 0) (Err Declined)
    ∷ row MCLOH_AdrpLdrGot got_pair (at 0x2a448a819049084c 0xd0000721 0xf940043f 0) (rewritten Slot (Some nop_word) (Some 0x5872bddf) None)
    ∷ row MCLOH_AdrpLdrGot got_pair (at 0x1000 0x90ffffc0 0x91324400 0) (rewritten Adr (Some 0x30fc6480) (Some nop_word) None)
    ∷ row MCLOH_AdrpLdrGot got_pair (at 0xfffffffffffff000 0x90000000 0xf9480001 0) (Err Nine)
    ∷ []

-- the order of tests and sums, and the entries
abbrev pub orders : List Row
orders =
    -- a store in ADRP_LDR: the sum comes before the literal test
    row MCLOH_AdrpLdr pair (at 0xfffffffffffff000 0x90000000 0xf9080001 0) (Err Nine)
    -- a load in ADRP_ADD_STR declines before its second sum
    ∷ row MCLOH_AdrpAddStr pair (at 0xfffffffffffff000 0x90000000 0x913ffc01 0x39400422) (Err Declined)
    -- another base in ADRP_LDR_GOT_LDR: the sum comes before the register test
    ∷ row MCLOH_AdrpLdrGotLdr got_pair (at 0xfffffffffffff000 0x90000000 0xf9400001 0xf9480042) (Err Nine)
    -- a relaxed target that is no multiple of 4: its sum is not reached
    ∷ row MCLOH_AdrpLdrGotLdr got_pair (at 0xfffffffffffff000 0x90000000 0x913ffc01 0xb9400422) (rewritten Adr (Some 0x70007fe1) (Some nop_word) None)
    -- a load with an offset of its own does not fold in ADRP_ADD_LDR
    ∷ row MCLOH_AdrpAddLdr pair (at 0x1000 0x905bed00 0x912f2001 0x3d000425) (Err Declined)
    -- a literal load comes before the fold
    ∷ row MCLOH_AdrpAddLdr pair (at 0x1000 0x90000000 0x91004000 0xf9400001) (rewritten Literal (Some nop_word) (Some nop_word) (Some 0x58000041))
    -- the kinds of a GOT load have the ADR first
    ∷ row MCLOH_AdrpLdrGotLdr got_pair (at 0x100000000 0x90000241 0x91002022 0x39400045) (rewritten Adr (Some 0x10240042) (Some nop_word) None)
    ∷ row MCLOH_AdrpLdrGotStr got_pair (at 0x100000000 0x90000241 0x91002022 0xf9000045) (rewritten Adr (Some 0x10240042) (Some nop_word) None)
    -- a load of a vector register is no GOT load
    ∷ row MCLOH_AdrpLdrGot got_pair (at 0x1000 0x90000000 0xfd400401 0) (Err Declined)
    -- one byte short of 1 MiB away is in reach, 1 MiB is not
    ∷ row MCLOH_AdrpAdd pair (at 0x1000 0xf00007e0 0x913ffc00 0) (rewritten Adr (Some 0x707fffe0) (Some nop_word) None)
    ∷ row MCLOH_AdrpAdd pair (at 0x1000 0x90000800 0x91000000 0) (Err Declined)
    -- an entry on the third place
    ∷ row MCLOH_AdrpAddStr third_entry (at 0x1000 0x90001000 0x91004000 0xf9000001) (Err Declined)
    -- page halves that are not of a GOT slot
    ∷ row MCLOH_AdrpLdrGot pair (at 0x1000 0x90ffffc0 0x91324400 0) (Err Declined)
    -- a GOT pair where any pair serves
    ∷ row MCLOH_AdrpAdd got_pair (at 0x1000 0x90000000 0x91000c00 0) (rewritten Adr (Some 0x70000000) (Some nop_word) None)
    -- halves of two references
    ∷ row MCLOH_AdrpAdd two_targets (at 0x1000 0x90000000 0x91000c00 0) (Err Declined)
    -- halves that differ in the addend alone
    ∷ row MCLOH_AdrpAdd two_addends (at 0x1000 0x90000000 0x91000c00 0) (Err Declined)
    -- the halves of a thread-local variable's slot, where any pair serves and where a GOT pair does
    ∷ row MCLOH_AdrpAdd tlvp_pair (at 0x1000 0x90000000 0x91000c00 0) (rewritten Adr (Some 0x70000000) (Some nop_word) None)
    ∷ row MCLOH_AdrpLdrGot tlvp_pair (at 0x1000 0x90ffffc0 0x91324400 0) (rewritten Adr (Some 0x30fc6480) (Some nop_word) None)
    -- a page of one type and an offset of another
    ∷ row MCLOH_AdrpLdrGot got_then_tlvp (at 0x1000 0x90ffffc0 0x91324400 0) (rewritten Adr (Some 0x30fc6480) (Some nop_word) None)
    ∷ row MCLOH_AdrpAdd plain_then_got (at 0x1000 0x90000000 0x91000c00 0) (rewritten Adr (Some 0x70000000) (Some nop_word) None)
    ∷ row MCLOH_AdrpAdd got_then_plain (at 0x1000 0x90000000 0x91000c00 0) (rewritten Adr (Some 0x70000000) (Some nop_word) None)
    ∷ row MCLOH_AdrpLdrGot plain_then_got (at 0x1000 0x90ffffc0 0x91324400 0) (Err Declined)
    ∷ row MCLOH_AdrpLdrGot got_then_plain (at 0x1000 0x90ffffc0 0x91324400 0) (Err Declined)
    -- a slot in reach whose sum with the access's offset is not, and one whose sum is no multiple of 4
    ∷ row MCLOH_AdrpLdrGotLdr got_pair (at 0x1000 0xf00007e0 0xf947fc01 0x3dfffc22) (Err Declined)
    ∷ row MCLOH_AdrpLdrGotStr got_pair (at 0x1000 0xf00007e0 0xf947fc01 0x3dbffc22) (Err Declined)
    ∷ row MCLOH_AdrpLdrGotLdr got_pair (at 0x100000000 0xd0000180 0xf9400402 0x39c00442) (Err Declined)
    -- an ADR takes the access's offset, which the access loses
    ∷ row MCLOH_AdrpAddLdr pair (at 0xfffffffffffff000 0xf0fff800 0x91004001 0x3d400422) (rewritten Adr (Some 0x30818081) (Some nop_word) (Some 0x3d400022))
    ∷ row MCLOH_AdrpAddLdr pair (at 0x100000000 0x90000241 0x91001022 0xf9000445) (rewritten Adr (Some 0x10240062) (Some nop_word) (Some 0xf9000045))
    ∷ row MCLOH_AdrpAddStr pair (at 0x100000000 0x90000241 0x91001022 0xf9000445) (rewritten Adr (Some 0x10240062) (Some nop_word) (Some 0xf9000045))
    -- ADRP_ADRP of two references
    ∷ row MCLOH_AdrpAdrp two_pages (at 0x1000 0x90000000 0x90000000 0) (rewritten Drop None (Some nop_word) None)
    ∷ []

pub examples : (decided_of rewrites ≡ given_of rewrites) × (decided_of orders ≡ given_of orders)
unfolding choose in_range page_of adrp_page within1mb adrp_of adr_word add_of row_of load_store_of has_literal_form literal_opc literal_v literal_word
    base_word sum_of fits_literal is_page_rel is_pageoff_rel same_reference is_absent has_page_pair both_pages same_page adrp_adrp ldr_second ldr_at_page adrp_ldr adr_to
    add_at_page adrp_add add_access through folds fold_third fold_or_adr load_through adrp_add_ldr adrp_add_str loads_slot slot_load relaxed_load got_load adrp_ldr_got slot_to
    got_literal fold_load adr_or_fold_load relaxed_to relaxed_ldr adrp_ldr_got_ldr relaxed_str adrp_ldr_got_str by_rule word_count
    makes takes links31 adds31 bars31 decide
examples = (refl, refl)
