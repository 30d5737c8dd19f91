-- What a rule of each kind may decide (RULES 8.12, 8.14): which rewrites, with their new words by what stands at the hint's places, and whether nine.
-- When each of them is decided the rules say (arm64_hint_adrp/specs, arm64_hint_got/specs); the forms of the new words are Plans' (arm64_hint_terms).
use Rattle.std.specs.Prelude.{◌≡◌, ℕ, ◌+◌, Result, Err, Some}
use Rattle.macho.specs.Types.{MCLOH_AdrpAdrp, MCLOH_AdrpLdr, MCLOH_AdrpAddLdr, MCLOH_AdrpLdrGotLdr}
use Rattle.macho.specs.Types.{MCLOH_AdrpAddStr, MCLOH_AdrpLdrGotStr, MCLOH_AdrpAdd, MCLOH_AdrpLdrGot}
use Rattle.arm64_insn.specs.Page.{adrp_page}
use Rattle.arm64_insn.specs.Adrp.{adrp_of}
use Rattle.arm64_insn.specs.Add.{add_of}
use Rattle.arm64_insn.specs.LoadStore.{load_store_of}
use Rattle.arm64_insn.specs.declared.adrp.Adrp.{Adrp}
use Rattle.arm64_hint_terms.specs.declared.answer.Plan.{Plan}
use Rattle.arm64_hint_terms.specs.declared.answer.NoRewrite.{NoRewrite}
use Rattle.arm64_hint_terms.specs.declared.answer.NoRewrite.TheVariants.{Declined, Nine}
use Rattle.arm64_insn.specs.declared.add.Add.{Add}
use Rattle.arm64_insn.specs.declared.ldst.LoadStore.{LoadStore}
use Rattle.arm64_hint_terms.specs.Plans.{dropped, literal_second, literal_third, adr_first, adr_third, folded}
use Rattle.arm64_hint_terms.specs.declared.answer.Insns.{Insns}
use Rattle.arm64_hint_terms.specs.declared.answer.Rewrite.TheVariants.{Literal, Slot}

-- the first two words are ADRPs of one register and one page
pub record OnePage (s : Insns) : Type 0 where
  pub a : Adrp
  pub b : Adrp
  pub first : adrp_of s.w0 ≡ Some a
  pub second : adrp_of s.w1 ≡ Some b
  pub register : a.rd ≡ b.rd
  pub page : adrp_page a.imm s.p0 ≡ adrp_page b.imm s.p1

-- the first word is an ADRP, and the second the access ls of target through its register: the ADRP's page plus the access's offset
pub record SecondAccess (s : Insns) (ls : LoadStore) (target : ℕ) : Type 0 where
  pub adrp : Adrp
  pub first : adrp_of s.w0 ≡ Some adrp
  pub second : load_store_of s.w1 ≡ Some ls
  pub base : ls.base ≡ adrp.rd
  pub reached : target ≡ adrp_page adrp.imm s.p0 + ls.offset

-- the first word is an ADRP, and the second the ADD d to its register that makes addr: the ADRP's page plus the ADD's immediate
pub record SecondAdd (s : Insns) (d : Add) (addr : ℕ) : Type 0 where
  pub adrp : Adrp
  pub first : adrp_of s.w0 ≡ Some adrp
  pub second : add_of s.w1 ≡ Some d
  pub source : d.rn ≡ adrp.rd
  pub made : addr ≡ adrp_page adrp.imm s.p0 + d.imm

-- and the third is the access ls of target through the ADD's register: addr plus the access's offset
pub record ThirdAccess (s : Insns) (d : Add) (addr : ℕ) (ls : LoadStore) (target : ℕ) : Type 0 where
  pub through : SecondAdd s d addr
  pub third : load_store_of s.w2 ≡ Some ls
  pub base : ls.base ≡ d.rd
  pub reached : target ≡ addr + ls.offset

-- a decision of each kind. A kind with no row for Nine has no sum that may pass 2^64 - 1
pub data Written (s : Insns) : ℕ → Result Plan NoRewrite → Type 0 where
  declines : {kind : ℕ} → Written s kind (Err Declined)
  nine-2 : Written s MCLOH_AdrpLdr (Err Nine)
  nine-3 : Written s MCLOH_AdrpAddLdr (Err Nine)
  nine-4 : Written s MCLOH_AdrpLdrGotLdr (Err Nine)
  nine-5 : Written s MCLOH_AdrpAddStr (Err Nine)
  nine-6 : Written s MCLOH_AdrpLdrGotStr (Err Nine)
  nine-8 : Written s MCLOH_AdrpLdrGot (Err Nine)
  drop-1 : OnePage s → Written s MCLOH_AdrpAdrp dropped
  literal-2 : (ls : LoadStore) (target : ℕ) → SecondAccess s ls target → Written s MCLOH_AdrpLdr (literal_second Literal s ls target)
  literal-3 : (d : Add) (addr : ℕ) (ls : LoadStore) (target : ℕ) → ThirdAccess s d addr ls target
      → Written s MCLOH_AdrpAddLdr (literal_third s ls target)
  adr-3 : (d : Add) (addr : ℕ) (ls : LoadStore) (target : ℕ) → ThirdAccess s d addr ls target → Written s MCLOH_AdrpAddLdr (adr_third s ls target)
  fold-3 : (d : Add) (addr : ℕ) (ls : LoadStore) (target : ℕ) → ThirdAccess s d addr ls target
      → Written s MCLOH_AdrpAddLdr (folded ls d.rn (d.imm + ls.offset))
  slot-4 : (ls : LoadStore) (slot : ℕ) → SecondAccess s ls slot → Written s MCLOH_AdrpLdrGotLdr (literal_second Slot s ls slot)
  literal-4 : (d : Add) (addr : ℕ) (ls : LoadStore) (target : ℕ) → ThirdAccess s d addr ls target
      → Written s MCLOH_AdrpLdrGotLdr (literal_third s ls target)
  adr-4 : (d : Add) (addr : ℕ) (ls : LoadStore) (target : ℕ) → ThirdAccess s d addr ls target
      → Written s MCLOH_AdrpLdrGotLdr (adr_first s ls.base addr)
  fold-4 : (d : Add) (addr : ℕ) (ls : LoadStore) (target : ℕ) → ThirdAccess s d addr ls target
      → Written s MCLOH_AdrpLdrGotLdr (folded ls d.rn (d.imm + ls.offset))
  adr-5 : (d : Add) (addr : ℕ) (ls : LoadStore) (target : ℕ) → ThirdAccess s d addr ls target → Written s MCLOH_AdrpAddStr (adr_third s ls target)
  fold-5 : (d : Add) (addr : ℕ) (ls : LoadStore) (target : ℕ) → ThirdAccess s d addr ls target
      → Written s MCLOH_AdrpAddStr (folded ls d.rn (d.imm + ls.offset))
  slot-6 : (ls : LoadStore) (slot : ℕ) → SecondAccess s ls slot → Written s MCLOH_AdrpLdrGotStr (literal_second Slot s ls slot)
  adr-6 : (d : Add) (addr : ℕ) (ls : LoadStore) (target : ℕ) → ThirdAccess s d addr ls target
      → Written s MCLOH_AdrpLdrGotStr (adr_first s ls.base addr)
  fold-6 : (d : Add) (addr : ℕ) (ls : LoadStore) (target : ℕ) → ThirdAccess s d addr ls target
      → Written s MCLOH_AdrpLdrGotStr (folded ls d.rn (d.imm + ls.offset))
  adr-7 : (d : Add) (addr : ℕ) → SecondAdd s d addr → Written s MCLOH_AdrpAdd (adr_first s d.rd addr)
  slot-8 : (ls : LoadStore) (slot : ℕ) → SecondAccess s ls slot → Written s MCLOH_AdrpLdrGot (literal_second Slot s ls slot)
  adr-8 : (d : Add) (addr : ℕ) → SecondAdd s d addr → Written s MCLOH_AdrpLdrGot (adr_first s d.rd addr)
