-- What each rewrite writes at each place (arch/arm64.rs, the calls of `set`; RULES 8.12); a kept place is not written.
use Rattle.std.specs.Prelude.{ℕ, Result, Ok, Option, Some, None}
use Rattle.arm64_insn.specs.Adrp.{adr_word}
use Rattle.arm64_insn.specs.Fix.{nop_word}
use Rattle.arm64_insn.specs.Literal.{literal_word, base_word}
use Rattle.arm64_insn.specs.declared.ldst.LoadStore.{LoadStore}
use Rattle.arm64_hint_terms.specs.declared.answer.Insns.{Insns}
use Rattle.arm64_hint_terms.specs.declared.answer.Rewrite.{Rewrite}
use Rattle.arm64_hint_terms.specs.declared.answer.Rewrite.TheVariants.{Drop, Literal, Adr, Fold}
use Rattle.arm64_hint_terms.specs.declared.answer.Plan.{Plan}
use Rattle.arm64_hint_terms.specs.declared.answer.NoRewrite.{NoRewrite}

-- a rewrite with what it writes at each place
abbrev pub rewritten : Rewrite → Option ℕ → Option ℕ → Option ℕ → Result Plan NoRewrite
rewritten r a b c = Ok (record { rewrite = r; w0 = a; w1 = b; w2 = c })

-- the second ADRP dropped
abbrev pub dropped : Result Plan NoRewrite
dropped = rewritten Drop None (Some nop_word) None

-- the second word as a literal load of target: of a variable, or of a GOT slot
abbrev pub literal_second : Rewrite → Insns → LoadStore → ℕ → Result Plan NoRewrite
literal_second r s ld target = rewritten r (Some nop_word) (Some (literal_word ld target s.p1)) None

-- the third word as a literal load of target
abbrev pub literal_third : Insns → LoadStore → ℕ → Result Plan NoRewrite
literal_third s ld target = rewritten Literal (Some nop_word) (Some nop_word) (Some (literal_word ld target s.p2))

-- target by an ADR into the register rd; an access through rd stays as it is
abbrev pub adr_first : Insns → ℕ → ℕ → Result Plan NoRewrite
adr_first s rd target = rewritten Adr (Some (adr_word rd target s.p0)) (Some nop_word) None

-- target by an ADR into the base of the third word's access, which loses its offset
abbrev pub adr_third : Insns → LoadStore → ℕ → Result Plan NoRewrite
adr_third s ls target = rewritten Adr (Some (adr_word ls.base target s.p0)) (Some nop_word) (Some (base_word ls ls.base 0))

-- the ADD dropped, and the third word's access through the register rn, the ADRP's, at the offset
abbrev pub folded : LoadStore → ℕ → ℕ → Result Plan NoRewrite
folded ls rn offset = rewritten Fold None (Some nop_word) (Some (base_word ls rn offset))
