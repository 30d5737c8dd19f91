-- What a fold leaves of the words that it was asked of (RULES 9.33): ADRP stays for other code that shares it, and the access is the old one.
use Rattle.std.specs.Prelude.{◌≡◌, false, not, ◌&&◌, eqb, Some}
use Rattle.arm64_insn.specs.Page.{adrp_page}
use Rattle.arm64_insn.specs.Adrp.{adrp_of}
use Rattle.arm64_insn.specs.Add.{add_of}
use Rattle.arm64_insn.specs.Fix.{nop_word}
use Rattle.arm64_insn.specs.declared.adrp.Adrp.{Adrp}
use Rattle.arm64_insn.specs.declared.add.Add.{Add}
use Rattle.arm64_hint_terms.specs.declared.answer.Insns.{Insns}
use Rattle.arm64_machine.specs.Machine.{State, Other, run}
use Rattle.arm64_machine.specs.SameRun.{last_writes, Agree}
use Rattle.arm64_hint_kept.specs.Decided.{placed_of}

-- the words s were ADRP, ADD and an access; a fold left the words t
pub record FoldKeeps (s t : Insns) : Type 0 where
  pub adrp : Adrp
  pub add : Add
  pub first : adrp_of s.w0 ≡ Some adrp
  pub second : add_of s.w1 ≡ Some add
  -- ADRP stands where it stood, and the ADD is dropped
  pub stays : t.w0 ≡ s.w0
  pub dropped : t.w1 ≡ nop_word
  -- from every state, and whatever other words do: the same accesses and the same end, but for the ADD's register where the access does not load it
  pub alike : (o : Other) (z : State)
      → Agree (λ r. eqb r add.rd && not (last_writes (placed_of 3 s) r)) (run o (placed_of 3 s) z) (run o (placed_of 3 t) z)
  -- and ADRP's register holds its page, unless the access loads it
  pub page : (o : Other) (z : State) → last_writes (placed_of 3 s) adrp.rd ≡ false → (run o (placed_of 3 t) z).x adrp.rd ≡ adrp_page adrp.imm s.p0
