-- `makes_31` meets its contract: Rd, or Rt, and the classes that have a general destination. Assumes nothing.
use mathlib.Core.Path.{◌≡◌, refl, sym, ◌∙◌}
use Prim.Native.Nat.{◌/◌}
use native.Mathlib.Nat.{div-one}
use native.Mathlib.Omega.{arith}
use borrow.Author.Tests.{ne_eqb}
use Rattle.util.specs.Choice.{choose}
use Rattle.util.proofs.Diagram.{matched, unmatched}
use Rattle.arm64_insn.specs.Encoding.{adr, adrp, load_literal}
use Rattle.arm64_insn.specs.Manual.{size_in}
use Rattle.arm64_insn.specs.Links.{makes}
use Rattle.arm64_insn.proofs.Linked.{literal-loads, access-loads, no-load}
use Rattle.arm64_insn.proofs.links.makes_31.Goals as goal

pub returns-then-insn-ne31 : goal.returns-then-insn-ne31
unfolding makes
returns-then-insn-ne31 c =
    rw (div-one, ne_eqb 31 _ (λ e. c.if-insn-ne31.true (sym e)))

pub returns-then-insn-eq-ADR_FIXED : goal.returns-then-insn-eq-ADR_FIXED
unfolding makes choose
returns-then-insn-eq-ADR_FIXED c =
    rw (div-one, c.if-insn-ne31.false, matched adr c.args.insn refl c.if-insn-eq-ADR_FIXED.true)

pub returns-then-insn-eq-FIXED : goal.returns-then-insn-eq-FIXED
unfolding makes choose
returns-then-insn-eq-FIXED c =
    rw (div-one, c.if-insn-ne31.false, unmatched adr c.args.insn refl c.if-insn-eq-ADR_FIXED.false, matched adrp c.args.insn refl c.if-insn-eq-FIXED.true)

pub returns-then-is_add : goal.returns-then-is_add
unfolding makes choose
returns-then-is_add c =
    rw (
      div-one,
      c.if-insn-ne31.false,
      unmatched adr c.args.insn refl c.if-insn-eq-ADR_FIXED.false,
      unmatched adrp c.args.insn refl c.if-insn-eq-FIXED.false,
      ← c.is_add.ensures,
      c.if-is_add.true,
    )

pub returns-then-insn-eq0 : goal.returns-then-insn-eq0
unfolding makes choose
returns-then-insn-eq0 c =
    let s : size_in c.args.insn ≡ c.args.insn / 1073741824 = omega (arith, c.ranges.insn) in
    rw (
      div-one,
      c.if-insn-ne31.false,
      unmatched adr c.args.insn refl c.if-insn-eq-ADR_FIXED.false,
      unmatched adrp c.args.insn refl c.if-insn-eq-FIXED.false,
      ← c.is_add.ensures,
      c.if-is_add.false,
      matched load_literal c.args.insn refl c.if-insn-eq-LITERAL_FIXED.true,
      literal-loads c.args.insn,
      c.if-insn-eq0.true,
      s,
    )

pub returns-else-insn-eq0 : goal.returns-else-insn-eq0
unfolding makes choose
returns-else-insn-eq0 c =
    rw (
      div-one,
      c.if-insn-ne31.false,
      unmatched adr c.args.insn refl c.if-insn-eq-ADR_FIXED.false,
      unmatched adrp c.args.insn refl c.if-insn-eq-FIXED.false,
      ← c.is_add.ensures,
      c.if-is_add.false,
      matched load_literal c.args.insn refl c.if-insn-eq-LITERAL_FIXED.true,
      literal-loads c.args.insn,
      ne_eqb _ _ c.if-insn-eq0.false,
    )

pub returns-in_default : goal.returns-in_default
unfolding makes choose
returns-in_default c =
    rw (
      div-one,
      c.if-insn-ne31.false,
      unmatched adr c.args.insn refl c.if-insn-eq-ADR_FIXED.false,
      unmatched adrp c.args.insn refl c.if-insn-eq-FIXED.false,
      ← c.is_add.ensures,
      c.if-is_add.false,
      unmatched load_literal c.args.insn refl c.if-insn-eq-LITERAL_FIXED.false,
      no-load c.args.insn (sym c.decode.ensures ∙ c.in_default.is),
    )

pub returns-then-not-ls : goal.returns-then-not-ls
unfolding makes choose
returns-then-not-ls c =
    let l = access-loads c.args.insn _ (sym c.decode.ensures ∙ c.in-Some.is) in
    rw (
      div-one,
      c.if-insn-ne31.false,
      unmatched adr c.args.insn refl c.if-insn-eq-ADR_FIXED.false,
      unmatched adrp c.args.insn refl c.if-insn-eq-FIXED.false,
      ← c.is_add.ensures,
      c.if-is_add.false,
      unmatched load_literal c.args.insn refl c.if-insn-eq-LITERAL_FIXED.false,
      l.0,
      l.2,
      c.if-not-ls.true,
    )

pub returns-else-not-ls : goal.returns-else-not-ls
unfolding makes choose
returns-else-not-ls c =
    let l = access-loads c.args.insn _ (sym c.decode.ensures ∙ c.in-Some.is) in
    rw (
      div-one,
      c.if-insn-ne31.false,
      unmatched adr c.args.insn refl c.if-insn-eq-ADR_FIXED.false,
      unmatched adrp c.args.insn refl c.if-insn-eq-FIXED.false,
      ← c.is_add.ensures,
      c.if-is_add.false,
      unmatched load_literal c.args.insn refl c.if-insn-eq-LITERAL_FIXED.false,
      l.0,
      l.2,
      c.if-not-ls.false,
    )
