-- `literal_op` meets its contract: at each return the tests that led there say which opc and V are meant. Assumes nothing.
use borrow.Author.Tests.{eq-eqb, ne_eqb}
use Rattle.util.specs.Choice.{choose}
use Rattle.arm64_insn.specs.Literal.{literal_opc, literal_v}
use Rattle.arm64_insn.proofs.ldst.literal_op.Goals as goal

pub returns-then-is_float : goal.returns-then-is_float
unfolding literal_opc literal_v choose
returns-then-is_float c =
    simp (eq-eqb _ _ c.if-size-eq4.true, c.if-is_float.true)

pub returns-then-is_ldrsw : goal.returns-then-is_ldrsw
unfolding literal_opc literal_v choose
returns-then-is_ldrsw c =
    simp (eq-eqb _ _ c.if-size-eq4.true, c.if-is_float.false, c.if-is_ldrsw.true)

pub returns-then-size-eq4 : goal.returns-then-size-eq4
unfolding literal_opc literal_v choose
returns-then-size-eq4 c =
    simp (eq-eqb _ _ c.if-size-eq4.true, c.if-is_float.false, c.if-is_ldrsw.false)

pub returns-then-is_float-2 : goal.returns-then-is_float-2
unfolding literal_opc literal_v choose
returns-then-is_float-2 c =
    simp (ne_eqb _ _ c.if-size-eq4.false, eq-eqb _ _ c.if-size-eq8.true, c.if-is_float-2.true)

pub returns-then-size-eq8 : goal.returns-then-size-eq8
unfolding literal_opc literal_v choose
returns-then-size-eq8 c =
    simp (ne_eqb _ _ c.if-size-eq4.false, eq-eqb _ _ c.if-size-eq8.true, c.if-is_float-2.false)

pub returns : goal.returns
unfolding literal_opc literal_v choose
returns c =
    simp (ne_eqb _ _ c.if-size-eq4.false, ne_eqb _ _ c.if-size-eq8.false)
