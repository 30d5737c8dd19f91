-- Each arm knows its kind, and the last one that it is none of them.
use mathlib.Core.Path.{ap, sym}
use borrow.Author.Tests.{ne_eqb}
use Rattle.util.specs.Choice.{choose}
use Rattle.macho.specs.Hint.{word_count}
use Rattle.macho.proofs.hint.word_count.Goals as goal

pub returns-in-1 : goal.returns-in-1
unfolding word_count choose
returns-in-1 c =
    ap word_count (sym c.in-1.is)

pub returns-in-2 : goal.returns-in-2
unfolding word_count choose
returns-in-2 c =
    ap word_count (sym c.in-2.is)

pub returns-in-3 : goal.returns-in-3
unfolding word_count choose
returns-in-3 c =
    ap word_count (sym c.in-3.is)

pub returns-in-4 : goal.returns-in-4
unfolding word_count choose
returns-in-4 c =
    ap word_count (sym c.in-4.is)

pub returns-in-5 : goal.returns-in-5
unfolding word_count choose
returns-in-5 c =
    ap word_count (sym c.in-5.is)

pub returns-in-6 : goal.returns-in-6
unfolding word_count choose
returns-in-6 c =
    ap word_count (sym c.in-6.is)

pub returns-in-7 : goal.returns-in-7
unfolding word_count choose
returns-in-7 c =
    ap word_count (sym c.in-7.is)

pub returns-in-8 : goal.returns-in-8
unfolding word_count choose
returns-in-8 c =
    ap word_count (sym c.in-8.is)

pub returns-in_default : goal.returns-in_default
unfolding word_count choose
returns-in_default c =
    simp (ne_eqb _ _ c.in_default.in_default-own.rest.0.0.0.0.0.0.0.1, ne_eqb _ _ c.in_default.in_default-own.rest.0.0.0.0.0.0.1, ne_eqb _ _ c.in_default.in_default-own.rest.0.0.0.0.0.1, ne_eqb _ _ c.in_default.in_default-own.rest.0.0.0.0.1)
    (simp (ne_eqb _ _ c.in_default.in_default-own.rest.0.0.0.1, ne_eqb _ _ c.in_default.in_default-own.rest.0.0.1, ne_eqb _ _ c.in_default.in_default-own.rest.0.1, ne_eqb _ _ c.in_default.in_default-own.rest.1))
