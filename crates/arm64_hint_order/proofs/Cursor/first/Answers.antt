-- `Cursor::first` meets its contract: the first object that has a hint is entered.
use Rattle.std.proofs.Common.{sym, ◌∙◌, arith}
use Rattle.arm64_hint_order.proofs.Walk.{cut-start, entered-rest, none_rest}
use Rattle.arm64_hint_order.proofs.Cursor.first.Goals as goal

pub position_from-requires : goal.position_from-requires
position_from-requires c =
    (omega arith, λ e. cut-start _ (sym c.requires ∙ e))

pub returns-in-Some-clause-all : goal.returns-in-Some-clause-all
returns-in-Some-clause-all c =
    entered-rest _ 0 c.in-Some.p c.enter.result c.in-Some.ensures.found c.enter.ensures

pub returns-in-None-clause-all : goal.returns-in-None-clause-all
returns-in-None-clause-all c =
    none_rest _ c.args.rises c.in-None.ensures.found
