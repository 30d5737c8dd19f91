-- `apply_reloc_alloc` meets its contract: each of the two checks decides the outcome (Whole).
use mathlib.Core.Path.{sym, ◌∙◌}
use Rattle.std.proofs.lemmas.Result.{err_from_is_err_and}
use Rattle.arm64_fixup.proofs.Whole.{lists, turned_down, by-lists, by-entry, done}
use Rattle.arm64_fixup.proofs.walk.apply_reloc_alloc.Goals as goal

pub check_all-requires : goal.check_all-requires
check_all-requires c =
    (lists _ _ _ (sym c.check_lists.ensures ∙ c.in_ok-check_lists.was)).paired

pub work_all-requires : goal.work_all-requires
work_all-requires c =
    let p = lists _ _ _ (sym c.check_lists.ensures ∙ c.in_ok-check_lists.was) in
    record {
      targets_value = sym c.check_all.ensures ∙ c.in_ok-check_all.was;
      entries_value = (p.paired, p.few, p.enough);
    }

pub returns-in_err-check_lists : goal.returns-in_err-check_lists
returns-in_err-check_lists c =
    let p = err_from_is_err_and c.from_residual.result c.from_residual.ensures.1 in
    let t = turned_down _ _ _ _ _ (by-lists _ _ _ _ _ c.check_lists.ensures c.in_err-check_lists.was) in
    record {
      answer = rw (p.1, p.2) t.0;
      buf = t.1.0;
      told = t.1.1;
    }

pub returns-in_err-check_all : goal.returns-in_err-check_all
returns-in_err-check_all c =
    let p = err_from_is_err_and c.from_residual-in_err-check_all.result c.from_residual-in_err-check_all.ensures.1 in
    let f = sym c.check_lists.ensures ∙ c.in_ok-check_lists.was in
    let t = turned_down _ _ _ _ _ (by-entry _ _ _ _ _ f c.check_all.ensures c.in_err-check_all.was) in
    record {
      answer = rw (p.1, p.2) t.0;
      buf = t.1.0;
      told = t.1.1;
    }

pub returns : goal.returns
returns c =
    let f = sym c.check_lists.ensures ∙ c.in_ok-check_lists.was in
    let h = sym c.check_all.ensures ∙ c.in_ok-check_all.was in
    let d = done _ _ _ _ _ f h c.work_all.ensures.count c.work_all.ensures.section c.work_all.ensures.slots in
    record {
      answer = d.0;
      buf = d.1.0;
      told = d.1.1;
    }
