-- The same ways as of `read_one`; a step that reads is its entry without the check.
use mathlib.Core.Path.{sym, subst}
use mathlib.Core.Bool.{false}
use Prim.Native.Nat.{◌<◌}
use lib.ListN.{length}
use Rattle.macho.specs.declared.mach_rel.MachRel.{MachRel}
use Rattle.arch.specs.Table.{records_of, record_at}
use Rattle.arm64_reader.proofs.Steps.{past_is, entered-is, offset-within, own-there, own-missing}
use Rattle.arm64_reader.proofs.record.enter_one.Goals as goal

pub returns-then-contents-offset : goal.returns-then-contents-offset
returns-then-contents-offset c =
    let rs = records_of c.args.records.now in
    let h : length c.args.contents.now < (record_at rs c.args.i).offset =
    subst (λ (m : MachRel). length c.args.contents.now < m.offset) c.record_at-offset.ensures c.if-contents-offset.true in
    sym (past_is c.args.contents.now c.args.sections.now false rs c.args.i h)

pub returns-then-j-records : goal.returns-then-j-records
returns-then-j-records c =
    let rs = records_of c.args.records.now in
    let h = offset-within c.args.contents.now c.record_at-offset.ensures c.if-contents-offset.false in
    let l = own-there c.args.records.now c.args.i c.own_number-j.ensures c.if-j-records.true in
    let own = c.at-own.ensures in
    simp (
      c.enter.ensures,
      c.given_addend.ensures,
      c.contents_from.ensures,
      own.0,
      own.1,
      own.2,
      own.3,
      c.own_number-j.ensures,
      c.record_at-offset.ensures,
    )
    (entered-is c.args.contents.now c.args.sections.now false rs c.args.i h l c.requires.1)

pub returns : goal.returns
returns c =
    own-missing _ _ _ _ c.record_at-offset.ensures c.if-contents-offset.false c.requires.0 c.own_number-j.ensures c.if-j-records.false
