-- A step in each of its ways: past the contents, plain, with its own record, with none.
use Rattle.arm64_reader.specs.Record.{step_at}
use Rattle.arm64_reader.specs.Plain.{plain_of}
use Rattle.arm64_reader.proofs.Steps.{own_is, plain-is, offset-within, own-there, own-missing}
use mathlib.Core.Path.{◌≡◌, sym, ap, ◌∙◌}
use mathlib.Core.Bool.{true, false}
use Rattle.arch.specs.Table.{records_of, record_at}
use borrow.Author.Tests.{lt-ltb}
use Rattle.util.specs.Choice.{choose}
use Rattle.arm64_reader.proofs.record.read_one.Goals as goal

pub returns-then-contents-offset : goal.returns-then-contents-offset
unfolding step_at choose
returns-then-contents-offset c =
    simp (
      lt-ltb _ _ c.if-contents-offset.true,
      ← c.record_at-first.ensures,
    )

pub returns-then-is_plain : goal.returns-then-is_plain
returns-then-is_plain c =
    let rs = records_of c.args.records.now in
    let h = offset-within c.args.contents.now c.record_at-first.ensures c.if-contents-offset.false in
    let p : plain_of (record_at rs c.args.i) ≡ true =
    ap plain_of (sym c.record_at-first.ensures) ∙ sym c.is_plain.ensures ∙ c.if-is_plain.true in
    simp (
      c.entry_of.ensures,
      c.idx.ensures,
      c.is_subtracted-subtracted.ensures,
      c.record_at-first.ensures,
    )
    (sym (plain-is c.args.contents.now c.args.sections.now false rs c.args.i h p))

pub returns-then-j-records : goal.returns-then-j-records
returns-then-j-records c =
    let rs = records_of c.args.records.now in
    let h = offset-within c.args.contents.now c.record_at-first.ensures c.if-contents-offset.false in
    let l = own-there c.args.records.now c.args.i c.own_number-j.ensures c.if-j-records.true in
    let own = c.at-own.ensures in
    simp (
      c.read.ensures,
      c.given_addend.ensures,
      c.contents_from.ensures,
      own.0,
      own.1,
      own.2,
      own.3,
      c.own_number-j.ensures,
      c.record_at-first.ensures,
    )
    (sym (own_is c.args.contents.now c.args.sections.now false rs c.args.i h l))

pub returns : goal.returns
returns c =
    own-missing _ _ _ _ c.record_at-first.ensures c.if-contents-offset.false c.requires c.own_number-j.ensures c.if-j-records.false
