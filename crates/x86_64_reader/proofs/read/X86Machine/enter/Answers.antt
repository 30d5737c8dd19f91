-- `enter` meets its contract: a record that reads has its bytes and its target (`fit_found`), and reads as that target's entry (`entered-is`).
use mathlib.Core.Path.{sym, subst}
use mathlib.Core.Bool.{false}
use Prim.Native.Nat.{◌+◌, ◌≤◌}
use lib.ListN.{length}
use Rattle.macho.specs.MachRel.{p2size_of}
use Rattle.macho.specs.declared.mach_rel.MachRel.{MachRel}
use Rattle.arch.specs.Table.{records_of}
use Rattle.x86_64_reader.specs.Addend.{width_of}
use Rattle.x86_64_reader.proofs.Steps.{fit_found, reads_fit, entered-is}
use Rattle.x86_64_reader.proofs.read.X86Machine.enter.Goals as goal

pub added_by-requires : goal.added_by-requires
added_by-requires c =
    let f = reads_fit c.args.lent.now.contents.now c.args.lent.now.sections.now c.args.self.now.address false (records_of c.args.lent.now.records.now) c.args.i c.requires.1 in
    subst (λ (r : MachRel). r.offset + width_of (p2size_of r.bits) ≤ length c.args.lent.now.contents.now) (sym c.record_at-r.ensures)
    (fit_found _ _ _ f).1

pub returns : goal.returns
returns c =
    simp (c.read_target.ensures, c.added_by.ensures, c.is_subtracted.ensures, c.record_at-r.ensures)
    (entered-is c.args.lent.now.contents.now c.args.lent.now.sections.now c.args.self.now.address false (records_of c.args.lent.now.records.now) c.args.i c.requires.1)
