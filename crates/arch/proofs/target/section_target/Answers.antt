-- `section_target` meets its contract: ordinal 0 names no section; for another `section-is` of Targets leaves the test of the list's length.
use mathlib.Core.Path.{◌≡◌}
use native.Mathlib.Omega.{arith}
use lib.ListN.{length}
use Rattle.util.specs.Choice.{choose}
use Rattle.arch.specs.Target.{section_target}
use Rattle.arch.proofs.Targets.{section-is, in_list, past-list}
use Rattle.arch.proofs.target.section_target.Goals as goal

pub returns-in_default : goal.returns-in_default
unfolding section_target
returns-in_default c =
    let z : c.idx.result ≡ 0 = omega (arith, c.in_default.ensures) in
    rw (← c.idx.ensures, z)

pub returns-in_default-get : goal.returns-in_default-get
unfolding choose
returns-in_default-get c =
    rw (← c.idx.ensures, section-is _ c.idx.result _)
    (simp (past-list c.idx.result (length c.args.sections.now) (λ e. omega (arith, c.in-Some.ensures)) (omega (arith, c.in-Some.ensures, c.in_default-get.ensures.lookup.3))))

pub returns : goal.returns
unfolding choose
returns c =
    let l = c.in-Some-get.ensures.lookup in
    rw (← c.idx.ensures, section-is _ c.idx.result _)
    (simp (in_list c.idx.result (length c.args.sections.now) (λ e. omega (arith, c.in-Some.ensures)) (omega (arith, c.in-Some.ensures, l.3)), c.wrapping_sub.ensures, l.4 (omega arith) 0, c.in-Some.ensures.1))
