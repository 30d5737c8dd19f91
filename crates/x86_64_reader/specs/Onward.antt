-- Where a step ends, and the law of the machine's steps: each goes on to a later record. A proof: it stands here since an `impl` in src/ cites it.
use Rattle.std.specs.Prelude.{ℕ, ◌+◌, Bool, List, length}
use mathlib.Core.Path.{refl}
use native.Mathlib.Omega.{arith}
use Rattle.macho.specs.declared.mach_rel.MachRel.{MachRel}
use Rattle.arch.specs.Table.{record_at}
use Rattle.arch.specs.Walk.{Onward}
use Rattle.arch.proofs.Walk.{Ends, ends-later, passing-ends}
use Rattle.x86_64_reader.specs.Record.{check_reloc, step_at}

module _ (contents sections : List ℕ) (address : ℕ) (before : Bool) (rs : List MachRel) where
  -- a step takes one record
  pub step-ends : (i : ℕ) → Ends (i + 1) (step_at contents sections address before rs i)
  unfolding step_at Ends
  step-ends i = passing-ends (i + 1) (check_reloc (length contents) (length sections) (record_at rs i)) _ refl

  pub step-onward : Onward (step_at contents sections address before rs)
  step-onward i = ends-later i (i + 1) (omega arith) _ (step-ends i)
