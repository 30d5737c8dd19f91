-- `meet_31` meets its contract: what holds of the words from the one at hand on holds of all.
use mathlib.Core.Path.{◌≡◌}
use lib.ListN.{drop}
use Rattle.arm64_insn.specs.Links.{meets31}
use Rattle.arm64_insn.proofs.links.meet_31.Given as goal

abbrev pub invariant-loop-i : goal.invariant-loop-i
invariant-loop-i l = meets31 (drop l.i l.words) ≡ meets31 l.words
