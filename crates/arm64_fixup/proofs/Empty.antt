-- Empty lists succeed: no entries and no targets fill no report, and leave every byte, with any section and any slots, empty ones too.
use Rattle.std.specs.Prelude.{Ok}
use mathlib.Core.Path.{◌≡◌, refl}
use mathlib.Core.List.{List, []}
use Prim.Native.Nat.{ℕ, zero-le}
use borrow.Author.Tests.{le-ltb}
use lib.ListN.{length}
use Rattle.util.specs.Choice.{choose}
use Rattle.macho.specs.Record.{list_bytes}
use Rattle.arm64_fixup.specs.Walk.{check_to, fix_to}
use Rattle.arm64_fixup.specs.Answer.{check_lists, outcome_of, answer_of, section_after, slots_after}
use Rattle.arm64_fixup_entry.specs.declared.target.Bases.{Bases}

pub empty : (section : List ℕ) (b : Bases) (slots : List ℕ)
    → (answer_of (outcome_of section b [] [] slots) ≡ Ok 0)
    × (section_after (outcome_of section b [] [] slots) section ≡ section)
    × (slots_after (outcome_of section b [] [] slots) slots ≡ slots)
unfolding outcome_of check_lists check_to fix_to list_bytes choose
empty section b slots = rw (le-ltb (length slots) 0 zero-le) (refl, refl, refl)
