-- The tables of loads and stores are what a disassembler prints, by computing.
use mathlib.Core.Path.{◌≡◌, refl}
use mathlib.Core.List.{map}
use Rattle.util.specs.Choice.{choose}
use Rattle.arm64_insn.specs.LoadStoreTable as Table
use Rattle.arm64_insn.specs.ManualLines.{lines, literal_lines, line_of, literal_line_of, widened_signed, named_signed}

pub unsigned-printed : map line_of Table.unsigned_immediate ≡ lines
unfolding choose
unsigned-printed = refl

pub literal-printed : map literal_line_of Table.literal ≡ literal_lines
unfolding choose
literal-printed = refl

-- the loads that copy the sign are LDRSB, LDRSH and LDRSW; how far they copy it is the letter of the printed register
pub unsigned-signs : map widened_signed Table.unsigned_immediate ≡ map named_signed Table.unsigned_immediate
unsigned-signs = refl

pub literal-signs : map widened_signed Table.literal ≡ map named_signed Table.literal
literal-signs = refl
