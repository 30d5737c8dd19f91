-- Encoding and decoding as an assembler has them, by computing.
use mathlib.Core.Path.{◌≡◌, refl}
use mathlib.Core.List.{map}
use Rattle.util.specs.Choice.{choose}
use Rattle.arm64_insn.specs.LoadStoreTable.{row_of, literal_row_of}
use Rattle.arm64_insn.specs.Manual.{encode, instruction, decode}
use Rattle.arm64_insn.specs.ManualAssembled.{Made, assembled}

pub encoded : map (λ (m : Made). encode m.insn) assembled ≡ map (λ (m : Made). m.word) assembled
encoded = refl

pub decoded : map (λ (m : Made). decode m.word) assembled ≡ map (λ (m : Made). instruction m.insn) assembled
unfolding decode choose row_of literal_row_of
decoded = refl
