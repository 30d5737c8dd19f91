-- `words_of`: the third place fits.
use Rattle.std.proofs.Common.{arith}
use Rattle.arm64_hint_words.proofs.First.{fits_each}
use Rattle.arm64_hint_words.proofs.words.words_of.Goals as goal

pub get-requires-3 : goal.get-requires-3
get-requires-3 c =
    fits_each _ _ _ (omega arith) c.requires 2 (omega arith)
