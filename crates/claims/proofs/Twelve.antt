-- The twelve examples, each computed in its own crate.
use mathlib.Core.Path.{refl}
use Rattle.arm64_insn.proofs.Pieces.{piece1, piece2, piece3, piece4, piece5}
use Rattle.arm64_reader.proofs.Examples as Reader
use Rattle.arm64_fixup.proofs.Examples as Fix
use Rattle.arm64_hint_run.proofs.Examples as Hints
use Rattle.claims.specs.Twelve.{Twelve}

pub twelve : Twelve
twelve =
    record {
      example-1 = piece1;
      example-2 = piece2;
      example-3 = piece3;
      example-4 = piece4;
      example-5 = piece5;
      example-6 = (Hints.pieces).0;
      example-7 = (Hints.pieces).1;
      example-8 = (Hints.pieces).2;
      example-9 = ((Fix.pieces).0, (Fix.pieces).1);
      example-10 = (Fix.pieces).2;
      example-11 = (Fix.pieces).3;
      example-12 = Reader.piece12;
      flags = (refl, refl);
    }
