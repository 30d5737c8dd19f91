-- The number of what write_thunk says.
use Rattle.std.specs.Prelude.{Result, ⊤}
use Rattle.macho.specs.declared.refusal.Refusal.{Refusal}
use mathlib.Core.Path.{ap, ◌∙◌}
use Rattle.macho.specs.Refusal.{answer_number}
use Rattle.hauklivo.proofs.stub.hauklivo_write_thunk.Goals as goal

pub returns : goal.returns
returns c =
    record {
      number = c.answer_number.ensures ∙ ap (λ (a : Result ⊤ Refusal). answer_number a) c.write_thunk.ensures.answer;
      buf = c.write_thunk.ensures.bytes;
    }
