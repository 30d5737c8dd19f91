-- The answer of write_stub by its two cases.
use Rattle.std.specs.Prelude.{Bool, Result}
use Prim.Native.Nat.{ℕ}
use mathlib.Core.Path.{ap, sym, ◌∙◌}
use Rattle.macho.specs.declared.refusal.Refusal.{Refusal}
use Rattle.arm64_fixup.specs.Stub.{stub_number, reaches_of}
use Rattle.hauklivo.specs.Lent.{lent_number}
use Rattle.hauklivo.proofs.Lent.{lent-kept, lent-new}
use Rattle.hauklivo.proofs.stub.hauklivo_write_stub.Goals as goal

-- the lent number by an answer
abbrev lent : ℕ → Result Bool Refusal → ℕ
lent old a = lent_number (stub_number a) (reaches_of a) old

pub returns-in-Err : goal.returns-in-Err
returns-in-Err c =
    let e = sym c.in-Err.is ∙ c.write_stub.ensures.answer in
    record {
      number = c.number.ensures ∙ ap (λ (a : Result Bool Refusal). stub_number a) e;
      reaches = lent-kept c.in-Err.refusal _ _ ∙ ap (lent _) e;
      buf = c.write_stub.ensures.bytes;
    }

pub returns-in-Ok : goal.returns-in-Ok
returns-in-Ok c =
    let e = sym c.in-Ok.is ∙ c.write_stub.ensures.answer in
    record {
      number = ap (λ (a : Result Bool Refusal). stub_number a) e;
      reaches = lent-new _ _ ∙ ap (lent _) e;
      buf = c.write_stub.ensures.bytes;
    }
