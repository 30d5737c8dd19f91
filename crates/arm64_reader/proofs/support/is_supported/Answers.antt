-- `is_supported` meets its contract: the constant has the sets of the table of forms, by one computed comparison (`listed`), and a bit of a set is a form of
-- the table (`supported-bits` of arch).
use mathlib.Core.Path.{refl, ap, ◌∙◌}
use Prim.Native.Nat.{ℕ}
use native.Mathlib.Omega.{arith}
use Rattle.util.specs.Bits.{has_bit}
use Rattle.util.proofs.Listed.{listed}
use Rattle.macho.specs.MachRel.{form_of}
use Rattle.arch.specs.Form.{bits_of, forms_in}
use Rattle.arch.proofs.Forms.{supported-bits}
use Rattle.arm64_reader.specs.Support.{forms, supported_of}
use Rattle.arm64_reader.proofs.support.is_supported.Goals as goal

pub returns : goal.returns
unfolding supported_of
returns c =
    c.has_reloc_form.ensures
    ∙ ap (λ (s : ℕ). has_bit s (form_of c.args.r.bits))
    (listed (λ k. bits_of (forms_in forms k)) 16 _ refl c.ty.result (omega (arith, c.ty.ensures))
    ∙ ap (λ (t : ℕ). bits_of (forms_in forms t)) c.ty.ensures)
    ∙ supported-bits forms c.args.r refl
