-- `LoadStore::decode` meets its contract: masks against diagrams, and what the bits move, by the split. Assumes nothing.
use mathlib.Core.Path.{refl, sym, ◌∙◌}
use native.Mathlib.Omega.{arith}
use native.Mathlib.Nat.{div-one, lt_of_le_of_lt, mul-le-mul_left}
use Rattle.util.specs.Choice.{choose}
use Rattle.util.proofs.Diagram.{matched, unmatched}
use Rattle.arm64_insn.specs.Encoding.{load_store}
use Rattle.arm64_insn.specs.LoadStore.{load_store_of}
use Rattle.arm64_insn.proofs.Decoded.{decoded-load-store}
use Rattle.arm64_insn.proofs.Split.{split_moves}
use Rattle.arm64_insn.proofs.ldst.LoadStore.decode.Goals as goal

pub returns-then-insn-ne-FIXED : goal.returns-then-insn-ne-FIXED
unfolding load_store_of choose
returns-then-insn-ne-FIXED c =
    rw (unmatched load_store c.args.insn refl c.if-insn-ne-FIXED.true)

pub overflow_mul-result : goal.overflow_mul-result
overflow_mul-result c =
    let e = sym c.access_of.ensures ∙ c.in_ok-access.was in
    let m = split_moves c.args.insn _ (matched load_store c.args.insn refl c.if-insn-ne-FIXED.false) e in
    record { fits = lt_of_le_of_lt (mul-le-mul_left _ (decoded-load-store c.args.insn _ m).most) (omega arith) }

pub returns : goal.returns
returns c =
    let e = sym c.access_of.ensures ∙ c.in_ok-access.was in
    rw div-one at (sym (split_moves c.args.insn _ (matched load_store c.args.insn refl c.if-insn-ne-FIXED.false) e))

pub returns-in_err-access : goal.returns-in_err-access
returns-in_err-access c =
    let e = sym c.access_of.ensures ∙ c.in_err-access.was in
    let f = split_moves c.args.insn _ (matched load_store c.args.insn refl c.if-insn-ne-FIXED.false) e in
    cc
