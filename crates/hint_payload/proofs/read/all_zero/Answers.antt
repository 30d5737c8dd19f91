-- By the answer of `all`: every byte is zero, or one is not.
use borrow.Author.Rules.{rules}
use borrow.Author.Tests.{tests}
use mathlib.Core.Path.{◌≡◌, ◌∙◌}
use native.Mathlib.Omega.{arith}
use Prim.Native.Nat.{ℕ}
use lib.ListN.{length, drop}
use Rattle.std.proofs.lemmas.Iterator.{cases_from_all, YieldsList-from_slice}
use Rattle.std.proofs.lemmas.Slice.{between_to_end}
use Rattle.hint_payload.proofs.Turns.{zeros-by-cases}
use Rattle.hint_payload.proofs.read.all_zero.Goals as goal

pub returns : goal.returns
returns c =
    zeros-by-cases (drop c.args.at c.args.bytes.now) c.all.result
    (cases_from_all _ _ _ (λ (x : ℕ). x ≡ 0) (λ (x : ℕ). x ≡ 0 → ⊥) c.all.ensures.ran (YieldsList-from_slice (drop c.args.at c.args.bytes.now) (c.iter.ensures.rest ∙ between_to_end c.args.bytes.now c.args.at (length c.args.bytes.now) (omega arith)))
    (λ x q k. search (rules, tests)) (λ x q k. search (rules, tests)))
