-- `read16`: two bytes below 256 are the word `le 2` of their place.
use native.Mathlib.Omega.{arith}
use native.Mathlib.Nat.{mod-eq_of_lt, add-zero}
use Prim.Native.Nat.{ℕ, ◌+◌, ◌<◌}
use lib.ListN.{get_or}
use Rattle.util.specs.Word.{le}
use Rattle.replay_list.proofs.head.read16.Goals as goal

pub returns : goal.returns
unfolding le
returns c =
    let byte : (i : ℕ) → get_or c.args.s.now i 0 < 256 = λ i. omega (arith, c.type_inv.s i) in
    simp (add-zero, mod-eq_of_lt (byte c.args.at), mod-eq_of_lt (byte (c.args.at + 1))) (omega (arith, c.from_le_bytes.ensures))
