-- Three words are equal one by one.
use mathlib.Core.Path.{◌≡◌}
use Prim.Native.Nat.{ℕ}
use Rattle.arm64_insn.specs.declared.stub.Words3.{Words3}

pub three : (a b c x y z : ℕ) → a ≡ x → b ≡ y → c ≡ z
    → ◌≡◌ {A = Words3} (record { first = a; second = b; third = c }) (record { first = x; second = y; third = z })
three a b c x y z p q r = rw (p, q, r)
