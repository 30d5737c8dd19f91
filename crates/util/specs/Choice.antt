-- The choice by a test.
use Rattle.std.specs.Prelude.{ℕ, Bool, true, false}

-- a where the test holds, else b
unfoldable pub choose : {A : Type 0} → Bool → A → A → A
choose true a b = a
choose false a b = b

-- 1 where a test holds, else 0
abbrev pub flag : Bool → ℕ
flag true = 1
flag false = 0
