-- What the rules share: sums that may pass 2^64 - 1, and loads with a literal form in reach (arch/arm64.rs, the rules of hints; RULES 8.13, 7.23).
use Rattle.std.specs.Prelude.{ℕ, ◌+◌, ◌%◌, ◌^◌, Bool, ◌&&◌, eqb, ltb, Result, Ok, Err, Option, Some, None}
use Rattle.util.specs.Choice.{choose}
use Rattle.macho.specs.Refusal.{number_of}
use Rattle.macho.specs.declared.refusal.Refusal.TheVariants.{Overflow}
use Rattle.arm64_insn.specs.Reach.{within1mb}
use Rattle.arm64_insn.specs.Literal.{has_literal_form}
use Rattle.arm64_insn.specs.declared.ldst.LoadStore.{LoadStore}
use Rattle.arm64_hint_terms.specs.declared.answer.Plan.{Plan}
use Rattle.arm64_hint_terms.specs.declared.answer.NoRewrite.{NoRewrite}
use Rattle.arm64_hint_terms.specs.declared.answer.NoRewrite.TheVariants.{Declined, Nine}

-- the number of a decision: that of an overflow where a sum is above 2^64 - 1, else 0
abbrev pub decision_number : Result Plan NoRewrite → ℕ
decision_number (Err Declined) = 0
decision_number (Err Nine) = number_of Overflow
decision_number (Ok p) = 0

-- a + b, or that it is above 2^64 - 1
unfoldable pub sum_of : ℕ → ℕ → Option ℕ
sum_of a b = choose (ltb (a + b) (2 ^ 64)) (Some (a + b)) None

-- nine for a sum above 2^64 - 1, else what is decided of the sum
abbrev pub summed : Option ℕ → (ℕ → Result Plan NoRewrite) → Result Plan NoRewrite
summed None f = Err Nine
summed (Some n) f = f n

-- whether a load has a literal form that reaches target, a multiple of 4, from pc
unfoldable pub fits_literal : LoadStore → ℕ → ℕ → Bool
fits_literal ld target pc = has_literal_form ld && eqb (target % 4) 0 && within1mb pc target
