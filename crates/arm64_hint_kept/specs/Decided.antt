-- The words of a hint, with their addresses, before and after a decision.
use Rattle.std.specs.Prelude.{List, [], ◌∷◌, ℕ, take, Result, Ok, Err, Option, Some, None}
use Rattle.arm64_hint_terms.specs.declared.answer.Insns.{Insns}
use Rattle.arm64_hint_terms.specs.declared.answer.Plan.{Plan}
use Rattle.arm64_hint_terms.specs.declared.answer.NoRewrite.{NoRewrite}
use Rattle.arm64_hint_terms.specs.declared.answer.NoRewrite.TheVariants.{Declined, Nine}
use Rattle.arm64_machine.specs.Machine.{Placed, placed}

-- the first n words, each with its address
abbrev pub placed_of : ℕ → Insns → List Placed
placed_of n s = take n (placed s.w0 s.p0 ∷ placed s.w1 s.p1 ∷ placed s.w2 s.p2 ∷ [])

-- a place's word after a decision
abbrev pub word_after : Option ℕ → ℕ → ℕ
word_after None w = w
word_after (Some u) w = u

-- the words after a decision
abbrev pub after : Result Plan NoRewrite → Insns → Insns
after (Err Declined) s = s
after (Err Nine) s = s
after (Ok p) s =
    record {
      w0 = word_after p.w0 s.w0;
      w1 = word_after p.w1 s.w1;
      w2 = word_after p.w2 s.w2;
      p0 = s.p0;
      p1 = s.p1;
      p2 = s.p2;
    }
