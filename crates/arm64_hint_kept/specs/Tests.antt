-- The premises that are needed (RULES 9.12, 9.14, 9.17) as tests, which closed hints and images compute.
use Rattle.std.specs.Prelude.{Bool, true, not, ◌&&◌, ◌||◌, List, [], ◌∷◌, ℕ, ◌+◌, ◌%◌, eqb, leb}
use Rattle.macho.specs.declared.hint.HintRecord.{HintRecord}
use Rattle.arm64_machine.specs.Premises.{stores_made}
use Rattle.arm64_machine.specs.Tests.{each, later}
use Rattle.arm64_hint_work.specs.Step.{places_of}
use Rattle.arm64_hint_kept.specs.HintsKept.{codes}

-- whether the words at two places do not meet
abbrev pub far : ℕ → ℕ → Bool
far at q = leb (at + 4) q || leb (q + 4) at

-- whether no two of the words at some places meet
abbrev pub spaced : List ℕ → Bool
spaced [] = true
spaced (at ∷ places) = each (far at) places && spaced places

-- whether a hint's words are disjoint, aligned, without a store of what they made
abbrev pub tests : HintRecord → List ℕ → List Bool
tests h image =
    spaced (places_of h)
    ∷ each (λ w. eqb (w.address % 4) 0) (codes h image)
    ∷ later (λ w u. not (stores_made w u)) (codes h image)
    ∷ []

-- all of them hold
abbrev pub all_true : List Bool
all_true = true ∷ true ∷ true ∷ []
