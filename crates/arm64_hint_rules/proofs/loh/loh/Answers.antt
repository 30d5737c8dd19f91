-- `loh`: the part is all of the section, so that words are read and stored there.
use mathlib.Core.Path.{refl, sym, ap, ◌∙◌}
use mathlib.Core.List.{List}
use Prim.Native.Nat.{ℕ}
use denote.Ref.{MutBor}
use Rattle.arm64_hint_rules.proofs.Rules.{still-inside, inside-same, loh-is}
use Rattle.arm64_hint_rules.proofs.loh.loh.Goals as goal

pub insns_of-s-requires : goal.insns_of-s-requires
insns_of-s-requires g c =
    inside-same _ (c.part-buf.ensures.whole refl refl) c.requires

pub store-requires : goal.store-requires
store-requires g c =
    still-inside _ c.insns_of-s.ensures.section (inside-same _ (c.part-buf.ensures.whole refl refl) c.requires)

pub returns : goal.returns
returns g c =
    let same = c.part-buf.ensures.whole refl refl in
    let told = loh-is _ _ _ same c.insns_of-s.ensures.insns c.insns_of-s.ensures.section c.decide-d.ensures
    (c.section-1.given.1.0 (sym (ap (λ (r : MutBor (List ℕ)). r.ghost_name) same)) ∙ c.store.ensures) in
    record { outcome = told.0; section = told.1 }
