-- The entries that a hint's places name in a list of entries (arch/arm64.rs, `Hint::has_page_pair`; RULES 2.23, 8.7, 8.9).
use Rattle.std.specs.Prelude.{ℕ, ◌+◌, ◌*◌, ◌≤◌, ◌≡◌, List, map, get_or}
use Rattle.util.specs.All.{All}
use Rattle.macho.specs.Hint.{no_entry}
use Rattle.macho.specs.Reloc.{reloc_size}
use Rattle.macho.specs.declared.hint.HintInsn.{HintInsn}
use Rattle.arm64_hint_terms.specs.Rels.{rel_at}
use Rattle.arm64_hint_terms.specs.declared.rels.Rels.{Rels}

-- the numbers of the entries that places name
abbrev pub numbers : List HintInsn → List ℕ
numbers insns = map (λ i. i.rel) insns

-- the number that place i names, none past the places
abbrev pub number_at : List HintInsn → ℕ → ℕ
number_at insns i = get_or (numbers insns) i no_entry

-- the entries that the places name
abbrev pub rels_in : List ℕ → List HintInsn → Rels
rels_in entries insns =
    record { r0 = rel_at entries (number_at insns 0); r1 = rel_at entries (number_at insns 1); r2 = rel_at entries (number_at insns 2) }

-- they stand in a list of len bytes
abbrev pub InEntries : ℕ → List HintInsn → Type 0
InEntries len insns = All (λ k. (k ≡ no_entry → ⊥) → reloc_size * k + reloc_size ≤ len) (numbers insns)
