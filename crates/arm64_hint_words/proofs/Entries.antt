-- The third place counts for a page pair only where the word count takes it in: past it, it has no entry.
use Rattle.std.specs.Prelude.{Option, None}
use mathlib.Core.Path.{◌≡◌, refl, ap}
use mathlib.Core.Bool.{Bool, true, false, ◌&&◌, ◌||◌}
use mathlib.Core.List.{List}
use Prim.Native.Nat.{ℕ, ◌≤◌, ◌<◌}
use native.Mathlib.Omega.{arith}
use lib.Dec.{ltb}
use lib.ListN.{take}
use borrow.Author.Tests.{ltb-true}
use Rattle.util.specs.Choice.{choose}
use Rattle.macho.specs.Hint.{no_entry}
use Rattle.macho.specs.declared.hint.HintInsn.{HintInsn}
use Rattle.arm64_hint_terms.specs.Rels.{rel_at, is_page_rel, is_pageoff_rel, same_reference, is_absent, has_page_pair}
use Rattle.macho.specs.declared.reloc.Reloc.{Reloc}
use Rattle.arm64_hint_words.specs.Entry.{number_at, rels_in}
use Rattle.arm64_hint_words.proofs.First.{first_past}

-- no entry past the word count
pub rel-past : (entries : List ℕ) (insns : List HintInsn) (n i : ℕ) → n ≤ i → rel_at entries (number_at (take n insns) i) ≡ None
unfolding rel_at choose
rel-past entries insns n i h = ap (rel_at entries) (first_past (λ i. i.rel) no_entry insns n i h)

counted : (r : Option Reloc) (n : ℕ) → (n < 3 → r ≡ None) → is_absent r ≡ (ltb n 3 || is_absent r)
unfolding is_absent
counted r n past = go (ltb n 3) refl
  where
    go : (b : Bool) → ltb n 3 ≡ b → is_absent r ≡ (b || is_absent r)
    go true e = ap is_absent (past (ltb-true n 3 e))
    go false e = refl

-- two halves and no third entry, whether the word count is asked or the place
pub page-pair-count : (entries : List ℕ) (insns : List HintInsn) (n : ℕ) (got : Bool)
    → has_page_pair (rels_in entries (take n insns)) 3 got ≡ has_page_pair (rels_in entries (take n insns)) n got
unfolding has_page_pair
page-pair-count entries insns n got =
    let r0 : Option Reloc = rel_at entries (number_at (take n insns) 0) in
    let r1 : Option Reloc = rel_at entries (number_at (take n insns) 1) in
    ap (λ (b : Bool). is_page_rel r0 got && is_pageoff_rel r1 got && same_reference r0 r1 && b)
    (counted (rel_at entries (number_at (take n insns) 2)) n (λ h. rel-past entries insns n 2 (omega arith)))
