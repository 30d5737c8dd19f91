-- What is ignored of a hint changes no check: lists of hints that agree in the rest are turned down alike. Carried by equal tests, hint by hint.
use Rattle.std.specs.Prelude.{Ok}
use mathlib.Core.Path.{◌≡◌, refl, ap, ap₂, ◌∙◌}
use mathlib.Core.Bool.{true}
use mathlib.Core.List.{List}
use Prim.Native.Nat.{ℕ, zero, suc, ◌/◌, ◌≤◌, ◌<◌}
use native.Mathlib.Omega.{arith}
use lib.ListN.{length}
use Rattle.util.proofs.Choice.{choose-true}
use Rattle.macho.specs.Refusal.{first}
use Rattle.macho.specs.Reloc.{reloc_size}
use Rattle.macho.specs.declared.hint.HintRecord.{HintRecord}
use Rattle.macho.specs.Hint.{hint_size, hint_count, hint_of}
use Rattle.arm64_hint_places.specs.Hint.{is_skipped}
use Rattle.arm64_hint_places.proofs.Alike.{Alike, same-skip}
use Rattle.arm64_hint_check.specs.Check.{check_hint, check_lists, check_to, check_all}

same-hint-check : (h g : HintRecord) → Alike h g → (len count : ℕ) → check_hint len count h ≡ check_hint len count g
unfolding check_hint
same-hint-check h g alike len count = rw (alike.places, same-skip h g alike, alike.start, alike.len)

-- a skipped hint is not looked at
pub skipped-check : (h : HintRecord) → is_skipped h ≡ true → (len count : ℕ) → check_hint len count h ≡ Ok tt
unfolding check_hint
skipped-check h e len count = choose-true (is_skipped h) (Ok tt) _ e

module _ (hints hints' : List ℕ) (sized : length hints ≡ length hints')
    (same : (len count k : ℕ) → k < hint_count hints → check_hint len count (hint_of hints k) ≡ check_hint len count (hint_of hints' k)) where
  same_count : hint_count hints ≡ hint_count hints'
  same_count = ap (λ (n : ℕ). n / hint_size) sized

  same-checks : (len count k : ℕ) → k ≤ hint_count hints → check_to len count hints k ≡ check_to len count hints' k
  unfolding check_to
  same-checks len count zero h = refl
  same-checks len count (suc k) h = ap₂ first (same-checks len count k (omega arith)) (same len count k h)

  -- lists whose hints are checked alike
  pub same_by : (len entries : ℕ) → check_all len hints entries ≡ check_all len hints' entries
  unfolding check_all
  same_by len entries =
      ap₂ first (ap (λ (n : ℕ). check_lists n entries) sized)
      (same-checks len (entries / reloc_size) (hint_count hints) (omega arith) ∙ ap (check_to len (entries / reloc_size) hints') same_count)

-- lists whose hints agree
pub same_check : (hints hints' : List ℕ) → length hints ≡ length hints' → ((k : ℕ) → k < hint_count hints → Alike (hint_of hints k) (hint_of hints' k))
    → (len entries : ℕ) → check_all len hints entries ≡ check_all len hints' entries
same_check hints hints' sized alike = same_by hints hints' sized (λ len count k h. same-hint-check _ _ (alike k h) len count)
