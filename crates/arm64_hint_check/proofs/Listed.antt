-- The check of a listed run beside the plain run's: with room for the records it is the same, without it number 2 stands after 1. Carried by the choice of
-- `check_slots`.
use Rattle.std.specs.Prelude.{Ok, Err}
use mathlib.Core.Path.{◌≡◌, sym, ◌∙◌}
use mathlib.Core.Bool.{Bool}
use mathlib.Core.List.{List}
use Prim.Native.Nat.{ℕ, ◌*◌, ◌/◌, ◌≤◌, ◌<◌}
use borrow.Author.Tests.{lt-ltb, le-ltb}
use lib.ListN.{length}
use Rattle.util.proofs.Choice.{choose-true, choose-false}
use Rattle.util.proofs.Cases.{less-or}
use Rattle.macho.specs.Hint.{hint_size, hint_count}
use Rattle.macho.specs.Reloc.{reloc_size}
use Rattle.macho.specs.RuleRecord.{rule_record_size}
use Rattle.macho.specs.Refusal.{first}
use Rattle.macho.specs.declared.refusal.Refusal.{Refusal}
use Rattle.macho.specs.declared.refusal.Refusal.TheVariants.{Slots}
use Rattle.arm64_hint_check.specs.Check.{check_lists, check_to, check_all, check_slots, check_listed, checked_as}
use Rattle.arm64_hint_check.proofs.Checks.{never, both-fit}

module _ (hints slots : ℕ) where
  pub slots-short : slots < rule_record_size * (hints / hint_size) → check_slots hints slots ≡ Err Slots
  unfolding check_slots
  slots-short l = choose-true _ _ _ (lt-ltb slots (rule_record_size * (hints / hint_size)) l)

  pub slots-room : rule_record_size * (hints / hint_size) ≤ slots → check_slots hints slots ≡ Ok tt
  unfolding check_slots
  slots-room l = choose-false _ _ _ (le-ltb slots (rule_record_size * (hints / hint_size)) l)

module _ (len : ℕ) (hints : List ℕ) (entries slots : ℕ) where
  -- number 1 comes first
  pub listed-lists : (x : Refusal) → check_lists (length hints) entries ≡ Err x → check_listed len hints entries slots ≡ Err x
  unfolding check_listed
  listed-lists x e = rw e

  module _ (lists : check_lists (length hints) entries ≡ Ok tt) where
    -- then number 2
    pub listed-slots : (x : Refusal) → check_slots (length hints) slots ≡ Err x → check_listed len hints entries slots ≡ Err x
    unfolding check_listed
    listed-slots x e = rw (lists, e)

    -- then the hints' own
    pub listed-hints : (g : Bool) → check_slots (length hints) slots ≡ Ok tt
        → checked_as (check_to len (entries / reloc_size) hints (hint_count hints)) g ≡ checked_as (check_listed len hints entries slots) g
    unfolding check_listed
    listed-hints g e = rw (lists, e)

  -- with room for the records it is the plain run's check
  pub with-room : rule_record_size * hint_count hints ≤ slots → check_listed len hints entries slots ≡ check_all len hints entries
  unfolding check_listed check_all
  with-room l = rw (slots-room (length hints) slots l)

  -- without it, number 1 or number 2, whatever the hints say
  pub without-room : slots < rule_record_size * hint_count hints → check_listed len hints entries slots ≡ first (check_lists (length hints) entries) (Err Slots)
  unfolding check_listed
  without-room l = rw (slots-short (length hints) slots l)

  -- a listed run that is not turned down: the plain run is not, and there is room for the records
  pub listed-fit : check_listed len hints entries slots ≡ Ok tt → (check_all len hints entries ≡ Ok tt) × (rule_record_size * hint_count hints ≤ slots)
  listed-fit e =
      less-or slots (rule_record_size * hint_count hints)
      (λ l. absurd (never (both-fit (check_lists (length hints) entries) (Err Slots) (sym (without-room l) ∙ e)).1))
      (λ l. (sym (with-room l) ∙ e, l))
