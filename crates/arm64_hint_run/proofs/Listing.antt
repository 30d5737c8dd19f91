-- The loop over the cursor with the records beside it. Carried by the laws of records stored one after another.
use Rattle.std.specs.Prelude.{Result, Option, Some, None}
use mathlib.Core.Path.{◌≡◌, refl, sym, ap, ap₂, ◌∙◌}
use mathlib.Core.Bool.{Bool, true, false}
use mathlib.Core.List.{List, [], ◌∷◌, ◌++◌, append_assoc, append-nil}
use Prim.Native.Nat.{ℕ, ◌+◌, ◌*◌, ◌≤◌}
use native.Mathlib.Omega.{arith}
use lib.ListN.{length, length-append}
use lib.Seq.{sets}
use Rattle.util.specs.Choice.{choose}
use Rattle.util.proofs.Choice.{choose-true, choose-false}
use Rattle.macho.specs.Hint.{hint_count}
use Rattle.macho.specs.Record.{list_bytes}
use Rattle.macho.specs.RuleRecord.{rule_record_size, rule_record_bytes}
use Rattle.macho.specs.declared.rule_record.RuleRecord.{RuleRecord}
use Rattle.macho.proofs.RoundTrip.{rule_record}
use Rattle.macho.proofs.Stored.{stored_one, stored-front}
use Rattle.image.specs.Steps.{answered, written}
use Rattle.arm64_hint_order.specs.declared.Cursor.{Cursor}
use Rattle.arm64_hint_terms.specs.declared.answer.Plan.{Plan}
use Rattle.arm64_hint_terms.specs.declared.answer.NoRewrite.{NoRewrite}
use Rattle.arm64_hint_terms.specs.declared.answer.Insns.{Insns}
use Rattle.arm64_hint_order.specs.Cursor.{order_of, rest, following}
use Rattle.arm64_hint_order.proofs.Walk.{order-length}
use Rattle.arm64_hint_work.specs.Step.{steps_of}
use Rattle.arm64_hint_run.specs.Records.{record_of, records_of, filled}

-- a record is stored where the run is listed, and nothing where it is not
pub listed-store : (lists : Bool) (slots : List ℕ) (at : ℕ) {slots' : List ℕ} {r w : RuleRecord} → lists ≡ true → r ≡ w
    → slots' ≡ sets slots at (rule_record_bytes r) → slots' ≡ choose lists (sets slots at (rule_record_bytes w)) slots
listed-store lists slots at e q stores =
    stores ∙ ap (λ (v : RuleRecord). sets slots at (rule_record_bytes v)) q ∙ sym (choose-true lists _ _ e)

pub none-stored : (lists : Bool) (slots other : List ℕ) → lists ≡ false → slots ≡ choose lists other slots
none-stored lists slots other e = sym (choose-false lists other slots e)

-- between two hints: where the run is listed, the records of those that are worked stand at the front of the slots; with those of the hints that are left
-- they are the whole
pub record Listing (first hints entries slots₀ : List ℕ) (lists : Bool) (image : List ℕ) (c : Cursor) (slots : List ℕ) (count : ℕ) : Type 0 where
  pub made : List RuleRecord
  pub whole : made ++ records_of image hints entries (rest hints c) ≡ records_of first hints entries (order_of hints)
  pub stand : slots ≡ choose lists (sets slots₀ 0 (list_bytes rule_record_bytes made)) slots₀
  pub counted : count ≡ length made
  pub left : count + length (rest hints c) ≡ hint_count hints
  pub size : length slots ≡ length slots₀

module _ (first hints entries slots₀ : List ℕ) where
  pub listing-first : (lists : Bool) (c : Cursor) → rest hints c ≡ order_of hints → Listing first hints entries slots₀ lists first c slots₀ 0
  unfolding list_bytes choose
  listing-first lists c e = record {
    made = [];
    whole = ap (records_of first hints entries) e;
    stand = same lists;
    counted = refl;
    left = omega (arith, ap length e, order-length hints);
    size = refl;
  }
    where
      same : (b : Bool) → slots₀ ≡ choose b slots₀ slots₀
      same true = refl
      same false = refl

  module _ (lists : Bool) (image : List ℕ) (c : Cursor) (slots : List ℕ) (count : ℕ) (r : Option (ℕ × Cursor))
      (g : Listing first hints entries slots₀ lists image c slots count) (told : following hints r ≡ rest hints c) where
    pub listing-done : r ≡ None → (lists ≡ true → rule_record_size * hint_count hints ≤ length slots₀)
        → slots ≡ choose lists (filled (records_of first hints entries (order_of hints)) slots₀) slots₀
    unfolding records_of choose
    listing-done e room = g.stand ∙ go lists room
      where
        none : rest hints c ≡ []
        none = sym told ∙ ap (following hints) e

        all : g.made ≡ records_of first hints entries (order_of hints)
        all = sym (append-nil g.made) ∙ ap (λ (l : List ℕ). g.made ++ records_of image hints entries l) (sym none) ∙ g.whole

        go : (b : Bool) → (b ≡ true → rule_record_size * hint_count hints ≤ length slots₀)
            → choose b (sets slots₀ 0 (list_bytes rule_record_bytes g.made)) slots₀
            ≡ choose b (filled (records_of first hints entries (order_of hints)) slots₀) slots₀
        go true l =
            stored-front rule_record slots₀ g.made (omega (arith, l refl, g.left, g.counted, ap length none))
            ∙ ap (λ (rs : List RuleRecord). filled rs slots₀) all
        go false l = refl

    module _ (k : ℕ) (d : Cursor) (e : r ≡ Some (k, d)) where
      here : rest hints c ≡ k ∷ rest hints d
      here = sym told ∙ ap (following hints) e

      -- there is room for one record more
      pub record-room : rule_record_size * hint_count hints ≤ length slots₀ → rule_record_size * count + rule_record_size ≤ length slots
      record-room room = omega (arith, g.left, g.size, ap length here)

      pub listing-next : {o : Option (Result Plan NoRewrite × Insns)} {y slots' : List ℕ} → o ≡ answered (steps_of hints entries) k image
          → y ≡ written (steps_of hints entries) k image
          → slots' ≡ choose lists (sets slots (rule_record_size * count) (rule_record_bytes (record_of hints k o))) slots
          → length slots' ≡ length slots → Listing first hints entries slots₀ lists y d slots' (count + 1)
      unfolding records_of choose
      listing-next {o} {y} {slots'} answers writes stores same = record {
        made = g.made ++ (w ∷ []);
        whole =
            append_assoc g.made (w ∷ []) (records_of y hints entries (rest hints d))
            ∙ ap₂ (λ (v : RuleRecord) (z : List ℕ). g.made ++ (v ∷ records_of z hints entries (rest hints d))) (ap (record_of hints k) answers) writes
            ∙ ap (λ (l : List ℕ). g.made ++ records_of image hints entries l) (sym here)
            ∙ g.whole;
        stand = stores ∙ go lists g.stand;
        counted = simp length-append (omega (arith, g.counted));
        left = omega (arith, g.left, ap length here);
        size = same ∙ g.size;
      }
        where
          w : RuleRecord
          w = record_of hints k o

          go : (b : Bool) → slots ≡ choose b (sets slots₀ 0 (list_bytes rule_record_bytes g.made)) slots₀
              → choose b (sets slots (rule_record_size * count) (rule_record_bytes w)) slots
              ≡ choose b (sets slots₀ 0 (list_bytes rule_record_bytes (g.made ++ (w ∷ [])))) slots₀
          go true q =
              ap₂ (λ (s : List ℕ) (n : ℕ). sets s (rule_record_size * n) (rule_record_bytes w)) q g.counted
              ∙ sym (stored_one rule_record slots₀ g.made w)
          go false q = q
