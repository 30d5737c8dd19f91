-- Numbers 1 and 2 by the lengths that a reader is lent, whatever its table reads to: each from the choices in `lengths_of`.
use Rattle.std.specs.Prelude.{Result, Ok, Err, ⊤}
use mathlib.Core.Path.{◌≡◌, refl}
use mathlib.Core.Bool.{Bool, true, false}
use mathlib.Core.List.{List}
use Prim.Native.Nat.{ℕ, ◌-◌, ◌*◌, ◌/◌, ◌%◌, ◌^◌, ◌<◌, ◌≤◌}
use native.Mathlib.Omega.{arith}
use borrow.Author.Tests.{eq-eqb, ne_eqb, lt-ltb, le-ltb}
use lib.Dec.{eqb, ltb}
use Rattle.util.specs.Choice.{choose}
use Rattle.macho.specs.declared.reloc.Reloc.{Reloc}
use Rattle.macho.specs.declared.refusal.Refusal.{Refusal}
use Rattle.macho.specs.declared.refusal.Refusal.TheVariants.{Lengths, Slots}
use Rattle.arch.specs.Table.{lengths_of}
use Rattle.arch.specs.Walk.{Reading, refused, entries, checked}

-- so many bytes of records, sections and bytes of slots, and what the table reads to
module _ (records sections slots : ℕ) (a : Reading) where
  -- what a call reads
  abbrev Call : Reading
  Call = checked (lengths_of records sections slots) a

  -- 1: bytes that are no whole records
  pub not-whole : (records % 8 ≡ 0 → ⊥) → Call ≡ refused Lengths
  unfolding lengths_of choose
  not-whole h = rw (ne_eqb _ _ h)

  -- 1: more than 2^32 - 1 records, or section addresses
  pub many-records : 2 ^ 32 ≤ records / 8 → Call ≡ refused Lengths
  unfolding lengths_of choose
  many-records h = go (eqb (records % 8) 0) refl
    where
      go : (w : Bool) → eqb (records % 8) 0 ≡ w → Call ≡ refused Lengths
      go true w = rw (w, lt-ltb (2 ^ 32 - 1) (records / 8) (omega arith))
      go false w = rw w

  pub many-sections : 2 ^ 32 ≤ sections → Call ≡ refused Lengths
  unfolding lengths_of choose
  many-sections h = go (eqb (records % 8) 0) refl (ltb (2 ^ 32 - 1) (records / 8)) refl
    where
      go : (w : Bool) → eqb (records % 8) 0 ≡ w → (n : Bool) → ltb (2 ^ 32 - 1) (records / 8) ≡ n → Call ≡ refused Lengths
      go true w true n = rw (w, n)
      go true w false n = rw (w, n, lt-ltb (2 ^ 32 - 1) sections (omega arith))
      go false w n _ = rw w

  -- 2: slots below 24 bytes for each record
  pub few-slots : records % 8 ≡ 0 → records / 8 < 2 ^ 32 → sections < 2 ^ 32 → slots < 24 * (records / 8) → Call ≡ refused Slots
  unfolding lengths_of choose
  few-slots w n m h =
      rw (
        eq-eqb _ _ w,
        le-ltb (2 ^ 32 - 1) (records / 8) (omega arith),
        le-ltb (2 ^ 32 - 1) sections (omega arith),
        lt-ltb slots (24 * (records / 8)) h,
      )

  -- else what the table reads to
  pub enough : records % 8 ≡ 0 → records / 8 < 2 ^ 32 → sections < 2 ^ 32 → 24 * (records / 8) ≤ slots → Call ≡ a
  unfolding lengths_of choose
  enough w n m h =
      rw (
        eq-eqb _ _ w,
        le-ltb (2 ^ 32 - 1) (records / 8) (omega arith),
        le-ltb (2 ^ 32 - 1) sections (omega arith),
        le-ltb slots (24 * (records / 8)) h,
      )

  -- a call that fills gives what the table reads to
  pub filled : {es : List Reloc} → Call ≡ entries es → a ≡ entries es
  filled e = go (lengths_of records sections slots) e
    where
      go : (c : Result ⊤ Refusal) {es : List Reloc} → checked c a ≡ entries es → a ≡ entries es
      go (Ok tt) e = e
      go (Err x) e = let z : ◌≡◌ {A = ℕ} 0 1 = cc in absurd (omega arith)
