-- What the reader does not look at: the bytes of the slots, contents outside its records' bytes, addresses of sections that no record names, and the
-- section's own address where no record counts from it. Each step is the same.
use mathlib.Core.Path.{◌≡◌, refl, ap, ◌∙◌}
use mathlib.Core.Bool.{Bool, true, false}
use mathlib.Core.List.{List}
use Prim.Native.Nat.{ℕ, zero-le, ◌+◌, ◌<◌}
use lib.Dec.{eqb}
use lib.ListN.{length}
use Rattle.util.specs.Choice.{choose}
use Rattle.util.specs.Wrap.{sum, diff}
use Rattle.util.specs.Word.{le}
use Rattle.macho.specs.MachRel.{pcrel_of, p2size_of, extern_of, type_of}
use Rattle.macho.specs.declared.mach_rel.MachRel.{MachRel}
use Rattle.arch.specs.Entry.{entry_of}
use Rattle.arch.specs.Table.{record_at}
use Rattle.arch.specs.Target.{target_in, addend_in}
use Rattle.arch.specs.Walk.{read_all}
use Rattle.arch.proofs.Fuel.{same_from}
use Rattle.x86_64_reader.specs.Addend.{width_of, bias_of, embedded_at, own_in, added_by}
use Rattle.x86_64_reader.specs.Record.{entry_in, entry_at, step_at}
use Rattle.x86_64_reader.specs.Read.{read_records, read_relocs}
use Rattle.x86_64_reader.specs.Fields.{Alike}
use Rattle.x86_64_reader.specs.Onward.{step-onward}

-- slots count by their length
pub slots-ignored : (contents records sections : List ℕ) (address : ℕ) (slots others : List ℕ) → length slots ≡ length others
    → read_relocs contents records sections address slots ≡ read_relocs contents records sections address others
unfolding read_relocs
slots-ignored contents records sections address slots others e = rw e

-- the number in the bytes that are looked at
embedded-same : (s t : List ℕ) (at p : ℕ) → le (width_of p) s at ≡ le (width_of p) t at → embedded_at s at p ≡ embedded_at t at p
unfolding width_of embedded_at choose
embedded-same s t at p h = go (eqb p 0) refl (eqb p 2) refl
  where
    go : (a : Bool) → eqb p 0 ≡ a → (b : Bool) → eqb p 2 ≡ b → embedded_at s at p ≡ embedded_at t at p
    go true a b _ = rw (a, rw a at h)
    go false a true b = rw (a, b, rw (a, b) at h)
    go false a false b = rw (a, b, rw (a, b) at h)

-- two contents, two section lists and two addresses that a record does not tell apart
module _ (contents others sections addresses : List ℕ) (address elsewhere : ℕ) (r : MachRel) where
  abbrev Same : Type 0
  Same = Alike contents others sections addresses address elsewhere r

  own_same : Same → own_in contents r ≡ own_in others r
  own_same m = ap (λ (v : ℕ). sum v (bias_of (type_of r.bits))) (embedded-same contents others r.offset (p2size_of r.bits) m.0)

  added-same : Same → added_by contents address r ≡ added_by others elsewhere r
  unfolding added_by choose
  added-same m = go (eqb (extern_of r.bits) 1) refl (eqb (pcrel_of r.bits) 1) refl
    where
      go : (x : Bool) → eqb (extern_of r.bits) 1 ≡ x → (p : Bool) → eqb (pcrel_of r.bits) 1 ≡ p → added_by contents address r ≡ added_by others elsewhere r
      go true x p _ = rw x (own_same m)
      go false x true p = rw (x, p, m.2 x p) (ap (λ (v : ℕ). sum (sum elsewhere (r.offset + 4)) v) (own_same m))
      go false x false p = rw (x, p) (own_same m)

  addend-same : (v : ℕ) → Same → addend_in sections r v ≡ addend_in addresses r v
  unfolding choose
  addend-same v m = go (eqb (extern_of r.bits) 1) refl
    where
      go : (x : Bool) → eqb (extern_of r.bits) 1 ≡ x → addend_in sections r v ≡ addend_in addresses r v
      go true x = rw x
      go false x = rw x (ap (diff v) (m.1 x))

  entry-same : (subtracted : Bool) → Same → entry_in contents sections address r subtracted ≡ entry_in others addresses elsewhere r subtracted
  entry-same subtracted m =
      ap (entry_of r subtracted r.offset (target_in r))
      (ap (addend_in sections r) (added-same m) ∙ addend-same (added_by others elsewhere r) m)

module _ (contents others sections addresses : List ℕ) (address elsewhere : ℕ) (first : Bool) (rs : List MachRel) (size : length contents ≡ length others)
    (ordinals : length sections ≡ length addresses)
    (same : (i : ℕ) → i < length rs → Alike contents others sections addresses address elsewhere (record_at rs i)) where
  step_same : (i : ℕ) → i < length rs → step_at contents sections address first rs i ≡ step_at others addresses elsewhere first rs i
  unfolding step_at entry_at
  step_same i h = rw (size, ordinals, entry-same contents others sections addresses address elsewhere (record_at rs i) _ (same i h))

  pub contents-ignored : read_records contents sections address first rs ≡ read_records others addresses elsewhere first rs
  unfolding read_records read_all
  contents-ignored =
      same_from (step_at contents sections address first rs) (step_at others addresses elsewhere first rs) (length rs) 0
      (step-onward contents sections address first rs) (λ i _ h. step_same i h) (length rs) 0 zero-le
