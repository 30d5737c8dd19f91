-- Each entry that is read fits its bytes: its fields come from records of bytes, so the reader's slot k holds entry k.
use mathlib.Core.Path.{◌≡◌, refl, sym, ap, subst, ◌∙◌}
use mathlib.Core.Bool.{Bool, true, false}
use mathlib.Core.List.{List, [], ◌∷◌, map}
use Prim.Native.Nat.{ℕ, zero, suc, ◌*◌, ◌/◌, ◌^◌, ◌<◌}
use native.Mathlib.Nat.{not-suc-le-zero}
use native.Mathlib.Omega.{arith}
use lib.Dec.{eqb, ltb, lit<, lit≤}
use lib.ListN.{length, get_or, drop, get_or-eq_default}
use borrow.Author.Tests.{ltb-true, ltb-false}
use Rattle.util.specs.Choice.{choose, flag}
use Rattle.util.specs.Word.{le}
use Rattle.util.proofs.Choice.{chosen}
use Rattle.util.proofs.Extend.{extend-lt}
use Rattle.util.proofs.Word.{le-lt}
use Rattle.macho.specs.MachRel.{mach_rel_at, idx_of, p2size_of, extern_of, type_of}
use Rattle.macho.specs.Record.{Fits}
use Rattle.macho.specs.Reloc.{reloc_size, reloc_at, reloc_fields}
use Rattle.macho.specs.Types.{ARM64_RELOC_UNSIGNED, ARM64_RELOC_SUBTRACTOR, ARM64_RELOC_AUTHENTICATED_POINTER}
use Rattle.macho.proofs.RoundTrip as Records
use Rattle.macho.proofs.Signing.{signing-lt}
use Rattle.macho.specs.declared.mach_rel.MachRel.{MachRel}
use Rattle.macho.specs.declared.reloc.Reloc.{Reloc}
use Rattle.arch.specs.Table.{records_of, record_at, subtracted_at}
use Rattle.arch.specs.Walk.{Reading, entries, slots_after}
use Rattle.arch.proofs.Records.{record_is, length-records}
use Rattle.arm64_reader.specs.Fields.{is_addend, starts, own_of, given_of, held_in, signed_by, entry_from}
use Rattle.arm64_reader.specs.Read.{read_relocs, slots_to}
use Rattle.arm64_reader.proofs.Fields as Fields
use Rattle.arm64_reader.proofs.Lengths as Lengths

-- what an index past the list reads to
abbrev nothing : MachRel
nothing = record { offset = 0; bits = 0 }

-- a record's offset has 32 bits
offset-lt : (s : List ℕ) (i : ℕ) → (record_at (records_of s) i).offset < 2 ^ 32
unfolding mach_rel_at
offset-lt s i = go (ltb i (length s / 8)) refl
  where
    go : (b : Bool) → ltb i (length s / 8) ≡ b → (record_at (records_of s) i).offset < 2 ^ 32
    go true e = subst (λ (r : MachRel). r.offset < 2 ^ 32) (sym (record_is s i (ltb-true i (length s / 8) e))) (le-lt 4 s (8 * i))
    go false e =
        subst (λ (r : MachRel). r.offset < 2 ^ 32)
        (sym (get_or-eq_default (records_of s) nothing {n = i} (omega (arith, length-records s, ltb-false i (length s / 8) e)))) (lit< tt)

size-lt : (p : ℕ) → p < 4 → 2 ^ p < 2 ^ 8
size-lt zero h = lit< tt
size-lt (suc zero) h = lit< tt
size-lt (suc (suc zero)) h = lit< tt
size-lt (suc (suc (suc zero))) h = lit< tt
size-lt (suc (suc (suc (suc p)))) h = absurd (omega arith)

flag-lt : (b : Bool) → flag b < 2 ^ 8
flag-lt true = lit< tt
flag-lt false = lit< tt

-- a test chooses between two numbers below a bound
below : (m : ℕ) (b : Bool) (x y : ℕ) → x < m → y < m → choose b x y < m
below m b x y hx hy = chosen (λ (n : ℕ). n < m) b x y hx hy

-- what an own record adds
held-lt : (own : MachRel) (contents : List ℕ) (offset given : ℕ) → given < 2 ^ 64 → held_in own (le 4 contents offset) (le 8 contents offset) given < 2 ^ 64
unfolding held_in
held-lt own contents offset given h =
    below (2 ^ 64) (eqb (type_of own.bits) ARM64_RELOC_UNSIGNED) _ _
    (below (2 ^ 64) (eqb (p2size_of own.bits) 2) _ _ (extend-lt (le 4 contents offset) 32 (lit≤ tt)) (le-lt 8 contents offset))
    (below (2 ^ 64) (eqb (type_of own.bits) ARM64_RELOC_AUTHENTICATED_POINTER) _ _ (extend-lt (le 8 contents offset) 32 (lit≤ tt)) h)

-- how its pointer is signed
signed_lt : (own : MachRel) (word : ℕ) → signed_by own word < 2 ^ 32
unfolding signed_by
signed_lt own word = below (2 ^ 32) (eqb (type_of own.bits) ARM64_RELOC_AUTHENTICATED_POINTER) _ 0 (signing-lt word) (lit< tt)

given-lt : (rs : List MachRel) (i : ℕ) → given_of rs i < 2 ^ 64
given-lt rs i = below (2 ^ 64) (is_addend (record_at rs i)) _ 0 (extend-lt (idx_of (record_at rs i).bits) 24 (lit≤ tt)) (lit< tt)

-- every field of an entry has room in its bytes
entry-fits : (contents sections : List ℕ) (first : Bool) (records : List ℕ) (i : ℕ)
    → Fits (reloc_fields (entry_from contents sections first (records_of records) i))
unfolding entry_from
entry-fits contents sections first records i =
    let rs = records_of records in
    let own = record_at rs (own_of rs i) in
    let held = held-lt own contents (record_at rs i).offset (given_of rs i) (given-lt rs i) in (
      offset-lt records i,
      (
        omega arith,
        (
          size-lt (p2size_of own.bits) (omega arith),
          (
            omega arith,
            (
              flag-lt (subtracted_at ARM64_RELOC_SUBTRACTOR first rs (own_of rs i)),
              (
                below (2 ^ 32) (eqb (extern_of own.bits) 1) (idx_of own.bits) _ (omega arith) (omega arith),
                (
                  signed_lt own (le 8 contents (record_at rs i).offset),
                  (
                    below (2 ^ 64) (eqb (extern_of own.bits) 1) _ _ held (omega arith),
                    tt,
                  ),
                ),
              ),
            ),
          ),
        ),
      ),
    )

-- what holds of each value of a function holds of each element of a list of them
each : (P : Reloc → Type 0) (f : ℕ → Reloc) (ns : List ℕ) (k : ℕ) (d : Reloc) → ((i : ℕ) → P (f i)) → k < length (map f ns) → P (get_or (map f ns) k d)
each P f [] k d h l = absurd (not-suc-le-zero l)
each P f (n ∷ ns) zero d h l = h n
each P f (n ∷ ns) (suc k) d h l = each P f ns k d h (omega arith)

-- entry k of a table that is read, as whoever is lent the slots finds it
pub slot-entry : (contents records sections slots : List ℕ) (es : List Reloc) (k : ℕ) (d : Reloc) → read_relocs contents records sections slots ≡ entries es
    → k < length es → reloc_at (slots_to contents records sections slots) (reloc_size * k) ≡ get_or es k d
slot-entry contents records sections slots es k d e l =
    ap (λ (a : Reading). reloc_at (slots_after a slots) (reloc_size * k)) e
    ∙ Records.value-in-list Records.reloc es (drop (reloc_size * length es) slots) k d l fits
  where
    rs : List MachRel
    rs = records_of records

    is : es ≡ map (entry_from contents sections false rs) (starts 0 false rs)
    is = Fields.fields contents sections false rs es (Lengths.filled contents records sections slots e)

    fits : Fits (reloc_fields (get_or es k d))
    fits =
        subst (λ (fs : List Reloc). k < length fs → Fits (reloc_fields (get_or fs k d))) (sym is)
        (each (λ (r : Reloc). Fits (reloc_fields r)) (entry_from contents sections false rs) (starts 0 false rs) k d
        (entry-fits contents sections false records)) l
