-- How the entries of any table are signed: each step reads such an entry (`record-signs`), so each entry of the walk is one (`each_from`).
use Rattle.std.specs.Prelude.{Result, Ok, Err}
use mathlib.Core.Path.{◌≡◌, sym, ap, subst, ◌∙◌}
use mathlib.Core.Bool.{Bool, true}
use mathlib.Core.List.{List}
use Prim.Native.Nat.{ℕ, ◌+◌, ◌-◌, ◌<◌, ◌≤◌}
use native.Mathlib.Omega.{arith}
use lib.ListN.{length, get_or, drop, length-drop}
use Rattle.util.specs.Bits.{extend}
use Rattle.util.specs.Diagram.{matches}
use Rattle.util.specs.Word.{le}
use Rattle.util.proofs.Bytes.{le-drop}
use Rattle.util.proofs.Choice.{chosen}
use Rattle.macho.specs.Authenticated.{authenticated, signing_in}
use Rattle.macho.specs.MachRel.{idx_of}
use Rattle.macho.specs.Types.{ARM64_RELOC_SUBTRACTOR, ARM64_RELOC_AUTHENTICATED_POINTER}
use Rattle.macho.specs.declared.mach_rel.MachRel.{MachRel}
use Rattle.macho.specs.declared.reloc.Reloc.{Reloc}
use Rattle.macho.specs.declared.refusal.Refusal.TheVariants.{Bounds, LoneAddend}
use Rattle.arch.specs.Table.{record_at, subtracted_at}
use Rattle.arch.specs.Walk.{entries, read_all}
use Rattle.arch.proofs.Walk.{Gives, gives-refused, Each, each_from}
use Rattle.macho.specs.declared.refusal.Refusal.{Refusal}
use Rattle.arm64_reader.specs.Record.{own_at, step_at}
use Rattle.arm64_reader.specs.Read.{read_records}
use Rattle.arm64_reader.proofs.AuthenticatedRecords.{Signs, StepSigns, record-signs}

-- ---- how the entries are signed

module _ (contents sections : List ℕ) (first : Bool) (rs : List MachRel) where
  -- an entry against the contents at its offset
  module _ (e : Reloc) where
    record Stored : Type 0 where
      word : e.ty ≡ ARM64_RELOC_AUTHENTICATED_POINTER
          → let stored = le 8 contents e.offset in
          (e.offset + 8 ≤ length contents) × (matches authenticated stored ≡ true) × (e.signing ≡ signing_in stored) × (e.addend ≡ extend stored 32)
      other : (e.ty ≡ ARM64_RELOC_AUTHENTICATED_POINTER → ⊥) → e.signing ≡ 0

  stored : (offset : ℕ) (e : Reloc) → Signs (drop offset contents) offset e → Stored e
  stored offset e s =
      record {
        word = λ t.
            let w = s.word t in
            let d : le 8 (drop offset contents) 0 ≡ le 8 contents e.offset = le-drop 8 contents offset 0 ∙ ap (le 8 contents) (omega (arith, s.place)) in
            let l : 8 ≤ length contents - offset = simp length-drop at w.0 in
            (omega (arith, s.place), ap (matches authenticated) (sym d) ∙ w.1, w.2 ∙ ap signing_in d, w.3 ∙ ap (λ (x : ℕ). extend x 32) d);
        other = s.other;
      }

  module _ (none : Reloc) where
    own-gives : (j offset given : ℕ) → Gives Stored none (own_at contents sections first rs j offset given)
    unfolding Gives StepSigns
    own-gives j offset given =
        carry (own_at contents sections first rs j offset given)
        (record-signs (drop offset contents) sections (record_at rs j) (subtracted_at ARM64_RELOC_SUBTRACTOR first rs j) offset given (j + 1))
      where
        carry : (s : Result (Reloc × ℕ) Refusal) → StepSigns (drop offset contents) offset s → Gives Stored none s
        carry (Err x) p = tt
        carry (Ok (e, m)) p = stored offset e p

    step_gives : (i : ℕ) → Gives Stored none (step_at contents sections first rs i)
    unfolding step_at
    step_gives i =
        let offset = (record_at rs i).offset in
        chosen (Gives Stored none) _ _ _ (gives-refused Stored none Bounds)
        (chosen (Gives Stored none) _ _ _
        (chosen (Gives Stored none) _ _ _ (own-gives (i + 1) offset (extend (idx_of (record_at rs i).bits) 24)) (gives-refused Stored none LoneAddend))
        (own-gives i offset 0))

    all-stored : (es : List Reloc) → read_records contents sections first rs ≡ entries es → (k : ℕ) → k < length es → Stored (get_or es k none)
    unfolding read_records read_all Each
    all-stored es e =
        subst (Each Stored none) e (each_from Stored none (step_at contents sections first rs) step_gives (length rs) (length rs) 0)

    -- an authenticated pointer's 8 bytes are in the contents and are such a word; its addend is the low 32 bits, signed, and its four bytes say what the
    -- word says of signing
    pub authenticated-entries : (es : List Reloc) → read_records contents sections first rs ≡ entries es → (k : ℕ) → k < length es
        → let e = get_or es k none in e.ty ≡ ARM64_RELOC_AUTHENTICATED_POINTER
        → let stored = le 8 contents e.offset in
        (e.offset + 8 ≤ length contents) × (matches authenticated stored ≡ true) × (e.signing ≡ signing_in stored) × (e.addend ≡ extend stored 32)
    authenticated-entries es e k l = (all-stored es e k l).word

    -- the four bytes of any other entry are 0
    pub other_entries : (es : List Reloc) → read_records contents sections first rs ≡ entries es → (k : ℕ) → k < length es
        → ((get_or es k none).ty ≡ ARM64_RELOC_AUTHENTICATED_POINTER → ⊥) → (get_or es k none).signing ≡ 0
    other_entries es e k l = (all-stored es e k l).other
