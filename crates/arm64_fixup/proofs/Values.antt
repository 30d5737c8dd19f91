-- The numbers that UNSIGNED, SUBTRACTOR and POINTER_TO_GOT leave at their place, as plain arithmetic: for entry k of any accepted list
-- that no SUBTRACTOR consumes and whose bytes no other entry writes.
use mathlib.Core.Path.{◌≡◌, ap, ◌∙◌}
use mathlib.Core.Bool.{true, false}
use mathlib.Core.List.{List}
use Prim.Native.Nat.{ℕ, ◌+◌, ◌%◌, ◌^◌, ◌<◌}
use native.Mathlib.Omega.{arith}
use native.Mathlib.Nat.{mod-eq_of_lt, mod-mod}
use borrow.Author.Tests.{eq-eqb, ne_eqb}
use Rattle.util.specs.Choice.{choose}
use Rattle.util.proofs.Wrap.{sum_lt}
use Rattle.util.specs.Wrap.{sum, diff}
use Rattle.macho.specs.Types.{ARM64_RELOC_UNSIGNED, ARM64_RELOC_SUBTRACTOR, ARM64_RELOC_POINTER_TO_GOT}
use Rattle.macho.specs.Resolved.{is_tls}
use Rattle.macho.specs.declared.reloc.Reloc.{Reloc}
use Rattle.arm64_fixup_entry.specs.Target.{imported_symbol, address_of, target_of, slot_of}
use Rattle.arm64_fixup_entry.specs.Change.{silent, unsigned_value, subtractor_value, difference, pointer_to_got}
use Rattle.arm64_fixup.specs.Walk.{lent_entry, lent_target, Fixed}
use Rattle.arm64_fixup.specs.Footprint.{Lone, word_at, pointer_at}
use Rattle.arm64_fixup_entry.specs.declared.target.Bases.{Bases}
use Rattle.arm64_fixup_entry.specs.declared.change.Change.{Change}
use Rattle.arm64_fixup_entry.specs.declared.change.Write.TheVariants.{Word, Pointer}
use Rattle.arm64_fixup_entry.proofs.ByType.{unsigned-does, subtractor-does, pointer-does}
use Rattle.arm64_fixup.proofs.Lone.{stores-word, stores-pointer}

diff-lt : (a c : ℕ) → diff a c < 2 ^ 64
diff-lt a c = omega arith

-- a SUBTRACTOR's value in 4 bytes, and in 8
difference-4 : (e : Reloc) (value : ℕ) → e.size ≡ 4 → difference e value ≡ silent (Word (value % 2 ^ 32))
unfolding difference choose
difference-4 e value s = rw (eq-eqb _ _ s)

difference-8 : (e : Reloc) (value : ℕ) → (e.size ≡ 4 → ⊥) → difference e value ≡ silent (Pointer value)
unfolding difference choose
difference-8 e value s = rw (ne_eqb _ _ s)

module _ {section : List ℕ} {b : Bases} {entries targets slots : List ℕ} {f : Fixed} {k : ℕ} (l : Lone section b entries targets slots f k) where
  -- UNSIGNED of anything but an imported symbol: S + A
  pub unsigned-plain : (lent_entry entries k).ty ≡ ARM64_RELOC_UNSIGNED → imported_symbol (lent_entry entries k) (lent_target targets k) ≡ false
      → is_tls (lent_target targets k) ≡ false
      → pointer_at entries f.section k ≡ sum (lent_target targets k).addr (lent_entry entries k).addend
  unfolding unsigned_value target_of choose
  unsigned-plain h i t =
      stores-pointer l (ap (λ (c : Change). c.write) (unsigned-does b k _ _ _ _ _ h i))
      ∙ rw t (mod-eq_of_lt (sum_lt (lent_target targets k).addr (lent_entry entries k).addend))

  -- of a thread-local: S + A less the start of thread-local storage
  pub unsigned-tls : (lent_entry entries k).ty ≡ ARM64_RELOC_UNSIGNED → imported_symbol (lent_entry entries k) (lent_target targets k) ≡ false
      → is_tls (lent_target targets k) ≡ true
      → pointer_at entries f.section k ≡ diff (sum (lent_target targets k).addr (lent_entry entries k).addend) b.tls_begin
  unfolding unsigned_value target_of choose
  unsigned-tls h i t =
      stores-pointer l (ap (λ (c : Change). c.write) (unsigned-does b k _ _ _ _ _ h i))
      ∙ rw t (mod-eq_of_lt (diff-lt (sum (lent_target targets k).addr (lent_entry entries k).addend) b.tls_begin))

  -- SUBTRACTOR: the next entry's S + A minus the own S, its low 4 bytes or all 8
  pub subtractor-4 : (lent_entry entries k).ty ≡ ARM64_RELOC_SUBTRACTOR → (lent_entry entries k).size ≡ 4
      → word_at entries f.section k
      ≡ diff (sum (lent_target targets (k + 1)).addr (lent_entry entries (k + 1)).addend) (lent_target targets k).addr % 2 ^ 32
  unfolding subtractor_value target_of
  subtractor-4 h s =
      stores-word l (ap (λ (c : Change). c.write) (subtractor-does b k _ _ _ _ _ h ∙ difference-4 _ _ s))
      ∙ mod-mod (diff (sum (lent_target targets (k + 1)).addr (lent_entry entries (k + 1)).addend) (lent_target targets k).addr) (2 ^ 32)

  pub subtractor-8 : (lent_entry entries k).ty ≡ ARM64_RELOC_SUBTRACTOR → ((lent_entry entries k).size ≡ 4 → ⊥)
      → pointer_at entries f.section k
      ≡ diff (sum (lent_target targets (k + 1)).addr (lent_entry entries (k + 1)).addend) (lent_target targets k).addr
  unfolding subtractor_value target_of
  subtractor-8 h s =
      stores-pointer l (ap (λ (c : Change). c.write) (subtractor-does b k _ _ _ _ _ h ∙ difference-8 _ _ s))
      ∙ mod-eq_of_lt (diff-lt (sum (lent_target targets (k + 1)).addr (lent_entry entries (k + 1)).addend) (lent_target targets k).addr)

  -- POINTER_TO_GOT: the low 32 bits of G + A - P
  pub pointer-to-got : (lent_entry entries k).ty ≡ ARM64_RELOC_POINTER_TO_GOT
      → word_at entries f.section k ≡ diff (sum (lent_target targets k).got (lent_entry entries k).addend) (address_of b (lent_entry entries k)) % 2 ^ 32
  unfolding pointer_to_got slot_of
  pointer-to-got h =
      stores-word l (ap (λ (c : Change). c.write) (pointer-does b k _ _ _ _ _ h))
      ∙ mod-mod (diff (sum (lent_target targets k).got (lent_entry entries k).addend) (address_of b (lent_entry entries k))) (2 ^ 32)
