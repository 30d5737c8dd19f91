-- The word that AUTHENTICATED_POINTER leaves at its place, for entry k of any accepted list that no SUBTRACTOR consumes and whose bytes no other entry
-- writes: its fields are the entry's own bytes, and number 16 keeps the distance from the image base whole.
use mathlib.Core.Path.{◌≡◌, refl, ap, ◌∙◌}
use mathlib.Core.Bool.{true, false}
use mathlib.Core.List.{List}
use Prim.Native.Nat.{ℕ, ◌+◌, ◌*◌, ◌%◌, ◌^◌, ◌<◌}
use native.Mathlib.Omega.{arith}
use native.Mathlib.Nat.{mod-eq_of_lt}
use Rattle.util.specs.Bits.{field}
use Rattle.util.specs.Diagram.{matches}
use Rattle.util.specs.Word.{le}
use Rattle.util.specs.Wrap.{sum, diff}
use Rattle.util.proofs.Wrap.{sum_lt, sum-diff}
use Rattle.macho.specs.Types.{ARM64_RELOC_AUTHENTICATED_POINTER}
use Rattle.macho.specs.Authenticated.{authenticated, address_diversity_of, key_of, authenticated_word}
use Rattle.macho.specs.Reloc.{reloc_at}
use Rattle.macho.specs.declared.reloc.Reloc.{Reloc}
use Rattle.macho.specs.declared.resolved.Resolved.{Resolved}
use Rattle.macho.proofs.Signing.{word_fields, signing-split}
use Rattle.arm64_fixup_entry.specs.Target.{imported_symbol, target_of, from_image}
use Rattle.arm64_fixup_entry.specs.Change.{authenticated_value}
use Rattle.arm64_fixup.specs.Walk.{lent_entry, lent_target, Fixed}
use Rattle.arm64_fixup.specs.Footprint.{Lone, pointer_at}
use Rattle.arm64_fixup_entry.specs.declared.target.Bases.{Bases}
use Rattle.arm64_fixup_entry.specs.declared.change.Change.{Change}
use Rattle.arm64_fixup_entry.proofs.Sound.{near-image}
use Rattle.arm64_fixup_entry.proofs.ByType.{authenticated-does}
use Rattle.arm64_fixup.proofs.Lone.{passed, stores-pointer}

-- the distance in 32 bits
low : ℕ → ℕ
low x = x % 2 ^ 32

low-lt : (x : ℕ) → low x < 2 ^ 32
unfolding low
low-lt x = omega arith

value-is : (b : Bases) (e : Reloc) (t : Resolved) → authenticated_value b e t ≡ authenticated_word (low (from_image b e t)) e.signing
unfolding authenticated_value low
value-is b e t = refl

module _ {section : List ℕ} {b : Bases} {entries targets slots : List ℕ} {f : Fixed} {k : ℕ} (l : Lone section b entries targets slots f k)
    (type : (lent_entry entries k).ty ≡ ARM64_RELOC_AUTHENTICATED_POINTER) (own : imported_symbol (lent_entry entries k) (lent_target targets k) ≡ false)
  where
    -- of anything but an imported symbol: the word of its distance and of its four bytes
    pub authenticated-word : pointer_at entries f.section k ≡ authenticated_value b (lent_entry entries k) (lent_target targets k)
    authenticated-word =
        stores-pointer l (ap (λ (c : Change). c.write) (authenticated-does b k _ _ _ _ _ type own))
        ∙ mod-eq_of_lt (rw (value-is b (lent_entry entries k) (lent_target targets k)) (word_fields _ (lent_entry entries k).signing (low-lt _)).1)

    word-is : pointer_at entries f.section k
        ≡ authenticated_word (low (from_image b (lent_entry entries k) (lent_target targets k))) (le 4 entries (24 * k + 12))
    unfolding reloc_at
    word-is = authenticated-word ∙ value-is b (lent_entry entries k) (lent_target targets k)

    -- its fields are bytes 12 to 15 of the lent entry, of byte 14 the low bit and of byte 15 the low two; bits 51 to 62 are zero, bit 63 is set
    pub authenticated-fields : let w = pointer_at entries f.section k in
        (matches authenticated w ≡ true)
        × (w < 2 ^ 64)
        × (field w 32 16 ≡ le 2 entries (24 * k + 12))
        × (field w 48 1 ≡ le 1 entries (24 * k + 14) % 2)
        × (field w 49 2 ≡ le 1 entries (24 * k + 15) % 4)
        × (field w 51 12 ≡ 0)
        × (field w 63 1 ≡ 1)
    authenticated-fields =
        let d : ℕ = from_image b (lent_entry entries k) (lent_target targets k) in
        let s : ℕ = le 4 entries (24 * k + 12) in
        let p = signing-split entries (24 * k + 12) in
        let w = word_fields (low d) s (low-lt d) in
        let at14 : 24 * k + 12 + 2 ≡ 24 * k + 14 = omega arith in
        let at15 : 24 * k + 12 + 3 ≡ 24 * k + 15 = omega arith in
        let two : address_diversity_of s % 2 ≡ le 1 entries (24 * k + 14) % 2 = ap (λ (x : ℕ). x % 2) (p.1 ∙ ap (le 1 entries) at14) in
        let three : key_of s % 4 ≡ le 1 entries (24 * k + 15) % 4 = ap (λ (x : ℕ). x % 4) (p.2 ∙ ap (le 1 entries) at15) in
        rw word-is (w.0, w.1, w.3 ∙ p.0, w.4 ∙ two, w.5 ∙ three, w.6, w.7)

    -- the low 32 bits count from the image base: together they are S + A, with nothing cut off
    pub authenticated-from-image : b.image_base < 2 ^ 64
        → sum b.image_base (field (pointer_at entries f.section k) 0 32) ≡ sum (lent_target targets k).addr (lent_entry entries k).addend
    unfolding from_image target_of low
    authenticated-from-image h =
        let e = lent_entry entries k in
        let t = lent_target targets k in
        let distance : field (pointer_at entries f.section k) 0 32 ≡ diff (target_of e t) b.image_base =
        ap (λ (w : ℕ). field w 0 32) word-is
        ∙ (word_fields (low (from_image b e t)) (le 4 entries (24 * k + 12)) (low-lt (from_image b e t))).2
        ∙ mod-eq_of_lt (near-image (passed l) type own) in
        rw distance (sum-diff (target_of e t) b.image_base (sum_lt t.addr e.addend) h)
