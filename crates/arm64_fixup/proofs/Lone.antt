-- What stands at the place of an entry whose bytes no other entry writes: what its change on the lent bytes stores.
use mathlib.Core.Path.{◌≡◌, refl, ap, ◌∙◌}
use mathlib.Core.List.{List}
use Prim.Native.Nat.{ℕ, ◌+◌, ◌%◌, ◌^◌, ◌≤◌}
use native.Mathlib.Omega.{arith}
use lib.Dec.{eqb}
use lib.ListN.{length}
use Rattle.util.specs.Word.{le}
use Rattle.util.proofs.Word.{le-put}
use Rattle.arm64_fixup_entry.specs.Target.{width_of}
use Rattle.arm64_fixup_entry.specs.Change.{bytes_in}
use Rattle.arm64_fixup.specs.Walk.{lent_entry, lent_target, entry_count, stored, Fixed, change_at, fix_to}
use Rattle.arm64_fixup.specs.Footprint.{offset_at, width_at, Lone, word_at, pointer_at}
use Rattle.arm64_fixup_entry.specs.declared.target.Bases.{Bases}
use Rattle.arm64_fixup_entry.specs.declared.change.Write.{Write}
use Rattle.arm64_fixup_entry.specs.declared.change.Write.TheVariants.{Nothing, Word, Pointer}
use Rattle.arm64_fixup_entry.proofs.Sound.{Sound, sound}
use Rattle.arm64_fixup_entry.proofs.Width.{change-fits}
use Rattle.arm64_fixup.proofs.Works.{fit_at}
use Rattle.arm64_fixup.proofs.Whole.{accepts}
use Rattle.arm64_fixup.proofs.Bytewise.{worked-width, same-change}
use Rattle.arm64_fixup.proofs.Footprint.{only-word}

module _ {section : List ℕ} {b : Bases} {entries targets slots : List ℕ} {f : Fixed} {k : ℕ} (l : Lone section b entries targets slots f k) where
  -- the entry passed its check
  pub passed : Sound (length section) b (lent_entry entries k) (lent_target targets k) (eqb (k + 1) (entry_count entries))
  passed =
      sound (length section) b (lent_entry entries k) (lent_target targets k) (eqb (k + 1) (entry_count entries))
      (fit_at b entries targets section k l.worked (accepts section b entries targets slots l.accepted).fit l.listed refl refl refl)

  -- its step at its turn is the one on the lent bytes
  pub lent-step : change_at b entries targets (fix_to b entries targets section k).section k ≡ change_at b entries targets section k
  lent-step =
      same-change section b entries targets k l.listed (accepts section b entries targets slots l.accepted).fit
      (λ j p m t w. l.alone j p (omega (arith, l.listed)) (λ e. omega arith) t w) l.worked

  -- the bytes of its width at its place
  pub stands : (n : ℕ) → n ≤ width_at entries targets k
      → (offset_at entries k + n ≤ length section)
      × (le n f.section (offset_at entries k) ≡ le n (stored section (offset_at entries k) (change_at b entries targets section k).write) (offset_at entries k))
  stands n h =
      let s = passed in
      (omega (arith, worked-width entries targets k l.worked), only-word section b entries targets slots l.accepted k l.listed l.alone n h)

  -- a change stores no more than the width
  wide_enough : (n : ℕ) → bytes_in (change_at b entries targets section k).write ≡ n → n ≤ width_at entries targets k
  wide_enough n h =
      rw (← h, worked-width entries targets k l.worked)
      (change-fits b k (lent_entry entries k) (lent_target targets k) (lent_entry entries (k + 1)) (lent_target targets (k + 1)) (word_at entries section k))

  -- the word, or the pointer, that it stores
  pub stores-word : {v : ℕ} → (change_at b entries targets section k).write ≡ Word v → word_at entries f.section k ≡ v % 2 ^ 32
  stores-word {v} h =
      let w = stands 4 (wide_enough 4 (ap bytes_in h)) in
      w.1 ∙ ap (λ (x : Write). le 4 (stored section (offset_at entries k) x) (offset_at entries k)) h ∙ le-put 4 section (offset_at entries k) v w.0

  pub stores-pointer : {v : ℕ} → (change_at b entries targets section k).write ≡ Pointer v → pointer_at entries f.section k ≡ v % 2 ^ 64
  stores-pointer {v} h =
      let w = stands 8 (wide_enough 8 (ap bytes_in h)) in
      w.1 ∙ ap (λ (x : Write). le 8 (stored section (offset_at entries k) x) (offset_at entries k)) h ∙ le-put 8 section (offset_at entries k) v w.0

  -- the word that it leaves
  pub leaves_word : 4 ≤ width_of (lent_entry entries k) (lent_target targets k) → (change_at b entries targets section k).write ≡ Nothing
      → word_at entries f.section k ≡ word_at entries section k
  leaves_word n h =
      (stands 4 (rw (worked-width entries targets k l.worked) n)).1
      ∙ ap (λ (x : Write). le 4 (stored section (offset_at entries k) x) (offset_at entries k)) h
