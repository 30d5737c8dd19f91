-- The words of a hint that is not turned down lie in its part of the image, as RULES 9.27 supposes it. Carried by the check.
use Rattle.std.specs.Prelude.{Ok}
use mathlib.Core.Path.{◌≡◌, refl, sym, ap, ◌∙◌}
use mathlib.Core.Bool.{Bool, true, false, true≢false}
use mathlib.Core.List.{List, map}
use Prim.Native.Nat.{ℕ, ◌+◌, ◌≤◌, ◌<◌}
use native.Mathlib.Omega.{arith}
use lib.ListN.{length}
use Rattle.util.specs.All.{All, empty, more}
use Rattle.macho.specs.declared.hint.HintInsn.{HintInsn}
use Rattle.macho.specs.declared.hint.HintRecord.{HintRecord}
use Rattle.macho.specs.Hint.{hint_count, hint_of}
use Rattle.image.specs.Words.{span, in_words}
use Rattle.image.specs.Steps.{foot_of}
use Rattle.image.proofs.Words.{words_inside}
use Rattle.arm64_hint_places.specs.Hint.{is_skipped, Inside}
use Rattle.arm64_hint_places.proofs.Places.{insns-none}
use Rattle.arm64_hint_check.specs.Check.{check_all}
use Rattle.arm64_hint_check.proofs.Checks.{ready, each-fit}
use Rattle.arm64_hint_work.specs.Step.{places_of, steps_of}

-- offsets inside a part are places inside the part of the image
moved : (start len : ℕ) {offs : List ℕ} → All (λ at. at + 4 ≤ len) offs
    → All (λ at. (start ≤ at) × (at + 4 ≤ start + len)) (map (λ at. start + at) offs)
moved start len empty = empty
moved start len (more {k = at} h rest) = more {k = start + at} (omega arith, omega arith) (moved start len rest)

pub places-inside : (h : HintRecord) → Inside h h.len → All (λ at. (h.start ≤ at) × (at + 4 ≤ h.start + h.len)) (places_of h)
places-inside h i = moved h.start h.len i.words

-- a byte of a hint's words: the hint is not skipped, and the byte is one of its part
pub in-part : (image hints entries : List ℕ) → check_all (length image) hints (length entries) ≡ Ok tt → (k : ℕ) → k < hint_count hints → (b : ℕ)
    → foot_of (steps_of hints entries) k b ≡ true → (is_skipped (hint_of hints k) ≡ false) × (span (hint_of hints k).start (hint_of hints k).len b ≡ true)
in-part image hints entries fit k l b inside = go (is_skipped (hint_of hints k)) refl
  where
    go : (t : Bool) → is_skipped (hint_of hints k) ≡ t
        → (is_skipped (hint_of hints k) ≡ false) × (span (hint_of hints k).start (hint_of hints k).len b ≡ true)
    go true e =
        absurd (true≢false (sym inside
        ∙ ap (λ (is : List HintInsn). in_words (map (λ at. (hint_of hints k).start + at) (map (λ i. i.off) is)) b) (insns-none (hint_of hints k) e)))
    go false e =
        let h = hint_of hints k in
        let q = ready (length image) (length entries) h h refl (each-fit (length image) hints (length entries) fit k l) e in
        (e, words_inside h.start h.len (places-inside h q.words) b inside)
