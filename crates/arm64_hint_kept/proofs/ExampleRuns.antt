-- Runs of several hints: one with one of each count, three that each meet every premise, and one whose order within an object shows; and a hint whose
-- places fall. Each fact is computed, or follows from the claims (RULES 9.27 to 9.29).
use Rattle.std.specs.Prelude.{Ok}
use mathlib.Core.Path.{◌≡◌, refl, ap, ◌∙◌, subst}
use mathlib.Core.Bool.{Bool, true, false, not}
use mathlib.Core.List.{List, [], ◌∷◌}
use Prim.Native.Nat.{ℕ, ◌<◌}
use native.Mathlib.Omega.{arith}
use borrow.Author.Tests.{not-true}
use lib.Dec.{lit<}
use Rattle.util.proofs.Below.{every, every-at}
use Rattle.macho.specs.Hint.{hint_count, hint_of}
use Rattle.image.specs.Steps.{Work}
use Rattle.arm64_hint_order.specs.Lists.{Once}
use Rattle.arm64_hint_order.specs.Cursor.{order_of}
use Rattle.arm64_machine.specs.Machine.{Other, State, run}
use Rattle.arm64_machine.specs.Examples.{start, idle}
use Rattle.arm64_machine.specs.Premises.{links_vector}
use Rattle.arm64_machine.specs.SameRun.{spared, Agree}
use Rattle.arm64_machine.specs.Tests.{each}
use Rattle.arm64_machine.proofs.FairTest.{misses, misses-by}
use Rattle.arm64_hint_places.specs.Hint.{is_skipped, addrs_of}
use Rattle.arm64_hint_work.specs.declared.tally.Tally.{Tally}
use Rattle.arm64_hint_run.specs.Run.{worked, run_of, image_of}
use Rattle.arm64_hint_kept.specs.HintsKept.{codes, KeepsOrder, PartsApart, Alone, Fair, Close, HintsKept, Premises, NoneData}
use Rattle.arm64_hint_kept.specs.Examples.{words, lent, pair, counts}
use Rattle.arm64_hint_kept.specs.ExampleRuns.{four, four_words, four_after, beside, beside_words, beside_after, falling, late, AllEnd}
use Rattle.arm64_hint_kept.proofs.Computing.{records, runs, machine}
use Rattle.arm64_hint_kept.proofs.Tests.{far_from, meets_all, premises-when, fair-when, alone-by, parts-by, once_by, kept_by}
use Rattle.arm64_hint_kept.proofs.HintsKept.{hints-kept, literal, literally}

-- ---- one of each

pub own-order : order_of (lent four) ≡ 1 ∷ 2 ∷ 3 ∷ 0 ∷ []
unfolding records
own-order = refl

pub one-of-each : run_of four_words (lent four) pair ≡ Ok (counts 1 1 1 1)
unfolding runs
one-of-each = refl

pub left : image_of four_words (lent four) pair ≡ four_after
unfolding runs
left = refl

-- the list 0, 1, 2, 3 is another that keeps each object's own order
abbrev other : List ℕ
other = 0 ∷ 1 ∷ 2 ∷ 3 ∷ []

once : Once (hint_count (lent four)) other
unfolding records
once = once_by 4 other refl refl

kept : KeepsOrder (lent four) other
unfolding records
kept = kept_by (lent four) other once refl

apart : PartsApart (lent four)
unfolding runs
apart = parts-by (lent four) refl

-- so it leaves the run's image and tally, by the first claim (RULES 9.27)
pub other-list : worked four_words (lent four) pair other ≡ record { image = four_after; tally = counts 1 1 1 1 }
other-list =
    (hints-kept four_words (lent four) pair (counts 1 1 1 1) one-of-each other once).order apart kept
    ∙ ap (λ (image : List ℕ). record { image = image; tally = counts 1 1 1 1 }) left

-- and the words of position 0, which no other hint shares, run in its last image as in the first
fair-first : Fair (hint_of (lent four) 0) four_words
unfolding runs machine
fair-first = fair-when (hint_of (lent four) 0) four_words refl

alone-first : Alone (lent four) 0
unfolding runs
alone-first = alone-by (lent four) 0 refl

pub other-ends : Close (hint_of (lent four) 0) four_words four_after
unfolding runs
other-ends =
    subst (Close (hint_of (lent four) 0) four_words) (ap (λ (w : Work Tally). w.image) other-list)
    ((hints-kept four_words (lent four) pair (counts 1 1 1 1) one-of-each other once).ends 0 (lit< tt) refl alone-first fair-first)

-- ---- three hints, each of which meets every premise

pub all_done : (order_of (lent beside) ≡ 2 ∷ 0 ∷ 1 ∷ []) × (run_of beside_words (lent beside) pair ≡ Ok (counts 3 0 0 0))
unfolding runs
all_done = (refl, refl)

-- what every hint of a list meets, computed at each position
module _ (image hints entries l last : List ℕ) (t : Tally) (o : Other) (s : State) where
  pub all-end-by : run_of image hints entries ≡ Ok t → Once (hint_count hints) l → (worked image hints entries l).image ≡ last → s.log ≡ []
      → every (λ k. not (is_skipped (hint_of hints k))) (hint_count hints) ≡ true
      → every (λ k. every (far_from hints k) (hint_count hints)) (hint_count hints) ≡ true
      → every (λ k. every (λ j. each (misses (λ p. p) (addrs_of (hint_of hints j))) (run o (codes (hint_of hints k) image) s).log) (hint_count hints))
      (hint_count hints) ≡ true
      → every (λ k. meets_all (hint_of hints k) image o s) (hint_count hints) ≡ true → AllEnd image hints entries l last o s
  all-end-by done single leaves bare a b c d = record {
    leaves = leaves;
    not-skipped = not-skipped;
    alone = alone;
    none-data = none-data;
    meets = meets;
    agree = λ k h. subst (Ran k) leaves ((literally image hints entries l t kept).ends alone k h (not-skipped k h) o s (none-data k h) (meets k h));
    close = λ k h. subst (Close (hint_of hints k) image) leaves (kept.ends k h (not-skipped k h) (alone k h) (literal (hint_of hints k) image o s (meets k h)));
  }
    where
      Ran : ℕ → List ℕ → Type 0
      Ran k y = Agree (spared (codes (hint_of hints k) image)) (run o (codes (hint_of hints k) image) s) (run o (codes (hint_of hints k) y) s)

      kept : HintsKept image hints entries l t
      kept = hints-kept image hints entries t done l single

      not-skipped : (k : ℕ) → k < hint_count hints → is_skipped (hint_of hints k) ≡ false
      not-skipped k h = not-true (is_skipped (hint_of hints k)) (every-at (λ k. not (is_skipped (hint_of hints k))) (hint_count hints) a k h)

      alone : (k : ℕ) → k < hint_count hints → Alone hints k
      alone k h = alone-by hints k (every-at (λ k. every (far_from hints k) (hint_count hints)) (hint_count hints) b k h)

      none-data : (k : ℕ) → k < hint_count hints → (j : ℕ) → j < hint_count hints
          → NoneData (addrs_of (hint_of hints j)) (run o (codes (hint_of hints k) image) s).log
      none-data k h j i =
          let log = (run o (codes (hint_of hints k) image) s).log in
          let away : ℕ → ℕ → Bool = λ k j. each (misses (λ p. p) (addrs_of (hint_of hints j))) (run o (codes (hint_of hints k) image) s).log in
          misses-by (λ p. p) (addrs_of (hint_of hints j)) log
          (every-at (away k) (hint_count hints) (every-at (λ k. every (away k) (hint_count hints)) (hint_count hints) c k h) j i)

      meets : (k : ℕ) → k < hint_count hints → Premises (hint_of hints k) image o s
      meets k h =
          premises-when (hint_of hints k) image o s bare (every-at (λ k. meets_all (hint_of hints k) image o s) (hint_count hints) d k h)

-- by the run's own list, and by the list 1, 0, 2, which does not keep object 1's own order
pub all_end : AllEnd beside_words (lent beside) pair (2 ∷ 0 ∷ 1 ∷ []) beside_after idle start
    × AllEnd beside_words (lent beside) pair (1 ∷ 0 ∷ 2 ∷ []) beside_after idle start
unfolding runs machine links_vector
all_end = (
  all-end-by beside_words (lent beside) pair (2 ∷ 0 ∷ 1 ∷ []) beside_after (counts 3 0 0 0) idle start
      refl (once_by 3 (2 ∷ 0 ∷ 1 ∷ []) refl refl) refl refl refl refl refl refl,
  all-end-by beside_words (lent beside) pair (1 ∷ 0 ∷ 2 ∷ []) beside_after (counts 3 0 0 0) idle start
      refl (once_by 3 (1 ∷ 0 ∷ 2 ∷ []) refl refl) refl refl refl refl refl refl,
)

-- ---- a hint whose places fall: its first word stands after its second

pub fall-done : run_of (words (0xf9400401 ∷ 0x90000000 ∷ [])) (lent falling) pair ≡ Ok (counts 1 0 0 0)
unfolding runs
fall-done = refl

fall-leaves : (worked (words (0xf9400401 ∷ 0x90000000 ∷ [])) (lent falling) pair (0 ∷ [])).image ≡ words (0x58000041 ∷ 0xd503201f ∷ [])
unfolding runs
fall-leaves = refl

pub fall-left : image_of (words (0xf9400401 ∷ 0x90000000 ∷ [])) (lent falling) pair ≡ words (0x58000041 ∷ 0xd503201f ∷ [])
unfolding runs
fall-left = refl

pub falling-ends : Close (hint_of (lent falling) 0) (words (0xf9400401 ∷ 0x90000000 ∷ [])) (words (0x58000041 ∷ 0xd503201f ∷ []))
unfolding runs machine
falling-ends =
    let image = words (0xf9400401 ∷ 0x90000000 ∷ []) in
    let d = hints-kept image (lent falling) pair (counts 1 0 0 0) fall-done (0 ∷ []) (once_by 1 (0 ∷ []) refl refl) in
    subst (Close (hint_of (lent falling) 0) image) fall-leaves
    (d.ends 0 (lit< tt) refl (alone-by (lent falling) 0 refl) (fair-when (hint_of (lent falling) 0) image refl))

-- ---- an object whose hint of kind 1 stands first, and is worked last

pub late-order : order_of (lent late) ≡ 1 ∷ 0 ∷ []
unfolding records
late-order = refl

-- the literal load is made, and ADRP_ADRP then declines
pub late-run : (run_of (words (0x90000000 ∷ 0x90000000 ∷ 0xf9400401 ∷ [])) (lent late) pair ≡ Ok (counts 1 0 1 0))
    × (image_of (words (0x90000000 ∷ 0x90000000 ∷ 0xf9400401 ∷ [])) (lent late) pair ≡ words (0x90000000 ∷ 0xd503201f ∷ 0x58000001 ∷ []))
unfolding runs
late-run = (refl, refl)

-- each hint at its turn, in that order and in the other, though they share a word: the words run after its step as before it
abbrev first : List ℕ
first = words (0x90000000 ∷ 0x90000000 ∷ 0xf9400401 ∷ [])

-- position 1 on the first image; position 0, which declines, on what it left; position 0 on the first image, where it drops the second ADRP
pub each_turn : Close (hint_of (lent late) 1) first (words (0x90000000 ∷ 0xd503201f ∷ 0x58000001 ∷ []))
    × Close (hint_of (lent late) 0) (words (0x90000000 ∷ 0xd503201f ∷ 0x58000001 ∷ [])) (words (0x90000000 ∷ 0xd503201f ∷ 0x58000001 ∷ []))
    × Close (hint_of (lent late) 0) first (words (0x90000000 ∷ 0xd503201f ∷ 0xf9400401 ∷ []))
unfolding runs machine
each_turn =
    let own = hints-kept first (lent late) pair (counts 1 0 1 0) late-run.0 (1 ∷ 0 ∷ []) (once_by 2 (1 ∷ 0 ∷ []) refl refl) in
    let round = hints-kept first (lent late) pair (counts 1 0 1 0) late-run.0 (0 ∷ 1 ∷ []) (once_by 2 (0 ∷ 1 ∷ []) refl refl) in (
      own.turn [] 1 (0 ∷ []) refl refl (fair-when (hint_of (lent late) 1) first refl),
      own.turn (1 ∷ []) 0 [] refl refl (fair-when (hint_of (lent late) 0) (words (0x90000000 ∷ 0xd503201f ∷ 0x58000001 ∷ [])) refl),
      round.turn [] 0 (1 ∷ []) refl refl (fair-when (hint_of (lent late) 0) first refl),
    )

-- the list 0, 1 does not keep the object's own order, and leaves another image
pub by-position : worked (words (0x90000000 ∷ 0x90000000 ∷ 0xf9400401 ∷ [])) (lent late) pair (0 ∷ 1 ∷ [])
    ≡ record { image = words (0x90000000 ∷ 0xd503201f ∷ 0xf9400401 ∷ []); tally = counts 1 0 1 0 }
unfolding runs
by-position = refl

pub not-kept : KeepsOrder (lent late) (0 ∷ 1 ∷ []) → ⊥
unfolding records
not-kept k =
    let e : ◌≡◌ {A = List ℕ} (0 ∷ 1 ∷ []) (1 ∷ 0 ∷ []) = k 0 in
    let z : ◌≡◌ {A = ℕ} 0 1 = cc in
    omega arith

-- ---- a list that breaks the order of an object

pub order-broken : KeepsOrder (lent beside) (1 ∷ 0 ∷ 2 ∷ []) → ⊥
unfolding records
order-broken k =
    let e : ◌≡◌ {A = List ℕ} (1 ∷ 0 ∷ []) (0 ∷ 1 ∷ []) = k 1 in
    let z : ◌≡◌ {A = ℕ} 0 1 = cc in
    omega arith
