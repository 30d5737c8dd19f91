-- What a run of hints keeps (RULES 1.9 to 1.14, 9.12 to 9.30): what is claimed of a hint's step, and of every list of a run's hint steps.
-- The run, its image and tally, and the words of a hint are those that the contracts of arm64_hint_run cite; the machine is arm64_machine's.
use Rattle.std.specs.Prelude.{◌≡◌, Bool, false, ◌&&◌, not, List, [], ◌∷◌, ◌++◌, map, ℕ, ◌+◌, ◌<◌}
use Rattle.util.specs.Wrap.{sum}
use Rattle.util.specs.Word.{le}
use Rattle.macho.specs.declared.hint.HintRecord.{HintRecord}
use Rattle.macho.specs.Hint.{hint_count, hint_of}
use Rattle.image.specs.Words.{span, in_words}
use Rattle.image.specs.Local.{Apart}
use Rattle.arm64_hint_order.specs.Runs as Runs
use Rattle.arm64_hint_order.specs.Cursor.{object_at, late_at}
use Rattle.arm64_hint_order.specs.Runs.{ObjectsApart}
use Rattle.arm64_machine.specs.Machine.{Access, State, Placed, placed, Other, run}
use Rattle.arm64_machine.specs.SameRun.{spared, Agree, SameRun, CloseRun}
use Rattle.arm64_machine.specs.Premises.{Each, touches, FairWords, WordPremises}
use Rattle.arm64_hint_places.specs.Hint.{is_skipped, insns_in, addrs_of}
use Rattle.arm64_hint_work.specs.Step.{places_of}
use Rattle.arm64_hint_work.specs.declared.tally.Tally.{Tally}
use Rattle.arm64_hint_run.specs.Run.{worked, image_of}

-- ---- hints and their bytes

-- what the machine is fed: the words of a hint's places in an image, each with its lent address
abbrev pub codes : HintRecord → List ℕ → List Placed
codes h image = map (λ i. placed (le 4 image (h.start + i.off)) i.addr) (insns_in h)

-- the image bytes of a hint's part; none of a hint that is skipped
abbrev pub part_bytes : HintRecord → ℕ → Bool
part_bytes h b = not (is_skipped h) && span h.start h.len b

-- and those of its words
abbrev pub word_bytes : HintRecord → ℕ → Bool
word_bytes h = in_words (places_of h)

-- words at places that share no image byte
abbrev pub Disjoint : List ℕ → Type 0
Disjoint [] = Unit {0}
Disjoint (at ∷ places) = Apart (span at 4) (in_words places) × Disjoint places

-- ---- lists of hint steps

-- each object's own order is kept: its hints stand in the list as in the run's order of work
abbrev pub KeepsOrder : List ℕ → List ℕ → Type 0
KeepsOrder hints = Runs.Kept (object_at hints) (late_at hints) (hint_count hints)

-- different objects' parts share no byte
abbrev pub PartsApart : List ℕ → Type 0
PartsApart hints = ObjectsApart (hint_count hints) (object_at hints) (λ k. part_bytes (hint_of hints k))

-- no other hint shares a byte with hint k
abbrev pub Alone : List ℕ → ℕ → Type 0
Alone hints = Runs.Alone (hint_count hints) (λ k. word_bytes (hint_of hints k))

-- ---- the statement

-- what is supposed of a hint's words in an image: they share no byte, and are fair (arm64_machine, FairWords: aligned, no-store)
pub record Fair (h : HintRecord) (image : List ℕ) : Type 0 where
  pub disjoint : Disjoint (places_of h)
  pub words : FairWords (codes h image)

-- a hint's words in a later image run as they do in this one, from every state and whatever other words do (arm64_machine, SameRun)
abbrev pub Same : HintRecord → List ℕ → List ℕ → Type 0
Same h image later = SameRun (codes h image) (codes h later)

-- and closely: but for registers alone that a word which is replaced wrote (arm64_machine, CloseRun)
abbrev pub Close : HintRecord → List ℕ → List ℕ → Type 0
Close h image later = CloseRun (codes h image) (codes h later)

-- what is claimed of a list l of the hint steps of a run that counts t
pub record HintsKept (image hints entries l : List ℕ) (t : Tally) : Type 0 where
  -- different objects' parts apart and each object's own order kept: image and tally are the run's
  pub order : PartsApart hints → KeepsOrder hints l → worked image hints entries l ≡ record { image = image_of image hints entries; tally = t }
  -- each hint at its turn, on the image that the steps before it left: its words run after its step closely as before it
  pub turn : (a : List ℕ) (k : ℕ) (b : List ℕ) → l ≡ a ++ k ∷ b → is_skipped (hint_of hints k) ≡ false
      → Fair (hint_of hints k) (worked image hints entries a).image
      → Close (hint_of hints k) (worked image hints entries a).image (worked image hints entries (a ++ k ∷ [])).image
  -- each hint that shares no byte with another: its words run in the list's last image closely as in its first
  pub ends : (k : ℕ) → k < hint_count hints → is_skipped (hint_of hints k) ≡ false → Alone hints k
      → Fair (hint_of hints k) image → Close (hint_of hints k) image (worked image hints entries l).image

-- ---- the claim with every premise (RULES 1.9 to 1.13)

-- every premise (RULES 9.12 to 9.20) on a sequence and its run from state s, also those that Fair leaves out (arm64_machine, WordPremises:
-- the two of FairWords, empty-at-first, allocated, none-data, no-sum-passes and no-vector-link)
pub record Premises (h : HintRecord) (image : List ℕ) (o : Other) (s : State) : Type 0 where
  pub disjoint : Disjoint (places_of h)
  pub words : WordPremises (codes h image) o s

-- the accesses touch no byte of a word at these addresses
abbrev pub NoneData : List ℕ → List Access → Type 0
NoneData addresses log = Each (λ a. Each (λ p. Each (λ i. touches a (sum p i) ≡ false) (0 ∷ 1 ∷ 2 ∷ 3 ∷ [])) addresses) log

-- the claim with those premises, and for the last image: no two hints share a byte, and no hint's word is data of the sequence's run
pub record Literally (image hints entries l : List ℕ) (t : Tally) : Type 0 where
  pub order : PartsApart hints → KeepsOrder hints l → worked image hints entries l ≡ record { image = image_of image hints entries; tally = t }
  pub turn : (a : List ℕ) (k : ℕ) (b : List ℕ) → l ≡ a ++ k ∷ b → is_skipped (hint_of hints k) ≡ false → (o : Other) (s : State)
      → let h = hint_of hints k in
      let before = (worked image hints entries a).image in
      let after = (worked image hints entries (a ++ k ∷ [])).image in
      Premises h before o s → Agree (spared (codes h before)) (run o (codes h before) s) (run o (codes h after) s)
  pub ends : ((k : ℕ) → k < hint_count hints → Alone hints k) → (k : ℕ) → k < hint_count hints → is_skipped (hint_of hints k) ≡ false
      → (o : Other) (s : State)
      → let h = hint_of hints k in
      let last = (worked image hints entries l).image in
      ((j : ℕ) → j < hint_count hints → NoneData (addrs_of (hint_of hints j)) (run o (codes h image) s).log)
      → Premises h image o s → Agree (spared (codes h image)) (run o (codes h image) s) (run o (codes h last) s)
