-- Calls for parts of an image, as a linker makes one for each subsection, beside one run over the whole image (RULES 9.31, 9.32).
use Rattle.std.specs.Prelude.{◌≡◌, ◌≢◌, List, ℕ, zero, suc, ◌+◌, ◌≤◌, ◌<◌, length, Ok}
use Rattle.util.specs.Part.{part}
use Rattle.macho.specs.Hint.{hint_count, hint_of}
use Rattle.macho.specs.declared.hint.HintRecord.{HintRecord}
use Rattle.image.specs.Words.{span}
use Rattle.image.specs.Local.{Apart}
use Rattle.arm64_hint_order.specs.Cursor.{object_at}
use Rattle.arm64_hint_places.specs.Hint.{offs_of, addrs_of, rels_of}
use Rattle.arm64_hint_work.specs.declared.tally.Tally.{Tally}
use Rattle.arm64_hint_run.specs.Run.{zeros, run_of}
use Rattle.arm64_hint_kept.specs.HintsKept.{word_bytes}

-- hint g with its entries is hint h with its own, but that its part begins a bytes earlier; object number and length of the part may be others
pub record SameHint (a : ℕ) (entries : List ℕ) (h : HintRecord) (entries' : List ℕ) (g : HintRecord) : Type 0 where
  pub kind : h.kind ≡ g.kind
  pub n : h.n ≡ g.n
  pub start : h.start ≡ a + g.start
  pub offsets : offs_of h ≡ offs_of g
  pub addresses : addrs_of h ≡ addrs_of g
  pub names : rels_of entries h ≡ rels_of entries' g

-- a call on the len bytes of an image from start on; its hint j is the run's hint `at j`
pub record Call : Type 0 where
  pub start : ℕ
  pub len : ℕ
  pub hints : List ℕ
  pub entries : List ℕ
  pub at : ℕ → ℕ

-- the call's image
abbrev pub part_of : Call → List ℕ → List ℕ
part_of c image = part image c.start c.len

-- the call's hints are hints of the run, in the run's list order; its object numbers rise where the run's rise, and are equal where the run's are
-- equal; no other hint of the run has a word in its bytes
pub record PartCall (hints entries : List ℕ) (c : Call) : Type 0 where
  pub inside : (j : ℕ) → j < hint_count c.hints → c.at j < hint_count hints
  pub rises : (i j : ℕ) → i < j → j < hint_count c.hints → c.at i < c.at j
  pub same : (j : ℕ) → j < hint_count c.hints → SameHint c.start entries (hint_of hints (c.at j)) c.entries (hint_of c.hints j)
  pub objects-rise : (i j : ℕ) → i < hint_count c.hints → j < hint_count c.hints
      → object_at hints (c.at i) < object_at hints (c.at j) → object_at c.hints i < object_at c.hints j
  pub objects-same : (i j : ℕ) → i < hint_count c.hints → j < hint_count c.hints
      → object_at hints (c.at i) ≡ object_at hints (c.at j) → object_at c.hints i ≡ object_at c.hints j
  pub others : (k : ℕ) → k < hint_count hints → ((j : ℕ) → j < hint_count c.hints → c.at j ≢ k)
      → Apart (span c.start c.len) (word_bytes (hint_of hints k))

-- the calls below m are such, inside the image, not refused, with the counts u; and each hint of the run is in one of them
pub record PartCalls (image hints entries : List ℕ) (m : ℕ) (call : ℕ → Call) (u : ℕ → Tally) : Type 0 where
  pub each : (c : ℕ) → c < m → PartCall hints entries (call c)
  pub within : (c : ℕ) → c < m → (call c).start + (call c).len ≤ length image
  pub done : (c : ℕ) → c < m → run_of (part_of (call c) image) (call c).hints (call c).entries ≡ Ok (u c)
  pub some : (k : ℕ) → k < hint_count hints → (c : ℕ) × (j : ℕ) × (c < m) × (j < hint_count (call c).hints) × ((call c).at j ≡ k)
  pub one : (c d i j : ℕ) → c < m → d < m → i < hint_count (call c).hints → j < hint_count (call d).hints → (call c).at i ≡ (call d).at j → c ≡ d

-- two tallies added
abbrev pub plus : Tally → Tally → Tally
plus t u =
    record {
      rewritten = t.rewritten + u.rewritten;
      skipped = t.skipped + u.skipped;
      declined = t.declined + u.declined;
      turned_down = t.turned_down + u.turned_down;
    }

-- those of the calls below m
abbrev pub added : (ℕ → Tally) → ℕ → Tally
added u zero = zeros
added u (suc m) = plus (added u m) (u m)
