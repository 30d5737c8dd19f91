-- Linker optimization hints: the laws of every decision, and of a run's answers.
use Rattle.std.specs.Prelude.{Option, Some}
use mathlib.Core.Path.{◌≡◌, subst}
use Prim.Native.Nat.{ℕ, ◌^◌, ◌<◌}
use Rattle.arm64_hint_laws.proofs.Hinted as Hinted
use Rattle.arm64_hint_laws.proofs.Hinted.{KeepsThird, Worded}
use Rattle.arm64_hint_laws.proofs.Occurs as Occurs
use Rattle.arm64_hint_laws.proofs.RustOrder as RustOrder
use Rattle.arm64_hint_laws.proofs.AdrFirst as AdrFirst
use Rattle.arm64_hint_laws.proofs.Unallocated as Unallocated
use Rattle.arm64_hint_laws.proofs.Number31 as Number31
use Rattle.arm64_hint_laws.proofs.Written as Written
use Rattle.arm64_hint_laws.proofs.Written.{Fits, AllFit}
use Rattle.arm64_hint_words.proofs.hint.Hint.get.Met as Get
use Rattle.arm64_hint_words.proofs.hint.Hint.set.Met as Set'
use Rattle.arm64_hint_words.proofs.hint.Hint.addr.Met as Addr
use Rattle.arm64_hint_words.proofs.hint.Hint.has_page_pair.Met as HasPagePair
use Rattle.arm64_hint_run.proofs.Answers as Answers
use Rattle.arm64_hint_run.proofs.Skipped as Skipped
use Rattle.arm64_hint_run.proofs.Declines.{unallocated-leaves, leaves-31}
use Rattle.arm64_hint_kept.proofs.Unallocated.{unallocated-decline}
use Rattle.arm64_hint_kept.proofs.Number31.{number-31-declines, number-31-stays}
use Rattle.claims.specs.Hints.{Hints}

-- a new word that fits is a word of 32 bits
set-fits : {n : Option ℕ} {w : ℕ} → Fits n → n ≡ Some w → w < 2 ^ 32
set-fits h e = subst Fits e h

pub hints : Hints
hints =
    record {
      skipped = Answers.skipped-kinds;
      skipped-leaves = λ hints entries. Skipped.idle-step entries hints;
      counts = Hinted.counts;
      no_kind = Hinted.no_kind;
      entries = Hinted.entries;
      two-targets = Hinted.two-targets;
      two-addends = Hinted.two-addends;
      references = Hinted.references;
      exceptions = Occurs.occurs;
      unallocated-declines = Unallocated.unallocated-declines;
      unallocated-leaves = unallocated-leaves;
      unallocated-examples = unallocated-decline;
      rewritten-allocated = Unallocated.rewritten-allocated;
      declines-31 = Number31.meets-declines;
      else-by-rule = Number31.as_before;
      leaves-31 = leaves-31;
      examples-31 = number-31-declines;
      stays-31 = number-31-stays;
      words = λ n s r p e. subst (Worded s n) e (Hinted.worded n s r);
      written = Written.written;
      moved = RustOrder.moved;
      moved_word = RustOrder.moved_word;
      moved-only = RustOrder.moved-only;
      moved-examples = RustOrder.moved-examples;
      got-str-adr = AdrFirst.got-str-adr;
      got-ldr-adr = AdrFirst.got-ldr-adr;
      got-ldr-adr-far = AdrFirst.got-ldr-adr-far;
      two-words = λ n s r p two e. subst KeepsThird e (Hinted.two-words n s r two);
      all_fit = λ n s r p w e. let f = subst AllFit e (Written.all_fit n s r) in (set-fits f.0, set-fits f.1, set-fits f.2);
      counts-sum = Answers.counts-sum;
      nine-leaves = Answers.nine-leaves;
      nine-goes-on = Answers.nine-goes-on;
      hint-get = λ M. Get.met;
      hint-set = λ M. Set'.met;
      hint-addr = λ M. Addr.met;
      hint-has-page-pair = λ M. HasPagePair.met;
    }
