-- What a run of hints keeps: the theorems of arm64_hint_kept, of the order and of the machine.
use mathlib.Core.Path.{refl}
use native.Mathlib.Omega.{arith}
use lib.Dec.{lit<}
use Rattle.util.specs.Choice.{choose}
use Rattle.macho.specs.Hint.{hint_count}
use Rattle.arm64_insn.specs.LoadStoreTable.{row_of, literal_row_of}
use Rattle.arm64_insn.specs.Manual.{decode}
use Rattle.arm64_insn.specs.ManualTargets.{literal_target, access_address}
use Rattle.arm64_insn.specs.Page.{page_of, adrp_page}
use Rattle.arm64_machine.specs.Machine.{action}
use Rattle.arm64_machine.specs.SameRun.{SameRun}
use Rattle.arm64_machine.proofs.Close.{close-same}
use Rattle.arm64_machine.proofs.Links.{makes-is, takes-is, links-is, adds-is, adds-only}
use Rattle.arm64_machine.proofs.Different as Different
use Rattle.arm64_machine.proofs.Examples as Machine
use Rattle.arm64_machine.proofs.Pinned as Pinned
use Rattle.arm64_hint_order.specs.Cursor.{object_at, late_at}
use Rattle.arm64_hint_order.proofs.Own as Own
use Rattle.arm64_hint_run.proofs.Answers.{run_is}
use Rattle.arm64_hint_kept.proofs.HintsKept as K
use Rattle.arm64_hint_kept.proofs.PartCalls.{part-call}
use Rattle.arm64_hint_kept.proofs.AllParts.{part-calls}
use Rattle.arm64_hint_kept.proofs.ExampleCalls.{called}
use Rattle.arm64_hint_kept.proofs.Decisions.{decided}
use Rattle.arm64_hint_kept.proofs.Folds.{fold-keeps, orders-alike}
use Rattle.arm64_hint_kept.proofs.Examples as Examples
use Rattle.arm64_hint_kept.proofs.ExampleRuns as Runs
use Rattle.arm64_hint_kept.proofs.Needed as Needed
use Rattle.arm64_hint_kept.proofs.Unallocated.{rewritten-words-allocated}
use Rattle.arm64_hint_kept.proofs.Number31.{rewritten-without-31}
use Rattle.claims.specs.Kept.{one, two, Kept}

refuted : (SameRun (one 0x1004 0xf9400401) (one 0x1004 0xd503201f) → ⊥)
    × (SameRun (one 0x1004 0xb9000801) (one 0x1004 0xd503201f) → ⊥)
    × (SameRun (one 0x1000 0x90000000) (one 0x1000 0xd503201f) → ⊥)
    × (SameRun (two 0x1000 0x1004 0x90000000 0xf9800000) (two 0x1000 0x1004 0xd503201f 0xf9800000) → ⊥)
    × (SameRun (one 0x1000 0xd61f0200) (one 0x1000 0xd2800000) → ⊥)
    × (SameRun (two 0x1000 0x1004 0x90000000 0xb9800401) (two 0x1000 0x1004 0xd503201f 0x18000001) → ⊥)
unfolding action decode choose row_of literal_row_of page_of adrp_page literal_target access_address
refuted = (
  Different.access-dropped 0xf9400401 0xd503201f refl refl,
  Different.access-dropped 0xb9000801 0xd503201f refl refl,
  Different.adrp-dropped 0x90000000 0xd503201f refl refl (lit< tt),
  Different.adrp-dropped-before 0x90000000 0xd503201f 0xf9800000 refl refl refl (lit< tt),
  Different.other-replaced 0xd61f0200 0xd2800000 refl refl (λ e. omega arith),
  Different.sign-lost 0x90000000 0xb9800401 0xd503201f 0x18000001 refl refl refl refl (lit< tt),
)

pub kept : Kept
kept =
    record {
      hints-kept = K.hints-kept;
      own-list = K.own-list;
      own-rising = λ hints. Own.own-rising (object_at hints) (late_at hints) (hint_count hints);
      own-only = λ hints l. Own.own-only (object_at hints) (late_at hints) (hint_count hints) l;
      run_is = run_is;
      rewritten-words-allocated = λ entries h image. rewritten-words-allocated h image entries;
      rewritten-without-31 = λ entries h image. rewritten-without-31 h image entries;
      makes-written = makes-is;
      takes-read = takes-is;
      links-31 = links-is;
      adds-31 = λ w e n i. adds-is w;
      adds-31-only = adds-only;
      premises-fair = K.literal;
      literally = K.literally;
      of-the-run = K.of-the-run;
      of-the-call = K.of-the-call;
      part-call = part-call;
      part-calls = part-calls;
      part-called = called;
      decided = λ kind s r a b c. decided kind s r (record { first = a; second = b; third = c });
      close-same = λ old new c. close-same c;
      fold-keeps = fold-keeps;
      orders-alike = orders-alike;
      fold-shares = Pinned.fold-shares;
      each-rewrite = Examples.each-rewrite;
      each-shown = Examples.each-shown;
      one-of-each = (Runs.own-order, Runs.one-of-each, Runs.left, Runs.other-list, Runs.other-ends);
      all_end = ((Runs.all_done).0, (Runs.all_done).1, (Runs.all_end).0, (Runs.all_end).1, Runs.order-broken);
      falls = (Runs.fall-done, Runs.fall-left, Runs.falling-ends);
      kind-1-last = (Runs.late-order, (Runs.late-run).0, (Runs.late-run).1, Runs.by-position, Runs.not-kept);
      needs-disjoint = Needed.one-word-twice;
      needs-aligned = Needed.unaligned;
      needs-no-store = Needed.made-and-stored;
      needs-alone = Needed.not-alone;
      needs-apart = Needed.parts_meet;
      store-cut = Pinned.store-cut;
      store_bytes = Pinned.store_bytes;
      load-bytes = Pinned.load-bytes;
      other-address = Pinned.other-address;
      other-vectors = Pinned.other-vectors;
      other-listed = Pinned.other-listed;
      access-dropped = Different.access-dropped;
      literal-elsewhere = Different.literal-elsewhere;
      adrp-dropped = Different.adrp-dropped;
      adrp-dropped-before = Different.adrp-dropped-before;
      other-replaced = Different.other-replaced;
      sign-lost = Different.sign-lost;
      refuted = refuted;
      off-by-4 = Machine.off-by-4;
      page-spoilt = Machine.page-spoilt;
    }
