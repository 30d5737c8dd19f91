-- Hints that meet every premise and are rewritten, each by a run of its own: each fact is computed, but for the last, which is RULES 9.29.
use Rattle.std.specs.Prelude.{Result, Ok, Option, None}
use mathlib.Core.Path.{◌≡◌, refl, ap, ◌∙◌, subst}
use mathlib.Core.Bool.{true, false}
use mathlib.Core.List.{List}
use Rattle.std.specs.Prelude.{Some}
use Prim.Native.Nat.{ℕ}
use native.Mathlib.Omega.{arith}
use lib.Dec.{lit<}
use lib.ListN.{length}
use Rattle.util.proofs.Choice.{split}
use Rattle.macho.specs.Hint.{hint_of}
use Rattle.macho.specs.declared.hint.HintRecord.{HintRecord}
use Rattle.image.specs.Steps.{Work}
use Rattle.arm64_hint_terms.specs.declared.answer.Insns.{Insns}
use Rattle.arm64_hint_terms.specs.declared.answer.Rewrite.{Rewrite}
use Rattle.arm64_hint_terms.specs.declared.answer.Plan.{Plan}
use Rattle.arm64_hint_terms.specs.declared.answer.NoRewrite.{NoRewrite}
use Rattle.arm64_hint_terms.specs.declared.rels.Rels.{Rels}
use Rattle.arm64_hint_laws.specs.Decide.{decide}
use Rattle.arm64_hint_laws.specs.Written as W
use Rattle.arm64_hint_laws.specs.Written.{Written}
use Rattle.arm64_hint_laws.proofs.Written.{written}
use Rattle.arm64_hint_order.specs.Cursor.{order_of}
use Rattle.arm64_machine.specs.Examples.{start, idle}
use Rattle.arm64_machine.specs.Premises.{links_vector}
use Rattle.arm64_hint_places.specs.Hint.{is_skipped}
use Rattle.arm64_hint_rules.specs.Rule.{hint_outcome}
use Rattle.arm64_hint_work.specs.declared.tally.Tally.{Tally}
use Rattle.arm64_hint_run.specs.Run.{worked, run_of, image_of}
use Rattle.arm64_hint_run.proofs.Answers.{run_is}
use Rattle.arm64_hint_kept.specs.HintsKept.{Close}
use Rattle.arm64_hint_kept.specs.Examples.{words, lent, single, counts, rewrite_in, Shows, Shown, EachRewrite}
use Rattle.arm64_hint_kept.proofs.HintsKept.{hints-kept, own-list, literal}
use Rattle.arm64_hint_kept.proofs.Computing.{records, runs, machine}
use Rattle.arm64_hint_kept.proofs.Tests.{meets_all, premises-when}

-- a hint that is rewritten is not skipped
not-skipped : (entries : List ℕ) (h : HintRecord) (ws : List ℕ) (r : Rewrite) → rewrite_in (hint_outcome entries h ws) ≡ Some r → is_skipped h ≡ false
unfolding hint_outcome
not-skipped entries h ws r =
    split (λ (o : Option (Result Plan NoRewrite × Insns)). rewrite_in o ≡ Some r → is_skipped h ≡ false) (is_skipped h) None _
    (λ t e. let z : ◌≡◌ {A = ℕ} 0 1 = cc in absurd (omega arith))
    (λ t e. t)

module _ {entries : List ℕ} {kind p : ℕ} {ws : List ℕ} {r : Rewrite} {new : List ℕ} where
  pub shown : meets_all (hint_of (lent (single kind p (length ws))) 0) (words ws) idle start ≡ true
      → rewrite_in (hint_outcome entries (hint_of (lent (single kind p (length ws))) 0) ws) ≡ Some r
      → run_of (words ws) (lent (single kind p (length ws))) entries ≡ Ok (counts 1 0 0 0)
      → image_of (words ws) (lent (single kind p (length ws))) entries ≡ words new → Shows entries kind p ws r new
  unfolding records
  shown m b d l =
      let hints = lent (single kind p (length ws)) in
      let h = hint_of hints 0 in
      let meets = premises-when h (words ws) idle start refl m in
      let last : (worked (words ws) hints entries (order_of hints)).image ≡ words new =
      ap (λ (w : Work Tally). w.image) (run_is (words ws) hints entries (counts 1 0 0 0) d) ∙ l in
      let kept = hints-kept (words ws) hints entries (counts 1 0 0 0) d (order_of hints) (own-list hints).0 in
      record {
        meets = meets;
        by = b;
        done = d;
        leaves = l;
        close =
            subst (Close h (words ws)) last
            (kept.ends 0 (lit< tt) (not-skipped entries h ws r b) (λ j l ne. absurd (ne (omega arith))) (literal h (words ws) idle start meets));
      }

pub each-rewrite : EachRewrite
unfolding runs machine links_vector
each-rewrite = record {
  drop = shown refl refl refl refl;
  drop-31 = shown refl refl refl refl;
  ldr-x = shown refl refl refl refl;
  ldr-w = shown refl refl refl refl;
  ldr-sw = shown refl refl refl refl;
  ldr-d = shown refl refl refl refl;
  ldr-q = shown refl refl refl refl;
  ldr-31 = shown refl refl refl refl;
  ldr-s = shown refl refl refl refl;
  ldr-wraps = shown refl refl refl refl;
  add-ldr-literal = shown refl refl refl refl;
  add-ldr-adr = shown refl refl refl refl;
  add-ldr-near = shown refl refl refl refl;
  add-ldr-fold = shown refl refl refl refl;
  got-ldr-slot = shown refl refl refl refl;
  got-ldr-literal = shown refl refl refl refl;
  got-ldr-adr = shown refl refl refl refl;
  got-ldr-fold = shown refl refl refl refl;
  add-str-adr = shown refl refl refl refl;
  add-str-near = shown refl refl refl refl;
  add-str-fold = shown refl refl refl refl;
  got-str-slot = shown refl refl refl refl;
  got-str-adr = shown refl refl refl refl;
  got-str-fold = shown refl refl refl refl;
  add-adr = shown refl refl refl refl;
  add-adr-below = shown refl refl refl refl;
  got-slot-31 = shown refl refl refl refl;
  got-adr = shown refl refl refl refl;
}

-- the rows of what a kind may write
by_row : (s : Insns) (kind : ℕ) (d : Result Plan NoRewrite) → Written s kind d → Shown kind d
by_row s kind d W.declines = tt
by_row s kind d W.nine-2 = tt
by_row s kind d W.nine-3 = tt
by_row s kind d W.nine-4 = tt
by_row s kind d W.nine-5 = tt
by_row s kind d W.nine-6 = tt
by_row s kind d W.nine-8 = tt
by_row s kind d (W.drop-1 h) = (_, _, _, _, each-rewrite.drop)
by_row s kind d (W.literal-2 ls t h) = (_, _, _, _, each-rewrite.ldr-x)
by_row s kind d (W.literal-3 a m ls t h) = (_, _, _, _, each-rewrite.add-ldr-literal)
by_row s kind d (W.adr-3 a m ls t h) = (_, _, _, _, each-rewrite.add-ldr-adr)
by_row s kind d (W.fold-3 a m ls t h) = (_, _, _, _, each-rewrite.add-ldr-fold)
by_row s kind d (W.slot-4 ls t h) = (_, _, _, _, each-rewrite.got-ldr-slot)
by_row s kind d (W.literal-4 a m ls t h) = (_, _, _, _, each-rewrite.got-ldr-literal)
by_row s kind d (W.adr-4 a m ls t h) = (_, _, _, _, each-rewrite.got-ldr-adr)
by_row s kind d (W.fold-4 a m ls t h) = (_, _, _, _, each-rewrite.got-ldr-fold)
by_row s kind d (W.adr-5 a m ls t h) = (_, _, _, _, each-rewrite.add-str-adr)
by_row s kind d (W.fold-5 a m ls t h) = (_, _, _, _, each-rewrite.add-str-fold)
by_row s kind d (W.slot-6 ls t h) = (_, _, _, _, each-rewrite.got-str-slot)
by_row s kind d (W.adr-6 a m ls t h) = (_, _, _, _, each-rewrite.got-str-adr)
by_row s kind d (W.fold-6 a m ls t h) = (_, _, _, _, each-rewrite.got-str-fold)
by_row s kind d (W.adr-7 a m h) = (_, _, _, _, each-rewrite.add-adr)
by_row s kind d (W.slot-8 ls t h) = (_, _, _, _, each-rewrite.got-slot-31)
by_row s kind d (W.adr-8 a m h) = (_, _, _, _, each-rewrite.got-adr)

-- whatever is decided of a hint, an example shows its rewrite
pub each-shown : (kind : ℕ) (s : Insns) (r : Rels) → Shown kind (decide kind s r)
each-shown kind s r = by_row s kind (decide kind s r) (written kind s r)
