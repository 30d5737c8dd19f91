-- Every decision of a hint keeps what a program does: each rewrite under the tests that its rule passed and where number 31 does not bar the hint, by one law
-- of the machine's words. Declined and nine leave the words.
use Rattle.std.specs.Prelude.{Result}
use mathlib.Core.Path.{◌≡◌, sym, ap, ◌∙◌}
use mathlib.Core.Bool.{false}
use mathlib.Core.List.{[], ◌∷◌}
use Prim.Native.Nat.{ℕ, ◌+◌, ◌%◌, ◌^◌, ◌<◌}
use Rattle.util.specs.Choice.{choose}
use Rattle.util.proofs.Choice.{split}
use Rattle.macho.specs.Hint.{word_count}
use Rattle.arm64_insn.specs.Page.{adrp_page}
use Rattle.arm64_insn.specs.Links.{meets31}
use Rattle.arm64_insn.specs.declared.add.Add.{Add}
use Rattle.arm64_insn.specs.declared.ldst.LoadStore.{LoadStore}
use Rattle.arm64_hint_laws.specs.Decide.{bars31, decide}
use Rattle.arm64_hint_terms.specs.declared.answer.Insns.{Insns}
use Rattle.arm64_hint_terms.specs.declared.answer.Rewrite.{Rewrite}
use Rattle.arm64_hint_terms.specs.declared.answer.Rewrite.TheVariants as R
use Rattle.arm64_hint_terms.specs.declared.answer.Plan.{Plan}
use Rattle.arm64_hint_terms.specs.declared.answer.NoRewrite.{NoRewrite}
use Rattle.arm64_hint_terms.specs.declared.rels.Rels.{Rels}
use Rattle.arm64_hint_adrp.proofs.Adds.{Adds}
use Rattle.arm64_hint_laws.proofs.Cases as Cases
use Rattle.arm64_hint_laws.proofs.Cases.{EachRule}
use Rattle.arm64_machine.specs.SameRun.{CloseRun}
use Rattle.arm64_machine.specs.Premises.{FairWords}
use Rattle.arm64_machine.proofs.Rewrites.{unchanged}
use Rattle.arm64_machine.proofs.Words as Words
use Rattle.arm64_hint_kept.specs.Decided.{placed_of, after}

-- the addresses have 64 bits
pub record Addressed (s : Insns) : Type 0 where
  pub first : s.p0 < 2 ^ 64
  pub second : s.p1 < 2 ^ 64
  pub third : s.p2 < 2 ^ 64

-- the words that a decision leaves, of a hint of n words, run as those that it was asked of
abbrev pub Keeps : ℕ → Insns → Result Plan NoRewrite → Type 0
Keeps n s d = CloseRun (placed_of n s) (placed_of n (after d s))

-- what an access through ADRP and ADD moves at
reached : {s : Insns} {addr to : ℕ} {d : Add} {ls : LoadStore} (t : Adds s addr d ls) → Cases.Accesses addr ls to
    → to ≡ adrp_page t.adrp.imm s.p0 + d.imm + ls.offset
reached {ls = ls} t a = a.made ∙ ap (λ (n : ℕ). n + ls.offset) t.made

-- two ADRPs
drop : (s : Insns) → Cases.Drops s (Keeps 2 s)
drop s p = Words.second-dropped p.first p.second p.register p.page

-- two words that number 31 does not link
module _ (s : Insns) (at : Addressed s) (apart : meets31 (s.w0 ∷ s.w1 ∷ []) ≡ false) (fair : FairWords (placed_of 2 s)) where
  literal-second : (r : Rewrite) → Cases.SecondLiteral s (Keeps 2 s) r
  literal-second r ld to l =
      Words.literal-second apart fair at.first at.second l.first to l.second l.base l.form l.made l.below l.aligned l.near

  adr-first : Cases.Makes-Adr s (Keeps 2 s)
  adr-first d to m near = Words.adr-first apart fair at.first at.second m.first to m.second m.source m.made m.below near

-- three such words
module _ (s : Insns) (at : Addressed s) (apart : meets31 (s.w0 ∷ s.w1 ∷ s.w2 ∷ []) ≡ false) (fair : FairWords (placed_of 3 s)) where
  slot-second : Cases.Slots s (Keeps 3 s)
  slot-second ld slot a =
      let l = a.load in
      Words.slot-second slot apart fair l.first l.second a.third l.base a.base a.loading a.general l.form l.made l.below
      l.aligned at.second l.near

  literal-third : Cases.ThirdLiteral s (Keeps 3 s)
  literal-third d ls addr to t a form aligned near =
      Words.literal-third apart fair t.first t.second t.third t.source t.base to form (reached t a) a.below aligned at.third near

  adr-third : Cases.ThirdAdr s (Keeps 3 s)
  adr-third d ls addr to t a near =
      Words.adr-third apart fair t.first t.second t.third t.source t.base to (reached t a) a.below at.first near

  adr-kept : Cases.KeptAdr s (Keeps 3 s)
  adr-kept d ls addr t near = Words.adr-kept apart fair t.first t.second t.third t.source t.base addr t.made t.below at.first near

  fold : Cases.Folds s (Keeps 3 s)
  fold d ls addr offset t e lt h =
      Words.folded apart fair t.first t.second t.third t.source t.base offset e lt (ap (λ (n : ℕ). n % ls.size) (sym t.made) ∙ h)

-- of a hint of a kind that number 31 does not bar
abbrev Law : Insns → ℕ → Result Plan NoRewrite → Type 0
Law s kind d = bars31 kind s ≡ false → FairWords (placed_of (word_count kind) s) → Keeps (word_count kind) s d

each-rule : (s : Insns) (r : Rels) → Addressed s → EachRule s r (Law s)
unfolding bars31 word_count choose
each-rule s r at =
    record {
      declined = λ kind _ fair. unchanged (placed_of (word_count kind) s);
      adrp-adrp = λ pages _ _ fair. Cases.adrp-adrp s (Keeps 2 s) same2 (drop s) pages;
      adrp-ldr = λ pair _ n fair. Cases.adrp-ldr s (Keeps 2 s) same2 same2 (literal-second s at n fair R.Literal) pair;
      adrp-add-ldr = λ pair _ n fair.
          Cases.adrp-add-ldr s (Keeps 3 s) same3 same3 (fold s at n fair) (adr-third s at n fair) (literal-third s at n fair) pair;
      adrp-ldr-got-ldr = λ pair _ n fair.
          Cases.adrp-ldr-got-ldr s (Keeps 3 s) same3 same3 (fold s at n fair) (adr-kept s at n fair) (slot-second s at n fair) (literal-third s at n fair) pair;
      adrp-add-str = λ pair _ n fair. Cases.adrp-add-str s (Keeps 3 s) same3 same3 (fold s at n fair) (adr-third s at n fair) pair;
      adrp-ldr-got-str = λ pair _ n fair.
          Cases.adrp-ldr-got-str s (Keeps 3 s) same3 same3 (fold s at n fair) (adr-kept s at n fair) (slot-second s at n fair) pair;
      adrp-add = λ pair _ n fair. Cases.adrp-add s (Keeps 2 s) same2 (adr-first s at n fair) pair;
      adrp-ldr-got = λ pair _ n fair. Cases.adrp-ldr-got s (Keeps 2 s) same2 (adr-first s at n fair) same2 (literal-second s at n fair R.Slot) pair;
    }
  where
    same2 : CloseRun (placed_of 2 s) (placed_of 2 s)
    same2 = unchanged (placed_of 2 s)

    same3 : CloseRun (placed_of 3 s) (placed_of 3 s)
    same3 = unchanged (placed_of 3 s)

-- THE LAW of the decisions: fair words run as what is decided of them, for every kind and whatever the entries say
pub decided : (kind : ℕ) (s : Insns) (r : Rels) → Addressed s → FairWords (placed_of (word_count kind) s) → Keeps (word_count kind) s (decide kind s r)
unfolding decide
decided kind s r at fair =
    split (Keeps (word_count kind) s) (bars31 kind s) _ _
    (λ _. unchanged (placed_of (word_count kind) s))
    (λ n. Cases.by-rule s r (Law s) (each-rule s r at) kind n fair)
