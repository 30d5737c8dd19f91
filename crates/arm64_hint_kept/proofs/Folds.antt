-- What a fold leaves (RULES 9.33). Carried by the rules' cases, of which a fold is one, and by the machine's laws of folded words.
use Rattle.std.specs.Prelude.{Result, Ok, Err}
use mathlib.Core.Path.{◌≡◌, refl, sym, ap, ◌∙◌, subst}
use mathlib.Core.Logic.{◌⊎◌, ⊎_elim}
use mathlib.Core.Bool.{false}
use mathlib.Core.List.{[], ◌∷◌}
use Prim.Native.Nat.{ℕ, ◌+◌, ◌%◌, ◌^◌, ◌<◌}
use native.Mathlib.Omega.{arith}
use Rattle.util.specs.Choice.{choose}
use Rattle.macho.specs.Types.{MCLOH_AdrpAddLdr, MCLOH_AdrpAddStr}
use Rattle.macho.specs.Hint.{word_count}
use Rattle.arm64_insn.specs.Page.{adrp_page}
use Rattle.arm64_insn.specs.Links.{meets31}
use Rattle.arm64_insn.proofs.Decoded.{decoded-add}
use Rattle.arm64_insn.proofs.Offsets.{page-sum}
use Rattle.arm64_hint_terms.specs.declared.answer.Insns.{Insns}
use Rattle.arm64_hint_terms.specs.declared.answer.Plan.{Plan}
use Rattle.arm64_hint_terms.specs.declared.answer.Rewrite.TheVariants as R
use Rattle.arm64_hint_terms.specs.declared.answer.NoRewrite.{NoRewrite}
use Rattle.arm64_hint_terms.specs.declared.answer.NoRewrite.TheVariants.{Declined, Nine}
use Rattle.arm64_hint_terms.specs.declared.rels.Rels.{Rels}
use Rattle.arm64_hint_terms.proofs.Ways.{never}
use Rattle.arm64_hint_laws.specs.Decide.{bars31, decide}
use Rattle.arm64_hint_laws.specs.RustOrder.{in_rust_order, BothFit}
use Rattle.arm64_hint_laws.proofs.Number31.{else_same, rewritten-unbarred}
use Rattle.arm64_hint_laws.proofs.RustOrder.{moved}
use Rattle.arm64_hint_laws.proofs.Cases as Cases
use Rattle.arm64_hint_laws.proofs.Cases.{EachRule}
use Rattle.arm64_machine.specs.Machine.{State, Other, run}
use Rattle.arm64_machine.specs.SameRun.{spared, Agree}
use Rattle.arm64_machine.specs.Premises.{FairWords}
use Rattle.arm64_machine.proofs.Agree.{through-one}
use Rattle.arm64_machine.proofs.Close.{close-same}
use Rattle.arm64_machine.proofs.Words as Words
use Rattle.arm64_hint_kept.specs.Decided.{placed_of, after}
use Rattle.arm64_hint_kept.specs.Folded.{FoldKeeps}

-- what is claimed of a decision
abbrev OfFold : Insns → Result Plan NoRewrite → Type 0
OfFold s (Err Declined) = Unit {0}
OfFold s (Err Nine) = Unit {0}
OfFold s (Ok p) = p.rewrite ≡ R.Fold → FoldKeeps s (after (Ok p) s)

module _ (s : Insns) (apart : meets31 (s.w0 ∷ s.w1 ∷ s.w2 ∷ []) ≡ false) (fair : FairWords (placed_of 3 s)) where
  fold : Cases.Folds s (OfFold s)
  fold d ls addr offset t e lt h _ =
      let whole = ap (λ (n : ℕ). n % ls.size) (sym t.made) ∙ h in
      record {
        adrp = t.adrp;
        add = d;
        first = t.first;
        second = t.second;
        stays = refl;
        dropped = refl;
        alike = Words.folded-alike apart fair t.first t.second t.third t.source t.base offset e lt whole;
        page = λ o z w. Words.folded-page apart fair t.first t.second t.third t.source t.base offset lt w o z;
      }

-- of a hint of a kind that number 31 does not bar; every other rewrite is no fold
of-fold : (s : Insns) (r : Rels) → FairWords (placed_of 3 s) → EachRule s r (λ kind d. bars31 kind s ≡ false → OfFold s d)
unfolding bars31 word_count choose
of-fold s r fair =
    record {
      declined = λ kind _. tt;
      adrp-adrp = λ pages _ _. Cases.adrp-adrp s (OfFold s) tt (λ p q. never (cc)) pages;
      adrp-ldr = λ pair _ _. Cases.adrp-ldr s (OfFold s) tt tt (λ ld to l q. never (cc)) pair;
      adrp-add-ldr = λ pair _ n.
          Cases.adrp-add-ldr s (OfFold s) tt tt (fold s n fair) (λ d ls addr to t a n q. never (cc)) (λ d ls addr to t a f w n q. never (cc)) pair;
      adrp-ldr-got-ldr = λ pair _ n.
          Cases.adrp-ldr-got-ldr s (OfFold s) tt tt (fold s n fair) (λ d ls addr t n q. never (cc)) (λ ld slot a q. never (cc))
          (λ d ls addr to t a f w n q. never (cc)) pair;
      adrp-add-str = λ pair _ n. Cases.adrp-add-str s (OfFold s) tt tt (fold s n fair) (λ d ls addr to t a n q. never (cc)) pair;
      adrp-ldr-got-str = λ pair _ n.
          Cases.adrp-ldr-got-str s (OfFold s) tt tt (fold s n fair) (λ d ls addr t n q. never (cc)) (λ ld slot a q. never (cc)) pair;
      adrp-add = λ pair _ _. Cases.adrp-add s (OfFold s) tt (λ d to m n q. never (cc)) pair;
      adrp-ldr-got = λ pair _ _. Cases.adrp-ldr-got s (OfFold s) tt (λ d to m n q. never (cc)) tt (λ ld to l q. never (cc)) pair;
    }

-- every fold
pub fold-keeps : (kind : ℕ) (s : Insns) (r : Rels) (p : Plan) → FairWords (placed_of 3 s) → decide kind s r ≡ Ok p → p.rewrite ≡ R.Fold
    → FoldKeeps s (after (Ok p) s)
fold-keeps kind s r p fair e =
    let n = rewritten-unbarred kind s r p e in
    subst (OfFold s) (sym (else_same kind s r n) ∙ e) (Cases.by-rule s r (λ kind d. bars31 kind s ≡ false → OfFold s d) (of-fold s r fair) kind n)

-- a hint of these two kinds that number 31 does not bar has no words that it links
three-apart : (kind : ℕ) (s : Insns) {A B : Type 0} → bars31 kind s ≡ false → ((kind ≡ MCLOH_AdrpAddLdr) × A) ⊎ ((kind ≡ MCLOH_AdrpAddStr) × B)
    → meets31 (s.w0 ∷ s.w1 ∷ s.w2 ∷ []) ≡ false
unfolding bars31 word_count choose
three-apart kind s n =
    ⊎_elim (λ c. subst (λ (k : ℕ). bars31 k s ≡ false) c.0 n) (λ c. subst (λ (k : ℕ). bars31 k s ≡ false) c.0 n)

-- The words of the two orders: where number 31 does not bar them and fold and ADR both fit, the Rust's words and the folded ones make the same accesses
-- and end alike, but for the registers that are spared anyway. Each runs as the old words do
pub orders-alike : (kind : ℕ) (s : Insns) (r : Rels) → s.p0 < 2 ^ 64 → FairWords (placed_of 3 s) → bars31 kind s ≡ false → BothFit kind s r
    → (o : Other) (z : State)
    → Agree (spared (placed_of 3 s)) (run o (placed_of 3 (after (in_rust_order kind s r) s)) z) (run o (placed_of 3 (after (decide kind s r) s)) z)
orders-alike kind s r low fair n f o z =
    let apart = three-apart kind s n f.comes in
    let w = f.words in
    let t = w.through in
    let q = moved kind s r n f in
    let e : f.addr ≡ adrp_page t.adrp.imm s.p0 + f.d.imm + f.ls.offset = omega (arith, t.made, w.reached) in
    let m = (decoded-add s.w1 f.d t.second).immediate in
    let below : f.addr < 2 ^ 64 = omega (arith, t.made, page-sum t.adrp.imm s.p0 f.d.imm m) in
    let i : f.d.imm ≡ f.d.imm + f.ls.offset = omega (arith, f.no-offset) in
    let whole = ap (λ (n : ℕ). n % f.ls.size) (sym t.made) ∙ f.divides in
    rw (q.0, q.1)
    (through-one
    ((close-same (Words.adr-third apart fair t.first t.second w.third t.source w.base f.addr e below low f.near)).agree o z)
    ((close-same (Words.folded apart fair t.first t.second w.third t.source w.base f.d.imm i m whole)).agree o z))
