-- A rule at work on its section: what the eight functions share. Carried by equal arguments.
use Rattle.std.specs.Prelude.{Result, Some}
use mathlib.Core.Path.{◌≡◌, sym, ap, ap₂, ◌∙◌, subst}
use mathlib.Core.List.{List}
use Prim.Native.Nat.{ℕ}
use denote.Ref.{MutBor}
use lib.ListN.{length}
use Rattle.macho.specs.declared.hint.HintRecord.{HintRecord}
use Rattle.image.specs.Words.{words_at, put_words}
use Rattle.arm64_hint_laws.specs.Decide.{decide}
use Rattle.arm64_hint_terms.specs.declared.answer.Insns.{Insns}
use Rattle.arm64_hint_terms.specs.declared.answer.Plan.{Plan}
use Rattle.arm64_hint_terms.specs.declared.answer.NoRewrite.{NoRewrite}
use Rattle.arm64_hint_terms.specs.declared.rels.Rels.{Rels}
use Rattle.arm64_hint_places.specs.Hint.{offs_of, insns_of, Inside}
use Rattle.arm64_hint_rules.specs.Rule.{news_in, ruled_in, section_after}

-- the places stand in as many bytes
pub still-inside : (h : HintRecord) {xs ys : List ℕ} → ys ≡ xs → Inside h (length xs) → Inside h (length ys)
still-inside h e i = subst (λ (l : List ℕ). Inside h (length l)) (sym e) i

-- the part of all that was lent has the words that were lent
pub inside-same : (h : HintRecord) {a b : MutBor (List ℕ)} → a ≡ b → Inside h (length b.now) → Inside h (length a.now)
inside-same h e i = still-inside h (ap (λ (r : MutBor (List ℕ)). r.now) e) i

module _ (h : HintRecord) (r : Rels) where
  -- words read in the part a, which is all of the section b, and a decision stored in ys, which is what stands there still, and leaves zs
  pub loh-is : (kind : ℕ) {a b : MutBor (List ℕ)} {ys zs : List ℕ} {s : Insns} {d : Result Plan NoRewrite} → a ≡ b → s ≡ insns_of h (words_at (offs_of h) a.now)
      → ys ≡ a.now → d ≡ decide kind s r → zs ≡ put_words (offs_of h) (news_in d) ys
      → (Some (d, s) ≡ ruled_in kind h r b.now) × (zs ≡ section_after kind h r b.now)
  loh-is kind e read still told stored =
      let n = ap (λ (r : MutBor (List ℕ)). r.now) e in
      let s = read ∙ ap (λ (y : List ℕ). insns_of h (words_at (offs_of h) y)) n in
      let t = told ∙ ap (λ (x : Insns). decide kind x r) s in
      (ap₂ (λ (x : Result Plan NoRewrite) (y : Insns). Some (x, y)) t s, stored ∙ ap₂ (λ (x : Result Plan NoRewrite) (y : List ℕ). put_words (offs_of h) (news_in x) y) t (still ∙ n))
