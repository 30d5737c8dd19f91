-- A hint's places as `arm64_hint_words` takes them: an array of three, and the word count. Carried by one law, `insns-first`.
use mathlib.Core.Path.{◌≡◌, sym, ap, ◌∙◌, subst}
use mathlib.Core.Bool.{false}
use mathlib.Core.List.{List}
use Rattle.std.specs.Prelude.{Option}
use Prim.Native.Nat.{ℕ}
use lib.ListN.{take}
use Rattle.macho.specs.declared.hint.HintInsn.{HintInsn}
use Rattle.macho.specs.declared.hint.HintRecord.{HintRecord}
use Rattle.image.specs.Words.{words_at, put_words}
use Rattle.arm64_hint_terms.specs.declared.answer.Insns.{Insns}
use Rattle.arm64_hint_terms.specs.declared.rels.Rels.{Rels}
use Rattle.arm64_hint_words.specs.Place.{offsets, insns_read, InBytes}
use Rattle.arm64_hint_words.specs.Entry.{rels_in, InEntries}
use Rattle.arm64_hint_places.specs.Hint.{is_skipped, insns_all, insns_in, offs_of, insns_of, rels_of, Inside, Named}
use Rattle.arm64_hint_places.proofs.Places.{insns-first}

module _ (h : HintRecord) {insns : List HintInsn} (all : insns ≡ insns_all h) where
  -- the first of the array are the hint's
  firsts : is_skipped h ≡ false → insns_in h ≡ take h.n insns
  firsts e = insns-first h e ∙ ap (take h.n) (sym all)

  -- ---- what is asked

  pub held-inside : {len : ℕ} → Inside h len → InBytes len (take h.n insns)
  held-inside {len} i = subst (InBytes len) (firsts i.worked) i.words

  pub held-named : {len : ℕ} → Named h len → InEntries len (take h.n insns)
  held-named {len} i = subst (InEntries len) (firsts i.worked) i.entries

  -- ---- what is answered

  module _ (e : is_skipped h ≡ false) where
    pub held-words : (xs : List ℕ) {s : Insns} → s ≡ insns_read xs (take h.n insns) → s ≡ insns_of h (words_at (offs_of h) xs)
    unfolding insns_of
    held-words xs told = told ∙ ap (insns_read xs) (sym (firsts e))

    pub held-stored : (xs : List ℕ) (news : List (Option ℕ)) {ys : List ℕ} → ys ≡ put_words (offsets (take h.n insns)) news xs
        → ys ≡ put_words (offs_of h) news xs
    held-stored xs news told = told ∙ ap (λ (l : List HintInsn). put_words (offsets l) news xs) (sym (firsts e))

    pub held-rels : (entries : List ℕ) {r : Rels} → r ≡ rels_in entries (take h.n insns) → r ≡ rels_of entries h
    unfolding rels_of
    held-rels entries told = told ∙ ap (rels_in entries) (sym (firsts e))
