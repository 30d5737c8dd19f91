-- A lent hint: its places, the words that stand there and the entries that they name (RULES 2.22, 2.23, 8.3, 8.5 to 8.10;
-- arch/arm64.rs, `Hint`).
use Rattle.std.specs.Prelude.{ℕ, ◌≡◌, Bool, false, ◌||◌, not, List, [], ◌∷◌, eqb, take}
use Rattle.util.specs.Choice.{choose}
use Rattle.macho.specs.Hint.{word_count}
use Rattle.macho.specs.declared.hint.HintInsn.{HintInsn}
use Rattle.macho.specs.declared.hint.HintRecord.{HintRecord}
use Rattle.arm64_hint_terms.specs.declared.answer.Insns.{Insns}
use Rattle.arm64_hint_terms.specs.declared.rels.Rels.{Rels}
use Rattle.arm64_hint_words.specs.Place.{offsets, addresses, insns_with, InBytes}
use Rattle.arm64_hint_words.specs.Entry.{rels_in, InEntries}

-- whether a hint is skipped: its kind is none of LLVM's, or its word count is not the kind's
unfoldable pub is_skipped : HintRecord → Bool
is_skipped h = eqb (word_count h.kind) 0 || not (eqb h.n (word_count h.kind))

-- the three places of a hint
abbrev pub insns_all : HintRecord → List HintInsn
insns_all h = h.insn0 ∷ h.insn1 ∷ h.insn2 ∷ []

-- the places of its words, up to its word count; none of a hint that is skipped
unfoldable pub insns_in : HintRecord → List HintInsn
insns_in h = choose (is_skipped h) [] (take h.n (insns_all h))

-- the offsets of its words in its part
abbrev pub offs_of : HintRecord → List ℕ
offs_of h = offsets (insns_in h)

-- the words' own addresses
abbrev pub addrs_of : HintRecord → List ℕ
addrs_of h = addresses (insns_in h)

-- a hint's words with their addresses, up to its word count
unfoldable pub insns_of : HintRecord → List ℕ → Insns
insns_of h words = insns_with (insns_in h) words

-- the entries that the places name
unfoldable pub rels_of : List ℕ → HintRecord → Rels
rels_of entries h = rels_in entries (insns_in h)

-- a hint that is not skipped, whose words stand inside a part of len bytes
pub record Inside (h : HintRecord) (len : ℕ) : Type 0 where
  pub worked : is_skipped h ≡ false
  pub words : InBytes len (insns_in h)

-- a hint that is not skipped, whose entries stand inside a list of len bytes
pub record Named (h : HintRecord) (len : ℕ) : Type 0 where
  pub worked : is_skipped h ≡ false
  pub entries : InEntries len (insns_in h)
