-- What is ignored of a hint: its bytes 2 and 3, and the places past its word count. Hints that agree in the rest are skipped, read and given their entries
-- alike. Carried by equal fields; a byte of another hint, or a word before a byte, is as it was.
use mathlib.Core.Path.{◌≡◌, refl, sym, ap, ap₂, ◌∙◌, subst}
use mathlib.Core.Logic.{◌⊎◌, inr, ⊎_elim}
use mathlib.Core.Bool.{Bool, true, false, ◌||◌, not}
use mathlib.Core.List.{List, [], ◌∷◌}
use Prim.Native.Nat.{ℕ, ◌+◌, ◌*◌, ◌≤◌, ◌<◌}
use native.Mathlib.Omega.{arith}
use lib.Dec.{eqb}
use lib.ListN.{set}
use lib.Seq.{get_or-set_other}
use Rattle.util.specs.Word.{le}
use Rattle.util.proofs.Word.{le-set}
use Rattle.util.proofs.Cases.{same_or}
use Rattle.macho.specs.Record.{Field, ◌of◌, unused}
use Rattle.macho.specs.Hint.{insn_size, hint_size, insn_at, hint_at, word_count, hint_of}
use Rattle.macho.specs.declared.hint.HintInsn.{HintInsn}
use Rattle.macho.specs.declared.hint.HintRecord.{HintRecord}
use Rattle.macho.proofs.RoundTrip.{value-ignores, value-ext, hint}
use Rattle.arm64_hint_places.specs.Hint.{is_skipped, insns_in, insns_of, rels_of}
use Rattle.arm64_hint_places.proofs.Places.{insns-none, insns-two}

-- ---- hints that agree

-- in what a run takes of them
pub record Alike (h g : HintRecord) : Type 0 where
  pub kind : h.kind ≡ g.kind
  pub count : h.n ≡ g.n
  pub object : h.object ≡ g.object
  pub start : h.start ≡ g.start
  pub len : h.len ≡ g.len
  pub places : insns_in h ≡ insns_in g

skip_by : (h g : HintRecord) → h.kind ≡ g.kind → h.n ≡ g.n → is_skipped h ≡ is_skipped g
unfolding is_skipped
skip_by h g kind count = ap₂ (λ (k m : ℕ). eqb (word_count k) 0 || not (eqb m (word_count k))) kind count

module _ (h g : HintRecord) (alike : Alike h g) where
  pub same-skip : is_skipped h ≡ is_skipped g
  same-skip = skip_by h g alike.kind alike.count

  pub same-insns : (words : List ℕ) → insns_of h words ≡ insns_of g words
  unfolding insns_of
  same-insns words = rw alike.places

  pub same-rels : (entries : List ℕ) → rels_of entries h ≡ rels_of entries g
  unfolding rels_of
  same-rels entries = rw alike.places

-- ---- one byte

-- the same hint
same-hint : {h g : HintRecord} → h ≡ g → Alike h g
same-hint e = record {
  kind = ap (λ (h : HintRecord). h.kind) e;
  count = ap (λ (h : HintRecord). h.n) e;
  object = ap (λ (h : HintRecord). h.object) e;
  start = ap (λ (h : HintRecord). h.start) e;
  len = ap (λ (h : HintRecord). h.len) e;
  places = ap insns_in e;
}

-- hints that have not three words agree where their first two places do
two-places : (h g : HintRecord) → is_skipped h ≡ is_skipped g → h.n ≡ g.n → h.insn0 ≡ g.insn0 → h.insn1 ≡ g.insn1 → (g.n ≡ 3 → ⊥)
    → insns_in h ≡ insns_in g
two-places h g skip n a b ne = go (is_skipped g) refl
  where
    go : (t : Bool) → is_skipped g ≡ t → insns_in h ≡ insns_in g
    go true e = insns-none h (skip ∙ e) ∙ sym (insns-none g e)
    go false e =
        insns-two h (skip ∙ e) (λ q. ne (sym n ∙ q))
        ∙ ap₂ (λ (x y : HintInsn). x ∷ y ∷ []) a b
        ∙ sym (insns-two g e ne)

module _ (hints : List ℕ) (k i v : ℕ) where
  -- a byte of the list changed
  abbrev pub changed : List ℕ
  changed = set hints (hint_size * k + i) v

  -- hints that the byte is not of are the same
  pub elsewhere : i < hint_size → Alike (hint_of changed k) (hint_of hints k) → (j : ℕ) → Alike (hint_of changed j) (hint_of hints j)
  elsewhere l own j =
      same_or j k (λ e. subst (λ (m : ℕ). Alike (hint_of changed m) (hint_of hints m)) (sym e) own)
      (λ ne. same-hint
      (value-ext hint changed hints (hint_size * j) (hint_size * j)
      (λ m h. get_or-set_other hints (hint_size * k + i) (hint_size * j + m) v 0 (λ e. ne (omega arith)))))

  -- the two bytes that no field has
  pub ignored-byte : (i ≡ 2) ⊎ (i ≡ 3) → Alike (hint_of changed k) (hint_of hints k)
  ignored-byte =
      ⊎_elim (λ (e : i ≡ 2). at e (value-ignores hint (kind ∷ count ∷ []) _ hints (hint_size * k) v refl))
      (λ (e : i ≡ 3). at e (value-ignores hint (kind ∷ count ∷ unused ∷ []) _ hints (hint_size * k) v refl))
    where
      kind : Field
      kind = 1 of (hint_of hints k).kind

      count : Field
      count = 1 of (hint_of hints k).n

      at : {m : ℕ} → i ≡ m → hint_of (set hints (hint_size * k + m) v) k ≡ hint_of hints k → Alike (hint_of changed k) (hint_of hints k)
      at {m} e q = same-hint (ap (λ (b : ℕ). hint_of (set hints (hint_size * k + b) v) k) e ∙ q)

  -- a place past the word count
  pub past-place : 48 ≤ i → ((hint_of hints k).n ≡ 3 → ⊥) → Alike (hint_of changed k) (hint_of hints k)
  unfolding hint_at insn_at
  past-place h ne = record {
    kind = kind;
    count = count;
    object = before 4 (hint_size * k + 4) (omega arith);
    start = before 4 (hint_size * k + 8) (omega arith);
    len = before 4 (hint_size * k + 12) (omega arith);
    places = two-places (hint_of changed k) (hint_of hints k) skip count (place 16 (omega arith)) (place 32 (omega arith)) ne;
  }
    where
      before : (n p : ℕ) → p + n ≤ hint_size * k + i → le n changed p ≡ le n hints p
      before n p l = le-set n hints p (hint_size * k + i) v (inr l)

      kind : le 1 changed (hint_size * k) ≡ le 1 hints (hint_size * k)
      kind = before 1 (hint_size * k) (omega arith)

      count : le 1 changed (hint_size * k + 1) ≡ le 1 hints (hint_size * k + 1)
      count = before 1 (hint_size * k + 1) (omega arith)

      skip : is_skipped (hint_of changed k) ≡ is_skipped (hint_of hints k)
      skip = skip_by (hint_of changed k) (hint_of hints k) kind count

      place : (o : ℕ) → o + insn_size ≤ 48 → insn_at changed (hint_size * k + o) ≡ insn_at hints (hint_size * k + o)
      place o l =
          let a = before 4 (hint_size * k + o) (omega arith) in
          let b = before 4 (hint_size * k + o + 4) (omega arith) in
          let c = before 8 (hint_size * k + o + 8) (omega arith) in
          λ j. record { off = a j; rel = b j; addr = c j }
