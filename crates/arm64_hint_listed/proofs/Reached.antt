-- What a record says of its hint: the rules of each kind with the words that they change are a table, each row of which is reached; the words changed are the
-- places that get a new word, and no other byte of the image changes; rule 7 is number 9. By the table of what a decision writes, and by computed examples.
use Rattle.std.specs.Prelude.{Result, Ok, Err, Some, None}
use mathlib.Core.Path.{◌≡◌, refl, sym, ap, ◌∙◌, subst}
use mathlib.Core.Bool.{Bool, true, false}
use mathlib.Core.List.{List, [], ◌∷◌, map}
use Rattle.std.specs.Prelude.{Option}
use Prim.Native.Nat.{ℕ, zero, suc, ◌+◌, ◌<◌}
use native.Mathlib.Omega.{arith}
use native.Mathlib.Nat.{not-suc-le-zero, le_of_suc-le-suc}
use lib.Dec.{eqb, lit<}
use lib.ListN.{length, get_or}
use Rattle.util.specs.Choice.{choose}
use Rattle.util.specs.Word.{put}
use Rattle.util.proofs.Choice.{choose-true, choose-false, neither}
use Rattle.util.proofs.Cases.{same_or}
use Rattle.macho.specs.Types.{MCLOH_AdrpAdrp}
use Rattle.macho.specs.Hint.{word_count, hint_of}
use Rattle.macho.specs.RuleRecord.{rule_skipped, rule_declined, rule_turned_down}
use Rattle.macho.specs.Refusal.{number_of}
use Rattle.macho.specs.declared.refusal.Refusal.TheVariants.{Overflow}
use Rattle.macho.specs.declared.hint.HintInsn.{HintInsn}
use Rattle.macho.specs.declared.hint.HintRecord.{HintRecord}
use Rattle.macho.specs.declared.reloc.Reloc.{Reloc}
use Rattle.image.specs.Words.{span, in_words, words_at, put_words}
use Rattle.image.specs.Steps.{answered, written}
use Rattle.image.proofs.Words.{put-writes}
use Rattle.arm64_insn.specs.Links.{makes, takes, links31, adds31}
use Rattle.arm64_insn.specs.Adrp.{adrp_of}
use Rattle.arm64_hint_terms.specs.Rels.{is_page_rel, both_pages}
use Rattle.arm64_hint_terms.specs.declared.answer.Insns.{Insns}
use Rattle.arm64_hint_terms.specs.declared.answer.Plan.{Plan}
use Rattle.arm64_hint_terms.specs.declared.answer.NoRewrite.{NoRewrite}
use Rattle.arm64_hint_terms.specs.declared.answer.NoRewrite.TheVariants.{Declined, Nine}
use Rattle.arm64_hint_terms.specs.declared.answer.Rewrite.{Rewrite}
use Rattle.arm64_hint_terms.specs.declared.answer.Rewrite.TheVariants.{Drop, Literal, Adr, Fold, Slot}
use Rattle.arm64_hint_terms.specs.declared.rels.Rels.{Rels}
use Rattle.arm64_hint_adrp.specs.Two.{adrp_adrp}
use Rattle.arm64_hint_laws.specs.Decide.{by_rule, bars31, decide}
use Rattle.arm64_hint_laws.specs.Written as W
use Rattle.arm64_hint_laws.specs.Written.{Written}
use Rattle.arm64_hint_laws.proofs.Written as Table
use Rattle.arm64_hint_laws.proofs.Hinted.{counts, KeepsThird, two-words, two-targets}
use Rattle.arm64_hint_laws.proofs.Examples as Examples
use Rattle.arm64_hint_laws.proofs.Examples.{rewrites, decided_of, given_of}
use Rattle.arm64_hint_places.specs.Hint.{is_skipped, insns_in, insns_of, rels_of}
use Rattle.arm64_hint_places.proofs.Places.{insns-none, by_count, count-two}
use Rattle.arm64_hint_rules.specs.Rule.{hint_outcome, outcome_number, news_in, news_of}
use Rattle.arm64_hint_work.specs.Step.{places_of, steps_of}
use Rattle.arm64_hint_work.specs.Acted.{rewrite_rule, decision_rule, rule_of, changed_at, changed_in, changed_of}
use Rattle.arm64_hint_listed.specs.Rows as R
use Rattle.arm64_hint_listed.specs.Rows.{Row, Reached, written_at}

-- ---- the table

-- what a decision writes is a row
row_of : (s : Insns) (kind : ℕ) (d : Result Plan NoRewrite) → Written s kind d → Row kind (decision_rule d) (changed_in d)
row_of s kind d W.declines = R.declined
row_of s kind d W.nine-2 = R.turned-down-2
row_of s kind d W.nine-3 = R.turned-down-3
row_of s kind d W.nine-4 = R.turned-down-4
row_of s kind d W.nine-5 = R.turned-down-5
row_of s kind d W.nine-6 = R.turned-down-6
row_of s kind d W.nine-8 = R.turned-down-8
row_of s kind d (W.drop-1 _) = R.second-adrp-1
row_of s kind d (W.literal-2 _ _ _) = R.literal-2
row_of s kind d (W.literal-3 _ _ _ _ _) = R.literal-3
row_of s kind d (W.adr-3 _ _ _ _ _) = R.adr-3
row_of s kind d (W.fold-3 _ _ _ _ _) = R.fold-3
row_of s kind d (W.slot-4 _ _ _) = R.got-slot-4
row_of s kind d (W.literal-4 _ _ _ _ _) = R.literal-4
row_of s kind d (W.adr-4 _ _ _ _ _) = R.adr-4
row_of s kind d (W.fold-4 _ _ _ _ _) = R.fold-4
row_of s kind d (W.adr-5 _ _ _ _ _) = R.adr-5
row_of s kind d (W.fold-5 _ _ _ _ _) = R.fold-5
row_of s kind d (W.slot-6 _ _ _) = R.got-slot-6
row_of s kind d (W.adr-6 _ _ _ _ _) = R.adr-6
row_of s kind d (W.fold-6 _ _ _ _ _) = R.fold-6
row_of s kind d (W.adr-7 _ _ _) = R.adr-7
row_of s kind d (W.slot-8 _ _ _) = R.got-slot-8
row_of s kind d (W.adr-8 _ _ _) = R.adr-8

-- rule and words changed of a hint that is not skipped are a row of its kind
pub in_table : (hints entries : List ℕ) (k : ℕ) (image : List ℕ) → is_skipped (hint_of hints k) ≡ false
    → Row (hint_of hints k).kind (rule_of (answered (steps_of hints entries) k image)) (changed_of (answered (steps_of hints entries) k image))
unfolding hint_outcome
in_table hints entries k image e =
    subst (λ (o : Option (Result Plan NoRewrite × Insns)). Row h.kind (rule_of o) (changed_of o)) (sym (choose-false (is_skipped h) None _ e))
    (row_of s h.kind (decide h.kind s (rels_of entries h)) (Table.written h.kind s (rels_of entries h)))
  where
    h : HintRecord
    h = hint_of hints k

    s : Insns
    s = insns_of h (words_at (places_of h) image)

-- ---- each row is reached

-- example i is decided as it says
example-is : (es : List Examples.Row) (i : ℕ) (e : Examples.Row) → i < length es → get_or (decided_of es) i (Err Declined)
    ≡ decide (get_or es i e).kind (get_or es i e).words (get_or es i e).entries
example-is [] i e l = absurd (not-suc-le-zero l)
example-is (x ∷ es) zero e l = refl
example-is (x ∷ es) (suc i) e l = example-is es i e (le_of_suc-le-suc l)

-- past the examples
abbrev none-there : Examples.Row
none-there = record {
  kind = 0;
  entries = record { r0 = None; r1 = None; r2 = None };
  words = record { w0 = 0; w1 = 0; w2 = 0; p0 = 0; p1 = 0; p2 = 0 };
  gives = Err Declined;
}

-- so it reaches the row of what it gives
by-example : (i : ℕ) → i < 30
    → Reached (get_or rewrites i none-there).kind (decision_rule (get_or (given_of rewrites) i (Err Declined))) (changed_in (get_or (given_of rewrites) i (Err Declined)))
by-example i l =
    let e = sym (example-is rewrites i none-there l) ∙ ap (λ (ds : List (Result Plan NoRewrite)). get_or ds i (Err Declined)) (Examples.examples).0 in
    record {
      words = (get_or rewrites i none-there).words;
      entries = (get_or rewrites i none-there).entries;
      by = ap decision_rule e;
      writes = ap changed_in e;
    }

-- a hint of every kind declines: entries with two targets, and for ADRP_ADRP entries that are no page halves
abbrev target : ℕ → Reloc
target n = record { offset = 0; ty = 0; size = 4; is_pcrel = 0; is_subtracted = 0; target = n; signing = 0; addend = 0 }

abbrev two : Rels
two = record { r0 = Some (target 5); r1 = Some (target 6); r2 = None }

abbrev none-words : Insns
none-words = record { w0 = 0; w1 = 0; w2 = 0; p0 = 0; p1 = 0; p2 = 0 }

no-pages : decide MCLOH_AdrpAdrp none-words two ≡ Err Declined
unfolding choose word_count makes takes links31 adds31 bars31 by_rule decide both_pages is_page_rel adrp_adrp adrp_of
no-pages = refl

declines : (kind : ℕ) → Reached kind rule_declined 0
declines kind =
    let e : decide kind none-words two ≡ Err Declined =
    same_or kind MCLOH_AdrpAdrp (λ q. ap (λ (n : ℕ). decide n none-words two) q ∙ no-pages)
    (λ q. two-targets kind none-words two (target 5) (target 6) q refl refl (λ z. omega arith)) in
    record { words = none-words; entries = two; by = ap decision_rule e; writes = ap changed_in e }

pub reached : {kind rule changed : ℕ} → Row kind rule changed → Reached kind rule changed
reached {kind} R.declined = declines kind
reached R.turned-down-2 = by-example 7 (lit< tt)
reached R.turned-down-3 = by-example 12 (lit< tt)
reached R.turned-down-4 = by-example 17 (lit< tt)
reached R.turned-down-5 = by-example 20 (lit< tt)
reached R.turned-down-6 = by-example 24 (lit< tt)
reached R.turned-down-8 = by-example 29 (lit< tt)
reached R.second-adrp-1 = by-example 0 (lit< tt)
reached R.literal-2 = by-example 1 (lit< tt)
reached R.literal-3 = by-example 8 (lit< tt)
reached R.adr-3 = by-example 10 (lit< tt)
reached R.fold-3 = by-example 9 (lit< tt)
reached R.got-slot-4 = by-example 13 (lit< tt)
reached R.literal-4 = by-example 14 (lit< tt)
reached R.adr-4 = by-example 15 (lit< tt)
reached R.fold-4 = by-example 16 (lit< tt)
reached R.adr-5 = by-example 18 (lit< tt)
reached R.fold-5 = by-example 19 (lit< tt)
reached R.got-slot-6 = by-example 21 (lit< tt)
reached R.adr-6 = by-example 22 (lit< tt)
reached R.fold-6 = by-example 23 (lit< tt)
reached R.adr-7 = by-example 25 (lit< tt)
reached R.got-slot-8 = by-example 27 (lit< tt)
reached R.adr-8 = by-example 28 (lit< tt)

-- ---- rules 0 and 7

-- the rule of a rewrite is none of two
other : (n : ℕ) → eqb 2 n ≡ false → eqb 3 n ≡ false → eqb 4 n ≡ false → eqb 5 n ≡ false → eqb 6 n ≡ false → (r : Rewrite) → eqb (rewrite_rule r) n ≡ false
other n a b c d e Drop = a
other n a b c d e Literal = b
other n a b c d e Adr = c
other n a b c d e Fold = d
other n a b c d e Slot = e

-- a hint of rule 0 is a skipped one, and only it
pub skipped-is : (hints entries : List ℕ) (k : ℕ) (image : List ℕ)
    → eqb (rule_of (answered (steps_of hints entries) k image)) rule_skipped ≡ is_skipped (hint_of hints k)
unfolding hint_outcome choose
skipped-is hints entries k image = go (is_skipped h) (decide h.kind s (rels_of entries h))
  where
    h : HintRecord
    h = hint_of hints k

    s : Insns
    s = insns_of h (words_at (places_of h) image)

    go : (t : Bool) (d : Result Plan NoRewrite) → eqb (rule_of (choose t None (Some (d, s)))) rule_skipped ≡ t
    go true d = refl
    go false (Err Declined) = refl
    go false (Err Nine) = refl
    go false (Ok p) = other rule_skipped refl refl refl refl refl p.rewrite

-- a hint of rule 7 is one of number 9, and only it
pub turned-down-is : (o : Option (Result Plan NoRewrite × Insns)) → eqb (rule_of o) rule_turned_down ≡ eqb (outcome_number o) (number_of Overflow)
turned-down-is None = refl
turned-down-is (Some (Err Declined, s)) = refl
turned-down-is (Some (Err Nine, s)) = refl
turned-down-is (Some (Ok p, s)) = other rule_turned_down refl refl refl refl refl p.rewrite

-- ---- the places

-- a place more
written_one : (at : ℕ) (places : List ℕ) (w : Option ℕ) (news : List (Option ℕ))
    → length (written_at (at ∷ places) (w ∷ news)) ≡ changed_at w + length (written_at places news)
written_one at places None news = omega arith
written_one at places (Some w) news = omega arith

-- at three places, or at two where the third is kept, as many words are written as a decision changes
three-places : (a b c : ℕ) (d : Result Plan NoRewrite) → changed_in d ≡ length (written_at (a ∷ b ∷ c ∷ []) (news_in d))
three-places a b c (Err Declined) = refl
three-places a b c (Err Nine) = refl
three-places a b c (Ok p) =
    omega (
      arith,
      written_one a (b ∷ c ∷ []) p.w0 (p.w1 ∷ p.w2 ∷ []),
      written_one b (c ∷ []) p.w1 (p.w2 ∷ []),
      written_one c [] p.w2 [],
    )

two-places : (a b : ℕ) (d : Result Plan NoRewrite) → KeepsThird d → changed_in d ≡ length (written_at (a ∷ b ∷ []) (news_in d))
two-places a b (Err Declined) e = refl
two-places a b (Err Nine) e = refl
two-places a b (Ok p) e =
    omega (
      arith,
      ap changed_at e,
      written_one a (b ∷ []) p.w0 (p.w1 ∷ p.w2 ∷ []),
      written_one b [] p.w1 (p.w2 ∷ []),
    )

module _ (hints entries : List ℕ) (k : ℕ) (image : List ℕ) where
  -- the words changed are the places that get a new word
  pub changed-places : changed_of (answered (steps_of hints entries) k image)
      ≡ length (written_at (places_of (hint_of hints k)) (news_of (answered (steps_of hints entries) k image)))
  unfolding hint_outcome
  changed-places = go (is_skipped (hint_of hints k)) refl
    where
      h : HintRecord
      h = hint_of hints k

      words : List ℕ
      words = words_at (places_of h) image

      d : Result Plan NoRewrite
      d = decide h.kind (insns_of h words) (rels_of entries h)

      -- what is to be shown, of the hint's places and of an outcome
      P : List HintInsn → Option (Result Plan NoRewrite × Insns) → Type 0
      P l o = changed_of o ≡ length (written_at (map (λ at. h.start + at) (map (λ i. i.off) l)) (news_of o))

      go : (t : Bool) → is_skipped h ≡ t → P (insns_in h) (hint_outcome entries h words)
      go true e =
          subst (λ (o : Option (Result Plan NoRewrite × Insns)). P (insns_in h) o) (sym (choose-true (is_skipped h) None _ e))
          (subst (λ (l : List HintInsn). P l None) (sym (insns-none h e)) refl)
      go false e =
          subst (λ (o : Option (Result Plan NoRewrite × Insns)). P (insns_in h) o) (sym (choose-false (is_skipped h) None _ e))
          (by_count h e (λ l. P l (Some (d, insns_of h words)))
          (λ n. three-places (h.start + h.insn0.off) (h.start + h.insn1.off) (h.start + h.insn2.off) d)
          (λ n. two-places (h.start + h.insn0.off) (h.start + h.insn1.off) d
          (two-words h.kind (insns_of h words) (rels_of entries h) (sym (counts h.kind) ∙ count-two h e n))))

-- bytes that are none of a written word's stay
stays : (places : List ℕ) (news : List (Option ℕ)) (x : List ℕ) (b : ℕ) → in_words (written_at places news) b ≡ false
    → get_or (put_words places news x) b 0 ≡ get_or x b 0
stays [] news x b h = refl
stays (at ∷ places) [] x b h = refl
stays (at ∷ places) (None ∷ news) x b h = stays places news x b h
stays (at ∷ places) (Some w ∷ news) x b h =
    let t = neither (span at 4 b) (in_words (written_at places news) b) h in
    stays places news (put 4 x at w) b t.1 ∙ (put-writes (span at 4) at w (λ c q. q)).stays x b t.0

-- a step changes no byte but those of the places that it counts
pub no_other : (hints entries : List ℕ) (k : ℕ) (image : List ℕ) (b : ℕ)
    → in_words (written_at (places_of (hint_of hints k)) (news_of (answered (steps_of hints entries) k image))) b ≡ false
    → get_or (written (steps_of hints entries) k image) b 0 ≡ get_or image b 0
no_other hints entries k image b h = stays (places_of (hint_of hints k)) (news_of (answered (steps_of hints entries) k image)) image b h
