-- Linker optimization hints (RULES 1.4, 1.5, 8): LLVM's kinds, what a rewrite writes, the counts, and a sum that passes 2^64 - 1.
use Rattle.std.specs.Prelude.{◌≡◌, ◌⊎◌, true, false, ◌&&◌, ◌||◌, not, List, [], ◌∷◌, ℕ, ◌+◌, ◌%◌, ◌^◌, ◌<◌, eqb, length, Ok, Err, Some, None}
use Rattle.macho.specs.Hint.{word_count, hint_count, hint_of}
use Rattle.macho.specs.Refusal.{number_of}
use Rattle.macho.specs.Types.{MCLOH_AdrpAdrp, MCLOH_AdrpLdrGotLdr, MCLOH_AdrpLdrGotStr}
use Rattle.macho.specs.declared.reloc.Reloc.{Reloc}
use Rattle.macho.specs.declared.hint.HintRecord.{HintRecord}
use Rattle.macho.specs.declared.refusal.Refusal.TheVariants.{Overflow}
use Rattle.image.specs.Words.{words_at}
use Rattle.image.specs.Steps.{Work, answered, step_of}
use Rattle.arm64_insn.specs.Manual.{any_unallocated}
use Rattle.arm64_insn.specs.Links.{meets31}
use Rattle.arm64_insn.specs.Adrp.{adr_word}
use Rattle.arm64_insn.specs.Literal.{has_literal_form}
use Rattle.arm64_insn.specs.Reach.{within1mb}
use Rattle.arm64_insn.specs.declared.add.Add.{Add}
use Rattle.arm64_insn.specs.declared.ldst.LoadStore.{LoadStore}
use Rattle.arm64_hint_terms.specs.Kinds.{words_of, held_words, AreWords, Refers}
use Rattle.arm64_hint_terms.specs.Plans.{adr_first, adr_third, folded}
use Rattle.arm64_hint_terms.specs.declared.answer.Insns.{Insns}
use Rattle.arm64_hint_terms.specs.declared.answer.Plan.{Plan}
use Rattle.arm64_hint_terms.specs.declared.answer.NoRewrite.TheVariants.{Declined, Nine}
use Rattle.arm64_hint_terms.specs.declared.rels.Rels.{Rels}
use Rattle.arm64_hint_laws.specs.Decide.{by_rule, bars31, decide, Occurs}
use Rattle.arm64_hint_laws.specs.RustOrder.{in_rust_order, BothFit, AdrFits, MovedExamples}
use Rattle.arm64_hint_laws.specs.Written.{Written}
use Rattle.arm64_hint_order.specs.Lists.{run_list}
use Rattle.arm64_hint_words.proofs.hint.Hint.get.Statement as Get
use Rattle.arm64_hint_words.proofs.hint.Hint.set.Statement as Set'
use Rattle.arm64_hint_words.proofs.hint.Hint.addr.Statement as Addr
use Rattle.arm64_hint_words.proofs.hint.Hint.has_page_pair.Statement as HasPagePair
use Rattle.arm64_hint_places.specs.Hint.{is_skipped}
use Rattle.arm64_hint_rules.specs.Rule.{outcome_number}
use Rattle.arm64_hint_work.specs.Step.{places_of, add_decision, add_outcome, total, steps_of}
use Rattle.arm64_hint_work.specs.declared.tally.Tally.{Tally}
use Rattle.arm64_hint_run.specs.Run.{run_of}
use Rattle.arm64_hint_kept.specs.Unallocated.{UnallocatedDecline}
use Rattle.arm64_hint_kept.specs.Number31.{Number31Declines, Number31Stays}

-- what is claimed of hints
pub record Hints : Type 2 where
  -- RULES 8.3: a hint is skipped where there is no such kind, or its word count is not the number of that kind's words
  pub skipped : (h : HintRecord) → is_skipped h ≡ (eqb (length (words_of h.kind)) 0 || not (eqb h.n (length (words_of h.kind))))
  -- it leaves the image, and is counted
  pub skipped-leaves : (hints entries : List ℕ) (k : ℕ) → is_skipped (hint_of hints k) ≡ true → (w : Work Tally)
      → step_of (steps_of hints entries) k w ≡ record { image = w.image; tally = add_outcome None w.tally }
  -- RULES 8.2: the word counts are those of LLVM's kinds
  pub counts : (n : ℕ) → word_count n ≡ length (words_of n)
  -- RULES 8.4: a number that is no kind declines
  pub no_kind : (n : ℕ) (s : Insns) (r : Rels) → words_of n ≡ [] → decide n s r ≡ Err Declined
  -- so do entries that do not refer to what the kind says: other types than the kind's and those of the exceptions, or, but for kind 1, two references
  pub entries : (n : ℕ) (s : Insns) (r : Rels) → (Refers n r → ⊥) → decide n s r ≡ Err Declined
  -- RULES 8.9: halves with two targets, or with two addends
  pub two-targets : (n : ℕ) (s : Insns) (r : Rels) (a b : Reloc) → (n ≡ MCLOH_AdrpAdrp → ⊥) → r.r0 ≡ Some a → r.r1 ≡ Some b
      → (a.target ≡ b.target → ⊥) → decide n s r ≡ Err Declined
  pub two-addends : (n : ℕ) (s : Insns) (r : Rels) (a b : Reloc) → (n ≡ MCLOH_AdrpAdrp → ⊥) → r.r0 ≡ Some a → r.r1 ≡ Some b
      → (a.addend ≡ b.addend → ⊥) → decide n s r ≡ Err Declined
  -- RULES 8.4: what is rewritten has entries that refer to what the kind says, one v with one addend but for kind 1, or one of the exceptions
  pub references : (n : ℕ) (s : Insns) (r : Rels) (p : Plan) → decide n s r ≡ Ok p → Refers n r
  -- each exception of the entries occurs: whatever entries refer so, there are words with which the hint is rewritten
  pub exceptions : (n : ℕ) (r : Rels) → (words_of n ≡ [] → ⊥) → Refers n r → Occurs n r
  -- RULES 8.34: a hint that holds an unallocated word declines, whatever its kind and entries: it reaches no sum
  pub unallocated-declines : (n : ℕ) (s : Insns) (r : Rels) → any_unallocated (held_words n s) ≡ true → decide n s r ≡ Err Declined
  -- in a run it is told by the words that stand at the hint's places at its turn; it leaves the image, and is counted
  pub unallocated-leaves : (hints entries : List ℕ) (k : ℕ) (w : Work Tally) → any_unallocated (words_at (places_of (hint_of hints k)) w.image) ≡ true
      → step_of (steps_of hints entries) k w ≡ record { image = w.image; tally = add_decision (Err Declined) w.tally }
  -- so do hints with each word that the Rust takes as a load, also where a sum would pass 2^64 - 1; the same hints with loads of the manual do not
  pub unallocated-examples : UnallocatedDecline
  -- what is rewritten has allocated words
  pub rewritten-allocated : (n : ℕ) (s : Insns) (r : Rels) (p : Plan) → decide n s r ≡ Ok p → any_unallocated (held_words n s) ≡ false
  -- RULES 8.35: a hint that number 31 links, or one of whose words is an ADD to it, declines, whatever its kind and entries: it reaches no sum
  pub declines-31 : (n : ℕ) (s : Insns) (r : Rels) → meets31 (held_words n s) ≡ true → decide n s r ≡ Err Declined
  -- every other hint is decided by its kind's rule, and ADRP_ADRP always
  pub else-by-rule : (n : ℕ) (s : Insns) (r : Rels) → (n ≡ MCLOH_AdrpAdrp) ⊎ (meets31 (held_words n s) ≡ false) → decide n s r ≡ by_rule n s r
  -- in a run it is told by the words that stand at the hint's places at its turn; it leaves the image, and is counted
  pub leaves-31 : (hints entries : List ℕ) (k : ℕ) (w : Work Tally) → meets31 (words_at (places_of (hint_of hints k)) w.image) ≡ true
      → step_of (steps_of hints entries) k w ≡ record { image = w.image; tally = add_decision (Err Declined) w.tally }
  -- an ADRP to 31, an ADD to 31 and a GOT load into 31, by kind, with what the rule alone would have decided, also of sums above 2^64 - 1; of two hints with
  -- an ADRP and one with an ADD, that the words which the rule would have left do not run as the old ones
  pub examples-31 : Number31Declines
  -- number 31 where it links nothing
  pub stays-31 : Number31Stays
  -- RULES 8.4: what is rewritten has the kind's words, by the manual's instructions, or what may stand there instead
  pub words : (n : ℕ) (s : Insns) (r : Rels) (p : Plan) → decide n s r ≡ Ok p → AreWords (words_of n) (s.w0 ∷ s.w1 ∷ s.w2 ∷ [])
  -- RULES 8.12, 8.14: what each rewrite writes at each place, and which kinds may answer nine: the table Written (arm64_hint_laws/specs/Written)
  pub written : (kind : ℕ) (s : Insns) (r : Rels) → Written s kind (decide kind s r)
  -- RULES 8.18, 8.20: a hint of ADRP_ADD_LDR or ADRP_ADD_STR that both the fold and the ADR fit is folded, where number 31 does not bar it; the Rust's order
  -- has the ADR
  pub moved : (kind : ℕ) (s : Insns) (r : Rels) → bars31 kind s ≡ false → (f : BothFit kind s r)
      → (decide kind s r ≡ folded f.ls f.d.rn f.d.imm) × (in_rust_order kind s r ≡ adr_third s f.ls f.addr)
  -- that ADR is never the ADRP that the fold keeps
  pub moved_word : (kind : ℕ) (s : Insns) (r : Rels) (f : BothFit kind s r) → adr_word f.ls.base f.addr s.p0 ≡ s.w0 → ⊥
  -- no other hint of these two kinds moves by the order: where number 31 does not bar it, it is decided as in the Rust's
  pub moved-only : (kind : ℕ) (s : Insns) (r : Rels) → bars31 kind s ≡ false → (decide kind s r ≡ in_rust_order kind s r) ⊎ BothFit kind s r
  -- a load and a store of ADRP_ADD_LDR and a store of ADRP_ADD_STR that both fit, with the words of both orders
  pub moved-examples : MovedExamples
  -- RULES 8.19, 8.21: the kinds of a GOT load keep the ADR before the fold, where number 31 does not bar the hint. ADRP_LDR_GOT_STR has it for every store
  -- that it fits
  pub got-str-adr : (s : Insns) (r : Rels) (d : Add) (addr : ℕ) (st : LoadStore) → AdrFits s r d addr st
      → bars31 MCLOH_AdrpLdrGotStr s ≡ false → st.is_store ≡ true → decide MCLOH_AdrpLdrGotStr s r ≡ adr_first s st.base addr
  -- ADRP_LDR_GOT_LDR for every access that it fits and that is no literal load: without a literal form, of no multiple of 4, or out of the load's reach
  pub got-ldr-adr : (s : Insns) (r : Rels) (d : Add) (addr : ℕ) (ld : LoadStore) → AdrFits s r d addr ld
      → bars31 MCLOH_AdrpLdrGotLdr s ≡ false → (has_literal_form ld && eqb (addr % 4) 0) ≡ false → decide MCLOH_AdrpLdrGotLdr s r ≡ adr_first s ld.base addr
  pub got-ldr-adr-far : (s : Insns) (r : Rels) (d : Add) (addr : ℕ) (ld : LoadStore) → AdrFits s r d addr ld
      → bars31 MCLOH_AdrpLdrGotLdr s ≡ false → addr + ld.offset < 2 ^ 64 → within1mb s.p2 (addr + ld.offset) ≡ false
      → decide MCLOH_AdrpLdrGotLdr s r ≡ adr_first s ld.base addr
  -- a kind of two words writes no third place
  pub two-words : (n : ℕ) (s : Insns) (r : Rels) (p : Plan) → length (words_of n) ≡ 2 → decide n s r ≡ Ok p → p.w2 ≡ None
  -- each new word has 32 bits
  pub all_fit : (n : ℕ) (s : Insns) (r : Rels) (p : Plan) (w : ℕ) → decide n s r ≡ Ok p
      → (p.w0 ≡ Some w → w < 2 ^ 32) × (p.w1 ≡ Some w → w < 2 ^ 32) × (p.w2 ≡ Some w → w < 2 ^ 32)
  -- RULES 8.32: the four counts are together the number of hints
  pub counts-sum : (image hints entries : List ℕ) (t : Tally) → run_of image hints entries ≡ Ok t → total t ≡ hint_count hints
  -- RULES 1.4: a hint answered nine leaves the image and is counted
  pub nine-leaves : (hints entries : List ℕ) (k : ℕ) (w : Work Tally) → outcome_number (answered (steps_of hints entries) k w.image) ≡ number_of Overflow
      → step_of (steps_of hints entries) k w ≡ record { image = w.image; tally = add_decision (Err Nine) w.tally }
  -- and the hints after it are worked on that
  pub nine-goes-on : (hints entries : List ℕ) (k : ℕ) (w : Work Tally) → outcome_number (answered (steps_of hints entries) k w.image) ≡ number_of Overflow
      → (l : List ℕ) → run_list (step_of (steps_of hints entries)) (k ∷ l) w
      ≡ run_list (step_of (steps_of hints entries)) l (record { image = w.image; tally = add_decision (Err Nine) w.tally })
  -- RULES 12.8: the Rust's `Hint` (arm64_hint_words/src/hint.rt), through which the rules read and store: each method meets its contract
  pub hint-get : (M : Type 1) → Get.statement M
  pub hint-set : (M : Type 1) → Set'.statement M
  pub hint-addr : (M : Type 1) → Addr.statement M
  pub hint-has-page-pair : (M : Type 1) → HasPagePair.statement M
