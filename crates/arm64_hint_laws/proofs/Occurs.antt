-- Nothing that a kind's entries may be is there in vain: for every choice of entries that refer to what a kind says, exceptions and mixed halves included,
-- there are words with which the hint is rewritten (RULES 8.4, 8.9). One hint's words for each kind, computed.
use Rattle.std.specs.Prelude.{Option, Some, None}
use mathlib.Core.Path.{◌≡◌, sym, subst}
use mathlib.Core.List.{[]}
use Prim.Native.Nat.{ℕ}
use borrow.Author.Tests.{ne_eqb}
use Rattle.util.specs.Choice.{choose}
use Rattle.util.specs.Wrap.{in_range}
use Rattle.util.proofs.Cases.{same_or}
use Rattle.macho.specs.Types.{MCLOH_AdrpAdrp, MCLOH_AdrpLdr, MCLOH_AdrpAddLdr, MCLOH_AdrpLdrGotLdr}
use Rattle.macho.specs.Types.{MCLOH_AdrpAddStr, MCLOH_AdrpLdrGotStr, MCLOH_AdrpAdd, MCLOH_AdrpLdrGot}
use Rattle.macho.specs.Hint.{word_count}
use Rattle.arm64_insn.specs.LoadStoreTable.{row_of}
use Rattle.arm64_insn.specs.Links.{makes, takes, links31, adds31}
use Rattle.arm64_insn.specs.Page.{page_of, adrp_page}
use Rattle.arm64_insn.specs.Reach.{within1mb}
use Rattle.arm64_insn.specs.Adrp.{adrp_of, adr_word}
use Rattle.arm64_insn.specs.Add.{add_of}
use Rattle.arm64_insn.specs.Fix.{nop_word}
use Rattle.arm64_insn.specs.LoadStore.{load_store_of}
use Rattle.arm64_insn.specs.Literal.{has_literal_form, literal_opc, literal_v, literal_word, base_word}
use Rattle.arm64_hint_terms.specs.Answer.{sum_of, fits_literal}
use Rattle.arm64_hint_terms.specs.Kinds.{words_of, Refers}
use Rattle.arm64_hint_terms.specs.declared.answer.Insns.{Insns}
use Rattle.arm64_hint_terms.specs.declared.answer.Plan.{Plan}
use Rattle.arm64_hint_terms.specs.declared.answer.Rewrite.{Rewrite}
use Rattle.arm64_hint_terms.specs.declared.answer.Rewrite.TheVariants.{Drop, Literal, Adr, Fold, Slot}
use Rattle.arm64_hint_terms.specs.declared.rels.Rels.{Rels}
use Rattle.arm64_hint_terms.proofs.References.{passes-adrp-adrp, passes-adrp-ldr, passes-adrp-add-ldr, passes-adrp-ldr-got-ldr, passes-adrp-add-str}
use Rattle.arm64_hint_terms.proofs.References.{passes-adrp-ldr-got-str, passes-adrp-add, passes-adrp-ldr-got}
use Rattle.arm64_hint_adrp.specs.Two.{same_page, adrp_adrp, ldr_second, ldr_at_page, adrp_ldr, adr_to, add_at_page, adrp_add}
use Rattle.arm64_hint_adrp.specs.Three.{add_access, through, folds, fold_or_adr, load_through, adrp_add_ldr, adrp_add_str}
use Rattle.arm64_hint_got.specs.Got.{loads_slot, slot_load, got_load, adrp_ldr_got, slot_to, got_literal, adrp_ldr_got_ldr, adrp_ldr_got_str}
use Rattle.arm64_hint_laws.specs.Decide.{by_rule, bars31, decide, Occurs}

-- the choice of the rule: to unfold this name is to unfold all that its line names
unfoldable barring : Unit {0}
unfolding word_count makes takes links31 adds31 bars31 by_rule decide
barring = tt

-- three words in a row from 0x1000 on
abbrev at : ℕ → ℕ → ℕ → Insns
at a b c = record { w0 = a; w1 = b; w2 = c; p0 = 0x1000; p1 = 0x1004; p2 = 0x1008 }

abbrev writes : Rewrite → Option ℕ → Option ℕ → Option ℕ → Plan
writes r a b c = record { rewrite = r; w0 = a; w1 = b; w2 = c }

module _ (r : Rels) where
  adrp-adrp : Refers MCLOH_AdrpAdrp r → Occurs MCLOH_AdrpAdrp r
  unfolding barring choose adrp_adrp adrp_of same_page adrp_page page_of
  adrp-adrp f = record {
    words = at 0x90000000 0x90000000 0;
    plan = writes Drop None (Some nop_word) None;
    rewritten = rw (passes-adrp-adrp r f);
  }

  adrp-ldr : Refers MCLOH_AdrpLdr r → Occurs MCLOH_AdrpLdr r
  unfolding barring choose adrp_ldr adrp_of load_store_of row_of ldr_at_page adrp_page page_of sum_of ldr_second fits_literal has_literal_form within1mb in_range
      literal_word literal_opc literal_v
  adrp-ldr f = record {
    words = at 0x90000000 0xf9400401 0;
    plan = writes Literal (Some nop_word) (Some 0x58000021) None;
    rewritten = rw (passes-adrp-ldr r f);
  }

  adrp-add-ldr : Refers MCLOH_AdrpAddLdr r → Occurs MCLOH_AdrpAddLdr r
  unfolding barring choose adrp_add_ldr through adrp_of add_of load_store_of row_of add_access adrp_page page_of sum_of load_through fits_literal has_literal_form
      within1mb in_range folds fold_or_adr base_word
  adrp-add-ldr f = record {
    words = at 0x905bed00 0x912f2001 0x3d000025;
    plan = writes Fold None (Some nop_word) (Some 0x3d2f2005);
    rewritten = rw (passes-adrp-add-ldr r f);
  }

  adrp-ldr-got-ldr : Refers MCLOH_AdrpLdrGotLdr r → Occurs MCLOH_AdrpLdrGotLdr r
  unfolding barring choose adrp_ldr_got_ldr adrp_of load_store_of row_of add_of got_load slot_load loads_slot adrp_page page_of sum_of got_literal slot_to within1mb
      in_range literal_word literal_opc literal_v
  adrp-ldr-got-ldr f = record {
    words = at 0xb0000000 0xf9400402 0x39c00042;
    plan = writes Slot (Some nop_word) (Some 0x58008022) None;
    rewritten = rw (passes-adrp-ldr-got-ldr r f);
  }

  adrp-add-str : Refers MCLOH_AdrpAddStr r → Occurs MCLOH_AdrpAddStr r
  unfolding barring choose adrp_add_str through adrp_of add_of load_store_of row_of add_access adrp_page page_of sum_of within1mb in_range folds fold_or_adr
      base_word
  adrp-add-str f = record {
    words = at 0x90001000 0x91004000 0xf9000001;
    plan = writes Fold None (Some nop_word) (Some 0xf9000801);
    rewritten = rw (passes-adrp-add-str r f);
  }

  adrp-ldr-got-str : Refers MCLOH_AdrpLdrGotStr r → Occurs MCLOH_AdrpLdrGotStr r
  unfolding barring choose adrp_ldr_got_str adrp_of load_store_of row_of add_of got_load slot_load loads_slot adrp_page page_of sum_of got_literal slot_to within1mb
      in_range literal_word literal_opc literal_v
  adrp-ldr-got-str f = record {
    words = at 0xb0000000 0xf9400402 0x39000042;
    plan = writes Slot (Some nop_word) (Some 0x58008022) None;
    rewritten = rw (passes-adrp-ldr-got-str r f);
  }

  adrp-add : Refers MCLOH_AdrpAdd r → Occurs MCLOH_AdrpAdd r
  unfolding barring choose adrp_add adrp_of add_of add_at_page adrp_page page_of sum_of adr_to within1mb in_range adr_word
  adrp-add f = record {
    words = at 0x90000000 0x91000c00 0;
    plan = writes Adr (Some 0x70000000) (Some nop_word) None;
    rewritten = rw (passes-adrp-add r f);
  }

  adrp-ldr-got : Refers MCLOH_AdrpLdrGot r → Occurs MCLOH_AdrpLdrGot r
  unfolding barring choose adrp_ldr_got adrp_of load_store_of row_of add_of got_load slot_load loads_slot adrp_page page_of sum_of within1mb in_range
      literal_word literal_opc literal_v
  adrp-ldr-got f = record {
    words = at 0xb0000000 0xf9400402 0;
    plan = writes Slot (Some nop_word) (Some 0x58008022) None;
    rewritten = rw (passes-adrp-ldr-got r f);
  }

-- each kind by its number
pub occurs : (n : ℕ) (r : Rels) → (words_of n ≡ [] → ⊥) → Refers n r → Occurs n r
unfolding words_of choose
occurs n r some f =
    same_or n MCLOH_AdrpAdrp (by MCLOH_AdrpAdrp (adrp-adrp r)) (λ a.
    same_or n MCLOH_AdrpLdr (by MCLOH_AdrpLdr (adrp-ldr r)) (λ b.
    same_or n MCLOH_AdrpAddLdr (by MCLOH_AdrpAddLdr (adrp-add-ldr r)) (λ c.
    same_or n MCLOH_AdrpLdrGotLdr (by MCLOH_AdrpLdrGotLdr (adrp-ldr-got-ldr r)) (λ d.
    same_or n MCLOH_AdrpAddStr (by MCLOH_AdrpAddStr (adrp-add-str r)) (λ e.
    same_or n MCLOH_AdrpLdrGotStr (by MCLOH_AdrpLdrGotStr (adrp-ldr-got-str r)) (λ g.
    same_or n MCLOH_AdrpAdd (by MCLOH_AdrpAdd (adrp-add r)) (λ h.
    same_or n MCLOH_AdrpLdrGot (by MCLOH_AdrpLdrGot (adrp-ldr-got r)) (λ i.
    absurd
    (some
    (rw (ne_eqb n 1 a, ne_eqb n 2 b, ne_eqb n 3 c, ne_eqb n 4 d, ne_eqb n 5 e, ne_eqb n 6 g, ne_eqb n 7 h, ne_eqb n 8 i)))))))))))
  where
    by : (k : ℕ) → (Refers k r → Occurs k r) → n ≡ k → Occurs n r
    by k o e = subst (λ (m : ℕ). Occurs m r) (sym e) (o (subst (λ (m : ℕ). Refers m r) e f))
