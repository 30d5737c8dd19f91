-- What is decided of a hint: the rule of its kind (arch/arm64.rs, `apply_hints`: the choice over the kind; RULES 8.2, 8.15), where number 31 does not bar it
-- (RULES 8.35).
use Rattle.std.specs.Prelude.{◌≡◌, ℕ, Bool, true, false, not, ◌&&◌, eqb, Result, Ok, Err}
use Rattle.util.specs.Choice.{choose}
use Rattle.macho.specs.Types.{MCLOH_AdrpAdrp, MCLOH_AdrpLdr, MCLOH_AdrpAddLdr, MCLOH_AdrpLdrGotLdr}
use Rattle.macho.specs.Types.{MCLOH_AdrpAddStr, MCLOH_AdrpLdrGotStr, MCLOH_AdrpAdd, MCLOH_AdrpLdrGot}
use Rattle.arm64_insn.specs.Links.{meets31}
use Rattle.arm64_hint_terms.specs.Kinds.{held_words}
use Rattle.arm64_hint_terms.specs.Rels.{has_page_pair, both_pages}
use Rattle.arm64_hint_adrp.specs.Two.{adrp_adrp, adrp_ldr, adrp_add}
use Rattle.arm64_hint_adrp.specs.Three.{adrp_add_ldr, adrp_add_str}
use Rattle.arm64_hint_got.specs.Got.{adrp_ldr_got, adrp_ldr_got_ldr, adrp_ldr_got_str}
use Rattle.arm64_hint_terms.specs.declared.answer.Insns.{Insns}
use Rattle.arm64_hint_terms.specs.declared.answer.Plan.{Plan}
use Rattle.arm64_hint_terms.specs.declared.answer.NoRewrite.{NoRewrite}
use Rattle.arm64_hint_terms.specs.declared.answer.NoRewrite.TheVariants.{Declined}
use Rattle.arm64_hint_terms.specs.declared.rels.Rels.{Rels}

-- what the rule of a kind decides of words and entries; a number that is no kind has none
unfoldable pub by_rule : ℕ → Insns → Rels → Result Plan NoRewrite
by_rule kind s r =
    choose (eqb kind MCLOH_AdrpAdrp) (adrp_adrp s (both_pages r))
    (choose (eqb kind MCLOH_AdrpLdr) (adrp_ldr s (has_page_pair r 2 false))
    (choose (eqb kind MCLOH_AdrpAddLdr) (adrp_add_ldr s (has_page_pair r 3 false))
    (choose (eqb kind MCLOH_AdrpLdrGotLdr) (adrp_ldr_got_ldr s (has_page_pair r 3 true))
    (choose (eqb kind MCLOH_AdrpAddStr) (adrp_add_str s (has_page_pair r 3 false))
    (choose (eqb kind MCLOH_AdrpLdrGotStr) (adrp_ldr_got_str s (has_page_pair r 3 true))
    (choose (eqb kind MCLOH_AdrpAdd) (adrp_add s (has_page_pair r 2 false))
    (choose (eqb kind MCLOH_AdrpLdrGot) (adrp_ldr_got s (has_page_pair r 2 true))
    (Err Declined))))))))

-- whether number 31 bars a hint of a kind from its rule: it links two of the hint's words, or one of them is an ADD to it. ADRP_ADRP is not asked
unfoldable pub bars31 : ℕ → Insns → Bool
bars31 kind s = not (eqb kind MCLOH_AdrpAdrp) && meets31 (held_words kind s)

-- what is decided of a hint of a kind with these words and entries
unfoldable pub decide : ℕ → Insns → Rels → Result Plan NoRewrite
decide kind s r = choose (bars31 kind s) (Err Declined) (by_rule kind s r)

-- a hint of a kind with these entries occurs rewritten: there are words with which it is
pub record Occurs (kind : ℕ) (r : Rels) : Type 0 where
  pub words : Insns
  pub plan : Plan
  pub rewritten : decide kind words r ≡ Ok plan
