-- The kinds of a GOT load have the ADR before the fold (RULES 8.19, 8.21): where an ADR fits it is taken, but for what becomes a literal load. By a walk
-- through the two definitions.
use Rattle.std.specs.Prelude.{Ok, Option, Some, None}
use mathlib.Core.Path.{◌≡◌, refl, sym}
use mathlib.Core.Bool.{Bool, true, false, ◌&&◌}
use Prim.Native.Nat.{ℕ, ◌+◌, ◌%◌, ◌^◌, ◌<◌}
use native.Mathlib.Omega.{arith}
use borrow.Author.Tests.{eq-eqb, lt-ltb}
use lib.Dec.{eqb}
use Rattle.util.specs.Choice.{choose}
use Rattle.macho.specs.Types.{MCLOH_AdrpLdrGotLdr, MCLOH_AdrpLdrGotStr}
use Rattle.arm64_insn.specs.Reach.{within1mb}
use Rattle.arm64_insn.specs.Add.{add_of}
use Rattle.arm64_insn.specs.LoadStore.{load_store_of}
use Rattle.arm64_insn.specs.Literal.{has_literal_form}
use Rattle.arm64_insn.specs.declared.add.Add.{Add}
use Rattle.arm64_insn.specs.declared.ldst.LoadStore.{LoadStore}
use Rattle.arm64_insn.proofs.Decoded.{decoded-add}
use Rattle.arm64_insn.proofs.Decodes.{add-decodes, load-store-decodes}
use Rattle.arm64_insn.proofs.Offsets.{page-sum}
use Rattle.arm64_hint_terms.specs.Answer.{sum_of}
use Rattle.arm64_hint_terms.specs.Plans.{adr_first}
use Rattle.arm64_hint_terms.specs.declared.answer.Insns.{Insns}
use Rattle.arm64_hint_terms.specs.declared.rels.Rels.{Rels}
use Rattle.arm64_hint_terms.proofs.Ways.{never}
use Rattle.arm64_hint_got.specs.Got.{relaxed_load, got_load, adr_or_fold_load, relaxed_to, relaxed_ldr, adrp_ldr_got_ldr, relaxed_str, adrp_ldr_got_str}
use Rattle.arm64_hint_got.specs.declared.GotLoad.TheVariants.{Relaxed}
use Rattle.arm64_hint_laws.specs.Decide.{by_rule, bars31, decide}
use Rattle.arm64_hint_laws.specs.RustOrder.{AdrFits}

-- an ADD is no load or store
not-access : (w : ℕ) (d : Add) → add_of w ≡ Some d → load_store_of w ≡ None
not-access w d e = go (load_store_of w) refl
  where
    go : (x : Option LoadStore) → load_store_of w ≡ x → x ≡ None
    go None f = refl
    go (Some l) f = let a = add-decodes w d e in let b = load-store-decodes w l f in never (cc)

module _ (s : Insns) (r : Rels) (d : Add) (addr : ℕ) (ls : LoadStore) (f : AdrFits s r d addr ls) where
  -- the GOT load is the ADD
  relaxed : got_load s true ≡ Ok (Relaxed addr d)
  unfolding got_load relaxed_load sum_of choose
  relaxed =
      let t = f.words.through in
      let m = (decoded-add s.w1 d t.second).immediate in
      let below : addr < 2 ^ 64 = omega (arith, t.made, page-sum t.adrp.imm s.p0 d.imm m) in
      rw (
        t.first,
        not-access s.w1 d t.second,
        t.second,
        eq-eqb d.rn t.adrp.rd t.source,
        ← t.made,
        lt-ltb addr (2 ^ 64) below,
      )

  -- kind 6: a store
  pub got-str-adr : bars31 MCLOH_AdrpLdrGotStr s ≡ false → ls.is_store ≡ true → decide MCLOH_AdrpLdrGotStr s r ≡ adr_first s ls.base addr
  unfolding decide by_rule adrp_ldr_got_str relaxed_str choose
  got-str-adr n st = rw (n, f.pair, f.words.third, st, relaxed, eq-eqb d.rd ls.base (sym f.words.base), f.reach)

  -- kind 4: what has no literal form, and an address that is no multiple of 4
  pub got-ldr-adr : bars31 MCLOH_AdrpLdrGotLdr s ≡ false → (has_literal_form ls && eqb (addr % 4) 0) ≡ false
      → decide MCLOH_AdrpLdrGotLdr s r ≡ adr_first s ls.base addr
  unfolding decide by_rule adrp_ldr_got_ldr relaxed_ldr adr_or_fold_load choose
  got-ldr-adr n e = rw (n, f.pair, f.words.third, relaxed, eq-eqb d.rd ls.base (sym f.words.base), e, f.reach)

  -- and what a literal load does not reach
  pub got-ldr-adr-far : bars31 MCLOH_AdrpLdrGotLdr s ≡ false → addr + ls.offset < 2 ^ 64 → within1mb s.p2 (addr + ls.offset) ≡ false
      → decide MCLOH_AdrpLdrGotLdr s r ≡ adr_first s ls.base addr
  unfolding decide by_rule adrp_ldr_got_ldr relaxed_ldr relaxed_to adr_or_fold_load sum_of choose
  got-ldr-adr-far n below far = far-by (has_literal_form ls && eqb (addr % 4) 0) refl
    where
      far-by : (b : Bool) → (has_literal_form ls && eqb (addr % 4) 0) ≡ b → decide MCLOH_AdrpLdrGotLdr s r ≡ adr_first s ls.base addr
      far-by false e = got-ldr-adr n e
      far-by true e =
          rw (
            n,
            f.pair,
            f.words.third,
            relaxed,
            eq-eqb d.rd ls.base (sym f.words.base),
            e,
            lt-ltb (addr + ls.offset) (2 ^ 64) below,
            far,
            f.reach,
          )
