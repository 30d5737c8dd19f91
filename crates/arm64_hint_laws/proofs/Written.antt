-- What a decision writes is in the table of each kind's rewrites, and each new word has 32 bits. By cases on the rules.
use Rattle.std.specs.Prelude.{Result, Ok, Err, Option, Some, None}
use mathlib.Core.Path.{◌≡◌, refl, sym, subst}
use Prim.Native.Nat.{ℕ, ◌+◌, ◌^◌, ◌<◌}
use native.Mathlib.Nat.{div-le_self}
use native.Mathlib.Omega.{arith}
use lib.Dec.{lit<}
use Rattle.util.specs.Bits.{field}
use Rattle.util.specs.Wrap.{diff}
use Rattle.macho.specs.Types.{MCLOH_AdrpAdrp, MCLOH_AdrpLdr, MCLOH_AdrpAddLdr, MCLOH_AdrpLdrGotLdr}
use Rattle.macho.specs.Types.{MCLOH_AdrpAddStr, MCLOH_AdrpLdrGotStr, MCLOH_AdrpAdd, MCLOH_AdrpLdrGot}
use Rattle.arm64_insn.specs.Adrp.{adr_word}
use Rattle.arm64_insn.specs.Fix.{nop_word}
use Rattle.arm64_insn.specs.Literal.{literal_word, base_word}
use Rattle.arm64_insn.specs.Manual.{ADR}
use Rattle.arm64_insn.specs.declared.add.Add.{Add}
use Rattle.arm64_insn.specs.declared.ldst.LoadStore.{LoadStore}
use Rattle.arm64_insn.proofs.Decoded.{decoded-add, decoded-load-store, literal-opc-lt, literal-v-lt}
use Rattle.arm64_insn.proofs.Manual.{encode-lt}
use Rattle.arm64_hint_terms.specs.Answer.{decision_number}
use Rattle.arm64_hint_terms.specs.Plans.{folded}
use Rattle.arm64_hint_laws.specs.Decide.{decide}
use Rattle.arm64_hint_laws.specs.Written.{OnePage, SecondAccess, SecondAdd, ThirdAccess, Written}
use Rattle.arm64_hint_laws.specs.Written.{declines, nine-2, nine-3, nine-4, nine-5, nine-6, nine-8}
use Rattle.arm64_hint_laws.specs.Written.{drop-1, literal-2, literal-3, adr-3, fold-3, slot-4, literal-4, adr-4, fold-4, adr-5, fold-5}
use Rattle.arm64_hint_laws.specs.Written.{slot-6, adr-6, fold-6, adr-7, slot-8, adr-8}
use Rattle.arm64_hint_terms.specs.declared.answer.Insns.{Insns}
use Rattle.arm64_hint_terms.specs.declared.answer.Rewrite.{Rewrite}
use Rattle.arm64_hint_terms.specs.declared.answer.Rewrite.TheVariants.{Literal, Slot}
use Rattle.arm64_hint_terms.specs.declared.answer.Plan.{Plan}
use Rattle.arm64_hint_terms.specs.declared.answer.NoRewrite.{NoRewrite}
use Rattle.arm64_hint_terms.specs.declared.answer.NoRewrite.TheVariants.{Declined, Nine}
use Rattle.arm64_hint_terms.specs.declared.rels.Rels.{Rels}
use Rattle.arm64_hint_adrp.proofs.Adds.{Adds}
use Rattle.arm64_hint_got.proofs.Loads.{Makes}
use Rattle.arm64_hint_laws.proofs.Cases as Cases
use Rattle.arm64_hint_laws.proofs.Cases.{EachRule, by_kind}

-- what the cases of the rules say of the words that stand there

one-page : {s : Insns} → Cases.Pages s → OnePage s
one-page p = record { a = p.a; b = p.b; first = p.first; second = p.second; register = p.register; page = p.page }

second : {s : Insns} (ls : LoadStore) (target : ℕ) → Cases.Literal s ls target → SecondAccess s ls target
second ls target l = record { adrp = l.adrp; first = l.first; second = l.second; base = l.base; reached = l.made }

added : {s : Insns} (d : Add) (addr : ℕ) → Makes s addr d → SecondAdd s d addr
added d addr m = record { adrp = m.adrp; first = m.first; second = m.second; source = m.source; made = m.made }

third : {s : Insns} (d : Add) (ls : LoadStore) (addr target : ℕ) → Adds s addr d ls → target ≡ addr + ls.offset → ThirdAccess s d addr ls target
third d ls addr target t e = record {
  through = record { adrp = t.adrp; first = t.first; second = t.second; source = t.source; made = t.made };
  third = t.third;
  base = t.base;
  reached = e;
}

-- a fold, by the offset that its case has for the sum
fold : (s : Insns) (kind : ℕ) → ((d : Add) (addr : ℕ) (ls : LoadStore) (target : ℕ) → ThirdAccess s d addr ls target
    → Written s kind (folded ls d.rn (d.imm + ls.offset))) → Cases.Folds s (Written s kind)
fold s kind row d ls addr offset t e l z =
    subst (λ (o : ℕ). Written s kind (folded ls d.rn o)) (sym e) (row d addr ls (addr + ls.offset) (third d ls addr (addr + ls.offset) t refl))

each-writes : (s : Insns) (r : Rels) → EachRule s r (Written s)
each-writes s r =
    record {
      declined = λ kind. declines;
      adrp-adrp = λ pages _. Cases.adrp-adrp s (Written s MCLOH_AdrpAdrp) declines (λ p. drop-1 (one-page p)) pages;
      adrp-ldr = λ pair _.
          Cases.adrp-ldr s (Written s MCLOH_AdrpLdr) declines nine-2 (λ ls target l. literal-2 ls target (second ls target l)) pair;
      adrp-add-ldr = λ pair _.
          Cases.adrp-add-ldr s (Written s MCLOH_AdrpAddLdr) declines nine-3 (fold s MCLOH_AdrpAddLdr fold-3)
          (λ d ls addr target t a n. adr-3 d addr ls target (third d ls addr target t a.made))
          (λ d ls addr target t a f z n. literal-3 d addr ls target (third d ls addr target t a.made)) pair;
      adrp-ldr-got-ldr = λ pair _.
          Cases.adrp-ldr-got-ldr s (Written s MCLOH_AdrpLdrGotLdr) declines nine-4 (fold s MCLOH_AdrpLdrGotLdr fold-4)
          (λ d ls addr t n. adr-4 d addr ls (addr + ls.offset) (third d ls addr (addr + ls.offset) t refl))
          (λ ls slot l. slot-4 ls slot (second ls slot l.load))
          (λ d ls addr target t a f z n. literal-4 d addr ls target (third d ls addr target t a.made)) pair;
      adrp-add-str = λ pair _.
          Cases.adrp-add-str s (Written s MCLOH_AdrpAddStr) declines nine-5 (fold s MCLOH_AdrpAddStr fold-5)
          (λ d ls addr target t a n. adr-5 d addr ls target (third d ls addr target t a.made)) pair;
      adrp-ldr-got-str = λ pair _.
          Cases.adrp-ldr-got-str s (Written s MCLOH_AdrpLdrGotStr) declines nine-6 (fold s MCLOH_AdrpLdrGotStr fold-6)
          (λ d ls addr t n. adr-6 d addr ls (addr + ls.offset) (third d ls addr (addr + ls.offset) t refl))
          (λ ls slot l. slot-6 ls slot (second ls slot l.load)) pair;
      adrp-add = λ pair _. Cases.adrp-add s (Written s MCLOH_AdrpAdd) declines (λ d addr m n. adr-7 d addr (added d addr m)) pair;
      adrp-ldr-got = λ pair _.
          Cases.adrp-ldr-got s (Written s MCLOH_AdrpLdrGot) declines (λ d addr m n. adr-8 d addr (added d addr m)) nine-8
          (λ ls slot l. slot-8 ls slot (second ls slot l)) pair;
    }

-- what is decided is in the table, whatever the words and the entries
pub written : (kind : ℕ) (s : Insns) (r : Rels) → Written s kind (decide kind s r)
written kind s r = by_kind s r (Written s) (each-writes s r) kind

-- ADRP_ADD never answers nine
pub add-never-nine : (s : Insns) (r : Rels) → decision_number (decide MCLOH_AdrpAdd s r) ≡ 0
add-never-nine s r = other (decide MCLOH_AdrpAdd s r) (written MCLOH_AdrpAdd s r)
  where
    other : (d : Result Plan NoRewrite) → Written s MCLOH_AdrpAdd d → decision_number d ≡ 0
    other d declines = refl
    other d (adr-7 _ _ _) = refl

-- a new word has 32 bits
abbrev pub Fits : Option ℕ → Type 0
Fits None = Unit {0}
Fits (Some w) = w < 2 ^ 32

-- each new word of a decision has
abbrev pub AllFit : Result Plan NoRewrite → Type 0
AllFit (Err Declined) = Unit {0}
AllFit (Err Nine) = Unit {0}
AllFit (Ok p) = Fits p.w0 × Fits p.w1 × Fits p.w2

pub nop-fits : nop_word < 2 ^ 32
nop-fits = lit< tt

pub adr-fits : (rd target pc : ℕ) → rd < 32 → adr_word rd target pc < 2 ^ 32
unfolding adr_word
adr-fits rd target pc h = encode-lt (ADR rd (field (diff target pc) 0 21)) (h, omega arith)

pub literal-fits : (ld : LoadStore) (target pc : ℕ) → ld.reg < 32 → literal_word ld target pc < 2 ^ 32
unfolding literal_word
literal-fits ld target pc h =
    omega (arith, literal-opc-lt ld.size ld.is_float ld.is_ldrsw, literal-v-lt ld.size ld.is_float)

pub base-fits : (ls : LoadStore) (rn offset : ℕ) → rn < 32 → offset < 4096 → base_word ls rn offset < 2 ^ 32
unfolding base_word
base-fits ls rn offset h g = omega (arith, div-le_self offset ls.size)

each_fits : (s : Insns) (r : Rels) → EachRule s r (λ (kind : ℕ) (d : Result Plan NoRewrite). AllFit d)
each_fits s r =
    record {
      declined = λ kind. tt;
      adrp-adrp = λ pair _. Cases.adrp-adrp s AllFit tt (λ p. (tt, nop-fits, tt)) pair;
      adrp-ldr = λ pair _. Cases.adrp-ldr s AllFit tt tt (second Literal) pair;
      adrp-add-ldr = λ pair _. Cases.adrp-add-ldr s AllFit tt tt fold adr third pair;
      adrp-ldr-got-ldr = λ pair _. Cases.adrp-ldr-got-ldr s AllFit tt tt fold kept (λ ld slot l. second Slot ld slot l.load) third pair;
      adrp-add-str = λ pair _. Cases.adrp-add-str s AllFit tt tt fold adr pair;
      adrp-ldr-got-str = λ pair _. Cases.adrp-ldr-got-str s AllFit tt tt fold kept (λ ld slot l. second Slot ld slot l.load) pair;
      adrp-add = λ pair _. Cases.adrp-add s AllFit tt made pair;
      adrp-ldr-got = λ pair _. Cases.adrp-ldr-got s AllFit tt made tt (second Slot) pair;
    }
  where
    second : (r : Rewrite) → Cases.SecondLiteral s AllFit r
    second r ld target l = (nop-fits, literal-fits ld target s.p1 (decoded-load-store s.w1 ld l.second).register, tt)

    made : Cases.Makes-Adr s AllFit
    made d target m near = (adr-fits d.rd target s.p0 (decoded-add s.w1 d m.second).register, nop-fits, tt)

    third : Cases.ThirdLiteral s AllFit
    third d ls addr target t a f z n = (nop-fits, nop-fits, literal-fits ls target s.p2 (decoded-load-store s.w2 ls t.third).register)

    adr : Cases.ThirdAdr s AllFit
    adr d ls addr target t a n =
        let b = (decoded-load-store s.w2 ls t.third).base-register in
        (adr-fits ls.base target s.p0 b, nop-fits, base-fits ls ls.base 0 b (lit< tt))

    kept : Cases.KeptAdr s AllFit
    kept d ls addr t n = (adr-fits ls.base addr s.p0 (decoded-load-store s.w2 ls t.third).base-register, nop-fits, tt)

    fold : Cases.Folds s AllFit
    fold d ls addr offset t e l z = (tt, nop-fits, base-fits ls d.rn offset (decoded-add s.w1 d t.second).source l)

-- every new word of a decision has 32 bits, whatever the words and the entries
pub all_fit : (kind : ℕ) (s : Insns) (r : Rels) → AllFit (decide kind s r)
all_fit kind s r = by_kind s r (λ (kind : ℕ) (d : Result Plan NoRewrite). AllFit d) (each_fits s r) kind
