-- LLVM's kinds define each hint (RULES 1.5, 8.2 to 8.4): macho's word counts are LLVM's, a number that is no kind declines, and a hint is
-- only rewritten where its words and its entries are what its kind says, or one of the named exceptions stands there. By cases on the kind, on what
-- the words decode to, and on the entries' test; the decoders' answers are the manual's forms by arm64_insn's `Decodes`.
use Rattle.std.specs.Prelude.{Result, Ok, Err, Option, Some, None}
use mathlib.Core.Path.{◌≡◌, refl, sym, ap, subst, ◌∙◌}
use mathlib.Core.Logic.{◌⊎◌, inl, inr}
use mathlib.Core.Bool.{Bool, true, false, not}
use mathlib.Core.List.{List, [], ◌∷◌}
use Prim.Native.Nat.{ℕ}
use native.Mathlib.Omega.{arith}
use borrow.Author.Tests.{not-true}
use lib.Dec.{eqb, leb}
use lib.ListN.{length}
use Rattle.util.specs.Choice.{choose}
use Rattle.util.proofs.Choice.{split, chosen, choose-ap, both}
use Rattle.macho.specs.Hint.{word_count}
use Rattle.macho.specs.declared.reloc.Reloc.{Reloc}
use Rattle.macho.specs.Types.{MCLOH_AdrpAdrp, MCLOH_AdrpLdr, MCLOH_AdrpAddLdr, MCLOH_AdrpLdrGotLdr}
use Rattle.macho.specs.Types.{MCLOH_AdrpAddStr, MCLOH_AdrpLdrGotStr, MCLOH_AdrpAdd, MCLOH_AdrpLdrGot}
use Rattle.arm64_insn.specs.Adrp.{adrp_of}
use Rattle.arm64_insn.specs.Add.{add_of}
use Rattle.arm64_insn.specs.Manual.{size_in, v_in, opc_in}
use Rattle.arm64_insn.specs.LoadStore.{load_store_of}
use Rattle.arm64_insn.specs.Literal.{has_literal_form}
use Rattle.arm64_insn.proofs.Decodes.{adrp-decodes, add-decodes, decodes-load-store, load-store-decodes}
use Rattle.arm64_insn.specs.declared.adrp.Adrp.{Adrp}
use Rattle.arm64_hint_terms.specs.declared.answer.NoRewrite.{NoRewrite}
use Rattle.arm64_hint_got.specs.declared.GotLoad.{GotLoad}
use Rattle.arm64_hint_terms.specs.declared.answer.NoRewrite.TheVariants.{Declined, Nine}
use Rattle.arm64_insn.specs.declared.add.Add.{Add}
use Rattle.arm64_insn.specs.declared.ldst.LoadStore.{LoadStore}
use Rattle.arm64_hint_terms.specs.Answer.{sum_of, summed}
use Rattle.arm64_hint_adrp.specs.Two.{adrp_adrp, adrp_ldr, adrp_add}
use Rattle.arm64_hint_adrp.specs.Three.{through, fold_or_adr, adrp_add_ldr_with, adrp_add_ldr, adrp_add_str_with, adrp_add_str}
use Rattle.arm64_hint_got.specs.Got.{got_load, adrp_ldr_got_with, adrp_ldr_got, got_ldr_by, got_ldr_with, adrp_ldr_got_ldr, got_str_by, got_str_with, adrp_ldr_got_str}
use Rattle.arm64_hint_got.specs.declared.GotLoad.TheVariants.{Slot, Relaxed}
use Rattle.arm64_hint_laws.specs.Decide.{decide}
use Rattle.arm64_hint_terms.specs.Kinds.{Word, Adrp-Page, Adrp-GotPage, Add-PageOff, Ldr-PageOff, Ldr-GotPageOff, Ldr, Str}
use Rattle.arm64_hint_terms.specs.Kinds.{HintKind, kinds, words_among, words_of, IsAdrp, IsAdd, IsAccess, IsWord, IsInstead, AreWords, OneV, Refers}
use Rattle.arm64_hint_terms.specs.declared.answer.Insns.{Insns}
use Rattle.arm64_hint_terms.specs.declared.answer.Plan.{Plan}
use Rattle.arm64_hint_terms.specs.declared.rels.Rels.{Rels}
use Rattle.arm64_hint_terms.proofs.References.{refers-adrp-adrp, refers-adrp-ldr, refers-adrp-add-ldr, refers-adrp-ldr-got-ldr, refers-adrp-add-str}
use Rattle.arm64_hint_terms.proofs.References.{refers-adrp-ldr-got-str, refers-adrp-add, refers-adrp-ldr-got}
use Rattle.arm64_hint_adrp.proofs.Adds.{Adds, adds}
use Rattle.arm64_hint_got.proofs.Loads.{Loads, Makes, Got, got, eight-bytes}
use Rattle.arm64_hint_laws.proofs.Cases as Cases
use Rattle.arm64_hint_laws.proofs.Cases.{Literal, by_kind}

never : {P : Type 0} → ◌≡◌ {A = ℕ} 0 1 → P
never z = absurd (omega arith)

-- how many words the kind of a number among some has
abbrev count_in : List HintKind → ℕ → ℕ
count_in [] n = 0
count_in (k ∷ ks) n = choose (eqb n k.number) (length k.words) (count_in ks n)

count-in : (ks : List HintKind) (n : ℕ) → count_in ks n ≡ length (words_among ks n)
count-in [] n = refl
count-in (k ∷ ks) n = rw (count-in ks n) (sym (choose-ap length (eqb n k.number) k.words (words_among ks n)))

-- macho's word count is the number of LLVM's words
pub counts : (n : ℕ) → word_count n ≡ length (words_of n)
unfolding word_count words_of
counts n = count-in kinds n

-- a number that is no kind declines
pub no_kind : (n : ℕ) (s : Insns) (r : Rels) → words_of n ≡ [] → decide n s r ≡ Err Declined
unfolding words_of choose
no_kind n s r =
    by_kind s r (λ (k : ℕ) (d : Result Plan NoRewrite). words_of k ≡ [] → d ≡ Err Declined)
    (record {
      declined = λ k e. refl;
      adrp-adrp = λ p _ e. never (cc);
      adrp-ldr = λ p _ e. never (cc);
      adrp-add-ldr = λ p _ e. never (cc);
      adrp-ldr-got-ldr = λ p _ e. never (cc);
      adrp-add-str = λ p _ e. never (cc);
      adrp-ldr-got-str = λ p _ e. never (cc);
      adrp-add = λ p _ e. never (cc);
      adrp-ldr-got = λ p _ e. never (cc);
    })
    n

-- a decision that does not write the third place
abbrev pub KeepsThird : Result Plan NoRewrite → Type 0
KeepsThird (Err Declined) = Unit {0}
KeepsThird (Err Nine) = Unit {0}
KeepsThird (Ok p) = p.w2 ≡ None

-- a kind of two words never writes the third place
pub two-words : (n : ℕ) (s : Insns) (r : Rels) → length (words_of n) ≡ 2 → KeepsThird (decide n s r)
unfolding words_of choose
two-words n s r =
    by_kind s r (λ (k : ℕ) (d : Result Plan NoRewrite). length (words_of k) ≡ 2 → KeepsThird d)
    (record {
      declined = λ k e. tt;
      adrp-adrp = λ p _ e. Cases.adrp-adrp s KeepsThird tt (λ z. refl) p;
      adrp-ldr = λ p _ e. Cases.adrp-ldr s KeepsThird tt tt (λ ld t l. refl) p;
      adrp-add-ldr = λ p _ e. absurd (omega arith);
      adrp-ldr-got-ldr = λ p _ e. absurd (omega arith);
      adrp-add-str = λ p _ e. absurd (omega arith);
      adrp-ldr-got-str = λ p _ e. absurd (omega arith);
      adrp-add = λ p _ e. Cases.adrp-add s KeepsThird tt (λ d t m l. refl) p;
      adrp-ldr-got = λ p _ e. Cases.adrp-ldr-got s KeepsThird tt (λ d t m l. refl) tt (λ ld t l. refl) p;
    })
    n

-- a hint's words
abbrev pub word_list : Insns → List ℕ
word_list s = s.w0 ∷ s.w1 ∷ s.w2 ∷ []

-- what is not declined has entries that refer to what the kind says
abbrev Referred : Rels → ℕ → Result Plan NoRewrite → Type 0
Referred r k (Err Declined) = Unit {0}
Referred r k (Err Nine) = Refers k r
Referred r k (Ok p) = Refers k r

-- a rule that declines where the entries' test is false
paired : (r : Rels) (k : ℕ) (f : Bool → Result Plan NoRewrite) → f false ≡ Err Declined → (pair : Bool) → (pair ≡ true → Refers k r) → Referred r k (f pair)
paired r k f e true h = any (f true)
  where
    any : (d : Result Plan NoRewrite) → Referred r k d
    any (Err Declined) = tt
    any (Err Nine) = h refl
    any (Ok p) = h refl
paired r k f e false h = rw e tt

got-ldr-unpaired : (s : Insns) (z : Option LoadStore) → got_ldr_with s false z ≡ Err Declined
unfolding got_load choose
got-ldr-unpaired s None = refl
got-ldr-unpaired s (Some ld) = refl

got-str-unpaired : (s : Insns) (z : Option LoadStore) → got_str_with s false z ≡ Err Declined
unfolding got_load
got-str-unpaired s None = refl
got-str-unpaired s (Some st) =
    chosen (λ (d : Result Plan NoRewrite). d ≡ Err Declined) st.is_store (got_str_by s st (got_load s false)) (Err Declined) (unfold choose in refl) refl

referred : (n : ℕ) (s : Insns) (r : Rels) → Referred r n (decide n s r)
unfolding choose adrp_adrp adrp_ldr adrp_add_ldr adrp_add_str through adrp_ldr_got_ldr adrp_ldr_got_str adrp_add adrp_ldr_got got_load
referred n s r =
    by_kind s r (Referred r)
    (record {
      declined = λ k. tt;
      adrp-adrp = λ p e. paired r MCLOH_AdrpAdrp (adrp_adrp s) refl p (λ t. refers-adrp-adrp r (e ∙ t));
      adrp-ldr = λ p e. paired r MCLOH_AdrpLdr (adrp_ldr s) refl p (λ t. refers-adrp-ldr r (e ∙ t));
      adrp-add-ldr = λ p e. paired r MCLOH_AdrpAddLdr (adrp_add_ldr s) refl p (λ t. refers-adrp-add-ldr r (e ∙ t));
      adrp-ldr-got-ldr = λ p e.
          paired r MCLOH_AdrpLdrGotLdr (adrp_ldr_got_ldr s) (got-ldr-unpaired s (load_store_of s.w2)) p (λ t. refers-adrp-ldr-got-ldr r (e ∙ t));
      adrp-add-str = λ p e. paired r MCLOH_AdrpAddStr (adrp_add_str s) refl p (λ t. refers-adrp-add-str r (e ∙ t));
      adrp-ldr-got-str = λ p e.
          paired r MCLOH_AdrpLdrGotStr (adrp_ldr_got_str s) (got-str-unpaired s (load_store_of s.w2)) p (λ t. refers-adrp-ldr-got-str r (e ∙ t));
      adrp-add = λ p e. paired r MCLOH_AdrpAdd (adrp_add s) refl p (λ t. refers-adrp-add r (e ∙ t));
      adrp-ldr-got = λ p e. paired r MCLOH_AdrpLdrGot (adrp_ldr_got s) refl p (λ t. refers-adrp-ldr-got r (e ∙ t));
    })
    n

-- entries that do not refer to what the kind says: the hint declines
pub entries : (n : ℕ) (s : Insns) (r : Rels) → (Refers n r → ⊥) → decide n s r ≡ Err Declined
entries n s r f = go (decide n s r) (referred n s r)
  where
    go : (d : Result Plan NoRewrite) → Referred r n d → d ≡ Err Declined
    go (Err Declined) h = refl
    go (Err Nine) h = absurd (f h)
    go (Ok p) h = absurd (f h)

-- a hint that is rewritten has entries that do
pub references : (n : ℕ) (s : Insns) (r : Rels) (p : Plan) → decide n s r ≡ Ok p → Refers n r
references n s r p e = subst (Referred r n) e (referred n s r)

-- two targets, or two addends: the hint declines, but for ADRP_ADRP
module _ (n : ℕ) (s : Insns) (r : Rels) (a b : Reloc) (ne : n ≡ MCLOH_AdrpAdrp → ⊥) (first : r.r0 ≡ Some a) (second : r.r1 ≡ Some b) where
  one : Refers n r → (a.target ≡ b.target) × (a.addend ≡ b.addend)
  one f = subst (λ (x : Option Reloc). OneV (Some a) x) second (subst (λ (x : Option Reloc). OneV x r.r1) first (f.one ne))

  pub two-targets : (a.target ≡ b.target → ⊥) → decide n s r ≡ Err Declined
  two-targets h = entries n s r (λ f. h (one f).0)

  pub two-addends : (a.addend ≡ b.addend → ⊥) → decide n s r ≡ Err Declined
  two-addends h = entries n s r (λ f. h (one f).1)

-- where it is rewritten, a hint's words are what the kind says, or what may stand there instead
abbrev pub Worded : Insns → ℕ → Result Plan NoRewrite → Type 0
Worded s k (Err Declined) = Unit {0}
Worded s k (Err Nine) = Unit {0}
Worded s k (Ok p) = AreWords (words_of k) (word_list s)

anyway : (s : Insns) (k : ℕ) (d : Result Plan NoRewrite) → AreWords (words_of k) (word_list s) → Worded s k d
anyway s k (Err Declined) h = tt
anyway s k (Err Nine) h = tt
anyway s k (Ok p) h = h

-- what the decoders answer, in the manual's forms

adrp-word : (w : ℕ) (a : Adrp) → adrp_of w ≡ Some a → IsAdrp w
adrp-word w a e = record { rd = a.rd; imm21 = a.imm; is = adrp-decodes w a e }

add-word : (w : ℕ) (d : Add) → add_of w ≡ Some d → IsAdd w
add-word w d e = record { rd = d.rd; rn = d.rn; imm12 = d.imm; is = add-decodes w d e }

inside : (a b : LoadStore) → Some a ≡ Some b → a ≡ b
inside a b e = cc

-- a load or store of the manual
module _ (w : ℕ) (l : LoadStore) (e : load_store_of w ≡ Some l) where
  access-word : (stores : Bool) → l.is_store ≡ stores → IsAccess w stores
  access-word stores b =
      let d = load-store-decodes w l e in
      let q = inside _ _ (sym (decodes-load-store w _ _ _ _ _ _ d) ∙ e) in
      record { size = size_in w; v = v_in w; opc = opc_in w; rt = _; rn = _; imm12 = _; is = d; row = ap (λ (l : LoadStore). l.is_store) q ∙ b }

  last_word : IsAccess w false ⊎ IsAccess w true
  last_word = go l.is_store refl
    where
      go : (b : Bool) → l.is_store ≡ b → IsAccess w false ⊎ IsAccess w true
      go true b = inr (access-word true b)
      go false b = inl (access-word false b)

-- what the decoded words are, with the words that follow them
module _ (s : Insns) where
  literal-words : (ld : LoadStore) (target : ℕ) → Literal s ld target → AreWords (Adrp-Page ∷ Ldr-PageOff ∷ []) (word_list s)
  unfolding has_literal_form
  literal-words ld target l = (
    inl (adrp-word s.w0 l.adrp l.first),
    (inl (access-word s.w1 ld l.second false (not-true ld.is_store (both (leb 4 ld.size) (not ld.is_store) l.form).1)), tt),
  )

  made-words : (d : Add) (target : ℕ) → Makes s target d → (ws : List Word) → AreWords ws (s.w2 ∷ [])
      → AreWords (Adrp-Page ∷ Add-PageOff ∷ ws) (word_list s)
  made-words d target m ws h = (inl (adrp-word s.w0 m.adrp m.first), (inl (add-word s.w1 d m.second), h))

  slot-words : (ld : LoadStore) (slot : ℕ) → Loads s slot ld → (ws : List Word) → AreWords ws (s.w2 ∷ [])
      → AreWords (Adrp-GotPage ∷ Ldr-GotPageOff ∷ ws) (word_list s)
  slot-words ld slot l ws h =
      let q = eight-bytes ld l.adrp.rd l.loads in
      (inl (adrp-word s.w0 l.adrp l.first), (inl (access-word s.w1 ld l.second false q.loading), h))

  relaxed-words : (d : Add) (target : ℕ) → Makes s target d → (ws : List Word) → AreWords ws (s.w2 ∷ [])
      → AreWords (Adrp-GotPage ∷ Ldr-GotPageOff ∷ ws) (word_list s)
  relaxed-words d target m ws h = (inl (adrp-word s.w0 m.adrp m.first), (inr (add-word s.w1 d m.second), h))

  -- whatever is decided after a GOT load
  got-words : (k : ℕ) (f : Result GotLoad NoRewrite → Result Plan NoRewrite) (ws : List Word) → words_of k ≡ Adrp-GotPage ∷ Ldr-GotPageOff ∷ ws → AreWords ws (s.w2 ∷ [])
      → f (Err Declined) ≡ Err Declined → f (Err Nine) ≡ Err Nine → (g : Result GotLoad NoRewrite) → Got s g → Worded s k (f g)
  got-words k f ws e h n o (Err Declined) z = rw n tt
  got-words k f ws e h n o (Err Nine) z = rw o tt
  got-words k f ws e h n o (Ok (Slot slot ld)) l = anyway s k (f (Ok (Slot slot ld))) (rw e (slot-words ld slot l ws h))
  got-words k f ws e h n o (Ok (Relaxed target d)) m = anyway s k (f (Ok (Relaxed target d))) (rw e (relaxed-words d target m ws h))

  -- whatever is decided of ADRP, ADD and an access
  adds-words : (k : ℕ) (w : Word) → words_of k ≡ Adrp-Page ∷ Add-PageOff ∷ w ∷ [] → (addr : ℕ) (d : Add) (ls : LoadStore) → Adds s addr d ls
      → IsWord w s.w2 ⊎ IsInstead w s.w2 → (x : Result Plan NoRewrite) → Worded s k x
  adds-words k w e addr d ls t h x =
      anyway s k x (rw e (inl (adrp-word s.w0 t.adrp t.first), (inl (add-word s.w1 d t.second), (h, tt))))

  add-ldr-words : (x : Result (ℕ × Add × LoadStore) NoRewrite) → ((addr : ℕ) (d : Add) (ls : LoadStore) → x ≡ Ok (addr, d, ls) → Adds s addr d ls)
      → Worded s MCLOH_AdrpAddLdr (adrp_add_ldr_with s x)
  unfolding words_of choose
  add-ldr-words (Err Declined) f = tt
  add-ldr-words (Err Nine) f = tt
  add-ldr-words (Ok (addr, d, ld)) f =
      let t = f addr d ld refl in
      adds-words MCLOH_AdrpAddLdr Ldr refl addr d ld t (last_word s.w2 ld t.third) (adrp_add_ldr_with s (Ok (addr, d, ld)))

  add-str-words : (x : Result (ℕ × Add × LoadStore) NoRewrite) → ((addr : ℕ) (d : Add) (ls : LoadStore) → x ≡ Ok (addr, d, ls) → Adds s addr d ls)
      → Worded s MCLOH_AdrpAddStr (adrp_add_str_with s x)
  unfolding words_of
  add-str-words (Err Declined) f = tt
  add-str-words (Err Nine) f = tt
  add-str-words (Ok (addr, d, st)) f =
      let t = f addr d st refl in
      split (Worded s MCLOH_AdrpAddStr) st.is_store _ (Err Declined)
      (λ b. adds-words MCLOH_AdrpAddStr Str (unfold choose in refl) addr d st t (inl (access-word s.w2 st t.third true b))
      (summed (sum_of addr st.offset) (fold_or_adr s addr d st)))
      (λ b. tt)

  got-ldr-words : (pair : Bool) (z : Option LoadStore) → load_store_of s.w2 ≡ z → Worded s MCLOH_AdrpLdrGotLdr (got_ldr_with s pair z)
  unfolding words_of choose
  got-ldr-words pair None e = tt
  got-ldr-words pair (Some ld) e =
      got-words MCLOH_AdrpLdrGotLdr (got_ldr_by s ld) (Ldr ∷ []) refl (last_word s.w2 ld e, tt) refl refl (got_load s pair) (got s pair)

  got-str-words : (pair : Bool) (z : Option LoadStore) → load_store_of s.w2 ≡ z → Worded s MCLOH_AdrpLdrGotStr (got_str_with s pair z)
  unfolding words_of
  got-str-words pair None e = tt
  got-str-words pair (Some st) e =
      split (Worded s MCLOH_AdrpLdrGotStr) st.is_store _ (Err Declined)
      (λ b. got-words MCLOH_AdrpLdrGotStr (got_str_by s st) (Str ∷ []) (unfold choose in refl) (inl (access-word s.w2 st e true b), tt) refl refl
      (got_load s pair) (got s pair))
      (λ b. tt)

pub worded : (n : ℕ) (s : Insns) (r : Rels) → Worded s n (decide n s r)
unfolding words_of choose adrp_add_ldr adrp_add_str adrp_ldr_got_ldr adrp_ldr_got_str adrp_ldr_got
worded n s r =
    by_kind s r (Worded s)
    (record {
      declined = λ k. tt;
      adrp-adrp = λ p _.
          Cases.adrp-adrp s (Worded s MCLOH_AdrpAdrp) tt
          (λ z. (inl (adrp-word s.w0 _ z.first), (inl (adrp-word s.w1 _ z.second), tt))) p;
      adrp-ldr = λ p _. Cases.adrp-ldr s (Worded s MCLOH_AdrpLdr) tt tt (literal-words s) p;
      adrp-add-ldr = λ p _. add-ldr-words s (through s p) (adds s p);
      adrp-ldr-got-ldr = λ p _. got-ldr-words s p (load_store_of s.w2) refl;
      adrp-add-str = λ p _. add-str-words s (through s p) (adds s p);
      adrp-ldr-got-str = λ p _. got-str-words s p (load_store_of s.w2) refl;
      adrp-add = λ p _. Cases.adrp-add s (Worded s MCLOH_AdrpAdd) tt (λ d t m l. made-words s d t m [] tt) p;
      adrp-ldr-got = λ p _. got-words s MCLOH_AdrpLdrGot (adrp_ldr_got_with s) [] refl tt refl refl (got_load s p) (got s p);
    })
    n
