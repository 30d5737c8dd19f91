-- What the tests of a hint's entries say by LLVM's kinds: a hint passes the test of its kind just where its entries refer to what the kind says, the named
-- exceptions included (RULES 8.4, 8.8, 8.9). By cases on the entries and their types.
use Rattle.std.specs.Prelude.{Option, Some, None}
use mathlib.Core.Path.{◌≡◌, refl}
use mathlib.Core.Logic.{◌⊎◌, inl, inr, ⊎_elim}
use mathlib.Core.Bool.{Bool, true, false, ◌||◌, false≢true}
use mathlib.Core.List.{List, [], ◌∷◌}
use Prim.Native.Nat.{ℕ}
use native.Mathlib.Omega.{arith}
use borrow.Author.Tests.{eq-eqb, eqb-true}
use lib.Dec.{eqb, ltb}
use Rattle.util.specs.Choice.{choose}
use Rattle.util.proofs.Choice.{both, either}
use Rattle.macho.specs.Types.{MCLOH_AdrpAdrp, MCLOH_AdrpLdr, MCLOH_AdrpAddLdr, MCLOH_AdrpLdrGotLdr}
use Rattle.macho.specs.Types.{MCLOH_AdrpAddStr, MCLOH_AdrpLdrGotStr, MCLOH_AdrpAdd, MCLOH_AdrpLdrGot}
use Rattle.arm64_hint_terms.specs.Rels.{is_page_rel, is_pageoff_rel, same_reference, is_absent, has_page_pair, both_pages}
use Rattle.arm64_hint_terms.specs.Kinds.{Word, Adrp-Page, Adrp-GotPage, Add-PageOff, Ldr-GotPageOff, Ldr, Str}
use Rattle.arm64_hint_terms.specs.Kinds.{words_of, IsCarried, IsTakenFor, AreCarried, OneV, Refers}
use Rattle.macho.specs.declared.reloc.Reloc.{Reloc}
use Rattle.arm64_hint_terms.specs.declared.rels.Rels.{Rels}

-- ---- one entry

-- one of two types
of_two : (ty g t : ℕ) → (eqb ty g || eqb ty t) ≡ true → (ty ≡ g) ⊎ (ty ≡ t)
of_two ty g t h = either (eqb ty g) (eqb ty t) h (λ a. inl (eqb-true ty g a)) (λ b. inr (eqb-true ty t b))

-- a half of any reference, by its types; and of a GOT slot
any-half : (ty p g t : ℕ) → choose (eqb ty p) true (eqb ty g || eqb ty t) ≡ true → (ty ≡ p) ⊎ ((ty ≡ g) ⊎ (ty ≡ t))
any-half ty p g t = go (eqb ty p) refl
  where
    go : (b : Bool) → eqb ty p ≡ b → choose (eqb ty p) true (eqb ty g || eqb ty t) ≡ true → (ty ≡ p) ⊎ ((ty ≡ g) ⊎ (ty ≡ t))
    go true e h = inl (eqb-true ty p e)
    go false e h = inr (of_two ty g t (unfold choose in rw e at h))

got-half : (ty p g t : ℕ) → choose (eqb ty p) false (eqb ty g || eqb ty t) ≡ true → (ty ≡ g) ⊎ (ty ≡ t)
got-half ty p g t = go (eqb ty p) refl
  where
    go : (b : Bool) → eqb ty p ≡ b → choose (eqb ty p) false (eqb ty g || eqb ty t) ≡ true → (ty ≡ g) ⊎ (ty ≡ t)
    go true e h = absurd (false≢true (unfold choose in rw e at h))
    go false e h = of_two ty g t (unfold choose in rw e at h)

-- an entry may stand for what a word carries
abbrev Stands : Word → Option Reloc → Type 0
Stands k r = IsCarried k r ⊎ IsTakenFor k r

page-any : (r : Option Reloc) → is_page_rel r false ≡ true → Stands Adrp-Page r
unfolding is_page_rel
page-any None e = absurd (false≢true e)
page-any (Some a) e = any-half a.ty _ _ _ e

page-got : (r : Option Reloc) → is_page_rel r true ≡ true → Stands Adrp-GotPage r
unfolding is_page_rel
page-got None e = absurd (false≢true e)
page-got (Some a) e = got-half a.ty _ _ _ e

pageoff-any : (r : Option Reloc) → is_pageoff_rel r false ≡ true → Stands Add-PageOff r
unfolding is_pageoff_rel
pageoff-any None e = absurd (false≢true e)
pageoff-any (Some a) e = any-half a.ty _ _ _ e

pageoff-got : (r : Option Reloc) → is_pageoff_rel r true ≡ true → Stands Ldr-GotPageOff r
unfolding is_pageoff_rel
pageoff-got None e = absurd (false≢true e)
pageoff-got (Some a) e = got-half a.ty _ _ _ e

no-entry : (r : Option Reloc) → is_absent r ≡ true → r ≡ None
unfolding is_absent
no-entry None e = refl
no-entry (Some a) e = absurd (false≢true e)

-- and the other way round

is-page-any : (r : Option Reloc) → Stands Adrp-Page r → is_page_rel r false ≡ true
unfolding is_page_rel choose
is-page-any None h = absurd (⊎_elim (λ x. x) (λ x. ⊎_elim (λ y. y) (λ y. y) x) h)
is-page-any (Some a) h = ⊎_elim (λ e. rw e) (λ h. ⊎_elim (λ e. rw e) (λ e. rw e) h) h

is-page-got : (r : Option Reloc) → Stands Adrp-GotPage r → is_page_rel r true ≡ true
unfolding is_page_rel choose
is-page-got None h = absurd (⊎_elim (λ x. x) (λ x. x) h)
is-page-got (Some a) h = ⊎_elim (λ e. rw e) (λ e. rw e) h

is-pageoff-any : (r : Option Reloc) → Stands Add-PageOff r → is_pageoff_rel r false ≡ true
unfolding is_pageoff_rel choose
is-pageoff-any None h = absurd (⊎_elim (λ x. x) (λ x. ⊎_elim (λ y. y) (λ y. y) x) h)
is-pageoff-any (Some a) h = ⊎_elim (λ e. rw e) (λ h. ⊎_elim (λ e. rw e) (λ e. rw e) h) h

is-pageoff-got : (r : Option Reloc) → Stands Ldr-GotPageOff r → is_pageoff_rel r true ≡ true
unfolding is_pageoff_rel choose
is-pageoff-got None h = absurd (⊎_elim (λ x. x) (λ x. x) h)
is-pageoff-got (Some a) h = ⊎_elim (λ e. rw e) (λ e. rw e) h

is-absent : (r : Option Reloc) → (r ≡ None) ⊎ ⊥ → is_absent r ≡ true
unfolding is_absent
is-absent r h = ⊎_elim (λ e. rw e) (λ x. absurd x) h

-- ---- two entries of one v

one-v : (a b : Option Reloc) (got : Bool) → is_page_rel a got ≡ true → same_reference a b ≡ true → OneV a b
unfolding is_page_rel same_reference
one-v None b got p e = absurd (false≢true p)
one-v (Some a) None got p e = absurd (false≢true e)
one-v (Some a) (Some b) got p e =
    let f = both (eqb a.target b.target) (eqb a.addend b.addend) e in
    (eqb-true a.target b.target f.0, eqb-true a.addend b.addend f.1)

is-one-v : (a b : Option Reloc) → OneV a b → same_reference a b ≡ true
unfolding same_reference
is-one-v None b h = absurd h
is-one-v (Some a) None h = absurd h
is-one-v (Some a) (Some b) h = rw (eq-eqb a.target b.target h.0, eq-eqb a.addend b.addend h.1)

-- ---- the tests of a hint's entries

module _ (r : Rels) where
  abbrev all : List (Option Reloc)
  all = r.r0 ∷ r.r1 ∷ r.r2 ∷ []

  halves : (n : ℕ) (got : Bool) → has_page_pair r n got ≡ true
      → (is_page_rel r.r0 got ≡ true) × (is_pageoff_rel r.r1 got ≡ true) × OneV r.r0 r.r1 × ((ltb n 3 || is_absent r.r2) ≡ true)
  unfolding has_page_pair
  halves n got e =
      let f = both _ (ltb n 3 || is_absent r.r2) e in
      let g = both _ (same_reference r.r0 r.r1) f.0 in
      let h = both (is_page_rel r.r0 got) (is_pageoff_rel r.r1 got) g.0 in
      (h.0, h.1, one-v r.r0 r.r1 got h.0 g.1, f.1)

  pair-any : (ws : List Word) → AreCarried ws (r.r2 ∷ []) → (n : ℕ) → has_page_pair r n false ≡ true
      → AreCarried (Adrp-Page ∷ Add-PageOff ∷ ws) all × OneV r.r0 r.r1
  pair-any ws c n e = let h = halves n false e in ((page-any r.r0 h.0, (pageoff-any r.r1 h.1, c)), h.2)

  pair-got : (ws : List Word) → AreCarried ws (r.r2 ∷ []) → (n : ℕ) → has_page_pair r n true ≡ true
      → AreCarried (Adrp-GotPage ∷ Ldr-GotPageOff ∷ ws) all × OneV r.r0 r.r1
  pair-got ws c n e = let h = halves n true e in ((page-got r.r0 h.0, (pageoff-got r.r1 h.1, c)), h.2)

  third : (got : Bool) → has_page_pair r 3 got ≡ true → ((r.r2 ≡ None) ⊎ ⊥) × Unit {0}
  third got e = (inl (no-entry r.r2 (halves 3 got e).3), tt)

  is-pair : (n : ℕ) (got : Bool) → is_page_rel r.r0 got ≡ true → is_pageoff_rel r.r1 got ≡ true → OneV r.r0 r.r1
      → (ltb n 3 || is_absent r.r2) ≡ true → has_page_pair r n got ≡ true
  unfolding has_page_pair
  is-pair n got a b o t = rw (a, b, is-one-v r.r0 r.r1 o, t)

  -- ---- kind by kind: a test that is passed says what the entries refer to

  pub refers-adrp-adrp : both_pages r ≡ true → Refers MCLOH_AdrpAdrp r
  unfolding words_of choose both_pages
  refers-adrp-adrp e =
      let h = both (is_page_rel r.r0 false) (is_page_rel r.r1 false) e in
      record { carried = (page-any r.r0 h.0, (page-any r.r1 h.1, tt)); one = λ n. absurd (n refl) }

  pub refers-adrp-ldr : has_page_pair r 2 false ≡ true → Refers MCLOH_AdrpLdr r
  unfolding words_of choose
  refers-adrp-ldr e = let h = pair-any [] tt 2 e in record { carried = h.0; one = λ _. h.1 }

  pub refers-adrp-add-ldr : has_page_pair r 3 false ≡ true → Refers MCLOH_AdrpAddLdr r
  unfolding words_of choose
  refers-adrp-add-ldr e = let h = pair-any (Ldr ∷ []) (third false e) 3 e in record { carried = h.0; one = λ _. h.1 }

  pub refers-adrp-ldr-got-ldr : has_page_pair r 3 true ≡ true → Refers MCLOH_AdrpLdrGotLdr r
  unfolding words_of choose
  refers-adrp-ldr-got-ldr e = let h = pair-got (Ldr ∷ []) (third true e) 3 e in record { carried = h.0; one = λ _. h.1 }

  pub refers-adrp-add-str : has_page_pair r 3 false ≡ true → Refers MCLOH_AdrpAddStr r
  unfolding words_of choose
  refers-adrp-add-str e = let h = pair-any (Str ∷ []) (third false e) 3 e in record { carried = h.0; one = λ _. h.1 }

  pub refers-adrp-ldr-got-str : has_page_pair r 3 true ≡ true → Refers MCLOH_AdrpLdrGotStr r
  unfolding words_of choose
  refers-adrp-ldr-got-str e = let h = pair-got (Str ∷ []) (third true e) 3 e in record { carried = h.0; one = λ _. h.1 }

  pub refers-adrp-add : has_page_pair r 2 false ≡ true → Refers MCLOH_AdrpAdd r
  unfolding words_of choose
  refers-adrp-add e = let h = pair-any [] tt 2 e in record { carried = h.0; one = λ _. h.1 }

  pub refers-adrp-ldr-got : has_page_pair r 2 true ≡ true → Refers MCLOH_AdrpLdrGot r
  unfolding words_of choose
  refers-adrp-ldr-got e = let h = pair-got [] tt 2 e in record { carried = h.0; one = λ _. h.1 }

  -- ---- and entries that refer to what the kind says pass its test

  two-any : AreCarried (Adrp-Page ∷ Add-PageOff ∷ []) all → OneV r.r0 r.r1 → has_page_pair r 2 false ≡ true
  two-any c o = is-pair 2 false (is-page-any r.r0 c.0) (is-pageoff-any r.r1 c.1.0) o refl

  two-got : AreCarried (Adrp-GotPage ∷ Ldr-GotPageOff ∷ []) all → OneV r.r0 r.r1 → has_page_pair r 2 true ≡ true
  two-got c o = is-pair 2 true (is-page-got r.r0 c.0) (is-pageoff-got r.r1 c.1.0) o refl

  three-any : AreCarried (Adrp-Page ∷ Add-PageOff ∷ Ldr ∷ []) all → OneV r.r0 r.r1 → has_page_pair r 3 false ≡ true
  three-any c o = is-pair 3 false (is-page-any r.r0 c.0) (is-pageoff-any r.r1 c.1.0) o (is-absent r.r2 c.1.1.0)

  three-got : AreCarried (Adrp-GotPage ∷ Ldr-GotPageOff ∷ Ldr ∷ []) all → OneV r.r0 r.r1 → has_page_pair r 3 true ≡ true
  three-got c o = is-pair 3 true (is-page-got r.r0 c.0) (is-pageoff-got r.r1 c.1.0) o (is-absent r.r2 c.1.1.0)

  pub passes-adrp-adrp : Refers MCLOH_AdrpAdrp r → both_pages r ≡ true
  unfolding words_of choose both_pages
  passes-adrp-adrp f = rw (is-page-any r.r0 f.carried.0, is-page-any r.r1 f.carried.1.0)

  pub passes-adrp-ldr : Refers MCLOH_AdrpLdr r → has_page_pair r 2 false ≡ true
  unfolding words_of choose
  passes-adrp-ldr f = two-any f.carried (f.one (λ e. omega arith))

  pub passes-adrp-add-ldr : Refers MCLOH_AdrpAddLdr r → has_page_pair r 3 false ≡ true
  unfolding words_of choose
  passes-adrp-add-ldr f = three-any f.carried (f.one (λ e. omega arith))

  pub passes-adrp-ldr-got-ldr : Refers MCLOH_AdrpLdrGotLdr r → has_page_pair r 3 true ≡ true
  unfolding words_of choose
  passes-adrp-ldr-got-ldr f = three-got f.carried (f.one (λ e. omega arith))

  pub passes-adrp-add-str : Refers MCLOH_AdrpAddStr r → has_page_pair r 3 false ≡ true
  unfolding words_of choose
  passes-adrp-add-str f = three-any f.carried (f.one (λ e. omega arith))

  pub passes-adrp-ldr-got-str : Refers MCLOH_AdrpLdrGotStr r → has_page_pair r 3 true ≡ true
  unfolding words_of choose
  passes-adrp-ldr-got-str f = three-got f.carried (f.one (λ e. omega arith))

  pub passes-adrp-add : Refers MCLOH_AdrpAdd r → has_page_pair r 2 false ≡ true
  unfolding words_of choose
  passes-adrp-add f = two-any f.carried (f.one (λ e. omega arith))

  pub passes-adrp-ldr-got : Refers MCLOH_AdrpLdrGot r → has_page_pair r 2 true ≡ true
  unfolding words_of choose
  passes-adrp-ldr-got f = two-got f.carried (f.one (λ e. omega arith))
