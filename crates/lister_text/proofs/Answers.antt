-- The four ways of `list_of`, and what the lister prints by its answer.
use Rattle.std.specs.Prelude.{Result, Ok, Err}
use mathlib.Core.Path.{◌≡◌, refl, sym, ap, subst, ◌∙◌}
use mathlib.Core.List.{List}
use Prim.Native.Nat.{ℕ, ◌*◌, ◌/◌, ◌%◌, ◌≤◌, ◌<◌}
use native.Mathlib.Omega.{arith}
use borrow.Author.Tests.{lt-ltb, le-ltb, eq-eqb, ne_eqb, ltb-true, ltb-false, eqb-true, eqb-false}
use lib.Dec.{eqb, lit≤}
use lib.ListN.{length}
use Rattle.util.specs.Choice.{choose}
use Rattle.util.proofs.Choice.{split, choose-true, choose-false}
use Rattle.macho.specs.Refusal as R
use Rattle.macho.specs.Refusal.{out_by}
use Rattle.macho.specs.declared.refusal.Refusal.{Refusal}
use Rattle.macho.specs.declared.refusal.Refusal.TheVariants.{Lengths, Slots}
use Rattle.lister_text.specs.Text.{refused, text_of}
use Rattle.util.specs.Puts.{Puts}
use Rattle.lister_text.specs.Listing.{lines, list_of, out_after}
use Rattle.lister_text.proofs.Printed.{too_long, odd-length, whole_words}

-- an answer, with the bytes as it leaves them
abbrev pub Leaves : List ℕ → List ℕ → Result ℕ Refusal → List ℕ → Type 0
Leaves s l a m = (a ≡ list_of s (length l)) × (m ≡ out_after s l)

module _ (s l : List ℕ) where
  refuses : (a : Result ℕ Refusal) → list_of s (length l) ≡ a → out_by a (lines s) l ≡ l → Leaves s l a l
  refuses a e k = (sym e, sym (ap (λ (b : Result ℕ Refusal). out_by b (lines s) l) e ∙ k))

  pub list-long : 16384 < length s → Leaves s l (Err Slots) l
  unfolding list_of
  list-long h = refuses (Err Slots) (choose-true _ _ _ (lt-ltb 16384 (length s) h)) refl

  pub list-narrow : length s ≤ 16384 → length l < 27 * (length s / 4) → Leaves s l (Err Slots) l
  unfolding list_of
  list-narrow h n =
      refuses (Err Slots)
      (choose-false _ _ _ (le-ltb 16384 (length s) h) ∙ choose-true _ _ _ (lt-ltb (length l) (27 * (length s / 4)) n)) refl

  -- where there is room, the last test decides
  room : length s ≤ 16384 → 27 * (length s / 4) ≤ length l
      → list_of s (length l) ≡ choose (eqb (length s % 4) 0) (Ok (length (lines s))) (Err Lengths)
  unfolding list_of
  room h n = choose-false _ _ _ (le-ltb 16384 (length s) h) ∙ choose-false _ _ _ (le-ltb (length l) (27 * (length s / 4)) n)

  pub list-odd : length s ≤ 16384 → 27 * (length s / 4) ≤ length l → (length s % 4 ≡ 0 → ⊥) → Leaves s l (Err Lengths) l
  list-odd h n o = refuses (Err Lengths) (room h n ∙ choose-false _ _ _ (ne_eqb (length s % 4) 0 o)) refl

  pub list-whole : length s ≤ 16384 → 27 * (length s / 4) ≤ length l → length s % 4 ≡ 0 → (r : ℕ) (m : List ℕ) → Puts l 0 (lines s) r m
      → Leaves s l (Ok r) m
  list-whole h n o r m p =
      let e : list_of s (length l) ≡ Ok (length (lines s)) = room h n ∙ choose-true _ _ _ (eq-eqb (length s % 4) 0 o) in
      let f : r ≡ length (lines s) = omega (arith, p.ends) in
      (ap (λ (k : ℕ). Ok k) f ∙ sym e, p.stored ∙ sym (ap (λ (b : Result ℕ Refusal). out_by b (lines s) l) e))

-- what the lister prints by the answer of a listing into its 110,592 bytes
abbrev pub Prints : List ℕ → Result ℕ Refusal → Type 0
Prints s (Err x) = (text_of s ≡ refused (R.number_of x)) × (R.number_of x < 10)
Prints s (Ok n) = (text_of s ≡ lines s) × (n ≡ length (lines s))

pub prints : (s : List ℕ) → Prints s (list_of s 110592)
unfolding list_of
prints s =
    split (Prints s) _ _ _ (λ e. (too_long s (ltb-true 16384 (length s) e), lit≤ tt))
    (λ e. let short : length s ≤ 16384 = ltb-false 16384 (length s) e in
    split (Prints s) _ _ _ (λ f. absurd (omega (arith, short, ltb-true 110592 (27 * (length s / 4)) f)))
    (λ f. split (Prints s) _ _ _ (λ g. (whole_words s short (eqb-true (length s % 4) 0 g), refl))
    (λ g. (odd-length s short (eqb-false (length s % 4) 0 g), lit≤ tt))))

module _ (s l : List ℕ) (n : length l ≡ 110592) (a : Result ℕ Refusal) (k : List ℕ) (h : Leaves s l a k) where
  -- an answer that is known says what is printed, and what the bytes are
  known : (b : Result ℕ Refusal) → a ≡ b → Prints s b × (k ≡ out_by b (lines s) l)
  known b f =
      let e : list_of s (length l) ≡ b = sym h.0 ∙ f in
      (subst (Prints s) (sym (ap (λ (j : ℕ). list_of s j) n) ∙ e) (prints s), h.1 ∙ ap (λ (c : Result ℕ Refusal). out_by c (lines s) l) e)

  -- a refusal that is printed has one digit
  pub one-digit : {x : Refusal} → a ≡ Err x → (d : ℕ) → d ≡ R.number_of x → d < 10
  one-digit {x} f d e = rw e (known (Err x) f).0.1

  pub text-refused : {x : Refusal} → a ≡ Err x → (d : ℕ) → d ≡ R.number_of x → {r : ℕ} {m : List ℕ} → Puts k 0 (refused d) r m → Puts l 0 (text_of s) r m
  text-refused {x} f d e {r} {m} p =
      let g = known (Err x) f in
      subst (λ (t : List ℕ). Puts l 0 t r m) (ap refused e ∙ sym g.0.0) (subst (λ (j : List ℕ). Puts j 0 (refused d) r m) g.1 p)

  pub text-filled : {r : ℕ} → a ≡ Ok r → Puts l 0 (text_of s) r k
  text-filled {r} f =
      let g = known (Ok r) f in
      subst (λ (t : List ℕ). Puts l 0 t r k) (sym g.0.0) (record { ends = omega (arith, g.0.1); stored = g.1 })
