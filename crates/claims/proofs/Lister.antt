-- The word lister: a list of words by induction over it, digits and sizes by computed tests; the rest by the theorems of lister_text.
use Rattle.std.specs.Prelude.{Result, Ok, Option, Some, None}
use mathlib.Core.Path.{◌≡◌, refl, sym, ap, ap₂, ◌∙◌, subst}
use mathlib.Core.Bool.{Bool, true, false, ◌||◌, not}
use mathlib.Core.Logic.{⊎_elim}
use mathlib.Core.List.{List, [], ◌∷◌, ◌++◌, append-nil, append_assoc}
use Prim.Native.Nat.{ℕ, zero, suc, ◌+◌, ◌*◌, ◌/◌, ◌%◌, ◌^◌, ◌≤◌, ◌<◌}
use native.Mathlib.Omega.{arith}
use native.Mathlib.Nat.{mod-eq_of_lt, zero-add, add-zero, not-suc-le-zero}
use borrow.Author.Tests.{ltb-true, ltb-false, eqb-true}
use lib.Dec.{eqb, ltb}
use lib.ListN.{length, get_or, take, drop, length-append}
use lib.Seq.{sets, take_all, length-take-le}
use Rattle.util.specs.All.{All, empty, more}
use Rattle.util.specs.Bits.{field}
use Rattle.util.specs.Choice.{choose}
use Rattle.util.specs.Diagram.{matches}
use Rattle.util.specs.Word.{le, bytes}
use Rattle.util.proofs.Below.{every, every-at}
use Rattle.util.proofs.Bytes.{le_bytes, le-append-left, le-append-right}
use Rattle.util.proofs.Choice.{split, chosen}
use Rattle.util.proofs.Part.{length-bytes}
use Rattle.util.proofs.Puts.{put_front}
use Rattle.macho.specs.Refusal.{answer_number}
use Rattle.macho.specs.declared.refusal.Refusal.{Refusal}
use Rattle.arm64_insn.specs.declared.ldst.LoadStore.{LoadStore}
use Rattle.arm64_insn.specs.Encoding.{load_store}
use Rattle.arm64_insn.specs.LoadStoreTable.{row_of, moved_by, moves}
use Rattle.arm64_insn.specs.Manual.{size_in, v_in, opc_in, row_in}
use Rattle.arm64_insn.specs.declared.adrp.Adrp as A
use Rattle.arm64_insn.specs.declared.add.Add as D
use Rattle.arm64_insn.specs.Adrp.{adrp_of}
use Rattle.arm64_insn.specs.Add.{add_of}
use Rattle.arm64_insn.specs.LoadStore.{load_store_of}
use Rattle.arm64_insn.proofs.Cells.{each-cell}
use Rattle.arm64_insn.proofs.Decodes.{unallocated-none}
use Rattle.lister_text.specs.Class.{class_by, class_of}
use Rattle.text.specs.Digits.{ascii, digit_of}
use Rattle.lister_text.specs.Text.{hex_of, class_name, line_of, lines_of, text_of}
use Rattle.lister_text.specs.Listing.{lines, out_after}
use Rattle.lister_text.specs.declared.class.Class.{Class}
use Rattle.lister_text.specs.declared.class.Class.TheVariants.{Adrp, Add, Load, Store, Other}
use Rattle.lister_text.proofs.Classes.{loads, stores}
use Rattle.lister_text.proofs.Lines.{line-length, lines-length}
use Rattle.lister_text.proofs.Printed.{too_long, odd-length, whole_words}
use Rattle.lister_text.proofs.Answers.{Leaves, list-long, list-narrow, list-odd, list-whole}
use Rattle.hauklivo.specs.Lent.{lent_number, lent_count}
use Rattle.hauklivo.specs.Lister.{number_to, count_to}
use Rattle.arm64_hint_kept.specs.Examples.{words}
use Rattle.claims.specs.Lister.{digit, hex, lines_from, Lister}

-- ---- a line for each word

length-words : (ws : List ℕ) → length (words ws) ≡ 4 * length ws
length-words [] = refl
length-words (w ∷ ws) = simp length-append (omega (arith, length-bytes 4 w, length-words ws))

-- word i of the bytes of words
word_at : (ws : List ℕ) → All (λ w. w < 2 ^ 32) ws → (i : ℕ) → i < length ws → le 4 (words ws) (4 * i) ≡ get_or ws i 0
word_at [] empty i h = absurd (not-suc-le-zero h)
word_at (w ∷ ws) (more p all) zero h =
    le-append-left 4 (bytes 4 w) (words ws) 0 (omega (arith, length-bytes 4 w)) ∙ le_bytes 4 w ∙ mod-eq_of_lt p
word_at (w ∷ ws) (more p all) (suc i) h =
    le-append-right 4 (bytes 4 w) (words ws) (4 * i) (4 * suc i) (omega (arith, length-bytes 4 w)) ∙ word_at ws all i (omega arith)

-- the lines of the words after the first n
lines_after : (s ws : List ℕ) (n : ℕ) → ((i : ℕ) → i < length ws → le 4 s (4 * (n + i)) ≡ get_or ws i 0)
    → lines_of s (n + length ws) ≡ lines_of s n ++ lines_from (4 * n) ws
unfolding lines_of
lines_after s [] n h = rw (add-zero n) (sym (append-nil (lines_of s n)))
lines_after s (w ∷ ws) n h =
    let first : le 4 s (4 * n) ≡ w = ap (λ (k : ℕ). le 4 s (4 * k)) (sym (add-zero n)) ∙ h 0 (omega arith) in
    let next : 4 * suc n ≡ 4 * n + 4 = omega arith in
    ap (lines_of s) {x = n + suc (length ws)} {y = suc n + length ws} (omega arith)
    ∙ lines_after s ws (suc n) (λ i l. ap (λ (k : ℕ). le 4 s (4 * k)) {x = suc n + i} {y = n + suc i} (omega arith) ∙ h (suc i) (omega arith))
    ∙ append_assoc (lines_of s n) (line_of (4 * n) (le 4 s (4 * n))) (lines_from (4 * suc n) ws)
    ∙ ap₂ (λ (x k : ℕ). lines_of s n ++ (line_of (4 * n) x ++ lines_from k ws)) first next

lists : (ws : List ℕ) → All (λ w. w < 2 ^ 32) ws → length ws ≤ 4096 → text_of (words ws) ≡ lines_from 0 ws
unfolding lines_of
lists ws all h =
    let n : length (words ws) / 4 ≡ 0 + length ws = omega (arith, length-words ws) in
    whole_words (words ws) (omega (arith, length-words ws)) (omega (arith, length-words ws))
    ∙ ap (lines_of (words ws)) n
    ∙ lines_after (words ws) ws 0 (λ i l. ap (λ (k : ℕ). le 4 (words ws) (4 * k)) (zero-add i) ∙ word_at ws all i l)

-- ---- the line of a word

digit-is : (d : ℕ) → d < 16 → digit_of d ≡ digit d
unfolding choose every
digit-is d h = eqb-true (digit_of d) (digit d) (every-at (λ k. eqb (digit_of k) (digit k)) 16 refl d h)

hex-is : (x : ℕ) → hex_of x ≡ hex x ++ ascii " "
unfolding hex_of
hex-is x =
    rw (
      digit-is (field x 28 4) (omega arith),
      digit-is (field x 24 4) (omega arith),
      digit-is (field x 20 4) (omega arith),
      digit-is (field x 16 4) (omega arith),
      digit-is (field x 12 4) (omega arith),
      digit-is (field x 8 4) (omega arith),
      digit-is (field x 4 4) (omega arith),
      digit-is (field x 0 4) (omega arith),
    )

line : (offset word : ℕ) → line_of offset word ≡ hex offset ++ (ascii " " ++ (hex word ++ (ascii " " ++ (class_name (class_of word) ++ ascii "\n"))))
unfolding line_of
line offset word =
    ap₂ (λ (x y : List ℕ). x ++ (y ++ (class_name (class_of word) ++ ascii "\n"))) (hex-is offset) (hex-is word)

-- ---- the bytes that are moved

abbrev five : ℕ → Bool
five n = eqb n 1 || eqb n 2 || eqb n 4 || eqb n 8 || eqb n 16

abbrev five_by : Option LoadStore → Bool
five_by (Some l) = five l.size
five_by None = true

abbrev five_in : Class → Bool
five_in (Load n) = five n
five_in (Store n) = five n
five_in Adrp = true
five_in Add = true
five_in Other = true

five-row : (size v opc : ℕ) → size < 4 → v < 2 → opc < 4 → (not (moves (row_of size v opc)) || five (moved_by (row_of size v opc))) ≡ true
unfolding row_of choose every
five-row size v opc hs hv ho = each-cell (λ s v o. not (moves (row_of s v o)) || five (moved_by (row_of s v o))) refl size v opc hs hv ho

five-word : (w : ℕ) → five_by (load_store_of w) ≡ true
unfolding load_store_of
five-word w =
    chosen (λ (l : Option LoadStore). five_by l ≡ true) (matches load_store w) _ None
    (split (λ (l : Option LoadStore). five_by l ≡ true) (moves (row_in w)) _ None
    (λ m. rw m at (five-row (size_in w) (v_in w) (opc_in w) (omega arith) (omega arith) (omega arith)))
    (λ _. refl))
    refl

five-by : (a : Option A.Adrp) (d : Option D.Add) (l : Option LoadStore) → five_by l ≡ true → five_in (class_by a d l) ≡ true
five-by (Some a) d l h = refl
five-by None (Some d) l h = refl
five-by None None (Some l) h = chosen (λ (c : Class). five_in c ≡ true) l.is_store _ _ h h
five-by None None None h = refl

five-class : (w : ℕ) → five_in (class_of w) ≡ true
unfolding class_of
five-class w = five-by (adrp_of w) (add_of w) (load_store_of w) (five-word w)

-- ---- the program and the call

buffer : (s : List ℕ) → text_of (take 16385 s) ≡ text_of s
buffer s = go (ltb 16384 (length s)) refl
  where
    go : (t : Bool) → ltb 16384 (length s) ≡ t → text_of (take 16385 s) ≡ text_of s
    go true e =
        let h : 16384 < length s = ltb-true 16384 (length s) e in
        too_long (take 16385 s) (omega (arith, length-take-le 16385 s h)) ∙ sym (too_long s h)
    go false e = ap text_of (take_all 16385 s (omega (arith, ltb-false 16384 (length s) e)))

-- the number that an answer of the call has
number : (s out out' : List ℕ) (a : Result ℕ Refusal) → Leaves s out a out' → number_to s out ≡ answer_number a
number s out out' a h = sym (ap answer_number h.0)

narrow : (s out : List ℕ) → length out < 27 * (length s / 4) → number_to s out ≡ 2
narrow s out h = go (ltb 16384 (length s)) refl
  where
    go : (t : Bool) → ltb 16384 (length s) ≡ t → number_to s out ≡ 2
    go true e = number s out out _ (list-long s out (ltb-true 16384 (length s) e))
    go false e = number s out out _ (list-narrow s out (ltb-false 16384 (length s) e) h)

call-lists : (s out : List ℕ) (count : ℕ) → length s ≤ 16384 → length s % 4 ≡ 0 → 27 * (length s / 4) ≤ length out
    → (number_to s out ≡ 0) × (count_to s out count ≡ length (text_of s)) × (out_after s out ≡ text_of s ++ drop (length (text_of s)) out)
unfolding lent_count lent_number choose
call-lists s out count h o n =
    let text : text_of s ≡ lines s = whole_words s h o in
    let left : Leaves s out (Ok (length (lines s))) (sets out 0 (lines s)) =
    list-whole s out h n o (length (lines s)) (sets out 0 (lines s)) (record { ends = sym (zero-add (length (lines s))); stored = refl }) in
    let stored = put_front (lines s) out (length (lines s)) refl (omega (arith, lines-length s (length s / 4))) in
    rw text (
      number s out _ _ left,
      sym (ap (λ (a : Result ℕ Refusal). lent_count a count) left.0),
      sym left.1 ∙ stored,
    )

pub lister : Lister
unfolding text_of lines_of line_of hex_of class_name class_of adrp_of add_of load_store_of row_of choose le bytes
lister =
    record {
      lists = lists;
      line = line;
      class-adrp = λ w a e. rw e;
      class-add = λ w a e f. rw (e, f);
      class-load = λ w l e f g h. sym (loads (adrp_of w) (add_of w) (load_store_of w) l e f g h);
      class-store = λ w l e f g h. sym (stores (adrp_of w) (add_of w) (load_store_of w) l e f g h);
      class-other = λ w e f g. rw (e, f, g);
      class-unallocated = λ w n. let u = unallocated-none w n in rw (u.0, u.1, u.2);
      names = (refl, refl, refl);
      load-names = (refl, refl, refl, refl, refl);
      store-names = (refl, refl, refl, refl, refl);
      moved = λ w n.
          ⊎_elim (λ (e : class_of w ≡ Load n). subst (λ (c : Class). five_in c ≡ true) e (five-class w))
          (λ (e : class_of w ≡ Store n). subst (λ (c : Class). five_in c ≡ true) e (five-class w));
      example = refl;
      unallocated-example = refl;
      too_long = too_long;
      odd-length = odd-length;
      empty = refl;
      buffer = buffer;
      call-lists = call-lists;
      call-too-long = λ s out h. number s out out _ (list-long s out h);
      call-narrow = narrow;
      call-odd = λ s out h n o. number s out out _ (list-odd s out h n o);
      longest = line-length;
      longest-occurs = refl;
    }
