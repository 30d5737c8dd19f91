-- A line has at most 46 bytes; the lines of all indices, one after another; three digits.
use Rattle.std.specs.Prelude.{Option, Some, None}
use mathlib.Core.Path.{◌≡◌, ap, ◌∙◌}
use mathlib.Core.Bool.{Bool}
use mathlib.Core.List.{List, [], ◌∷◌}
use Prim.Native.Nat.{ℕ, zero, suc, ◌+◌, ◌*◌, ◌/◌, ◌%◌, ◌^◌, ◌≤◌}
use native.Mathlib.Nat.{pow-zero, pow-suc, div-one, div-div-eq-div-mul, one-mul}
use native.Mathlib.Omega.{arith}
use native.Mathlib.Numerals.{add-one}
use lib.Dec.{ltb, lit≤}
use lib.ListN.{length, length-append}
use Rattle.util.specs.Choice.{choose}
use Rattle.util.proofs.Choice.{chosen}
use Rattle.arm64_ldst_class.specs.Entry.{entry_of}
use Rattle.arm64_ldst_class.specs.Row.{class_of_index}
use Rattle.arm64_ldst_class.specs.declared.LoadStoreClass.{LoadStoreClass}
use Rattle.text.specs.Digits.{ascii, digit_of, digits, decimal}
use Rattle.text.specs.Prints.{Prints}
use Rattle.text.specs.declared.Page.{Page}
use Rattle.text.proofs.Decimal.{decimal_length}
use Rattle.text.proofs.Prints.{prints_none, prints_then}
use Rattle.ldst_table_rows.proofs.NameLaws.{name_length}
use Rattle.ldst_table_text.specs.Text.{moved_text, registers_text, class_text}
use Rattle.ldst_table_text.specs.Text.{number, comment_of, entry_line, entry_lines}

-- a choice of two texts
choice-length : (b : Bool) (s t : List ℕ) (n : ℕ) → length s ≤ n → length t ≤ n → length (choose b s t) ≤ n
choice-length b s t n h k = chosen (λ (l : List ℕ). length l ≤ n) b s t h k

pub moved_length : (b : Bool) → length (moved_text b) ≤ 6
moved_length b = choice-length b (ascii "store ") (ascii "load ") 6 (lit≤ tt) (lit≤ tt)

pub registers_length : (b : Bool) → length (registers_text b) ≤ 8
registers_length b = choice-length b (ascii " vector") (ascii " general") 8 (lit≤ tt) (lit≤ tt)

pub class_length : (c : Option LoadStoreClass) → length (class_text c) ≤ 16
unfolding class_text
class_length (Some c) = simp length-append (omega (arith, moved_length c.stores, registers_length c.vector, decimal_length c.bytes))
class_length None = lit≤ tt

pub number_length : (x : ℕ) → length (number x) ≤ 3
number_length x = choice-length (ltb x 100) (decimal x) (digits 10 3 x) 3 (omega (arith, decimal_length x)) (lit≤ tt)

comment-length : (k : ℕ) (c : Option LoadStoreClass) → length (comment_of k c) ≤ 39
unfolding comment_of
comment-length k c = simp length-append (omega (arith, name_length k, class_length c))

line-length : (k : ℕ) → length (entry_line k) ≤ 46
unfolding entry_line
line-length k = simp length-append (omega (arith, number_length (entry_of (class_of_index k)), comment-length k (class_of_index k)))

pub lines_length : (n : ℕ) → length (entry_lines n) ≤ 46 * n
unfolding entry_lines
lines_length zero = lit≤ tt
lines_length (suc n) = simp length-append (omega (arith, lines_length n, line-length n))

-- no line yet, and one line more
pub no_line : (a : Page) → Prints a (entry_lines 0) a
unfolding entry_lines
no_line a = prints_none a

pub next_line : {a b c : Page} (k : ℕ) → Prints a (entry_lines k) b → Prints b (entry_line k) c → Prints a (entry_lines (k + 1)) c
unfolding entry_lines
next_line k p q = rw (add-one k) (prints_then p q)

-- the last three digits in a base
pub three_digits : (b x d e f : ℕ) → d ≡ digit_of (x / b / b % b) → e ≡ digit_of (x / b % b) → f ≡ digit_of (x % b) → d ∷ e ∷ f ∷ [] ≡ digits b 3 x
three_digits b x d e f p q r =
    let one : b ^ 1 ≡ b = pow-suc b 0 ∙ ap (λ (n : ℕ). n * b) (pow-zero b) ∙ one-mul b in
    let two : b ^ 2 ≡ b * b = pow-suc b 1 ∙ ap (λ (n : ℕ). n * b) one in
    rw (p, q, r, two, one, pow-zero, div-one, ← div-div-eq-div-mul x b b)
