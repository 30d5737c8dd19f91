-- A line has at most 27 bytes: two numbers of 9, and a class of at most 9 with its newline.
use mathlib.Core.Path.{◌≡◌, refl}
use mathlib.Core.List.{List}
use Prim.Native.Nat.{ℕ, zero, suc, ◌+◌, ◌*◌, ◌≤◌}
use native.Mathlib.Omega.{arith}
use native.Mathlib.Numerals.{add-one}
use lib.Dec.{lit≤}
use lib.ListN.{length, length-append}
use Rattle.util.specs.Word.{le}
use Rattle.lister_text.specs.Class.{class_of}
use Rattle.text.proofs.Decimal.{decimal_length}
use Rattle.lister_text.specs.Text.{hex_of, class_name, line_of, lines_of}
use Rattle.text.specs.Prints.{Prints}
use Rattle.text.specs.declared.Page.{Page}
use Rattle.text.proofs.Prints.{prints_none, prints_then}
use Rattle.lister_text.specs.declared.class.Class.{Class}
use Rattle.lister_text.specs.declared.class.Class.TheVariants.{Adrp, Add, Load, Store, Other}

hex-length : (x : ℕ) → length (hex_of x) ≡ 9
unfolding hex_of
hex-length x = refl

pub class_length : (c : Class) → length (class_name c) ≤ 8
unfolding class_name
class_length Adrp = lit≤ tt
class_length Add = lit≤ tt
class_length (Load n) = omega (arith, decimal_length n)
class_length (Store n) = omega (arith, decimal_length n)
class_length Other = lit≤ tt

pub line-length : (offset word : ℕ) → length (line_of offset word) ≤ 27
unfolding line_of
line-length offset word = simp length-append (omega (arith, hex-length offset, hex-length word, class_length (class_of word)))

pub lines-length : (s : List ℕ) (n : ℕ) → length (lines_of s n) ≤ 27 * n
unfolding lines_of
lines-length s zero = lit≤ tt
lines-length s (suc n) = simp length-append (omega (arith, lines-length s n, line-length (4 * n) (le 4 s (4 * n))))

-- no line yet, and one line more
pub no_line : (s : List ℕ) (a : Page) → Prints a (lines_of s 0) a
unfolding lines_of
no_line s a = prints_none a

pub next-line : (s : List ℕ) (i w : ℕ) {a b c : Page} → Prints a (lines_of s i) b → w ≡ le 4 s (4 * i) → Prints b (line_of (4 * i) w) c
    → Prints a (lines_of s (i + 1)) c
unfolding lines_of
next-line s i w p e q = rw (add-one i, ← e) (prints_then p q)
