-- No text, and one text after another, on a page.
use Rattle.std.proofs.Common.{List, [], ℕ, ◌++◌, ◌∙◌, refl, arith}
use Rattle.util.proofs.Puts.{put_then}
use Rattle.text.specs.Prints.{Prints}
use Rattle.text.specs.declared.Page.{Page}

-- nothing is put
pub prints_none : (a : Page) → Prints a [] a
prints_none a =
    record {
      same_reference = refl;
      kept_length = refl;
      puts = record { ends = omega arith; stored = refl };
    }

-- one text after another is both in one
pub prints_then : {a b c : Page} {s t : List ℕ} → Prints a s b → Prints b t c → Prints a (s ++ t) c
prints_then p q =
    record {
      same_reference = q.same_reference ∙ p.same_reference;
      kept_length = q.kept_length ∙ p.kept_length;
      puts = put_then p.puts q.puts;
    }
