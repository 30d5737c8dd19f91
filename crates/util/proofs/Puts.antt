-- Bytes stored one after another: a run of stores is one run after another.
use Rattle.std.proofs.Common.{◌≡◌, ℕ, ◌+◌, ◌≤◌, List, ◌++◌, length, drop, sym, ap, ◌∙◌, arith, length-append}
use lib.Seq.{sets, sets-eq}
use Rattle.util.proofs.Bytes.{sets-append}
use Rattle.util.specs.Puts.{Puts}

-- one text after another is both in one
pub put_then : {l m n s t : List ℕ} {at i j : ℕ} → Puts l at s i m → Puts m i t j n → Puts l at (s ++ t) j n
put_then {l} {m} {n} {s} {t} {at} {i} p q =
    record {
      ends = simp length-append (omega arith);
      stored = q.stored ∙ ap (λ (k : List ℕ). sets k i t) p.stored ∙ sym (sets-append s t l at i (sym p.ends));
    }

-- a run stored at the front, and what is left after it
pub put_front : (xs l : List ℕ) (n : ℕ) → length xs ≡ n → n ≤ length l → sets l 0 xs ≡ xs ++ drop n l
put_front xs l n e h =
    let k : 0 + length xs ≡ n = omega arith in
    sets-eq xs l 0 (omega arith) ∙ ap (λ (j : ℕ). xs ++ drop j l) k
