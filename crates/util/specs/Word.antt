-- Little-endian words of n bytes in a list of bytes (macho/util/mod.rs, `read32` to `write64`; RULES 2.2).
use Rattle.std.specs.Prelude.{ℕ, zero, suc, ◌+◌, ◌*◌, ◌/◌, ◌%◌, ◌^◌, List, [], ◌∷◌, ◌++◌, slice_index, slice_set}

-- the number that the n bytes from `at` on hold, the lowest first; of an element of the list only the low 8 bits count, so that n bytes
-- hold a number below 2^(8 n) whatever the list
unfoldable pub le : ℕ → List ℕ → ℕ → ℕ
le zero s at = 0
le (suc n) s at = le n s at + 2 ^ (8 * n) * (slice_index s (at + n) % 256)

-- the list with the n low bytes of v from `at` on
unfoldable pub put : ℕ → List ℕ → ℕ → ℕ → List ℕ
put zero s at v = s
put (suc n) s at v = slice_set (put n s at v) (at + n) (v / 2 ^ (8 * n) % 256)

-- the n low bytes of v, the lowest first
unfoldable pub bytes : ℕ → ℕ → List ℕ
bytes zero v = []
bytes (suc n) v = bytes n v ++ (v / 2 ^ (8 * n) % 256 ∷ [])
