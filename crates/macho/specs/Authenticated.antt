-- The word of an authenticated pointer (ARM64_RELOC_AUTHENTICATED_POINTER of mach-o/arm64/reloc.h, as LLVM's assembler writes it for `@AUTH`), and
-- how an entry says that its pointer is signed (RULES 2.29 to 2.31).
use Rattle.std.specs.Prelude.{ℕ, ◌+◌, ◌*◌, ◌%◌, ◌^◌, List, [], ◌∷◌}
use Rattle.util.specs.Bits.{field}
use Rattle.util.specs.Diagram.{Part, free, fixed, fill}

-- from bit 0 up: addend, in a finished word the distance from the image base; diversity; address diversity; key; zeros; one
abbrev pub authenticated : List Part
authenticated = free 32 ∷ free 16 ∷ free 1 ∷ free 2 ∷ fixed 12 0 ∷ fixed 1 1 ∷ []

-- the diversity of a word: bits 32 to 47
abbrev pub diversity_in : ℕ → ℕ
diversity_in word = field word 32 16

-- its address diversity: bit 48
abbrev pub address_diversity_in : ℕ → ℕ
address_diversity_in word = field word 48 1

-- its key: bits 49 and 50
abbrev pub key_in : ℕ → ℕ
key_in word = field word 49 2

-- an entry's u16 of diversity, in its four bytes
abbrev pub diversity_of : ℕ → ℕ
diversity_of signing = field signing 0 16

-- its u8 of address diversity
abbrev pub address_diversity_of : ℕ → ℕ
address_diversity_of signing = field signing 16 8

-- its u8 of key
abbrev pub key_of : ℕ → ℕ
key_of signing = field signing 24 8

-- the four bytes with a diversity, an address diversity and a key
abbrev pub signing_by : (diversity address_diversity key : ℕ) → ℕ
signing_by diversity address_diversity key = diversity + 2 ^ 16 * address_diversity + 2 ^ 24 * key

-- those of an entry for a stored word
unfoldable pub signing_in : ℕ → ℕ
signing_in word = signing_by (diversity_in word) (address_diversity_in word) (key_in word)

-- what a finished word takes of them: diversity, the low bit of address diversity, the low two of key
abbrev pub signing_used : ℕ → ℕ
signing_used signing = signing_by (diversity_of signing) (address_diversity_of signing % 2) (key_of signing % 4)

-- the finished word: a distance from the image base, and what it takes of an entry's four bytes
unfoldable pub authenticated_word : ℕ → ℕ → ℕ
authenticated_word distance signing = fill authenticated (distance ∷ diversity_of signing ∷ address_diversity_of signing % 2 ∷ key_of signing % 4 ∷ [])
