-- Words and rows that the manual leaves unallocated, by computing.
use mathlib.Core.Path.{◌≡◌, refl}
use mathlib.Core.Bool.{true, false}
use mathlib.Core.List.{List, [], ◌∷◌, map}
use Prim.Native.Nat.{ℕ, suc}
use Rattle.util.specs.Choice.{choose}
use Rattle.arm64_insn.specs.LoadStoreTable.{Row, row_of, literal_row_of, unsigned_immediate, is_allocated}
use Rattle.arm64_insn.specs.Manual.{none, decode, allocated}

-- an unallocated vector load, an unallocated literal load, MOVZ of Wd with hw 10 and with hw 11, and PRFM (literal), which is allocated and not in scope
abbrev pub words : List ℕ
words = 0xbd800820 ∷ 0xdc000000 ∷ 0x52c00000 ∷ 0x52e00000 ∷ 0xd8000000 ∷ []

pub no-form : map decode words ≡ none ∷ none ∷ none ∷ none ∷ none ∷ []
unfolding decode choose row_of literal_row_of
no-form = refl

pub unallocated-words : map allocated words ≡ false ∷ false ∷ false ∷ false ∷ true ∷ []
unfolding allocated choose row_of literal_row_of
unallocated-words = refl

-- the places of the unallocated rows of a table
abbrev pub gaps : ℕ → List Row → List ℕ
gaps k [] = []
gaps k (r ∷ rs) = choose (is_allocated r) (gaps (suc k) rs) (k ∷ gaps (suc k) rs)

-- size, V, opc: 01 1 10, 01 1 11, 10 0 11, 10 1 10, 10 1 11, 11 0 11, 11 1 10, 11 1 11
pub unallocated-rows : gaps 0 unsigned_immediate
    ≡ 0b01_1_10 ∷ 0b01_1_11 ∷ 0b10_0_11 ∷ 0b10_1_10 ∷ 0b10_1_11 ∷ 0b11_0_11 ∷ 0b11_1_10 ∷ 0b11_1_11 ∷ []
unfolding choose
unallocated-rows = refl
