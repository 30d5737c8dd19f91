-- Which general register a word makes for the next one, which it takes as a base or as ADD's source (Arm Architecture Reference Manual, C6.2; RULES 7.35),
-- and number 31 between words: the zero register as a destination of ADR, ADRP or a load, the stack pointer as a base and in both registers of ADD.
use Rattle.std.specs.Prelude.{ℕ, Bool, true, false, ◌&&◌, ◌||◌, List, [], ◌∷◌, eqb}
use Rattle.util.specs.Choice.{choose}
use Rattle.util.specs.Diagram.{matches}
use Rattle.arm64_insn.specs.Encoding.{adr, adrp, add, load_store, load_literal}
use Rattle.arm64_insn.specs.LoadStoreTable.{Row, load, store, prefetch, unallocated, general, vector, literal_row_of, moves}
use Rattle.arm64_insn.specs.Manual.{rd_in, rn_in, size_in, v_in, row_in}

-- whether a row loads a general register
abbrev pub loads_general : Row → Bool
loads_general (load m general n g) = true
loads_general (load m vector n g) = false
loads_general (store m c n) = false
loads_general (prefetch m) = false
loads_general unallocated = false

-- whether general number r is a word's destination: Rd of ADR, ADRP or an ADD of 64 bits, unshifted, Rt of a literal load or a load
unfoldable pub makes : ℕ → ℕ → Bool
makes w r =
    eqb r (rd_in w)
    && choose (matches adr w || matches adrp w || matches add w) true
    (choose (matches load_literal w) (loads_general (literal_row_of (size_in w) (v_in w))) (matches load_store w && loads_general (row_in w)))

-- whether it is the source of such an ADD, or the base of a load or store
unfoldable pub takes : ℕ → ℕ → Bool
takes w r = eqb r (rn_in w) && (matches add w || matches load_store w && moves (row_in w))

-- whether number 31 links word w to the next word u
unfoldable pub links31 : ℕ → ℕ → Bool
links31 w u = makes w 31 && takes u 31

-- whether a word is such an ADD to number 31
unfoldable pub adds31 : ℕ → Bool
adds31 w = eqb 31 (rd_in w) && matches add w

-- whether number 31 links one of some words to the next, or one of them is an ADD to it
abbrev pub meets31 : List ℕ → Bool
meets31 [] = false
meets31 (w ∷ []) = adds31 w
meets31 (w ∷ u ∷ ws) = links31 w u || (adds31 w || meets31 (u ∷ ws))
