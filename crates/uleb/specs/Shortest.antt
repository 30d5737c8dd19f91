-- The shortest spelling of a value (RULES 14.3).
use Rattle.std.specs.Prelude.{ℕ, zero, suc, ◌+◌, ◌/◌, ◌%◌, Bool, true, false, ◌&&◌, List, [], ◌∷◌, ◌++◌, eqb, ltb}
use Rattle.util.specs.Choice.{choose}

-- of a value that n bytes can spell: its low seven bits with bit 7 set, then what is left, as long as that is not below 128
unfoldable pub uleb_within : ℕ → ℕ → List ℕ
uleb_within zero v = []
uleb_within (suc n) v = choose (ltb v 128) (v ∷ []) ((v % 128 + 128) ∷ uleb_within n (v / 128))

-- of a value below 2^64, for which ten bytes are enough
abbrev pub uleb_of : ℕ → List ℕ
uleb_of v = uleb_within 10 v

-- of values, one after another
unfoldable pub ulebs_of : List ℕ → List ℕ
ulebs_of [] = []
ulebs_of (v ∷ vs) = uleb_of v ++ ulebs_of vs

-- whether no zero byte stands after one that says that more follow; `more` says it of the byte before the list
abbrev pub short_after : Bool → List ℕ → Bool
short_after more [] = true
short_after more (b ∷ bs) = choose (more && eqb b 0) false (short_after (ltb 127 b) bs)

-- whether no spelling among bytes is longer than it need be: a zero byte would end one of two bytes or more
abbrev pub are_short : List ℕ → Bool
are_short bs = short_after false bs
