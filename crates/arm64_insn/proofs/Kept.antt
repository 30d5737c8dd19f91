-- The fields that stay as others are put in: in these diagrams they stand as fixed.
use mathlib.Core.List.{List, [], ◌∷◌}
use Rattle.util.specs.Diagram.{Part, free, fixed}

-- Rd, 10000 and op of an ADRP
abbrev pub beside_page : List Part
beside_page = fixed 5 0 ∷ free 19 ∷ fixed 5 0 ∷ free 2 ∷ fixed 1 0 ∷ []

-- all but imm12 of an ADD, load or store: Rd or Rt, Rn, and bits 31..22
abbrev pub beside_imm12 : List Part
beside_imm12 = fixed 10 0 ∷ free 12 ∷ fixed 10 0 ∷ []

-- all but Rn and imm12 of a load or store: Rt, and bits 31..22
abbrev pub beside_address : List Part
beside_address = fixed 5 0 ∷ free 17 ∷ fixed 10 0 ∷ []

-- 00101 and op of a B or BL
abbrev pub beside_imm26 : List Part
beside_imm26 = free 26 ∷ fixed 6 0 ∷ []
