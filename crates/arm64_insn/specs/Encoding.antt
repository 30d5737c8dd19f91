-- The encoding diagrams of the A64 instructions in scope, from bit 0 upwards (Arm Architecture Reference Manual, C4.1, C6.2, C7.2; RULES 7.3, 7.4).
use Rattle.std.specs.Prelude.{List, [], ◌∷◌}
use Rattle.util.specs.Diagram.{Part, free, fixed}

-- ADR: Rd, immhi, 10000, immlo, op
abbrev pub adr : List Part
adr = free 5 ∷ free 19 ∷ fixed 5 0b10000 ∷ free 2 ∷ fixed 1 0 ∷ []

-- ADRP: Rd, immhi, 10000, immlo, op
abbrev pub adrp : List Part
adrp = free 5 ∷ free 19 ∷ fixed 5 0b10000 ∷ free 2 ∷ fixed 1 1 ∷ []

-- ADD (immediate): Rd, Rn, imm12, sh, 100010, S, op, sf
abbrev pub add_immediate : List Part
add_immediate = free 5 ∷ free 5 ∷ free 12 ∷ free 1 ∷ fixed 6 0b100010 ∷ fixed 1 0 ∷ fixed 1 0 ∷ free 1 ∷ []

-- ADD (immediate) of 64 bits, unshifted: sf 1, sh 0
abbrev pub add : List Part
add = free 5 ∷ free 5 ∷ free 12 ∷ fixed 1 0 ∷ fixed 6 0b100010 ∷ fixed 1 0 ∷ fixed 1 0 ∷ fixed 1 1 ∷ []

-- ADD (immediate) of either width, unshifted: sh 0
abbrev pub add_unshifted : List Part
add_unshifted = free 5 ∷ free 5 ∷ free 12 ∷ fixed 1 0 ∷ fixed 6 0b100010 ∷ fixed 1 0 ∷ fixed 1 0 ∷ free 1 ∷ []

-- bits 31 to 22 of a load/store register (unsigned immediate): opc, 01, V, 111, size
abbrev pub load_store_high : List Part
load_store_high = free 2 ∷ fixed 2 0b01 ∷ free 1 ∷ fixed 3 0b111 ∷ free 2 ∷ []

-- Load/store register (unsigned immediate): Rt, Rn, imm12, and those
abbrev pub load_store : List Part
load_store = free 5 ∷ free 5 ∷ free 12 ∷ load_store_high

-- LDR (immediate, unsigned offset) of Wt or Xt: Rt, Rn, imm12, opc 01, 01, V 0, 111, size 1x
abbrev pub ldr_immediate : List Part
ldr_immediate = free 5 ∷ free 5 ∷ free 12 ∷ fixed 2 0b01 ∷ fixed 2 0b01 ∷ fixed 1 0 ∷ fixed 3 0b111 ∷ free 1 ∷ fixed 1 1 ∷ []

-- Load register (literal): Rt, imm19, 00, V, 011, opc
abbrev pub load_literal : List Part
load_literal = free 5 ∷ free 19 ∷ fixed 2 0b00 ∷ free 1 ∷ fixed 3 0b011 ∷ free 2 ∷ []

-- B and BL: imm26, 00101, op
abbrev pub branch : List Part
branch = free 26 ∷ fixed 5 0b00101 ∷ free 1 ∷ []

-- BR: Rm, Rn, M and A, 0000, 11111, 00 (op), 0, Z, 1101011
abbrev pub br : List Part
br = fixed 5 0 ∷ free 5 ∷ fixed 2 0 ∷ fixed 4 0 ∷ fixed 5 0b11111 ∷ fixed 2 0 ∷ fixed 1 0 ∷ fixed 1 0 ∷ fixed 7 0b1101011 ∷ []

-- NOP: Rt 11111, op2 000, CRm 0000, 0010, 011, 00, 0, 1101010100
abbrev pub nop : List Part
nop = fixed 5 0b11111 ∷ fixed 3 0 ∷ fixed 4 0 ∷ fixed 4 0b0010 ∷ fixed 3 0b011 ∷ fixed 2 0 ∷ fixed 1 0 ∷ fixed 10 0b1101010100 ∷ []

-- MOVZ: Rd, imm16, hw, 100101, opc, sf
abbrev pub movz : List Part
movz = free 5 ∷ free 16 ∷ free 2 ∷ fixed 6 0b100101 ∷ fixed 2 0b10 ∷ free 1 ∷ []
