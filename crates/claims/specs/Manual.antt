-- The Arm manual (RULES 1.5, 1.6, 7): instructions and words, the code's masks, what a disassembler prints.
use Rattle.std.specs.Prelude.{◌≡◌, true, false, ◌≢◌, List, [], map, ℕ, ◌+◌, ◌*◌, ◌^◌, ◌<◌, eqb, get_or}
use Rattle.std.specs.Int.Bits.{bit_and}
use Rattle.util.specs.Diagram.{Part, matches, mask_of, value_of, sound}
use Rattle.arm64_insn.specs.Encoding.{adr, adrp, add_immediate, add, add_unshifted, load_store, ldr_immediate, load_literal, branch, br, nop, movz}
use Rattle.arm64_insn.specs.LoadStoreTable as Table
use Rattle.arm64_insn.specs.Fix.{quad}
use Rattle.arm64_insn.specs.Manual.{Insn, class, classes, instruction, none, encode, InRange, decode, allocated, v_in, size_in}
use Rattle.arm64_insn.specs.ManualAssembled.{Made, assembled}
use Rattle.arm64_insn.specs.ManualLines.{lines, literal_lines, line_of, literal_line_of, widened_signed, named_signed}

-- the diagram of class k of the manual's nine
abbrev pub diagram_at : ℕ → List Part
diagram_at k = (get_or classes k (class [] (λ w. none))).diagram

-- a masked test of a word is the test of a diagram
abbrev pub Tests : (diagram : List Part) (mask value : ℕ) → Type 0
Tests diagram mask value = (w : ℕ) → eqb (bit_and w mask) value ≡ matches diagram w

-- the instructions of the Arm manual
pub record Manual : Type 0 where
  -- RULES 1.6, 7.8: decoding undoes encoding, and encoding decoding
  pub decode-encode : (i : Insn) → InRange i → decode (encode i) ≡ instruction i
  pub encode-decode : (w : ℕ) (i : Insn) → w < 2 ^ 32 → decode w ≡ instruction i → encode i ≡ w
  -- what a word decodes to is in range
  pub decode-in-range : (w : ℕ) (i : Insn) → decode w ≡ instruction i → InRange i
  -- no word is of two classes, so the order in which decoding tries them does not matter
  pub one_class : (i j w : ℕ) → i < 9 → j < 9 → i ≢ j → matches (diagram_at i) w ≡ true → matches (diagram_at j) w ≡ false
  -- RULES 7.9: a word with an instruction is allocated
  pub decode-allocated : (w : ℕ) (i : Insn) → decode w ≡ instruction i → allocated w ≡ true
  -- one of these classes without an instruction is not, but for PRFM (literal)
  pub load-store-unallocated : (w : ℕ) → decode w ≡ none → matches load_store w ≡ true → allocated w ≡ false
  pub literal-unallocated : (w : ℕ) → decode w ≡ none → matches load_literal w ≡ true → v_in w * 4 + size_in w ≢ 3 → allocated w ≡ false
  pub movz-unallocated : (w : ℕ) → decode w ≡ none → matches movz w ≡ true → allocated w ≡ false
  -- RULES 7.3: a masked test is the test of the diagram that has the mask
  pub mask-matches : (ps : List Part) (x : ℕ) → sound ps ≡ true → eqb (bit_and x (mask_of ps)) (value_of ps) ≡ matches ps x
  -- the masks and fixed bits of the code, and those of the other diagrams
  pub masks : Tests adrp 0x9f00_0000 0x9000_0000
      × Tests add 0xffc0_0000 0x9100_0000
      × Tests add_unshifted 0x7fc0_0000 0x1100_0000
      × Tests load_store 0x3b00_0000 0x3900_0000
      × Tests ldr_immediate 0xbfc0_0000 0xb940_0000
      × Tests quad 0xc480_0000 0x0480_0000
      × Tests adr 0x9f00_0000 0x1000_0000
      × Tests add_immediate 0x7f80_0000 0x1100_0000
      × Tests load_literal 0x3b00_0000 0x1800_0000
      × Tests branch 0x7c00_0000 0x1400_0000
      × Tests br 0xffff_fc1f 0xd61f_0000
      × Tests nop 0xffff_ffff 0xd503_201f
      × Tests movz 0x7f80_0000 0x5280_0000
  -- RULES 11.14: instructions encode as llvm-mc assembles them, and decode back (the list: arm64_insn/specs/ManualAssembled)
  pub assembled-encodes : map (λ (m : Made). encode m.insn) assembled ≡ map (λ (m : Made). m.word) assembled
  pub assembled-decodes : map (λ (m : Made). decode m.word) assembled ≡ map (λ (m : Made). instruction m.insn) assembled
  -- the tables of loads and stores, and of literal loads, are what llvm-objdump prints (the lines: arm64_insn/specs/ManualLines)
  pub table-printed : map line_of Table.unsigned_immediate ≡ lines
  pub literal-table-printed : map literal_line_of Table.literal ≡ literal_lines
  -- the loads that copy the sign are LDRSB, LDRSH and LDRSW
  pub signs : (map widened_signed Table.unsigned_immediate ≡ map named_signed Table.unsigned_immediate)
      × (map widened_signed Table.literal ≡ map named_signed Table.literal)
