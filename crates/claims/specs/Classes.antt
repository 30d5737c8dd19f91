-- The table of load and store classes (RULES 7.19, 7.32, 7.33): what an entry holds, that the table is the manual's rows, where the Rust parts from it, and the
-- file that the generator prints. That the call answers the entry of what the decoder sees is `Calls.load-store-class`.
use Rattle.std.specs.Prelude.{◌≡◌, Bool, false, ◌&&◌, not, List, [], ◌∷◌, ◌++◌, map, ℕ, zero, suc, ◌/◌, ◌^◌, ◌≤◌, ◌<◌, eqb, Some, None}
use Rattle.util.specs.Choice.{choose}
use Rattle.text.specs.Digits.{ascii}
use Rattle.arm64_insn.specs.LoadStore.{load_store_of}
use Rattle.arm64_insn.specs.Manual.{decode, allocated}
use Rattle.arm64_ldst_class.specs.Entry.{moves, entry_of, class_in, class_seen}
use Rattle.arm64_ldst_class.specs.Row.{class_of_insn, class_of_index, is_access, marks_ldrsw}
use Rattle.arm64_ldst_class.specs.Rust.{class_in_rust, only_in_rust}
use Rattle.ldst_table_text.specs.Text.{entry_line}
use Rattle.arm64_ldst_table.proofs.lookup.Statement as Lookup
use Rattle.ldst_table_text.proofs.text.Statement as Text

-- the indices below n that are loads or stores, the least first, each with its entry
abbrev pub accesses_below : ℕ → List (ℕ × ℕ)
accesses_below zero = []
accesses_below (suc n) = accesses_below n ++ choose (is_access (class_of_index n)) ((n, entry_of (class_of_index n)) ∷ []) []

-- the lines of some indices, one after another
abbrev pub lines_at : List ℕ → List ℕ
lines_at [] = []
lines_at (k ∷ ks) = entry_line k ++ lines_at ks

-- the class of a load or store by bits 31 to 22
pub record Classes : Type 2 where
  -- RULES 7.32: the table's entry of a word is that of the class which the decoder sees in it
  pub lookup : (M : Type 1) → Lookup.statement M
  -- it is the class of bits 31 to 22, by the manual's rows
  pub by_index : (w : ℕ) → class_seen (load_store_of w) ≡ class_of_index (w / 2 ^ 22)
  -- every index that is a load or store, with its entry
  pub entries : accesses_below 1024
      ≡ (0x0e4, 12) ∷ (0x0e5, 8) ∷ (0x0e6, 8) ∷ (0x0e7, 8) ∷ (0x0f4, 14) ∷ (0x0f5, 10) ∷ (0x0f6, 134) ∷ (0x0f7, 130)
      ∷ (0x1e4, 20) ∷ (0x1e5, 16) ∷ (0x1e6, 16) ∷ (0x1e7, 16) ∷ (0x1f4, 22) ∷ (0x1f5, 18)
      ∷ (0x2e4, 36) ∷ (0x2e5, 32) ∷ (0x2e6, 33) ∷ (0x2f4, 38) ∷ (0x2f5, 34)
      ∷ (0x3e4, 68) ∷ (0x3e5, 64) ∷ (0x3f4, 70) ∷ (0x3f5, 66)
      ∷ []
  -- an entry says the whole class, of any number of bytes but 0, and 0 is no load or store
  pub moves-back : (n : ℕ) (stores is_vector is_ldrsw : Bool) → 1 ≤ n → class_in (entry_of (Some (moves n stores is_vector is_ldrsw))) ≡ Some (moves n stores is_vector is_ldrsw)
  pub none-back : class_in 0 ≡ None
  -- so of every word
  pub back : (w : ℕ) → class_in (entry_of (class_seen (load_store_of w))) ≡ class_seen (load_store_of w)
  -- every number is the entry of its class
  pub entry-back : (e : ℕ) → entry_of (class_in e) ≡ e
  -- the class is what the manual's instruction moves
  pub manual : (w : ℕ) → class_seen (load_store_of w) ≡ class_of_insn (decode w)
  -- RULES 7.19: the words that the manual leaves unallocated and that have a class in the Rust have three indices
  pub only-in-rust : (w : ℕ) → w < 2 ^ 32 → (not (allocated w) && is_access (class_in_rust (w / 2 ^ 22))) ≡ only_in_rust (w / 2 ^ 22)
  -- there these are their entries, loads of 2, 2 and 4 bytes, the last marked as LDRSW
  pub rust-entries : map (λ k. entry_of (class_in_rust k)) (0x1f6 ∷ 0x1f7 ∷ 0x2f6 ∷ []) ≡ 18 ∷ 18 ∷ 35 ∷ []
  -- every other word has the Rust's class
  pub as-in-rust : (w : ℕ) → w < 2 ^ 32 → only_in_rust (w / 2 ^ 22) ≡ false → class_seen (load_store_of w) ≡ class_in_rust (w / 2 ^ 22)
  -- RULES 7.20: LDRSW is marked at one index, of general registers
  pub ldrsw-at : (w : ℕ) → w < 2 ^ 32 → marks_ldrsw (class_seen (load_store_of w)) ≡ eqb (w / 2 ^ 22) 0x2e6
  -- RULES 7.33: the generator puts the file of the table
  pub text : (M : Type 1) → Text.statement M
  -- its lines of the 32 rows, and one of any other index
  pub rows : lines_at
      (0x0e4 ∷ 0x0e5 ∷ 0x0e6 ∷ 0x0e7 ∷ 0x0f4 ∷ 0x0f5 ∷ 0x0f6 ∷ 0x0f7
      ∷ 0x1e4 ∷ 0x1e5 ∷ 0x1e6 ∷ 0x1e7 ∷ 0x1f4 ∷ 0x1f5 ∷ 0x1f6 ∷ 0x1f7
      ∷ 0x2e4 ∷ 0x2e5 ∷ 0x2e6 ∷ 0x2e7 ∷ 0x2f4 ∷ 0x2f5 ∷ 0x2f6 ∷ 0x2f7
      ∷ 0x3e4 ∷ 0x3e5 ∷ 0x3e6 ∷ 0x3e7 ∷ 0x3f4 ∷ 0x3f5 ∷ 0x3f6 ∷ 0x3f7 ∷ [])
      ≡ ascii "    12, // 0e4 STRB: store 1 general\n"
      ++ (ascii "    8, // 0e5 LDRB: load 1 general\n"
      ++ (ascii "    8, // 0e6 LDRSB: load 1 general\n"
      ++ (ascii "    8, // 0e7 LDRSB: load 1 general\n"
      ++ (ascii "    14, // 0f4 STR: store 1 vector\n"
      ++ (ascii "    10, // 0f5 LDR: load 1 vector\n"
      ++ (ascii "    134, // 0f6 STR: store 16 vector\n"
      ++ (ascii "    130, // 0f7 LDR: load 16 vector\n"
      ++ (ascii "    20, // 1e4 STRH: store 2 general\n"
      ++ (ascii "    16, // 1e5 LDRH: load 2 general\n"
      ++ (ascii "    16, // 1e6 LDRSH: load 2 general\n"
      ++ (ascii "    16, // 1e7 LDRSH: load 2 general\n"
      ++ (ascii "    22, // 1f4 STR: store 2 vector\n"
      ++ (ascii "    18, // 1f5 LDR: load 2 vector\n"
      ++ (ascii "    0, // 1f6 unallocated: no load or store\n"
      ++ (ascii "    0, // 1f7 unallocated: no load or store\n"
      ++ (ascii "    36, // 2e4 STR: store 4 general\n"
      ++ (ascii "    32, // 2e5 LDR: load 4 general\n"
      ++ (ascii "    33, // 2e6 LDRSW: load 4 general\n"
      ++ (ascii "    0, // 2e7 unallocated: no load or store\n"
      ++ (ascii "    38, // 2f4 STR: store 4 vector\n"
      ++ (ascii "    34, // 2f5 LDR: load 4 vector\n"
      ++ (ascii "    0, // 2f6 unallocated: no load or store\n"
      ++ (ascii "    0, // 2f7 unallocated: no load or store\n"
      ++ (ascii "    68, // 3e4 STR: store 8 general\n"
      ++ (ascii "    64, // 3e5 LDR: load 8 general\n"
      ++ (ascii "    0, // 3e6 PRFM: no load or store\n"
      ++ (ascii "    0, // 3e7 unallocated: no load or store\n"
      ++ (ascii "    70, // 3f4 STR: store 8 vector\n"
      ++ (ascii "    66, // 3f5 LDR: load 8 vector\n"
      ++ (ascii "    0, // 3f6 unallocated: no load or store\n"
      ++ ascii "    0, // 3f7 unallocated: no load or store\n"))))))))))))))))))))))))))))))
  pub other-line : entry_line 0x3ff ≡ ascii "    0, // 3ff no load or store\n"
