-- The word lister (RULES 10): the line of a word, the names of the classes, what is printed of an input, and the lister as a call. That a refused call
-- writes nothing is `Calls.list-refused`.
use Rattle.std.specs.Prelude.{◌≡◌, true, false, ◌||◌, ◌⊎◌, List, [], ◌∷◌, ◌++◌, ℕ, ◌+◌, ◌*◌, ◌/◌, ◌%◌, ◌^◌, ◌≤◌, ◌<◌, eqb, length, get_or, take, drop, Some, None}
use Rattle.util.specs.All.{All}
use Rattle.util.specs.Bits.{field}
use Rattle.arm64_insn.specs.Manual.{allocated}
use Rattle.arm64_insn.specs.Adrp.{adrp_of}
use Rattle.arm64_insn.specs.Add.{add_of}
use Rattle.arm64_insn.specs.LoadStore.{load_store_of}
use Rattle.arm64_insn.specs.declared.adrp.Adrp as A
use Rattle.arm64_insn.specs.declared.add.Add as D
use Rattle.arm64_insn.specs.declared.ldst.LoadStore as L
use Rattle.text.specs.Digits.{ascii}
use Rattle.lister_text.specs.Class.{class_of}
use Rattle.lister_text.specs.Text.{class_name, line_of, text_of}
use Rattle.lister_text.specs.Listing.{out_after}
use Rattle.lister_text.specs.declared.class.Class.TheVariants.{Adrp, Add, Load, Store, Other}
use Rattle.hauklivo.specs.Lister.{number_to, count_to}
use Rattle.arm64_hint_kept.specs.Examples.{words}

-- a hexadecimal digit
abbrev pub digit : ℕ → ℕ
digit d = get_or (ascii "0123456789abcdef") d 0

-- a number of 32 bits in 8 of them
abbrev pub hex : ℕ → List ℕ
hex x =
    digit (field x 28 4) ∷ digit (field x 24 4) ∷ digit (field x 20 4) ∷ digit (field x 16 4)
    ∷ digit (field x 12 4) ∷ digit (field x 8 4) ∷ digit (field x 4 4) ∷ digit (field x 0 4)
    ∷ []

-- the lines of words that stand one after another from an offset on
abbrev pub lines_from : ℕ → List ℕ → List ℕ
lines_from offset [] = []
lines_from offset (w ∷ ws) = line_of offset w ++ lines_from (offset + 4) ws

-- the listing of words, and the lister as a call
pub record Lister : Type 0 where
  -- RULES 10.1: of 4-byte words, lowest byte first, a line for each is printed, with the word's offset
  pub lists : (ws : List ℕ) → All (λ w. w < 2 ^ 32) ws → length ws ≤ 4096 → text_of (words ws) ≡ lines_from 0 ws
  -- a line: offset and word in 8 lower-case digits each, then the class, with single spaces between and a newline at the end
  pub line : (offset word : ℕ) → line_of offset word ≡ hex offset ++ (ascii " " ++ (hex word ++ (ascii " " ++ (class_name (class_of word) ++ ascii "\n"))))
  -- RULES 10.2: the class is what the decoders of hints see, in this order: ADRP, ADD, loads and stores with the bytes that they move
  pub class-adrp : (w : ℕ) (a : A.Adrp) → adrp_of w ≡ Some a → class_of w ≡ Adrp
  pub class-add : (w : ℕ) (a : D.Add) → adrp_of w ≡ None → add_of w ≡ Some a → class_of w ≡ Add
  pub class-load : (w : ℕ) (l : L.LoadStore) → adrp_of w ≡ None → add_of w ≡ None → load_store_of w ≡ Some l
      → l.is_store ≡ false → class_of w ≡ Load l.size
  pub class-store : (w : ℕ) (l : L.LoadStore) → adrp_of w ≡ None → add_of w ≡ None → load_store_of w ≡ Some l
      → l.is_store ≡ true → class_of w ≡ Store l.size
  pub class-other : (w : ℕ) → adrp_of w ≡ None → add_of w ≡ None → load_store_of w ≡ None → class_of w ≡ Other
  -- so it is of every word that the manual leaves unallocated
  pub class-unallocated : (w : ℕ) → allocated w ≡ false → class_of w ≡ Other
  -- the names of the classes
  pub names : (class_name Adrp ≡ ascii "adrp") × (class_name Add ≡ ascii "add") × (class_name Other ≡ ascii "other")
  pub load-names : (class_name (Load 1) ≡ ascii "load 1")
      × (class_name (Load 2) ≡ ascii "load 2")
      × (class_name (Load 4) ≡ ascii "load 4")
      × (class_name (Load 8) ≡ ascii "load 8")
      × (class_name (Load 16) ≡ ascii "load 16")
  pub store-names : (class_name (Store 1) ≡ ascii "store 1")
      × (class_name (Store 2) ≡ ascii "store 2")
      × (class_name (Store 4) ≡ ascii "store 4")
      × (class_name (Store 8) ≡ ascii "store 8")
      × (class_name (Store 16) ≡ ascii "store 16")
  -- no other number of bytes is moved
  pub moved : (w n : ℕ) → (class_of w ≡ Load n) ⊎ (class_of w ≡ Store n) → (eqb n 1 || eqb n 2 || eqb n 4 || eqb n 8 || eqb n 16) ≡ true
  -- RULES 10.3
  pub example : text_of (words (0x90000000 ∷ 0x91000400 ∷ 0xf9400001 ∷ 0xd503201f ∷ []))
      ≡ ascii "00000000 90000000 adrp\n"
      ++ (ascii "00000004 91000400 add\n" ++ (ascii "00000008 f9400001 load 8\n" ++ ascii "0000000c d503201f other\n"))
  -- RULES 7.19: the unallocated words of vector registers with 2 and 4 bytes that the Rust takes as loads
  pub unallocated-example : text_of (words (0x7d800000 ∷ 0x7dc00000 ∷ 0xbd800000 ∷ []))
      ≡ ascii "00000000 7d800000 other\n" ++ (ascii "00000004 7dc00000 other\n" ++ ascii "00000008 bd800000 other\n")
  -- RULES 10.4: an input above 16,384 bytes prints this alone
  pub too_long : (input : List ℕ) → 16384 < length input → text_of input ≡ ascii "refused 2\n"
  -- otherwise one whose length is no multiple of 4 prints this alone
  pub odd-length : (input : List ℕ) → length input ≤ 16384 → (length input % 4 ≡ 0 → ⊥) → text_of input ≡ ascii "refused 1\n"
  -- an empty one prints nothing
  pub empty : text_of [] ≡ []
  -- RULES 10.5: a buffer of 16,385 bytes is enough: what an input's first 16,385 bytes print is what the input prints
  pub buffer : (input : List ℕ) → text_of (take 16385 input) ≡ text_of input
  -- RULES 10.6: as a call, the lines at the start of the lent bytes, and how many bytes they are
  pub call-lists : (input out : List ℕ) (count : ℕ) → length input ≤ 16384 → length input % 4 ≡ 0 → 27 * (length input / 4) ≤ length out
      → (number_to input out ≡ 0)
      × (count_to input out count ≡ length (text_of input))
      × (out_after input out ≡ text_of input ++ drop (length (text_of input)) out)
  -- 2 comes first: more than 16,384 bytes, or less room than 27 bytes for each whole word
  pub call-too-long : (input out : List ℕ) → 16384 < length input → number_to input out ≡ 2
  pub call-narrow : (input out : List ℕ) → length out < 27 * (length input / 4) → number_to input out ≡ 2
  -- then 1
  pub call-odd : (input out : List ℕ) → length input ≤ 16384 → 27 * (length input / 4) ≤ length out → (length input % 4 ≡ 0 → ⊥) → number_to input out ≡ 1
  -- no line is longer than 27 bytes, and one is that long
  pub longest : (offset word : ℕ) → length (line_of offset word) ≤ 27
  pub longest-occurs : line_of 0 0x3d800000 ≡ ascii "00000000 3d800000 store 16\n"
