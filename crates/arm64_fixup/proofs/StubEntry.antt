-- One stub or thunk entry: which bytes it writes, and what its words mean by the manual.
use mathlib.Core.Path.{◌≡◌, refl, ap, ◌∙◌}
use mathlib.Core.Bool.{true}
use mathlib.Core.List.{List}
use mathlib.Core.Logic.{inl, inr}
use Prim.Native.Nat.{ℕ, ◌%◌, ◌^◌, ◌≤◌, ◌<◌}
use native.Mathlib.Omega.{arith}
use native.Mathlib.Nat.{mod-eq_of_lt}
use borrow.Author.Tests.{lt-ltb, le-ltb}
use lib.Dec.{ltb, lit<, lit≤}
use lib.ListN.{length, get_or}
use Rattle.util.specs.Choice.{choose}
use Rattle.util.specs.Bits.{field}
use Rattle.util.specs.Word.{le, put}
use Rattle.util.proofs.Word.{length-put, get_d-put-other, le-put, le-put-other}
use Rattle.util.proofs.Choice.{choose-false}
use Rattle.macho.specs.Refusal.{answer_number}
use Rattle.arm64_insn.specs.Manual.{ADRP, ADD, LDST, BR, InRange, instruction, decode}
use Rattle.arm64_insn.specs.LoadStoreTable.{row_of}
use Rattle.arm64_insn.specs.ManualTargets as M
use Rattle.arm64_insn.specs.Page.{adrp_page}
use Rattle.arm64_insn.specs.Reach.{page_imm, adrp_reaches}
use Rattle.arm64_insn.specs.Stub.{stub_words, thunk_words}
use Rattle.arm64_insn.specs.declared.stub.Words3.{Words3}
use Rattle.arm64_insn.proofs.Encodes.{page-imm-lt, stub-made, thunk-made}
use Rattle.arm64_insn.proofs.Meaning.{add-means, stub-means}
use Rattle.arm64_insn.proofs.Manual.{encode-lt}
use Rattle.arm64_fixup.specs.Stub.{words_in, stub_answer, thunk_check, stub_number}

-- fewer than 12 bytes: number 3, and nothing written
pub short-entry : (s : List ℕ) (addr ptr : ℕ) → length s < 12
    → (stub_number (stub_answer s addr ptr) ≡ 3) × (answer_number (thunk_check s) ≡ 3) × ((w : Words3) → words_in s w ≡ s)
unfolding stub_answer thunk_check words_in choose
short-entry s addr ptr h = let t = lt-ltb (length s) 12 h in (rw t, rw t, λ w. rw t)

module _ (s : List ℕ) (w : Words3) (room : 12 ≤ length s) where
  stands : words_in s w ≡ put 4 (put 4 (put 4 s 0 w.first) 4 w.second) 8 w.third
  unfolding words_in
  stands = choose-false (ltb (length s) 12) s _ (le-ltb (length s) 12 room)

  -- the bytes past the 12 stay
  pub past-entry : (p : ℕ) → 12 ≤ p → get_or (words_in s w) p 0 ≡ get_or s p 0
  past-entry p h =
      ap (λ (l : List ℕ). get_or l p 0) stands
      ∙ get_d-put-other 4 _ 8 w.third p (inl h)
      ∙ get_d-put-other 4 _ 4 w.second p (inl (omega arith))
      ∙ get_d-put-other 4 s 0 w.first p (inl (omega arith))

  -- the three words
  words-stand : (w.first < 2 ^ 32) × (w.second < 2 ^ 32) × (w.third < 2 ^ 32)
      → (le 4 (words_in s w) 0 ≡ w.first) × (le 4 (words_in s w) 4 ≡ w.second) × (le 4 (words_in s w) 8 ≡ w.third)
  words-stand h =
      let n₁ = length-put 4 s 0 w.first in
      let n₂ = length-put 4 (put 4 s 0 w.first) 4 w.second in (
        ap (λ (l : List ℕ). le 4 l 0) stands
            ∙ le-put-other 4 4 _ 8 w.third 0 (inr (lit≤ tt))
            ∙ le-put-other 4 4 _ 4 w.second 0 (inr (lit≤ tt))
            ∙ le-put 4 s 0 w.first (omega arith)
            ∙ mod-eq_of_lt h.0,
        ap (λ (l : List ℕ). le 4 l 4) stands
            ∙ le-put-other 4 4 _ 8 w.third 4 (inr (lit≤ tt))
            ∙ le-put 4 _ 4 w.second (omega arith)
            ∙ mod-eq_of_lt h.1,
        ap (λ (l : List ℕ). le 4 l 8) stands ∙ le-put 4 _ 8 w.third (omega arith) ∙ mod-eq_of_lt h.2,
      )

-- the words of a stub: ADRP x16; LDR x16, [x16]; BR x16. In reach, of a pointer that is a multiple of 8, the load is from the pointer
pub stub-entry : (s : List ℕ) (addr ptr : ℕ) → 12 ≤ length s
    → (decode (le 4 (words_in s (stub_words addr ptr)) 0) ≡ instruction (ADRP 16 (page_imm ptr addr)))
    × (decode (le 4 (words_in s (stub_words addr ptr)) 4) ≡ instruction (LDST 0b11 0 0b01 16 16 (field ptr 3 9)))
    × (decode (le 4 (words_in s (stub_words addr ptr)) 8) ≡ instruction (BR 16))
    × (addr < 2 ^ 64 → ptr < 2 ^ 64 → adrp_reaches ptr addr ≡ true → ptr % 8 ≡ 0
    → M.access_address (row_of 0b11 0 0b01) (adrp_page (page_imm ptr addr) addr) (field ptr 3 9) ≡ ptr)
unfolding stub_words row_of
stub-entry s addr ptr room =
    let i : InRange (LDST 0b11 0 0b01 16 16 (field ptr 3 9)) = (lit< tt, lit< tt, lit< tt, lit< tt, lit< tt, omega arith, refl) in
    let w =
    words-stand s (stub_words addr ptr) room (
      encode-lt (ADRP 16 (page_imm ptr addr)) (lit< tt, page-imm-lt ptr addr),
      encode-lt (LDST 0b11 0 0b01 16 16 (field ptr 3 9)) i,
      encode-lt (BR 16) (lit< tt),
    ) in
    let m = stub-made addr ptr in (
      ap decode w.0 ∙ m.0,
      ap decode w.1 ∙ m.1,
      ap decode w.2 ∙ m.2,
      λ ha hp near h. stub-means ptr addr hp ha near h,
    )

-- the words of a thunk: ADRP x16; ADD x16, x16; BR x16. In reach, the ADD makes the target, where the BR goes
pub thunk-entry : (s : List ℕ) (addr target : ℕ) → 12 ≤ length s
    → (decode (le 4 (words_in s (thunk_words addr target)) 0) ≡ instruction (ADRP 16 (page_imm target addr)))
    × (decode (le 4 (words_in s (thunk_words addr target)) 4) ≡ instruction (ADD 1 0 16 16 (field target 0 12)))
    × (decode (le 4 (words_in s (thunk_words addr target)) 8) ≡ instruction (BR 16))
    × (addr < 2 ^ 64 → target < 2 ^ 64 → adrp_reaches target addr ≡ true
    → M.add_value 1 0 (adrp_page (page_imm target addr) addr) (field target 0 12) ≡ target)
unfolding thunk_words
thunk-entry s addr target room =
    let i : InRange (ADD 1 0 16 16 (field target 0 12)) = (lit< tt, lit< tt, lit< tt, lit< tt, omega arith) in
    let w =
    words-stand s (thunk_words addr target) room (
      encode-lt (ADRP 16 (page_imm target addr)) (lit< tt, page-imm-lt target addr),
      encode-lt (ADD 1 0 16 16 (field target 0 12)) i,
      encode-lt (BR 16) (lit< tt),
    ) in
    let m = thunk-made addr target in (
      ap decode w.0 ∙ m.0,
      ap decode w.1 ∙ m.1,
      ap decode w.2 ∙ m.2,
      λ ha ht near. add-means target addr ht ha near,
    )
