-- On any word, of whatever class: which of its bits an entry changes, and to what. For entry k of any accepted list that no SUBTRACTOR
-- consumes and whose bytes no other entry writes. The new word is a sum of fields, which are read off by arithmetic.
use Rattle.std.specs.Prelude.{None}
use mathlib.Core.Path.{◌≡◌}
use mathlib.Core.List.{List}
use Prim.Native.Nat.{ℕ, ◌+◌, ◌*◌, ◌/◌, ◌%◌, ◌^◌, ◌<◌}
use native.Mathlib.Omega.{arith}
use native.Mathlib.Nat.{div-le_self}
use Rattle.util.specs.Bits.{field}
use Rattle.macho.specs.Types.{ARM64_RELOC_BRANCH26}
use Rattle.arm64_insn.specs.Manual.{imm12_in, imm21_in, imm26_in}
use Rattle.arm64_insn.specs.Reach.{page_imm, page_offset}
use Rattle.arm64_insn.specs.Branch.{branch_word}
use Rattle.arm64_insn.specs.Fix.{adrp_with, scale_of}
use Rattle.arm64_fixup_entry.specs.Target.{address_of}
use Rattle.arm64_fixup_entry.specs.Change.{displacement, dtrace_site_insn}
use Rattle.arm64_fixup_entry.specs.Roles.{Page, Offset}
use Rattle.arm64_fixup.specs.Walk.{lent_entry, lent_target, Fixed}
use Rattle.arm64_fixup.specs.Footprint.{Lone, word_at}
use Rattle.arm64_fixup_entry.specs.declared.target.Bases.{Bases}
use Rattle.arm64_fixup.proofs.Means.{page-word, offset_word}
use Rattle.arm64_fixup.proofs.Branches.{branch-word}

-- ---- sums of fields

five-fields : (a lo b hi c : ℕ) → a < 2 → lo < 2 ^ 2 → b < 2 ^ 5 → hi < 2 ^ 19 → c < 2 ^ 5
    → let w = a * 2 ^ 31 + b * 2 ^ 24 + c + (lo * 2 ^ 29 + hi * 2 ^ 5) in
    (field w 31 1 ≡ a) × (field w 29 2 ≡ lo) × (field w 24 5 ≡ b) × (field w 5 19 ≡ hi) × (field w 0 5 ≡ c)
five-fields a lo b hi c ha hl hb hh hc =
    let w = a * 2 ^ 31 + b * 2 ^ 24 + c + (lo * 2 ^ 29 + hi * 2 ^ 5) in
    let d₃₁ : w / 2 ^ 31 ≡ a = omega arith in
    let d₂₉ : w / 2 ^ 29 ≡ a * 4 + lo = omega arith in
    let d₂₄ : w / 2 ^ 24 ≡ (a * 4 + lo) * 2 ^ 5 + b = omega arith in
    let d₅ : w / 2 ^ 5 ≡ ((a * 4 + lo) * 2 ^ 5 + b) * 2 ^ 19 + hi = omega arith in
    (rw d₃₁ (omega arith), rw d₂₉ (omega arith), rw d₂₄ (omega arith), rw d₅ (omega arith), omega arith)

three-fields : (a b c : ℕ) → a < 2 ^ 10 → b < 2 ^ 12 → c < 2 ^ 10
    → let w = a * 2 ^ 22 + b * 2 ^ 10 + c in
    (field w 22 10 ≡ a) × (field w 10 12 ≡ b) × (field w 0 10 ≡ c)
three-fields a b c ha hb hc =
    let w = a * 2 ^ 22 + b * 2 ^ 10 + c in
    let d₂₂ : w / 2 ^ 22 ≡ a = omega arith in
    let d₁₀ : w / 2 ^ 10 ≡ a * 2 ^ 12 + b = omega arith in
    (rw d₂₂ (omega arith), rw d₁₀ (omega arith), omega arith)

-- ---- the patched words

adrp-with-bits : (x hi lo : ℕ)
    → (field (adrp_with x hi lo) 31 1 ≡ field x 31 1)
    × (field (adrp_with x hi lo) 24 5 ≡ field x 24 5)
    × (field (adrp_with x hi lo) 0 5 ≡ field x 0 5)
    × (imm21_in (adrp_with x hi lo) ≡ page_imm hi lo)
unfolding adrp_with page_offset page_imm
adrp-with-bits x hi lo =
    let q = five-fields (field x 31 1) (page_imm hi lo % 2 ^ 2) (field x 24 5) (page_imm hi lo / 2 ^ 2) (field x 0 5)
    (omega arith) (omega arith) (omega arith) (omega arith) (omega arith) in
    (q.0, q.2, q.4, omega (arith, q.1, q.3))

branch-word-bits : (x d : ℕ) → (field (branch_word x d) 26 6 ≡ field x 26 6) × (imm26_in (branch_word x d) ≡ field d 2 26)
unfolding branch_word
branch-word-bits x d =
    let h : (field x 26 6 * 2 ^ 26 + field d 2 26) / 2 ^ 26 ≡ field x 26 6 = omega arith in
    (rw h (omega arith), omega arith)

-- ---- through the call

module _ {section : List ℕ} {b : Bases} {entries targets slots : List ℕ} {f : Fixed} {k : ℕ} (l : Lone section b entries targets slots f k) where
  -- a page: bit 31, bits 28..24 and bits 4..0 stay, bits 30..29 and 23..5 are the immediate
  pub page-bits : {target : ℕ} → Page (lent_entry entries k) (lent_target targets k) target
      → (field (word_at entries f.section k) 31 1 ≡ field (word_at entries section k) 31 1)
      × (field (word_at entries f.section k) 24 5 ≡ field (word_at entries section k) 24 5)
      × (field (word_at entries f.section k) 0 5 ≡ field (word_at entries section k) 0 5)
      × (imm21_in (word_at entries f.section k) ≡ page_imm target (address_of b (lent_entry entries k)))
  page-bits {target} r = rw (page-word l r) (adrp-with-bits (word_at entries section k) target (address_of b (lent_entry entries k)))

  -- a page offset that is a multiple of the word's scale: bits 31..22 and 9..0 stay, bits 21..10 are the offset in that scale
  pub offset-bits : {target : ℕ} → Offset (lent_entry entries k) (lent_target targets k) target → target % 2 ^ scale_of (word_at entries section k) ≡ 0
      → (field (word_at entries f.section k) 22 10 ≡ field (word_at entries section k) 22 10)
      × (imm12_in (word_at entries f.section k) ≡ target % 2 ^ 12 / 2 ^ scale_of (word_at entries section k))
      × (field (word_at entries f.section k) 0 10 ≡ field (word_at entries section k) 0 10)
  offset-bits {target} r h =
      let q = div-le_self (target % 2 ^ 12) (2 ^ scale_of (word_at entries section k)) in
      rw (offset_word l r h)
      (three-fields (field (word_at entries section k) 22 10) (target % 2 ^ 12 / 2 ^ scale_of (word_at entries section k)) (field (word_at entries section k) 0 10)
      (omega arith) (omega arith) (omega arith))

  -- a branch at no tracing site: bits 31..26 stay, bits 25..0 are the displacement in words
  pub branch-bits : (lent_entry entries k).ty ≡ ARM64_RELOC_BRANCH26 → dtrace_site_insn (lent_entry entries k) (lent_target targets k) ≡ None
      → (field (word_at entries f.section k) 26 6 ≡ field (word_at entries section k) 26 6)
      × (imm26_in (word_at entries f.section k) ≡ field (displacement (lent_entry entries k) (lent_target targets k) (address_of b (lent_entry entries k))) 2 26)
  branch-bits ty plain =
      rw (branch-word l ty plain)
      (branch-word-bits (word_at entries section k) (displacement (lent_entry entries k) (lent_target targets k) (address_of b (lent_entry entries k))))
