-- What the fields then mean (RULES 7.11 to 7.15): in reach, the immediates that the words have lead to the targets meant. By the laws of
-- sign-extended displacements (ManualTargets); `Encodes` says which words have these immediates.
use mathlib.Core.Path.{◌≡◌, refl, sym, ap, ◌∙◌}
use mathlib.Core.Bool.{true}
use Prim.Native.Nat.{ℕ, ◌+◌, ◌-◌, ◌*◌, ◌/◌, ◌%◌, ◌^◌, ◌<◌}
use native.Mathlib.Omega.{arith}
use native.Mathlib.Nat.{div-one}
use borrow.Author.Tests.{ltb-true, lt-ltb}
use lib.Dec.{lit<, lit≤}
use lib.Pow.{mod-mod-pow}
use lib.Pow as Pow
use Rattle.util.specs.Choice.{choose}
use Rattle.util.specs.Bits.{field}
use Rattle.util.specs.Wrap.{sum, diff, in_range}
use Rattle.util.proofs.Range.{range-pos}
use Rattle.arm64_insn.specs.LoadStoreTable.{row_of, moved_by}
use Rattle.arm64_insn.specs.Manual.{LDST, MOVZ, instruction, decode}
use Rattle.arm64_insn.specs.ManualTargets.{adr_target, literal_target, branch_target, access_address, add_value, movz_value}
use Rattle.arm64_insn.specs.Page.{page_of, adrp_page}
use Rattle.arm64_insn.specs.Reach.{page_imm, adrp_reaches, within1mb}
use Rattle.arm64_insn.specs.Branch.{branch_reaches}
use Rattle.arm64_insn.specs.Fix.{is_enabled_word, scale_of}
use Rattle.arm64_insn.proofs.ManualTargets.{adr-reaches, literal-reaches, branch-reaches, adrp-reaches}
use Rattle.arm64_insn.proofs.Scale.{scale-le}
use Rattle.arm64_insn.proofs.Decodes.{load-store-scale}
use Rattle.arm64_insn.proofs.Encodes.{is-enabled-made}

-- one displacement fewer is asked for than an ADR has
wider : (d : ℕ) → d < 2 ^ 64 → in_range d (2 ^ 20 - 1) (2 ^ 20) ≡ true → in_range d (2 ^ 20) (2 ^ 20) ≡ true
wider d h e =
    let l = ltb-true ((d + (2 ^ 20 - 1)) % 2 ^ 64) (2 ^ 20 - 1 + 2 ^ 20) (range-pos d (2 ^ 20 - 1) (2 ^ 20) (lit< tt) h (lit≤ tt) (lit≤ tt) ∙ e) in
    sym (range-pos d (2 ^ 20) (2 ^ 20) (lit< tt) h (lit≤ tt) (lit≤ tt)) ∙ lt-ltb ((d + 2 ^ 20) % 2 ^ 64) (2 ^ 20 + 2 ^ 20) (omega arith)

module _ (target pc : ℕ) (ht : target < 2 ^ 64) (hp : pc < 2 ^ 64) where
  -- what `adr` makes leads to its target
  pub adr-means : within1mb pc target ≡ true → adr_target (field (diff target pc) 0 21) pc ≡ target
  unfolding within1mb
  adr-means near = rw (div-one (diff target pc)) (adr-reaches target pc ht hp (wider (diff target pc) (omega arith) near))

  -- a literal load loads from its target, where both are whole words
  pub literal-means : within1mb pc target ≡ true → target % 4 ≡ 0 → pc % 4 ≡ 0 → literal_target (field (diff target pc) 2 19) pc ≡ target
  unfolding within1mb
  literal-means near t p = literal-reaches target pc ht hp (wider (diff target pc) (omega arith) near) (omega arith)

  -- a B or BL goes to its target, where both are whole words
  pub branch-means : branch_reaches target pc ≡ true → target % 4 ≡ 0 → pc % 4 ≡ 0 → branch_target (field (diff target pc) 2 26) pc ≡ target
  unfolding branch_reaches
  branch-means near t p = branch-reaches target pc ht hp near (omega arith)

  -- an ADRP makes its target's page
  pub adrp-means : adrp_reaches target pc ≡ true → adrp_page (page_imm target pc) pc ≡ page_of target
  unfolding adrp_reaches page_imm
  adrp-means near = adrp-reaches target pc ht hp near

  -- an ADD of the page offset then makes the target
  pub add-means : adrp_reaches target pc ≡ true → add_value 1 0 (adrp_page (page_imm target pc) pc) (field target 0 12) ≡ target
  unfolding add_value page_of choose
  add-means near = rw (adrp-means near, div-one) (omega arith)

  -- a load or store with the page offset accesses the target, which its size divides
  pub access-means : (w size v opc rt rn imm12 : ℕ) → decode w ≡ instruction (LDST size v opc rt rn imm12) → adrp_reaches target pc ≡ true
      → target % moved_by (row_of size v opc) ≡ 0
      → access_address (row_of size v opc) (adrp_page (page_imm target pc) pc) (target % 2 ^ 12 / moved_by (row_of size v opc)) ≡ target
  unfolding access_address page_of
  access-means w size v opc rt rn imm12 e near h =
      let s = load-store-scale w size v opc rt rn imm12 e in
      let k : ℕ = scale_of w in
      let l = scale-le w in
      let j : (12 - k) + k ≡ 12 = omega arith in
      let z : target % 2 ^ 12 % 2 ^ k ≡ 0 =
      ap (λ (i : ℕ). target % 2 ^ i % 2 ^ k) (sym j) ∙ mod-mod-pow target (12 - k) k ∙ ap (λ (n : ℕ). target % n) s ∙ h in
      let m : target % 2 ^ 12 / 2 ^ k * 2 ^ k ≡ target % 2 ^ 12 = omega (arith, Pow.split (target % 2 ^ 12) k) in
      rw (← s, m, adrp-means near) (omega arith)

  -- so does the load of a stub, of a pointer that is a multiple of 8
  pub stub-means : adrp_reaches target pc ≡ true → target % 8 ≡ 0
      → access_address (row_of 0b11 0 0b01) (adrp_page (page_imm target pc) pc) (field target 3 9) ≡ target
  unfolding access_address page_of row_of
  stub-means near h = rw (adrp-means near) (omega arith)

-- an ADD of 64 bits, unshifted, is a sum
pub add-value : (source imm12 : ℕ) → add_value 1 0 source imm12 ≡ sum source imm12
unfolding add_value choose
add-value source imm12 = omega arith

-- the word of an is-enabled probe makes 0 in x0
pub is-enabled-means : (decode is_enabled_word ≡ instruction (MOVZ 1 0 0 0)) × (movz_value 0 0 ≡ 0)
unfolding movz_value
is-enabled-means = (is-enabled-made, refl)
