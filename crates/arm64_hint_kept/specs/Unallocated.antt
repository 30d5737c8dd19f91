-- Hints with a word that the manual leaves unallocated (RULES 7.19, 8.34): they decline, where the load beside it in the manual's table is rewritten or nine.
use Rattle.std.specs.Prelude.{[], ◌∷◌}
use Rattle.arm64_hint_kept.specs.Examples.{pair, got_pair, counts, Ends, Declines}

-- hints with each of the three words that the Rust takes as loads (arm64_ldst_class/specs/Rust), each beside the same hint with a load of the manual
pub record UnallocatedDecline : Type 0 where
  -- adrp x1; 4 bytes of a vector register with opc 10; and ldr s0, [x1, #8], which becomes a literal load
  pub word : Declines pair 2 0x9ff019ccdecb92c (0xb0fffbe1 ∷ 0xbd800820 ∷ [])
  pub ldr-s : Ends pair 2 0x9ff019ccdecb92c (0xb0fffbe1 ∷ 0xbd400820 ∷ []) (counts 1 0 0 0) (0xd503201f ∷ 0x1cbe36c0 ∷ [])
  -- on the last page, where the sum passes 2^64 - 1: the sum is not reached; and ldr s5, [x1, #0x29d0], which is nine
  pub word-high : Declines pair 2 0xfffffffffffff000 (0x90000001 ∷ 0xbda9d025 ∷ [])
  pub ldr-s-high : Ends pair 2 0xfffffffffffff000 (0x90000001 ∷ 0xbd69d025 ∷ []) (counts 0 0 0 1) (0x90000001 ∷ 0xbd69d025 ∷ [])
  -- adrp x0; add x1, x0, #16; 2 bytes of a vector register with opc 10, and 11; and ldr h2, [x1], which takes the ADD's immediate in
  pub half-10 : Declines pair 3 0x1000 (0x90000000 ∷ 0x91004001 ∷ 0x7d800022 ∷ [])
  pub half-11 : Declines pair 3 0x1000 (0x90000000 ∷ 0x91004001 ∷ 0x7dc00022 ∷ [])
  pub ldr-h : Ends pair 3 0x1000 (0x90000000 ∷ 0x91004001 ∷ 0x7d400022 ∷ []) (counts 1 0 0 0) (0x90000000 ∷ 0xd503201f ∷ 0x7d402002 ∷ [])
  -- adrp x0; ldr x2, [x0, #8]; 4 bytes of a vector register with opc 10; and ldr s2, [x2]: the load of the GOT slot becomes a literal load
  pub got_word : Declines got_pair 4 0x100000000 (0xd0000180 ∷ 0xf9400402 ∷ 0xbd800042 ∷ [])
  pub got-ldr-s : Ends got_pair 4 0x100000000 (0xd0000180 ∷ 0xf9400402 ∷ 0xbd400042 ∷ []) (counts 1 0 0 0) (0xd503201f ∷ 0x58190022 ∷ 0xbd400042 ∷ [])
  -- ldrsh x2, [x1]; ldrsh w2, [x1]; ldrsw x2, [x1]; ldr q2, [x1]; str q2, [x1]: these have opc 1x, too
  pub ldrsh-x : Ends pair 3 0x1000 (0x90000000 ∷ 0x91004001 ∷ 0x79800022 ∷ []) (counts 1 0 0 0) (0x90000000 ∷ 0xd503201f ∷ 0x79802002 ∷ [])
  pub ldrsh-w : Ends pair 3 0x1000 (0x90000000 ∷ 0x91004001 ∷ 0x79c00022 ∷ []) (counts 1 0 0 0) (0x90000000 ∷ 0xd503201f ∷ 0x79c02002 ∷ [])
  pub ldrsw : Ends pair 3 0x1000 (0x90000000 ∷ 0x91004001 ∷ 0xb9800022 ∷ []) (counts 1 0 0 0) (0xd503201f ∷ 0xd503201f ∷ 0x98000042 ∷ [])
  pub ldr-q : Ends pair 3 0x1000 (0x90000000 ∷ 0x91004001 ∷ 0x3dc00022 ∷ []) (counts 1 0 0 0) (0xd503201f ∷ 0xd503201f ∷ 0x9c000042 ∷ [])
  pub str-q : Ends pair 3 0x1000 (0x90000000 ∷ 0x91004001 ∷ 0x3d800022 ∷ []) (counts 1 0 0 0) (0x90000000 ∷ 0xd503201f ∷ 0x3d800402 ∷ [])
