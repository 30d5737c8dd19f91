-- The machine on closed words: each fact is computed.
use mathlib.Core.Path.{◌≡◌, refl, ap}
use mathlib.Core.List.{[], ◌∷◌}
use Prim.Native.Nat.{ℕ}
use Rattle.util.specs.Choice.{choose}
use Rattle.arm64_insn.specs.LoadStoreTable.{row_of, literal_row_of}
use Rattle.arm64_insn.specs.Manual.{decode}
use Rattle.arm64_insn.specs.ManualTargets.{adr_target, literal_target, access_address, add_value}
use Rattle.arm64_insn.specs.Page.{page_of, adrp_page}
use Rattle.arm64_insn.specs.Links.{makes, takes, links31, adds31}
use Rattle.arm64_machine.specs.Examples.{start, logged, idle}
use Rattle.arm64_machine.specs.Premises.{Each, stores_made, FairWords}
use Rattle.arm64_machine.specs.SameRun.{SameRun, CloseRun}
use Rattle.arm64_machine.proofs.FairLaws.{load-literal, add-adr, chain}
use Rattle.arm64_machine.proofs.FairTest.{fair-by}
use Rattle.arm64_machine.proofs.Rewrites.{folded}
use Rattle.arm64_machine.proofs.Different.{access-dropped, literal-elsewhere, adrp-dropped, adrp-dropped-before, other-replaced, sign-lost}
use lib.Dec.{lit<}
use native.Mathlib.Omega.{arith}
use Rattle.arm64_machine.specs.Machine.{load, store, State, Other, placed, other, action}
use Rattle.arm64_machine.specs.Machine.{read, write, set_x, set_sp, set_v, set_memory, listed, base, moved, run}

-- the state after one word at 0x1004
abbrev after : ℕ → State
after w = run idle (placed w 0x1004 ∷ []) start

-- what single words do
pub record Examples : Type 0 where
  -- adr x1, .-1
  adr : (after 0x70ffffe1).x 1 ≡ 0x1003
  -- adrp x0, one page up; adrp x0, two pages down, which wraps
  adrp-up : (after 0xb0000000).x 0 ≡ 0x2000
  adrp-wraps : (after 0xd0ffffe0).x 0 ≡ 0xfffffffffffff000
  -- adrp xzr: nothing is kept
  adrp-31 : (after 0xb000001f).sp ≡ 0x2000
  -- add x2, x0, #16; add x2, sp, #16; add sp, x0, #16
  add-x : (after 0x91004002).x 2 ≡ 0x1100
  add-from-sp : (after 0x910043e2).x 2 ≡ 0x2010
  add-to-sp : (after 0x9100401f).sp ≡ 0x1100
  -- ldr x1, [x0, #8]; ldr x1, [sp, #8]
  load-x : ((after 0xf9400401).x 1 ≡ 0xfffefdfcfbfaf9f8) × ((after 0xf9400401).log ≡ logged load 0x10f8 8 0xfffefdfcfbfaf9f8 ∷ [])
  load-from-sp : (after 0xf94007e1).x 1 ≡ 0x0f0e0d0c0b0a0908
  -- ldrsw x1, [x0, #4]; ldrsb w1, [x0, #1]; ldrb w1, [x0, #1]
  load-sw : ((after 0xb9800401).x 1 ≡ 0xfffffffff7f6f5f4) × ((after 0xb9800401).log ≡ logged load 0x10f4 4 0xf7f6f5f4 ∷ [])
  load-sb : (after 0x39c00401).x 1 ≡ 0xfffffff1
  load-b : (after 0x39400401).x 1 ≡ 0xf1
  -- ldr q1, [x0]; ldr s1, [x0]
  load-q : ((after 0x3dc00001).v 1 ≡ 0xfffefdfcfbfaf9f8f7f6f5f4f3f2f1f0) × ((after 0x3dc00001).x 1 ≡ 0x10f1)
  load-s : (after 0xbd400001).v 1 ≡ 0xf3f2f1f0
  -- ldr x1, .+4
  load-literal : ((after 0x58000021).x 1 ≡ 0x0f0e0d0c0b0a0908) × ((after 0x58000021).log ≡ logged load 0x1008 8 0x0f0e0d0c0b0a0908 ∷ [])
  -- ldr xzr, [x0, #8]: the access is listed, and nothing is kept
  load-31 : ((after 0xf940041f).sp ≡ 0x2000) × ((after 0xf940041f).log ≡ logged load 0x10f8 8 0xfffefdfcfbfaf9f8 ∷ [])
  -- str w1, [x0, #8]
  store-w : ((after 0xb9000801).memory 0x10f9 ≡ 0x10) × ((after 0xb9000801).log ≡ logged store 0x10f8 4 0x10f1 ∷ [])
  -- str xzr, [x0, #8]: zeros
  store-31 : ((after 0xf900041f).memory 0x10f9 ≡ 0) × ((after 0xf900041f).log ≡ logged store 0x10f8 8 0 ∷ [])
  -- str q31, [x0, #16]
  store-q31 : (after 0x3d80041f).log ≡ logged store 0x1100 16 0x110f ∷ []
  -- nop
  nop : after 0xd503201f ≡ start
  -- prfm, add x0, x1, #1, lsl #12, add w0, w1, #1, b, bl, br x16, mov x0, #0, and an unallocated word are other words
  others : Each (λ w. action w ≡ other) (0xf9800000 ∷ 0x91400420 ∷ 0x11000420 ∷ 0x14000001 ∷ 0x94000001 ∷ 0xd61f0200 ∷ 0xd2800000 ∷ 0xbd800000 ∷ [])

examples : Examples
unfolding action decode choose row_of literal_row_of page_of adrp_page adr_target literal_target access_address add_value base moved read write set_x set_sp set_v
    set_memory listed
examples = record {
  adr = refl;
  adrp-up = refl;
  adrp-wraps = refl;
  adrp-31 = refl;
  add-x = refl;
  add-from-sp = refl;
  add-to-sp = refl;
  load-x = (refl, refl);
  load-from-sp = refl;
  load-sw = (refl, refl);
  load-sb = refl;
  load-b = refl;
  load-q = (refl, refl);
  load-s = refl;
  load-literal = (refl, refl);
  load-31 = (refl, refl);
  store-w = (refl, refl);
  store-31 = (refl, refl);
  store-q31 = refl;
  nop = refl;
  others = (refl, (refl, (refl, (refl, (refl, (refl, (refl, (refl, tt))))))));
}

-- examples 6 to 8 (RULES 11.6 to 11.8): their words are fair, and run as what becomes of them
pub fair-6 : FairWords (placed 0x90000000 0x1000 ∷ placed 0xf9400401 0x1004 ∷ [])
unfolding stores_made action decode choose row_of
fair-6 = fair-by refl refl

pub piece-6 : CloseRun (placed 0x90000000 0x1000 ∷ placed 0xf9400401 0x1004 ∷ []) (placed 0xd503201f 0x1000 ∷ placed 0x58000021 0x1004 ∷ [])
unfolding links31 makes takes action decode choose row_of literal_row_of page_of adrp_page literal_target access_address
piece-6 = load-literal refl fair-6 refl refl refl refl refl

pub fair-7 : FairWords (placed 0x90000000 0x1000 ∷ placed 0x91000c00 0x1004 ∷ [])
unfolding stores_made action decode choose
fair-7 = fair-by refl refl

pub piece-7 : CloseRun (placed 0x90000000 0x1000 ∷ placed 0x91000c00 0x1004 ∷ []) (placed 0x70000000 0x1000 ∷ placed 0xd503201f 0x1004 ∷ [])
unfolding links31 makes takes adds31 action decode choose page_of adrp_page adr_target add_value
piece-7 = add-adr refl refl refl refl refl refl refl

pub fair-8 : FairWords (placed 0x90001000 0x1000 ∷ placed 0x91004000 0x1004 ∷ placed 0xf9000001 0x1008 ∷ [])
unfolding stores_made action decode choose row_of
fair-8 = fair-by refl refl

pub piece-8 : CloseRun (placed 0x90001000 0x1000 ∷ placed 0x91004000 0x1004 ∷ placed 0xf9000001 0x1008 ∷ [])
    (placed 0x90001000 0x1000 ∷ placed 0xd503201f 0x1004 ∷ placed 0xf9000801 0x1008 ∷ [])
unfolding links31 makes takes adds31 action decode choose row_of page_of adrp_page access_address add_value
piece-8 = folded (chain refl refl fair-8 refl refl refl) refl refl refl

-- example 6 with the literal load 4 bytes off
pub off-by-4 : SameRun (placed 0x90000000 0x1000 ∷ placed 0xf9400401 0x1004 ∷ []) (placed 0xd503201f 0x1000 ∷ placed 0x58000041 0x1004 ∷ []) → ⊥
unfolding action decode choose row_of literal_row_of page_of adrp_page literal_target access_address
off-by-4 = literal-elsewhere 0x90000000 0xf9400401 0xd503201f 0x58000041 refl refl refl refl (lit< tt) (λ e. omega arith)

-- wrong rewrites of closed words, each refuted
pub record Refuted : Type 0 where
  -- ldr x1, [x0, #8]; str w1, [x0, #8]; adrp x0: each by NOP
  load-dropped : SameRun (placed 0xf9400401 0x1004 ∷ []) (placed 0xd503201f 0x1004 ∷ []) → ⊥
  store-dropped : SameRun (placed 0xb9000801 0x1004 ∷ []) (placed 0xd503201f 0x1004 ∷ []) → ⊥
  adrp-dropped : SameRun (placed 0x90000000 0x1000 ∷ []) (placed 0xd503201f 0x1000 ∷ []) → ⊥
  -- adrp x0 before prfm, by NOP
  adrp-before : SameRun (placed 0x90000000 0x1000 ∷ placed 0xf9800000 0x1004 ∷ []) (placed 0xd503201f 0x1000 ∷ placed 0xf9800000 0x1004 ∷ []) → ⊥
  -- br x16 by mov x0, #0, both other words
  other_word : SameRun (placed 0xd61f0200 0x1000 ∷ []) (placed 0xd2800000 0x1000 ∷ []) → ⊥
  -- adrp x0; ldrsw x1, [x0, #4], by NOP and ldr w1 of the same word
  no_sign : SameRun (placed 0x90000000 0x1000 ∷ placed 0xb9800401 0x1004 ∷ []) (placed 0xd503201f 0x1000 ∷ placed 0x18000001 0x1004 ∷ []) → ⊥

pub refuted : Refuted
unfolding action decode choose row_of literal_row_of page_of adrp_page literal_target access_address
refuted = record {
  load-dropped = access-dropped 0xf9400401 0xd503201f refl refl;
  store-dropped = access-dropped 0xb9000801 0xd503201f refl refl;
  adrp-dropped = adrp-dropped 0x90000000 0xd503201f refl refl (lit< tt);
  adrp-before = adrp-dropped-before 0x90000000 0xd503201f 0xf9800000 refl refl refl (lit< tt);
  other_word = other-replaced 0xd61f0200 0xd2800000 refl refl (λ e. omega arith);
  no_sign = sign-lost 0x90000000 0xb9800401 0xd503201f 0x18000001 refl refl refl refl (lit< tt);
}

-- vector registers count: ldr s1, [x0] and ldr s2, [x0] list the same access
pub other-vector : SameRun (placed 0xbd400001 0x1004 ∷ []) (placed 0xbd400002 0x1004 ∷ []) → ⊥
unfolding action decode choose row_of access_address base moved read set_v listed
other-vector same = let z : ◌≡◌ {A = ℕ} 0xf3f2f1f0 0x10f1 = (same.agree idle start).v 1 in omega arith

-- memory counts: other words that put themselves in every byte, and list nothing
abbrev filling : Other
filling w p x sp v memory = record { x = x; sp = sp; v = v; memory = λ a. w; log = [] }

pub other-memory : SameRun (placed 0xd61f0200 0x1000 ∷ []) (placed 0xd2800000 0x1000 ∷ []) → ⊥
unfolding action decode choose
other-memory same =
    let z : ◌≡◌ {A = ℕ} 0xd61f0200 0xd2800000 = ap (λ (m : ℕ → ℕ). m 0) (same.agree filling start).memory in
    omega arith

-- and so it does after a store: str w1, [x0, #8] and NOP
pub store-memory : SameRun (placed 0xb9000801 0x1004 ∷ []) (placed 0xd503201f 0x1004 ∷ []) → ⊥
unfolding action decode choose row_of access_address base moved write set_memory listed
store-memory same =
    let z : ◌≡◌ {A = ℕ} 0x10 0xf9 = ap (λ (m : ℕ → ℕ). m 0x10f9) (same.agree idle start).memory in
    omega arith

-- a register that a kept word made counts: adrp x1; add x2, x1, #8; ldrb w5, [x2], and the same access by add x1, x1, #8, which spoils the page in x1
pub page-spoilt : CloseRun (placed 0x90000001 0x1000 ∷ placed 0x91002022 0x1004 ∷ placed 0x39400045 0x1008 ∷ [])
    (placed 0x90000001 0x1000 ∷ placed 0x91002021 0x1004 ∷ placed 0x39400025 0x1008 ∷ []) → ⊥
unfolding action decode choose row_of page_of adrp_page access_address add_value base moved read set_x listed
page-spoilt same = let z : ◌≡◌ {A = ℕ} 0x1000 0x1008 = (same.agree idle start).x 1 (lit< tt) refl in omega arith
