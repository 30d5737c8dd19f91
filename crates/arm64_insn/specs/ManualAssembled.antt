-- What an assembler makes of the instructions in scope (RULES 11.14): each with the word that llvm-mc makes of the text after it. Of each class Rd or Rt
-- (of BR Rn) takes every register number, and its immediates their ends; any other Rn is drawn.
use Rattle.std.specs.Prelude.{List, [], ◌∷◌, ℕ}
use Rattle.arm64_insn.specs.Manual.{Insn, ADR, ADRP, ADD, LDST, PRFM, LDR-literal, B, BL, BR, NOP, MOVZ}

-- an instruction and its word
pub record Made : Type 0 where
  pub insn : Insn
  pub word : ℕ

-- one of them
abbrev pub made : Insn → ℕ → Made
made i w = record { insn = i; word = w }

-- made by tools/make-words, which runs llvm-mc on each text
abbrev pub assembled : List Made
assembled =
    made (ADR 0 0x100000) 0x10800000  -- adr x0, #-1048576
    ∷ made (ADR 1 0x100001) 0x30800001  -- adr x1, #-1048575
    ∷ made (ADR 2 0x1fffff) 0x70ffffe2  -- adr x2, #-1
    ∷ made (ADR 3 0x0) 0x10000003  -- adr x3, #0
    ∷ made (ADR 4 0x1) 0x30000004  -- adr x4, #1
    ∷ made (ADR 5 0xffffe) 0x507fffe5  -- adr x5, #1048574
    ∷ made (ADR 6 0xfffff) 0x707fffe6  -- adr x6, #1048575
    ∷ made (ADR 7 0x18b497) 0x70c5a4a7  -- adr x7, #-478057
    ∷ made (ADR 8 0x540dc) 0x102a06e8  -- adr x8, #344284
    ∷ made (ADR 9 0x12a621) 0x30953109  -- adr x9, #-874975
    ∷ made (ADR 10 0x19352) 0x500c9a8a  -- adr x10, #103250
    ∷ made (ADR 11 0x1faa97) 0x70fd54ab  -- adr x11, #-21865
    ∷ made (ADR 12 0xd5851) 0x306ac28c  -- adr x12, #874577
    ∷ made (ADR 13 0xf4054) 0x107a02ad  -- adr x13, #999508
    ∷ made (ADR 14 0x8ff10) 0x1047f88e  -- adr x14, #589584
    ∷ made (ADR 15 0x98c0d) 0x304c606f  -- adr x15, #625677
    ∷ made (ADR 16 0x1298ef) 0x7094c770  -- adr x16, #-878353
    ∷ made (ADR 17 0x8856a) 0x50442b51  -- adr x17, #558442
    ∷ made (ADR 18 0x1851c) 0x100c28f2  -- adr x18, #99612
    ∷ made (ADR 19 0x90460) 0x10482313  -- adr x19, #590944
    ∷ made (ADR 20 0x156263) 0x70ab1314  -- adr x20, #-695709
    ∷ made (ADR 21 0xf7d6) 0x5007beb5  -- adr x21, #63446
    ∷ made (ADR 22 0x13568d) 0x309ab476  -- adr x22, #-829811
    ∷ made (ADR 23 0x3c06d) 0x301e0377  -- adr x23, #245869
    ∷ made (ADR 24 0x110e5b) 0x708872d8  -- adr x24, #-979365
    ∷ made (ADR 25 0x19380b) 0x70c9c059  -- adr x25, #-444405
    ∷ made (ADR 26 0x167fd3) 0x70b3fe9a  -- adr x26, #-622637
    ∷ made (ADR 27 0x18e335) 0x30c719bb  -- adr x27, #-466123
    ∷ made (ADR 28 0xa674b) 0x70533a5c  -- adr x28, #681803
    ∷ made (ADR 29 0xc388e) 0x5061c47d  -- adr x29, #800910
    ∷ made (ADR 30 0x1779f) 0x700bbcfe  -- adr x30, #96159
    ∷ made (ADR 31 0xd8a34) 0x106c51bf  -- adr xzr, #887348
    ∷ made (ADRP 0 0x100000) 0x90800000  -- adrp x0, #-4294967296
    ∷ made (ADRP 1 0x100001) 0xb0800001  -- adrp x1, #-4294963200
    ∷ made (ADRP 2 0x1fffff) 0xf0ffffe2  -- adrp x2, #-4096
    ∷ made (ADRP 3 0x0) 0x90000003  -- adrp x3, #0
    ∷ made (ADRP 4 0x1) 0xb0000004  -- adrp x4, #4096
    ∷ made (ADRP 5 0xffffe) 0xd07fffe5  -- adrp x5, #4294959104
    ∷ made (ADRP 6 0xfffff) 0xf07fffe6  -- adrp x6, #4294963200
    ∷ made (ADRP 7 0x18dcc) 0x900c6e67  -- adrp x7, #417120256
    ∷ made (ADRP 8 0xb13b2) 0xd0589d88  -- adrp x8, #2973442048
    ∷ made (ADRP 9 0x2bd0) 0x90015e89  -- adrp x9, #45940736
    ∷ made (ADRP 10 0x1ba6c9) 0xb0dd364a  -- adrp x10, #-1167290368
    ∷ made (ADRP 11 0x146b5e) 0xd0a35aeb  -- adrp x11, #-3108642816
    ∷ made (ADRP 12 0x5a1fa) 0xd02d0fcc  -- adrp x12, #1512022016
    ∷ made (ADRP 13 0x2e797) 0xf0173cad  -- adrp x13, #779710464
    ∷ made (ADRP 14 0x1bd321) 0xb0de990e  -- adrp x14, #-1120792576
    ∷ made (ADRP 15 0x1d4531) 0xb0ea298f  -- adrp x15, #-732753920
    ∷ made (ADRP 16 0xb6cd0) 0x905b6690  -- adrp x16, #3066888192
    ∷ made (ADRP 17 0x14bb20) 0x90a5d911  -- adrp x17, #-3025010688
    ∷ made (ADRP 18 0xf0134) 0x907809b2  -- adrp x18, #4027793408
    ∷ made (ADRP 19 0x187d30) 0x90c3e993  -- adrp x19, #-2016215040
    ∷ made (ADRP 20 0x1d2583) 0xf0e92c14  -- adrp x20, #-765972480
    ∷ made (ADRP 21 0x134dd6) 0xd09a6eb5  -- adrp x21, #-3408044032
    ∷ made (ADRP 22 0x1f0748) 0x90f83a56  -- adrp x22, #-260800512
    ∷ made (ADRP 23 0x1dc1e8) 0x90ee0f57  -- adrp x23, #-601980928
    ∷ made (ADRP 24 0x1dd41c) 0x90eea0f8  -- adrp x24, #-582893568
    ∷ made (ADRP 25 0x6fa43) 0xf037d219  -- adrp x25, #1873031168
    ∷ made (ADRP 26 0x15b9ef) 0xf0adcf7a  -- adrp x26, #-2757824512
    ∷ made (ADRP 27 0xfcd2b) 0xf07e695b  -- adrp x27, #4241666048
    ∷ made (ADRP 28 0x7dfd9) 0xb03efedc  -- adrp x28, #2113769472
    ∷ made (ADRP 29 0x12132) 0xd009099d  -- adrp x29, #303243264
    ∷ made (ADRP 30 0x1b3e2b) 0xf0d9f15e  -- adrp x30, #-1276989440
    ∷ made (ADRP 31 0x802b5) 0xb04015bf  -- adrp xzr, #2150322176
    ∷ made (ADD 0 0 0 9 0x0) 0x11000120  -- add w0, w9, #0, lsl #0
    ∷ made (ADD 0 1 1 26 0x0) 0x11400341  -- add w1, w26, #0, lsl #12
    ∷ made (ADD 0 0 2 30 0x1) 0x110007c2  -- add w2, w30, #1, lsl #0
    ∷ made (ADD 0 1 3 9 0x1) 0x11400523  -- add w3, w9, #1, lsl #12
    ∷ made (ADD 0 0 4 17 0xfff) 0x113ffe24  -- add w4, w17, #4095, lsl #0
    ∷ made (ADD 0 1 5 2 0xfff) 0x117ffc45  -- add w5, w2, #4095, lsl #12
    ∷ made (ADD 0 0 6 22 0x6d1) 0x111b46c6  -- add w6, w22, #1745, lsl #0
    ∷ made (ADD 0 1 7 25 0xe8d) 0x117a3727  -- add w7, w25, #3725, lsl #12
    ∷ made (ADD 0 0 8 6 0x0) 0x110000c8  -- add w8, w6, #0, lsl #0
    ∷ made (ADD 0 1 9 21 0x0) 0x114002a9  -- add w9, w21, #0, lsl #12
    ∷ made (ADD 0 0 10 22 0x1) 0x110006ca  -- add w10, w22, #1, lsl #0
    ∷ made (ADD 0 1 11 4 0x1) 0x1140048b  -- add w11, w4, #1, lsl #12
    ∷ made (ADD 0 0 12 19 0xfff) 0x113ffe6c  -- add w12, w19, #4095, lsl #0
    ∷ made (ADD 0 1 13 27 0xfff) 0x117fff6d  -- add w13, w27, #4095, lsl #12
    ∷ made (ADD 0 0 14 2 0xb81) 0x112e044e  -- add w14, w2, #2945, lsl #0
    ∷ made (ADD 0 1 15 2 0xe67) 0x11799c4f  -- add w15, w2, #3687, lsl #12
    ∷ made (ADD 0 0 16 16 0x0) 0x11000210  -- add w16, w16, #0, lsl #0
    ∷ made (ADD 0 1 17 14 0x0) 0x114001d1  -- add w17, w14, #0, lsl #12
    ∷ made (ADD 0 0 18 4 0x1) 0x11000492  -- add w18, w4, #1, lsl #0
    ∷ made (ADD 0 1 19 6 0x1) 0x114004d3  -- add w19, w6, #1, lsl #12
    ∷ made (ADD 0 0 20 5 0xfff) 0x113ffcb4  -- add w20, w5, #4095, lsl #0
    ∷ made (ADD 0 1 21 4 0xfff) 0x117ffc95  -- add w21, w4, #4095, lsl #12
    ∷ made (ADD 0 0 22 7 0xa98) 0x112a60f6  -- add w22, w7, #2712, lsl #0
    ∷ made (ADD 0 1 23 1 0xc1c) 0x11707037  -- add w23, w1, #3100, lsl #12
    ∷ made (ADD 0 0 24 22 0x0) 0x110002d8  -- add w24, w22, #0, lsl #0
    ∷ made (ADD 0 1 25 8 0x0) 0x11400119  -- add w25, w8, #0, lsl #12
    ∷ made (ADD 0 0 26 0 0x1) 0x1100041a  -- add w26, w0, #1, lsl #0
    ∷ made (ADD 0 1 27 5 0x1) 0x114004bb  -- add w27, w5, #1, lsl #12
    ∷ made (ADD 0 0 28 13 0xfff) 0x113ffdbc  -- add w28, w13, #4095, lsl #0
    ∷ made (ADD 0 1 29 3 0xfff) 0x117ffc7d  -- add w29, w3, #4095, lsl #12
    ∷ made (ADD 0 0 30 1 0xfb) 0x1103ec3e  -- add w30, w1, #251, lsl #0
    ∷ made (ADD 0 1 31 12 0x52d) 0x1154b59f  -- add wsp, w12, #1325, lsl #12
    ∷ made (ADD 1 0 0 16 0x0) 0x91000200  -- add x0, x16, #0, lsl #0
    ∷ made (ADD 1 1 1 26 0x0) 0x91400341  -- add x1, x26, #0, lsl #12
    ∷ made (ADD 1 0 2 0 0x1) 0x91000402  -- add x2, x0, #1, lsl #0
    ∷ made (ADD 1 1 3 11 0x1) 0x91400563  -- add x3, x11, #1, lsl #12
    ∷ made (ADD 1 0 4 1 0xfff) 0x913ffc24  -- add x4, x1, #4095, lsl #0
    ∷ made (ADD 1 1 5 22 0xfff) 0x917ffec5  -- add x5, x22, #4095, lsl #12
    ∷ made (ADD 1 0 6 20 0xce1) 0x91338686  -- add x6, x20, #3297, lsl #0
    ∷ made (ADD 1 1 7 21 0x747) 0x915d1ea7  -- add x7, x21, #1863, lsl #12
    ∷ made (ADD 1 0 8 20 0x0) 0x91000288  -- add x8, x20, #0, lsl #0
    ∷ made (ADD 1 1 9 2 0x0) 0x91400049  -- add x9, x2, #0, lsl #12
    ∷ made (ADD 1 0 10 9 0x1) 0x9100052a  -- add x10, x9, #1, lsl #0
    ∷ made (ADD 1 1 11 18 0x1) 0x9140064b  -- add x11, x18, #1, lsl #12
    ∷ made (ADD 1 0 12 5 0xfff) 0x913ffcac  -- add x12, x5, #4095, lsl #0
    ∷ made (ADD 1 1 13 6 0xfff) 0x917ffccd  -- add x13, x6, #4095, lsl #12
    ∷ made (ADD 1 0 14 4 0xfcd) 0x913f348e  -- add x14, x4, #4045, lsl #0
    ∷ made (ADD 1 1 15 9 0x304) 0x914c112f  -- add x15, x9, #772, lsl #12
    ∷ made (ADD 1 0 16 4 0x0) 0x91000090  -- add x16, x4, #0, lsl #0
    ∷ made (ADD 1 1 17 28 0x0) 0x91400391  -- add x17, x28, #0, lsl #12
    ∷ made (ADD 1 0 18 16 0x1) 0x91000612  -- add x18, x16, #1, lsl #0
    ∷ made (ADD 1 1 19 18 0x1) 0x91400653  -- add x19, x18, #1, lsl #12
    ∷ made (ADD 1 0 20 12 0xfff) 0x913ffd94  -- add x20, x12, #4095, lsl #0
    ∷ made (ADD 1 1 21 7 0xfff) 0x917ffcf5  -- add x21, x7, #4095, lsl #12
    ∷ made (ADD 1 0 22 22 0x643) 0x91190ed6  -- add x22, x22, #1603, lsl #0
    ∷ made (ADD 1 1 23 19 0x8b0) 0x9162c277  -- add x23, x19, #2224, lsl #12
    ∷ made (ADD 1 0 24 11 0x0) 0x91000178  -- add x24, x11, #0, lsl #0
    ∷ made (ADD 1 1 25 7 0x0) 0x914000f9  -- add x25, x7, #0, lsl #12
    ∷ made (ADD 1 0 26 5 0x1) 0x910004ba  -- add x26, x5, #1, lsl #0
    ∷ made (ADD 1 1 27 17 0x1) 0x9140063b  -- add x27, x17, #1, lsl #12
    ∷ made (ADD 1 0 28 4 0xfff) 0x913ffc9c  -- add x28, x4, #4095, lsl #0
    ∷ made (ADD 1 1 29 1 0xfff) 0x917ffc3d  -- add x29, x1, #4095, lsl #12
    ∷ made (ADD 1 0 30 27 0x2e2) 0x910b8b7e  -- add x30, x27, #738, lsl #0
    ∷ made (ADD 1 1 31 22 0x31f) 0x914c7edf  -- add sp, x22, #799, lsl #12
    ∷ made (LDST 0b0 0 0b0 0 12 0x0) 0x39000180  -- strb w0, [x12, #0]
    ∷ made (LDST 0b0 0 0b0 1 13 0xfff) 0x393ffda1  -- strb w1, [x13, #4095]
    ∷ made (LDST 0b0 0 0b0 2 17 0x15b) 0x39056e22  -- strb w2, [x17, #347]
    ∷ made (LDST 0b0 0 0b1 3 1 0x0) 0x39400023  -- ldrb w3, [x1, #0]
    ∷ made (LDST 0b0 0 0b1 4 8 0xfff) 0x397ffd04  -- ldrb w4, [x8, #4095]
    ∷ made (LDST 0b0 0 0b1 5 24 0xe43) 0x39790f05  -- ldrb w5, [x24, #3651]
    ∷ made (LDST 0b0 0 0b10 6 8 0x0) 0x39800106  -- ldrsb x6, [x8, #0]
    ∷ made (LDST 0b0 0 0b10 7 14 0xfff) 0x39bffdc7  -- ldrsb x7, [x14, #4095]
    ∷ made (LDST 0b0 0 0b10 8 13 0x3e8) 0x398fa1a8  -- ldrsb x8, [x13, #1000]
    ∷ made (LDST 0b0 0 0b11 9 23 0x0) 0x39c002e9  -- ldrsb w9, [x23, #0]
    ∷ made (LDST 0b0 0 0b11 10 28 0xfff) 0x39ffff8a  -- ldrsb w10, [x28, #4095]
    ∷ made (LDST 0b0 0 0b11 11 0 0x48f) 0x39d23c0b  -- ldrsb w11, [x0, #1167]
    ∷ made (LDST 0b0 1 0b0 12 26 0x0) 0x3d00034c  -- str b12, [x26, #0]
    ∷ made (LDST 0b0 1 0b0 13 10 0xfff) 0x3d3ffd4d  -- str b13, [x10, #4095]
    ∷ made (LDST 0b0 1 0b0 14 30 0xcc0) 0x3d3303ce  -- str b14, [x30, #3264]
    ∷ made (LDST 0b0 1 0b1 15 24 0x0) 0x3d40030f  -- ldr b15, [x24, #0]
    ∷ made (LDST 0b0 1 0b1 16 14 0xfff) 0x3d7ffdd0  -- ldr b16, [x14, #4095]
    ∷ made (LDST 0b0 1 0b1 17 28 0xd4a) 0x3d752b91  -- ldr b17, [x28, #3402]
    ∷ made (LDST 0b0 1 0b10 18 31 0x0) 0x3d8003f2  -- str q18, [sp, #0]
    ∷ made (LDST 0b0 1 0b10 19 24 0xfff) 0x3dbfff13  -- str q19, [x24, #65520]
    ∷ made (LDST 0b0 1 0b10 20 28 0x37e) 0x3d8dfb94  -- str q20, [x28, #14304]
    ∷ made (LDST 0b0 1 0b11 21 16 0x0) 0x3dc00215  -- ldr q21, [x16, #0]
    ∷ made (LDST 0b0 1 0b11 22 16 0xfff) 0x3dfffe16  -- ldr q22, [x16, #65520]
    ∷ made (LDST 0b0 1 0b11 23 23 0x8b9) 0x3de2e6f7  -- ldr q23, [x23, #35728]
    ∷ made (LDST 0b1 0 0b0 24 20 0x0) 0x79000298  -- strh w24, [x20, #0]
    ∷ made (LDST 0b1 0 0b0 25 15 0xfff) 0x793ffdf9  -- strh w25, [x15, #8190]
    ∷ made (LDST 0b1 0 0b0 26 31 0x274) 0x7909d3fa  -- strh w26, [sp, #1256]
    ∷ made (LDST 0b1 0 0b1 27 8 0x0) 0x7940011b  -- ldrh w27, [x8, #0]
    ∷ made (LDST 0b1 0 0b1 28 11 0xfff) 0x797ffd7c  -- ldrh w28, [x11, #8190]
    ∷ made (LDST 0b1 0 0b1 29 5 0x2c8) 0x794b20bd  -- ldrh w29, [x5, #1424]
    ∷ made (LDST 0b1 0 0b10 30 20 0x0) 0x7980029e  -- ldrsh x30, [x20, #0]
    ∷ made (LDST 0b1 0 0b10 31 15 0xfff) 0x79bffdff  -- ldrsh xzr, [x15, #8190]
    ∷ made (LDST 0b1 0 0b10 0 5 0xfbf) 0x79befca0  -- ldrsh x0, [x5, #8062]
    ∷ made (LDST 0b1 0 0b11 1 17 0x0) 0x79c00221  -- ldrsh w1, [x17, #0]
    ∷ made (LDST 0b1 0 0b11 2 30 0xfff) 0x79ffffc2  -- ldrsh w2, [x30, #8190]
    ∷ made (LDST 0b1 0 0b11 3 27 0xa3b) 0x79e8ef63  -- ldrsh w3, [x27, #5238]
    ∷ made (LDST 0b1 1 0b0 4 1 0x0) 0x7d000024  -- str h4, [x1, #0]
    ∷ made (LDST 0b1 1 0b0 5 22 0xfff) 0x7d3ffec5  -- str h5, [x22, #8190]
    ∷ made (LDST 0b1 1 0b0 6 2 0x3ac) 0x7d0eb046  -- str h6, [x2, #1880]
    ∷ made (LDST 0b1 1 0b1 7 6 0x0) 0x7d4000c7  -- ldr h7, [x6, #0]
    ∷ made (LDST 0b1 1 0b1 8 1 0xfff) 0x7d7ffc28  -- ldr h8, [x1, #8190]
    ∷ made (LDST 0b1 1 0b1 9 30 0x5f) 0x7d417fc9  -- ldr h9, [x30, #190]
    ∷ made (LDST 0b10 0 0b0 10 18 0x0) 0xb900024a  -- str w10, [x18, #0]
    ∷ made (LDST 0b10 0 0b0 11 2 0xfff) 0xb93ffc4b  -- str w11, [x2, #16380]
    ∷ made (LDST 0b10 0 0b0 12 30 0x971) 0xb925c7cc  -- str w12, [x30, #9668]
    ∷ made (LDST 0b10 0 0b1 13 21 0x0) 0xb94002ad  -- ldr w13, [x21, #0]
    ∷ made (LDST 0b10 0 0b1 14 27 0xfff) 0xb97fff6e  -- ldr w14, [x27, #16380]
    ∷ made (LDST 0b10 0 0b1 15 30 0xc6b) 0xb971afcf  -- ldr w15, [x30, #12716]
    ∷ made (LDST 0b10 0 0b10 16 12 0x0) 0xb9800190  -- ldrsw x16, [x12, #0]
    ∷ made (LDST 0b10 0 0b10 17 27 0xfff) 0xb9bfff71  -- ldrsw x17, [x27, #16380]
    ∷ made (LDST 0b10 0 0b10 18 8 0x3f5) 0xb98fd512  -- ldrsw x18, [x8, #4052]
    ∷ made (LDST 0b10 1 0b0 19 15 0x0) 0xbd0001f3  -- str s19, [x15, #0]
    ∷ made (LDST 0b10 1 0b0 20 4 0xfff) 0xbd3ffc94  -- str s20, [x4, #16380]
    ∷ made (LDST 0b10 1 0b0 21 11 0x472) 0xbd11c975  -- str s21, [x11, #4552]
    ∷ made (LDST 0b10 1 0b1 22 14 0x0) 0xbd4001d6  -- ldr s22, [x14, #0]
    ∷ made (LDST 0b10 1 0b1 23 16 0xfff) 0xbd7ffe17  -- ldr s23, [x16, #16380]
    ∷ made (LDST 0b10 1 0b1 24 20 0xd5a) 0xbd756a98  -- ldr s24, [x20, #13672]
    ∷ made (LDST 0b11 0 0b0 25 28 0x0) 0xf9000399  -- str x25, [x28, #0]
    ∷ made (LDST 0b11 0 0b0 26 12 0xfff) 0xf93ffd9a  -- str x26, [x12, #32760]
    ∷ made (LDST 0b11 0 0b0 27 10 0x34) 0xf900d15b  -- str x27, [x10, #416]
    ∷ made (LDST 0b11 0 0b1 28 24 0x0) 0xf940031c  -- ldr x28, [x24, #0]
    ∷ made (LDST 0b11 0 0b1 29 29 0xfff) 0xf97fffbd  -- ldr x29, [x29, #32760]
    ∷ made (LDST 0b11 0 0b1 30 24 0x1b7) 0xf946df1e  -- ldr x30, [x24, #3512]
    ∷ made (LDST 0b11 1 0b0 31 22 0x0) 0xfd0002df  -- str d31, [x22, #0]
    ∷ made (LDST 0b11 1 0b0 0 6 0xfff) 0xfd3ffcc0  -- str d0, [x6, #32760]
    ∷ made (LDST 0b11 1 0b0 1 18 0x3af) 0xfd0ebe41  -- str d1, [x18, #7544]
    ∷ made (LDST 0b11 1 0b1 2 29 0x0) 0xfd4003a2  -- ldr d2, [x29, #0]
    ∷ made (LDST 0b11 1 0b1 3 15 0xfff) 0xfd7ffde3  -- ldr d3, [x15, #32760]
    ∷ made (LDST 0b11 1 0b1 4 5 0x703) 0xfd5c0ca4  -- ldr d4, [x5, #14360]
    ∷ made (PRFM 0 25 0x0) 0xf9800320  -- prfm #0, [x25, #0]
    ∷ made (PRFM 1 4 0x1) 0xf9800481  -- prfm #1, [x4, #8]
    ∷ made (PRFM 2 21 0xfff) 0xf9bffea2  -- prfm #2, [x21, #32760]
    ∷ made (PRFM 3 3 0x7f1) 0xf99fc463  -- prfm #3, [x3, #16264]
    ∷ made (PRFM 4 13 0x0) 0xf98001a4  -- prfm #4, [x13, #0]
    ∷ made (PRFM 5 14 0x1) 0xf98005c5  -- prfm #5, [x14, #8]
    ∷ made (PRFM 6 22 0xfff) 0xf9bffec6  -- prfm #6, [x22, #32760]
    ∷ made (PRFM 7 21 0x9d1) 0xf9a746a7  -- prfm #7, [x21, #20104]
    ∷ made (PRFM 8 0 0x0) 0xf9800008  -- prfm #8, [x0, #0]
    ∷ made (PRFM 9 11 0x1) 0xf9800569  -- prfm #9, [x11, #8]
    ∷ made (PRFM 10 23 0xfff) 0xf9bffeea  -- prfm #10, [x23, #32760]
    ∷ made (PRFM 11 28 0xc4e) 0xf9b13b8b  -- prfm #11, [x28, #25200]
    ∷ made (PRFM 12 14 0x0) 0xf98001cc  -- prfm #12, [x14, #0]
    ∷ made (PRFM 13 10 0x1) 0xf980054d  -- prfm #13, [x10, #8]
    ∷ made (PRFM 14 0 0xfff) 0xf9bffc0e  -- prfm #14, [x0, #32760]
    ∷ made (PRFM 15 18 0xa44) 0xf9a9124f  -- prfm #15, [x18, #21024]
    ∷ made (PRFM 16 4 0x0) 0xf9800090  -- prfm #16, [x4, #0]
    ∷ made (PRFM 17 26 0x1) 0xf9800751  -- prfm #17, [x26, #8]
    ∷ made (PRFM 18 7 0xfff) 0xf9bffcf2  -- prfm #18, [x7, #32760]
    ∷ made (PRFM 19 11 0xb19) 0xf9ac6573  -- prfm #19, [x11, #22728]
    ∷ made (PRFM 20 7 0x0) 0xf98000f4  -- prfm #20, [x7, #0]
    ∷ made (PRFM 21 15 0x1) 0xf98005f5  -- prfm #21, [x15, #8]
    ∷ made (PRFM 22 21 0xfff) 0xf9bffeb6  -- prfm #22, [x21, #32760]
    ∷ made (PRFM 23 6 0x3c0) 0xf98f00d7  -- prfm #23, [x6, #7680]
    ∷ made (PRFM 24 28 0x0) 0xf9800398  -- prfm #24, [x28, #0]
    ∷ made (PRFM 25 13 0x1) 0xf98005b9  -- prfm #25, [x13, #8]
    ∷ made (PRFM 26 12 0xfff) 0xf9bffd9a  -- prfm #26, [x12, #32760]
    ∷ made (PRFM 27 31 0x185) 0xf98617fb  -- prfm #27, [sp, #3112]
    ∷ made (PRFM 28 9 0x0) 0xf980013c  -- prfm #28, [x9, #0]
    ∷ made (PRFM 29 28 0x1) 0xf980079d  -- prfm #29, [x28, #8]
    ∷ made (PRFM 30 10 0xfff) 0xf9bffd5e  -- prfm #30, [x10, #32760]
    ∷ made (PRFM 31 6 0x7b2) 0xf99ec8df  -- prfm #31, [x6, #15760]
    ∷ made (LDR-literal 0b0 0 0 0x40000) 0x18800000  -- ldr w0, #-1048576
    ∷ made (LDR-literal 0b0 0 1 0x40001) 0x18800021  -- ldr w1, #-1048572
    ∷ made (LDR-literal 0b0 0 2 0x7ffff) 0x18ffffe2  -- ldr w2, #-4
    ∷ made (LDR-literal 0b0 0 3 0x0) 0x18000003  -- ldr w3, #0
    ∷ made (LDR-literal 0b0 0 4 0x1) 0x18000024  -- ldr w4, #4
    ∷ made (LDR-literal 0b0 0 5 0x3fffe) 0x187fffc5  -- ldr w5, #1048568
    ∷ made (LDR-literal 0b0 0 6 0x3ffff) 0x187fffe6  -- ldr w6, #1048572
    ∷ made (LDR-literal 0b0 0 7 0x5b2a6) 0x18b654c7  -- ldr w7, #-603496
    ∷ made (LDR-literal 0b1 0 8 0x40000) 0x58800008  -- ldr x8, #-1048576
    ∷ made (LDR-literal 0b1 0 9 0x40001) 0x58800029  -- ldr x9, #-1048572
    ∷ made (LDR-literal 0b1 0 10 0x7ffff) 0x58ffffea  -- ldr x10, #-4
    ∷ made (LDR-literal 0b1 0 11 0x0) 0x5800000b  -- ldr x11, #0
    ∷ made (LDR-literal 0b1 0 12 0x1) 0x5800002c  -- ldr x12, #4
    ∷ made (LDR-literal 0b1 0 13 0x3fffe) 0x587fffcd  -- ldr x13, #1048568
    ∷ made (LDR-literal 0b1 0 14 0x3ffff) 0x587fffee  -- ldr x14, #1048572
    ∷ made (LDR-literal 0b1 0 15 0x266eb) 0x584cdd6f  -- ldr x15, #629676
    ∷ made (LDR-literal 0b10 0 16 0x40000) 0x98800010  -- ldrsw x16, #-1048576
    ∷ made (LDR-literal 0b10 0 17 0x40001) 0x98800031  -- ldrsw x17, #-1048572
    ∷ made (LDR-literal 0b10 0 18 0x7ffff) 0x98fffff2  -- ldrsw x18, #-4
    ∷ made (LDR-literal 0b10 0 19 0x0) 0x98000013  -- ldrsw x19, #0
    ∷ made (LDR-literal 0b10 0 20 0x1) 0x98000034  -- ldrsw x20, #4
    ∷ made (LDR-literal 0b10 0 21 0x3fffe) 0x987fffd5  -- ldrsw x21, #1048568
    ∷ made (LDR-literal 0b10 0 22 0x3ffff) 0x987ffff6  -- ldrsw x22, #1048572
    ∷ made (LDR-literal 0b10 0 23 0x2e6e5) 0x985cdcb7  -- ldrsw x23, #760724
    ∷ made (LDR-literal 0b0 1 24 0x40000) 0x1c800018  -- ldr s24, #-1048576
    ∷ made (LDR-literal 0b0 1 25 0x40001) 0x1c800039  -- ldr s25, #-1048572
    ∷ made (LDR-literal 0b0 1 26 0x7ffff) 0x1cfffffa  -- ldr s26, #-4
    ∷ made (LDR-literal 0b0 1 27 0x0) 0x1c00001b  -- ldr s27, #0
    ∷ made (LDR-literal 0b0 1 28 0x1) 0x1c00003c  -- ldr s28, #4
    ∷ made (LDR-literal 0b0 1 29 0x3fffe) 0x1c7fffdd  -- ldr s29, #1048568
    ∷ made (LDR-literal 0b0 1 30 0x3ffff) 0x1c7ffffe  -- ldr s30, #1048572
    ∷ made (LDR-literal 0b0 1 31 0x2a530) 0x1c54a61f  -- ldr s31, #693440
    ∷ made (LDR-literal 0b1 1 0 0x40000) 0x5c800000  -- ldr d0, #-1048576
    ∷ made (LDR-literal 0b1 1 1 0x40001) 0x5c800021  -- ldr d1, #-1048572
    ∷ made (LDR-literal 0b1 1 2 0x7ffff) 0x5cffffe2  -- ldr d2, #-4
    ∷ made (LDR-literal 0b1 1 3 0x0) 0x5c000003  -- ldr d3, #0
    ∷ made (LDR-literal 0b1 1 4 0x1) 0x5c000024  -- ldr d4, #4
    ∷ made (LDR-literal 0b1 1 5 0x3fffe) 0x5c7fffc5  -- ldr d5, #1048568
    ∷ made (LDR-literal 0b1 1 6 0x3ffff) 0x5c7fffe6  -- ldr d6, #1048572
    ∷ made (LDR-literal 0b1 1 7 0x2f74a) 0x5c5ee947  -- ldr d7, #777512
    ∷ made (LDR-literal 0b10 1 8 0x40000) 0x9c800008  -- ldr q8, #-1048576
    ∷ made (LDR-literal 0b10 1 9 0x40001) 0x9c800029  -- ldr q9, #-1048572
    ∷ made (LDR-literal 0b10 1 10 0x7ffff) 0x9cffffea  -- ldr q10, #-4
    ∷ made (LDR-literal 0b10 1 11 0x0) 0x9c00000b  -- ldr q11, #0
    ∷ made (LDR-literal 0b10 1 12 0x1) 0x9c00002c  -- ldr q12, #4
    ∷ made (LDR-literal 0b10 1 13 0x3fffe) 0x9c7fffcd  -- ldr q13, #1048568
    ∷ made (LDR-literal 0b10 1 14 0x3ffff) 0x9c7fffee  -- ldr q14, #1048572
    ∷ made (LDR-literal 0b10 1 15 0x6cb19) 0x9cd9632f  -- ldr q15, #-316316
    ∷ made (B 0x2000000) 0x16000000  -- b #-134217728
    ∷ made (B 0x2000001) 0x16000001  -- b #-134217724
    ∷ made (B 0x3ffffff) 0x17ffffff  -- b #-4
    ∷ made (B 0x0) 0x14000000  -- b #0
    ∷ made (B 0x1) 0x14000001  -- b #4
    ∷ made (B 0x1fffffe) 0x15fffffe  -- b #134217720
    ∷ made (B 0x1ffffff) 0x15ffffff  -- b #134217724
    ∷ made (B 0xe0194a) 0x14e0194a  -- b #58746152
    ∷ made (B 0x468887) 0x14468887  -- b #18489884
    ∷ made (B 0x2239d8d) 0x16239d8d  -- b #-124881356
    ∷ made (B 0x2707846) 0x16707846  -- b #-104734440
    ∷ made (B 0x20ae49f) 0x160ae49f  -- b #-131362180
    ∷ made (B 0x33f1167) 0x173f1167  -- b #-50575972
    ∷ made (B 0x8ec081) 0x148ec081  -- b #37421572
    ∷ made (B 0x35415de) 0x175415de  -- b #-45066376
    ∷ made (B 0x12fa951) 0x152fa951  -- b #79603012
    ∷ made (BL 0x2000000) 0x96000000  -- bl #-134217728
    ∷ made (BL 0x2000001) 0x96000001  -- bl #-134217724
    ∷ made (BL 0x3ffffff) 0x97ffffff  -- bl #-4
    ∷ made (BL 0x0) 0x94000000  -- bl #0
    ∷ made (BL 0x1) 0x94000001  -- bl #4
    ∷ made (BL 0x1fffffe) 0x95fffffe  -- bl #134217720
    ∷ made (BL 0x1ffffff) 0x95ffffff  -- bl #134217724
    ∷ made (BL 0x24d7472) 0x964d7472  -- bl #-113913400
    ∷ made (BL 0x2e02761) 0x96e02761  -- bl #-75457148
    ∷ made (BL 0x3e76e98) 0x97e76e98  -- bl #-6440352
    ∷ made (BL 0x2843a47) 0x96843a47  -- bl #-99555044
    ∷ made (BL 0x2e4236e) 0x96e4236e  -- bl #-74412616
    ∷ made (BL 0x281c235) 0x9681c235  -- bl #-100202284
    ∷ made (BL 0x143745c) 0x9543745c  -- bl #84791664
    ∷ made (BL 0x3efc431) 0x97efc431  -- bl #-4255548
    ∷ made (BL 0x3fde1c2) 0x97fde1c2  -- bl #-555256
    ∷ made (BR 0) 0xd61f0000  -- br x0
    ∷ made (BR 1) 0xd61f0020  -- br x1
    ∷ made (BR 2) 0xd61f0040  -- br x2
    ∷ made (BR 3) 0xd61f0060  -- br x3
    ∷ made (BR 4) 0xd61f0080  -- br x4
    ∷ made (BR 5) 0xd61f00a0  -- br x5
    ∷ made (BR 6) 0xd61f00c0  -- br x6
    ∷ made (BR 7) 0xd61f00e0  -- br x7
    ∷ made (BR 8) 0xd61f0100  -- br x8
    ∷ made (BR 9) 0xd61f0120  -- br x9
    ∷ made (BR 10) 0xd61f0140  -- br x10
    ∷ made (BR 11) 0xd61f0160  -- br x11
    ∷ made (BR 12) 0xd61f0180  -- br x12
    ∷ made (BR 13) 0xd61f01a0  -- br x13
    ∷ made (BR 14) 0xd61f01c0  -- br x14
    ∷ made (BR 15) 0xd61f01e0  -- br x15
    ∷ made (BR 16) 0xd61f0200  -- br x16
    ∷ made (BR 17) 0xd61f0220  -- br x17
    ∷ made (BR 18) 0xd61f0240  -- br x18
    ∷ made (BR 19) 0xd61f0260  -- br x19
    ∷ made (BR 20) 0xd61f0280  -- br x20
    ∷ made (BR 21) 0xd61f02a0  -- br x21
    ∷ made (BR 22) 0xd61f02c0  -- br x22
    ∷ made (BR 23) 0xd61f02e0  -- br x23
    ∷ made (BR 24) 0xd61f0300  -- br x24
    ∷ made (BR 25) 0xd61f0320  -- br x25
    ∷ made (BR 26) 0xd61f0340  -- br x26
    ∷ made (BR 27) 0xd61f0360  -- br x27
    ∷ made (BR 28) 0xd61f0380  -- br x28
    ∷ made (BR 29) 0xd61f03a0  -- br x29
    ∷ made (BR 30) 0xd61f03c0  -- br x30
    ∷ made (BR 31) 0xd61f03e0  -- br xzr
    ∷ made (NOP) 0xd503201f  -- nop
    ∷ made (MOVZ 0 0 0 0x0) 0x52800000  -- movz w0, #0, lsl #0
    ∷ made (MOVZ 0 1 1 0x0) 0x52a00001  -- movz w1, #0, lsl #16
    ∷ made (MOVZ 1 0 2 0x0) 0xd2800002  -- movz x2, #0, lsl #0
    ∷ made (MOVZ 1 1 3 0x0) 0xd2a00003  -- movz x3, #0, lsl #16
    ∷ made (MOVZ 1 2 4 0x0) 0xd2c00004  -- movz x4, #0, lsl #32
    ∷ made (MOVZ 1 3 5 0x0) 0xd2e00005  -- movz x5, #0, lsl #48
    ∷ made (MOVZ 0 0 6 0x1) 0x52800026  -- movz w6, #1, lsl #0
    ∷ made (MOVZ 0 1 7 0x1) 0x52a00027  -- movz w7, #1, lsl #16
    ∷ made (MOVZ 1 0 8 0x1) 0xd2800028  -- movz x8, #1, lsl #0
    ∷ made (MOVZ 1 1 9 0x1) 0xd2a00029  -- movz x9, #1, lsl #16
    ∷ made (MOVZ 1 2 10 0x1) 0xd2c0002a  -- movz x10, #1, lsl #32
    ∷ made (MOVZ 1 3 11 0x1) 0xd2e0002b  -- movz x11, #1, lsl #48
    ∷ made (MOVZ 0 0 12 0xffff) 0x529fffec  -- movz w12, #65535, lsl #0
    ∷ made (MOVZ 0 1 13 0xffff) 0x52bfffed  -- movz w13, #65535, lsl #16
    ∷ made (MOVZ 1 0 14 0xffff) 0xd29fffee  -- movz x14, #65535, lsl #0
    ∷ made (MOVZ 1 1 15 0xffff) 0xd2bfffef  -- movz x15, #65535, lsl #16
    ∷ made (MOVZ 1 2 16 0xffff) 0xd2dffff0  -- movz x16, #65535, lsl #32
    ∷ made (MOVZ 1 3 17 0xffff) 0xd2fffff1  -- movz x17, #65535, lsl #48
    ∷ made (MOVZ 0 0 18 0xad1) 0x52815a32  -- movz w18, #2769, lsl #0
    ∷ made (MOVZ 0 1 19 0xebd0) 0x52bd7a13  -- movz w19, #60368, lsl #16
    ∷ made (MOVZ 1 0 20 0xdeef) 0xd29bddf4  -- movz x20, #57071, lsl #0
    ∷ made (MOVZ 1 1 21 0x59d2) 0xd2ab3a55  -- movz x21, #22994, lsl #16
    ∷ made (MOVZ 1 2 22 0xb6f1) 0xd2d6de36  -- movz x22, #46833, lsl #32
    ∷ made (MOVZ 1 3 23 0xc15) 0xd2e182b7  -- movz x23, #3093, lsl #48
    ∷ made (MOVZ 0 0 24 0x0) 0x52800018  -- movz w24, #0, lsl #0
    ∷ made (MOVZ 0 1 25 0x0) 0x52a00019  -- movz w25, #0, lsl #16
    ∷ made (MOVZ 1 0 26 0x0) 0xd280001a  -- movz x26, #0, lsl #0
    ∷ made (MOVZ 1 1 27 0x0) 0xd2a0001b  -- movz x27, #0, lsl #16
    ∷ made (MOVZ 1 2 28 0x0) 0xd2c0001c  -- movz x28, #0, lsl #32
    ∷ made (MOVZ 1 3 29 0x0) 0xd2e0001d  -- movz x29, #0, lsl #48
    ∷ made (MOVZ 0 0 30 0x1) 0x5280003e  -- movz w30, #1, lsl #0
    ∷ made (MOVZ 0 1 31 0x1) 0x52a0003f  -- movz wzr, #1, lsl #16
    ∷ made (MOVZ 1 0 0 0x1) 0xd2800020  -- movz x0, #1, lsl #0
    ∷ made (MOVZ 1 1 1 0x1) 0xd2a00021  -- movz x1, #1, lsl #16
    ∷ made (MOVZ 1 2 2 0x1) 0xd2c00022  -- movz x2, #1, lsl #32
    ∷ made (MOVZ 1 3 3 0x1) 0xd2e00023  -- movz x3, #1, lsl #48
    ∷ []
