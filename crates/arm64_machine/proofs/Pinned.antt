-- What the machine does where a slip in it would change no other fact: it cuts and wraps, and other words see all that they may. Each is computed.
use mathlib.Core.Path.{◌≡◌, refl}
use mathlib.Core.List.{[], ◌∷◌}
use Rattle.util.specs.Choice.{choose}
use Rattle.arm64_insn.specs.LoadStoreTable.{row_of}
use Rattle.arm64_insn.specs.Manual.{decode}
use Rattle.arm64_insn.specs.ManualTargets.{adr_target, access_address, add_value}
use Rattle.arm64_insn.specs.Page.{page_of, adrp_page}
use Rattle.arm64_machine.specs.Machine.{load, store, placed, action}
use Rattle.arm64_machine.specs.Machine.{read, write, set_x, set_memory, listed, base, moved, run}
use Rattle.arm64_machine.specs.Examples.{start, high, logged, idle, placing, copying, loading}

-- strb w1, [x0, #4]: of 2^64 - 4 the low byte is listed
pub store-cut : (run idle (placed 0x39001001 0x1000 ∷ []) high).log ≡ logged store 0 1 0xfc ∷ []
unfolding action decode choose row_of access_address base moved set_memory listed
store-cut = refl

-- str x1, [x0]: each byte gets 8 bits, those from 2^64 - 4 on and those from 0 to 3
pub store_bytes : let memory = (run idle (placed 0xf9000001 0x1000 ∷ []) high).memory in
    (memory 0xfffffffffffffffc ≡ 0xfc) × (memory 0xffffffffffffffff ≡ 0xff) × (memory 0 ≡ 0xff) × (memory 3 ≡ 0xff) × (memory 4 ≡ 0x200)
unfolding action decode choose row_of access_address base moved write set_memory listed
store_bytes = (refl, refl, refl, refl, refl)

-- ldr x1, [x0]: of each byte the 8 low bits, those from 2^64 - 4 on and those from 0 to 3
pub load-bytes : (run idle (placed 0xf9400001 0x1000 ∷ []) high).x 1 ≡ 0x0100000000000000
unfolding action decode choose row_of access_address base moved read set_x listed
load-bytes = refl

-- prfm, which is another word: it sees its address and may change general registers
pub other-address : (run placing (placed 0xf9800000 0x1004 ∷ []) high).x 1 ≡ 0x1004
unfolding action decode choose row_of
other-address = refl

-- sees and may change vector registers
pub other-vectors : (run copying (placed 0xf9800000 0x1004 ∷ []) high).v 2 ≡ 0x10f1
unfolding action decode choose row_of
other-vectors = refl

-- sees stack pointer and memory, and its access is listed after those before it: strb w1, [x0, #4]; prfm
pub other-listed : (run loading (placed 0x39001001 0x1000 ∷ placed 0xf9800000 0x1004 ∷ []) high).log
    ≡ logged store 0 1 0xfc ∷ logged load 0x2000 1 0x200 ∷ []
unfolding action decode choose row_of access_address base moved write set_memory listed
other-listed = refl

-- adrp x1; add x2, x1, #8; ldrb w5, [x2]: x1 holds the page at the end, as it does after adrp x1; nop; ldrb w5, [x1, #8], but not after
-- adr x2; nop; ldrb w5, [x2]
pub fold-shares : ((run idle (placed 0x90000241 0x1000 ∷ placed 0x91002022 0x1004 ∷ placed 0x39400045 0x1008 ∷ []) start).x 1 ≡ 0x49000)
    × ((run idle (placed 0x90000241 0x1000 ∷ placed 0xd503201f 0x1004 ∷ placed 0x39402025 0x1008 ∷ []) start).x 1 ≡ 0x49000)
    × ((run idle (placed 0x10240042 0x1000 ∷ placed 0xd503201f 0x1004 ∷ placed 0x39400045 0x1008 ∷ []) start).x 1 ≡ start.x 1)
unfolding action decode choose row_of page_of adrp_page adr_target access_address add_value base moved read set_x listed
fold-shares = (refl, refl, refl)
