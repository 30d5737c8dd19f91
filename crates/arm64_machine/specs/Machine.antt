-- The machine of RULES 9.1 to 9.8: what it holds, what a word does, and what a list of words does.
-- What each instruction does: Arm Architecture Reference Manual, C6.2; loads and stores of vector registers (V = 1), C7.2.
-- A register, the stack pointer or a byte of memory may hold any number; the machine takes as many of its low bits as it needs, at most
-- 64 of a general register or the stack pointer, 128 of a vector register, 8 of a byte. Addresses are taken modulo 2^64.
use Rattle.std.specs.Prelude.{ℕ, zero, suc, ◌+◌, ◌*◌, ◌/◌, ◌%◌, ◌^◌, ◌&&◌, List, [], ◌∷◌, ◌++◌, eqb}
use Rattle.util.specs.Choice.{choose}
use Rattle.util.specs.Wrap.{sum}
use Rattle.arm64_insn.specs.LoadStoreTable as Table
use Rattle.arm64_insn.specs.LoadStoreTable.{Row, Registers, general, vector, widened, row_of, literal_row_of}
use Rattle.arm64_insn.specs.Manual.{ADR, ADRP, ADD, LDST, PRFM, LDR-literal, B, BL, BR, NOP, MOVZ, Decoded, instruction, none, decode}
use Rattle.arm64_insn.specs.ManualTargets.{adr_target, literal_target, access_address, add_value}
use Rattle.arm64_insn.specs.Page.{adrp_page}

-- whether an access is a load or a store
pub data AccessKind : Type 0 where
  load : AccessKind
  store : AccessKind

-- an access of data memory: so many bytes, which hold or get the value
pub record Access : Type 0 where
  pub kind : AccessKind
  pub address : ℕ
  pub width : ℕ
  pub value : ℕ

-- general registers (numbers below 31), stack pointer, vector registers, a byte for each address, and the accesses so far
pub record State : Type 0 where
  pub x : ℕ → ℕ
  pub sp : ℕ
  pub v : ℕ → ℕ
  pub memory : ℕ → ℕ
  pub log : List Access

-- a word with its lent address
pub record Placed : Type 0 where
  pub word : ℕ
  pub address : ℕ

-- word w at address p
abbrev pub placed : ℕ → ℕ → Placed
placed w p = record { word = w; address = p }

-- what a word does: the instructions that RULES 9.5 and 9.6 name, a load or store with its row of the manual's tables, and any other word
pub data Action : Type 0 where
  adr : (rd imm21 : ℕ) → Action
  adrp : (rd imm21 : ℕ) → Action
  add : (rd rn imm12 : ℕ) → Action
  access : Row → (rt rn imm12 : ℕ) → Action
  literal : Row → (rt imm19 : ℕ) → Action
  nop : Action
  other : Action

-- what an instruction does; the machine names ADD of 64 bits, unshifted, only
abbrev pub action_of : Decoded → Action
action_of (instruction (ADR rd imm21)) = adr rd imm21
action_of (instruction (ADRP rd imm21)) = adrp rd imm21
action_of (instruction (ADD sf sh rd rn imm12)) = choose (eqb sf 1 && eqb sh 0) (add rd rn imm12) other
action_of (instruction (LDST size v opc rt rn imm12)) = access (row_of size v opc) rt rn imm12
action_of (instruction (PRFM rt rn imm12)) = other
action_of (instruction (LDR-literal opc v rt imm19)) = literal (literal_row_of opc v) rt imm19
action_of (instruction (B imm26)) = other
action_of (instruction (BL imm26)) = other
action_of (instruction (BR rn)) = other
action_of (instruction NOP) = nop
action_of (instruction (MOVZ sf hw rd imm16)) = other
action_of none = other

-- what a word does
unfoldable pub action : ℕ → Action
action w = action_of (decode w)

-- the number that the n bytes of memory from address a on hold, the lowest first
unfoldable pub read : ℕ → (ℕ → ℕ) → ℕ → ℕ
read zero m a = 0
read (suc n) m a = read n m a + 2 ^ (8 * n) * (m (sum a n) % 2 ^ 8)

-- memory with the n low bytes of u from address a on
unfoldable pub write : ℕ → (ℕ → ℕ) → ℕ → ℕ → ℕ → ℕ
write zero m a u b = m b
write (suc n) m a u b = choose (eqb b (sum a n)) (u / 2 ^ (8 * n) % 2 ^ 8) (write n m a u b)

-- a register file with u in register d
abbrev pub with : ℕ → ℕ → (ℕ → ℕ) → ℕ → ℕ
with d u f r = choose (eqb r d) u (f r)

-- u in general register d; number 31 keeps nothing
unfoldable pub set_x : ℕ → ℕ → State → State
set_x d u s = record { x = choose (eqb d 31) s.x (with d u s.x); sp = s.sp; v = s.v; memory = s.memory; log = s.log }

-- u in the stack pointer
unfoldable pub set_sp : ℕ → State → State
set_sp u s = record { x = s.x; sp = u; v = s.v; memory = s.memory; log = s.log }

-- u in vector register d
unfoldable pub set_v : ℕ → ℕ → State → State
set_v d u s = record { x = s.x; sp = s.sp; v = with d u s.v; memory = s.memory; log = s.log }

-- u in the memory's n bytes from address a on
unfoldable pub set_memory : ℕ → ℕ → ℕ → State → State
set_memory n a u s = record { x = s.x; sp = s.sp; v = s.v; memory = write n s.memory a u; log = s.log }

-- an access listed after the others
unfoldable pub listed : AccessKind → ℕ → ℕ → ℕ → State → State
listed k a n u s =
    let entry : Access = record { kind = k; address = a; width = n; value = u } in
    record { x = s.x; sp = s.sp; v = s.v; memory = s.memory; log = s.log ++ (entry ∷ []) }

-- general number n as a base and in ADD: 31 is the stack pointer
unfoldable pub base : ℕ → State → ℕ
base n s = choose (eqb n 31) s.sp (s.x n)

-- what a store finds in register r; general number 31 is zero
abbrev pub source : Registers → ℕ → State → ℕ
source general r s = choose (eqb r 31) 0 (s.x r)
source vector r s = s.v r

-- what a load leaves in register r
abbrev pub set : Registers → ℕ → ℕ → State → State
set general r u s = set_x r u s
set vector r u s = set_v r u s

-- a load or store of register t at address a; no decoded load or store has one of the other rows
unfoldable pub moved : Row → ℕ → ℕ → State → State
moved (Table.load m c n g) t a s = let u = read n s.memory a in set c t (widened g n u) (listed load a n u s)
moved (Table.store m c n) t a s = let u = source c t s % 2 ^ (8 * n) in set_memory n a u (listed store a n u s)
moved (Table.prefetch m) t a s = s
moved Table.unallocated t a s = s

-- what any other word does: from the word, its address, general registers, stack pointer, vector registers and memory, the state after it
-- with its own accesses
abbrev pub Other : Type 0
Other = (word address : ℕ) (x : ℕ → ℕ) (sp : ℕ) (v memory : ℕ → ℕ) → State

-- the state that another word leaves
abbrev pub after : State → State → State
after s t = record { x = t.x; sp = t.sp; v = t.v; memory = t.memory; log = s.log ++ t.log }

-- an action of word w at address p
abbrev pub act : Other → Action → ℕ → ℕ → State → State
act o (adr rd imm21) w p s = set_x rd (adr_target imm21 p) s
act o (adrp rd imm21) w p s = set_x rd (adrp_page imm21 p) s
act o (add rd rn imm12) w p s = let u = add_value 1 0 (base rn s) imm12 in choose (eqb rd 31) (set_sp u s) (set_x rd u s)
act o (access row rt rn imm12) w p s = moved row rt (access_address row (base rn s) imm12) s
act o (literal row rt imm19) w p s = moved row rt (literal_target imm19 p) s
act o nop w p s = s
act o other w p s = after s (o w p s.x s.sp s.v s.memory)

-- what a word does at its address
abbrev pub step : Other → Placed → State → State
step o w s = act o (action w.word) w.word w.address s

-- the words one after another, nothing between
abbrev pub run : Other → List Placed → State → State
run o [] s = s
run o (w ∷ ws) s = run o ws (step o w s)
