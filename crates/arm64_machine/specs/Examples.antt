-- States and other words of the examples, of this crate and of those above.
use Rattle.std.specs.Prelude.{[], ◌∷◌, ℕ, ◌+◌, ◌%◌, eqb}
use Rattle.util.specs.Choice.{choose}
use Rattle.arm64_machine.specs.Machine.{AccessKind, load, Access, State, Other}

-- each register holds 0x10f0 plus its number, the stack pointer 0x2000, each byte the low byte of its address
abbrev pub start : State
start = record { x = λ r. 0x10f0 + r; sp = 0x2000; v = λ r. 0x10f0 + r; memory = λ a. a % 256; log = [] }

-- each general register holds 2^64 - 4, each byte 0x200, but for 0x301 at address 3; the others as above
abbrev pub high : State
high = record { x = λ r. 0xfffffffffffffffc; sp = 0x2000; v = λ r. 0x10f0 + r; memory = λ a. choose (eqb a 3) 0x301 0x200; log = [] }

-- an access: kind, address, width, value
abbrev pub logged : AccessKind → ℕ → ℕ → ℕ → Access
logged k a n u = record { kind = k; address = a; width = n; value = u }

-- other words that do nothing
abbrev pub idle : Other
idle w p x sp v memory = record { x = x; sp = sp; v = v; memory = memory; log = [] }

-- that put their address in all general registers
abbrev pub placing : Other
placing w p x sp v memory = record { x = λ r. p; sp = sp; v = v; memory = memory; log = [] }

-- that put vector register 1 in all vector registers
abbrev pub copying : Other
copying w p x sp v memory = record { x = x; sp = sp; v = λ r. v 1; memory = memory; log = [] }

-- that load the byte at the stack pointer
abbrev pub loading : Other
loading w p x sp v memory = record { x = x; sp = sp; v = v; memory = memory; log = logged load sp 1 (memory sp) ∷ [] }
