-- One stub entry and one thunk entry (RULES 6.2 to 6.5; arch/arm64.rs, `write_stubs` and `write_thunk`).
use Rattle.std.specs.Prelude.{ℕ, List, ltb, length, Bool, true, false, Result, Ok, Err, ⊤}
use Rattle.util.specs.Choice.{choose, flag}
use Rattle.util.specs.Word.{put}
use Rattle.macho.specs.Refusal.{answer_number}
use Rattle.macho.specs.declared.refusal.Refusal.TheVariants.{Bounds}
use Rattle.macho.specs.declared.refusal.Refusal.{Refusal}
use Rattle.arm64_insn.specs.Reach.{adrp_reaches}
use Rattle.arm64_insn.specs.declared.stub.Words3.{Words3}

-- how many bytes a stub entry has, and a thunk entry: three words
abbrev pub stub_size : ℕ
stub_size = 12

-- three words at the front, where they have room
unfoldable pub words_in : List ℕ → Words3 → List ℕ
words_in s w = choose (ltb (length s) stub_size) s (put 4 (put 4 (put 4 s 0 w.first) 4 w.second) 8 w.third)

-- a stub entry at addr with its pointer at ptr: written, with whether ADRP reaches; or fewer bytes than it has
unfoldable pub stub_answer : List ℕ → ℕ → ℕ → Result Bool Refusal
stub_answer s addr ptr = choose (ltb (length s) stub_size) (Err Bounds) (choose (adrp_reaches ptr addr) (Ok true) (Ok false))

-- a thunk entry: fewer bytes than it has, or it is written
unfoldable pub thunk_check : List ℕ → Result ⊤ Refusal
thunk_check s = choose (ltb (length s) stub_size) (Err Bounds) (Ok tt)

-- the number (RULES 3.1) of a stub's answer, 0 for none
abbrev pub stub_number : Result Bool Refusal → ℕ
stub_number a = answer_number a

-- whether the ADRP of a stub entry reaches its pointer's page, as 1 or 0
abbrev pub reaches_of : Result Bool Refusal → ℕ
reaches_of (Ok reaches) = flag reaches
reaches_of (Err r) = 0
