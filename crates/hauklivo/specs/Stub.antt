-- What the calls of one stub entry and of one thunk entry return and leave, by what they are lent.
use Rattle.std.specs.Prelude.{ℕ, List}
use Rattle.macho.specs.Refusal.{answer_number}
use Rattle.arm64_insn.specs.Stub.{stub_words, thunk_words}
use Rattle.arm64_fixup.specs.Stub.{words_in, stub_answer, stub_number, reaches_of, thunk_check}
use Rattle.hauklivo.specs.Lent.{lent_number}

-- a stub entry's number: 0, or the refusal's
abbrev pub stub_number_to : List ℕ → ℕ → ℕ → ℕ
stub_number_to buf addr ptr = stub_number (stub_answer buf addr ptr)

-- whether its ADRP reaches, as 1 or 0; a refusal leaves the old value
abbrev pub reaches_to : List ℕ → ℕ → ℕ → ℕ → ℕ
reaches_to buf addr ptr reaches = lent_number (stub_number_to buf addr ptr) (reaches_of (stub_answer buf addr ptr)) reaches

-- its bytes
abbrev pub stub_to : List ℕ → ℕ → ℕ → List ℕ
stub_to buf addr ptr = words_in buf (stub_words addr ptr)

-- a thunk entry's number: 0, or the refusal's
abbrev pub thunk_number_to : List ℕ → ℕ
thunk_number_to buf = answer_number (thunk_check buf)

-- its bytes
abbrev pub thunk_to : List ℕ → ℕ → ℕ → List ℕ
thunk_to buf addr target = words_in buf (thunk_words addr target)
