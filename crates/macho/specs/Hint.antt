-- A hint, 64 bytes (RULES 2.22, 2.23), lists of hints, and the word counts of the kinds (RULES 8.2).
use Rattle.std.specs.Prelude.{ℕ, ◌+◌, ◌*◌, ◌/◌, List, [], ◌∷◌, ◌++◌, eqb, length}
use Rattle.util.specs.Choice.{choose}
use Rattle.util.specs.Word.{le}
use Rattle.macho.specs.Types.{MCLOH_AdrpAdrp, MCLOH_AdrpLdr, MCLOH_AdrpAddLdr, MCLOH_AdrpLdrGotLdr}
use Rattle.macho.specs.Types.{MCLOH_AdrpAddStr, MCLOH_AdrpLdrGotStr, MCLOH_AdrpAdd, MCLOH_AdrpLdrGot}
use Rattle.macho.specs.Record.{Field, ◌of◌, unused, bytes_of}
use Rattle.macho.specs.declared.hint.HintInsn.{HintInsn}
use Rattle.macho.specs.declared.hint.HintRecord.{HintRecord}

-- the size of one of a hint's places in bytes
abbrev pub insn_size : ℕ
insn_size = 16

-- a hint's size in bytes
abbrev pub hint_size : ℕ
hint_size = 64

-- one of a hint's places: offset in the part, entry number, the word's own address
unfoldable pub insn_at : List ℕ → ℕ → HintInsn
insn_at s at = record { off = le 4 s at; rel = le 4 s (at + 4); addr = le 8 s (at + 8) }

-- the entry number of a place that has none
abbrev pub no_entry : ℕ
no_entry = 0xffff_ffff

-- the hint from byte `at` on; its bytes 2 and 3 are ignored
unfoldable pub hint_at : List ℕ → ℕ → HintRecord
hint_at s at =
    record {
      kind = le 1 s at;
      n = le 1 s (at + 1);
      object = le 4 s (at + 4);
      start = le 4 s (at + 8);
      len = le 4 s (at + 12);
      insn0 = insn_at s (at + 16);
      insn1 = insn_at s (at + 32);
      insn2 = insn_at s (at + 48);
    }

-- the number of hints of a list
abbrev pub hint_count : List ℕ → ℕ
hint_count hints = length hints / hint_size

-- hint k of a list
abbrev pub hint_of : List ℕ → ℕ → HintRecord
hint_of hints k = hint_at hints (hint_size * k)

-- a place's fields in order
abbrev pub insn_fields : HintInsn → List Field
insn_fields i = 4 of i.off ∷ 4 of i.rel ∷ 8 of i.addr ∷ []

-- a hint's fields in order
abbrev pub hint_fields : HintRecord → List Field
hint_fields h =
    (1 of h.kind ∷ 1 of h.n ∷ unused ∷ unused ∷ 4 of h.object ∷ 4 of h.start ∷ 4 of h.len ∷ [])
    ++ (insn_fields h.insn0 ++ (insn_fields h.insn1 ++ insn_fields h.insn2))

-- a hint's bytes
unfoldable pub hint_bytes : HintRecord → List ℕ
hint_bytes h = bytes_of (hint_fields h)

-- how many words a hint of a kind has; none where the number is no kind
unfoldable pub word_count : ℕ → ℕ
word_count kind =
    choose (eqb kind MCLOH_AdrpAdrp) 2
    (choose (eqb kind MCLOH_AdrpLdr) 2
    (choose (eqb kind MCLOH_AdrpAddLdr) 3
    (choose (eqb kind MCLOH_AdrpLdrGotLdr) 3
    (choose (eqb kind MCLOH_AdrpAddStr) 3
    (choose (eqb kind MCLOH_AdrpLdrGotStr) 3
    (choose (eqb kind MCLOH_AdrpAdd) 2
    (choose (eqb kind MCLOH_AdrpLdrGot) 2
    0)))))))
