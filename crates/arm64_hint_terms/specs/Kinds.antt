-- LLVM's linker optimization hint kinds (llvm/MC/MCLinkerOptimizationHint.h, `MCLOHType`; RULES 8.2, 8.4). Numbers and names are macho's; each kind has
-- a row of words, as "Adrp _v@PAGE -> Add _v@PAGEOFF -> Ldr" for AdrpAddLdr: which instructions stand there, and which entries.
use Rattle.std.specs.Prelude.{ℕ, ◌≡◌, ◌⊎◌, Bool, true, false, List, [], ◌∷◌, eqb, take, Option, Some, None}
use Rattle.util.specs.Choice.{choose}
use Rattle.macho.specs.Hint.{word_count}
use Rattle.macho.specs.Types.{MCLOH_AdrpAdrp, MCLOH_AdrpLdr, MCLOH_AdrpAddLdr, MCLOH_AdrpLdrGotLdr}
use Rattle.macho.specs.Types.{MCLOH_AdrpAddStr, MCLOH_AdrpLdrGotStr, MCLOH_AdrpAdd, MCLOH_AdrpLdrGot}
use Rattle.macho.specs.Types.{ARM64_RELOC_PAGE21, ARM64_RELOC_GOT_LOAD_PAGE21, ARM64_RELOC_TLVP_LOAD_PAGE21}
use Rattle.macho.specs.Types.{ARM64_RELOC_PAGEOFF12, ARM64_RELOC_GOT_LOAD_PAGEOFF12, ARM64_RELOC_TLVP_LOAD_PAGEOFF12}
use Rattle.arm64_insn.specs.LoadStoreTable.{row_of, is_store}
use Rattle.arm64_insn.specs.Manual.{ADRP, ADD, LDST, instruction, decode}
use Rattle.arm64_hint_terms.specs.declared.answer.Insns.{Insns}
use Rattle.macho.specs.declared.reloc.Reloc.{Reloc}
use Rattle.arm64_hint_terms.specs.declared.rels.Rels.{Rels}

-- a word of a kind: the instruction, and what it carries of a reference to v, or to v's GOT slot
pub data Word : Type 0 where
  Adrp-Page : Word
  Adrp-GotPage : Word
  Add-PageOff : Word
  Ldr-PageOff : Word
  Ldr-GotPageOff : Word
  Ldr : Word
  Str : Word

-- a kind by its number, with its words
pub record HintKind : Type 0 where
  pub number : ℕ
  pub words : List Word

-- the two together
abbrev pub kind : ℕ → List Word → HintKind
kind n ws = record { number = n; words = ws }

-- the kinds
abbrev pub kinds : List HintKind
kinds =
    kind MCLOH_AdrpAdrp (Adrp-Page ∷ Adrp-Page ∷ [])
    ∷ kind MCLOH_AdrpLdr (Adrp-Page ∷ Ldr-PageOff ∷ [])
    ∷ kind MCLOH_AdrpAddLdr (Adrp-Page ∷ Add-PageOff ∷ Ldr ∷ [])
    ∷ kind MCLOH_AdrpLdrGotLdr (Adrp-GotPage ∷ Ldr-GotPageOff ∷ Ldr ∷ [])
    ∷ kind MCLOH_AdrpAddStr (Adrp-Page ∷ Add-PageOff ∷ Str ∷ [])
    ∷ kind MCLOH_AdrpLdrGotStr (Adrp-GotPage ∷ Ldr-GotPageOff ∷ Str ∷ [])
    ∷ kind MCLOH_AdrpAdd (Adrp-Page ∷ Add-PageOff ∷ [])
    ∷ kind MCLOH_AdrpLdrGot (Adrp-GotPage ∷ Ldr-GotPageOff ∷ [])
    ∷ []

-- the words of the kind of a number among some kinds
abbrev pub words_among : List HintKind → ℕ → List Word
words_among [] n = []
words_among (k ∷ ks) n = choose (eqb n k.number) k.words (words_among ks n)

-- the words of the kind of a number; none where there is no such kind
unfoldable pub words_of : ℕ → List Word
words_of n = words_among kinds n

-- the words that a hint of a kind holds, up to the kind's word count
abbrev pub held_words : ℕ → Insns → List ℕ
held_words n s = take (word_count n) (s.w0 ∷ s.w1 ∷ s.w2 ∷ [])

-- an ADRP of the manual
pub record IsAdrp (w : ℕ) : Type 0 where
  pub rd : ℕ
  pub imm21 : ℕ
  pub is : decode w ≡ instruction (ADRP rd imm21)

-- an ADD of 64 bits with an unshifted immediate
pub record IsAdd (w : ℕ) : Type 0 where
  pub rd : ℕ
  pub rn : ℕ
  pub imm12 : ℕ
  pub is : decode w ≡ instruction (ADD 1 0 rd rn imm12)

-- a load, or a store, of the manual's table
pub record IsAccess (w : ℕ) (stores : Bool) : Type 0 where
  pub size : ℕ
  pub v : ℕ
  pub opc : ℕ
  pub rt : ℕ
  pub rn : ℕ
  pub imm12 : ℕ
  pub is : decode w ≡ instruction (LDST size v opc rt rn imm12)
  pub row : is_store (row_of size v opc) ≡ stores

-- w is what its kind says
abbrev pub IsWord : Word → ℕ → Type 0
IsWord Adrp-Page w = IsAdrp w
IsWord Adrp-GotPage w = IsAdrp w
IsWord Add-PageOff w = IsAdd w
IsWord Ldr-PageOff w = IsAccess w false
IsWord Ldr-GotPageOff w = IsAccess w false
IsWord Ldr w = IsAccess w false
IsWord Str w = IsAccess w true

-- w is what may stand there instead (RULES 8.4): the ADD that a GOT slot's load was relaxed to, and a store for a last load
abbrev pub IsInstead : Word → ℕ → Type 0
IsInstead Adrp-Page w = ⊥
IsInstead Adrp-GotPage w = ⊥
IsInstead Add-PageOff w = ⊥
IsInstead Ldr-PageOff w = ⊥
IsInstead Ldr-GotPageOff w = IsAdd w
IsInstead Ldr w = IsAccess w true
IsInstead Str w = ⊥

-- words are what a kind says, or what may stand there instead
abbrev pub AreWords : List Word → List ℕ → Type 0
AreWords [] ws = Unit {0}
AreWords (k ∷ ks) [] = ⊥
AreWords (k ∷ ks) (w ∷ ws) = (IsWord k w ⊎ IsInstead k w) × AreWords ks ws

-- an entry of a type
abbrev pub HasType : ℕ → Option Reloc → Type 0
HasType ty None = ⊥
HasType ty (Some e) = e.ty ≡ ty

-- an entry is what its word carries: LLVM's @PAGE is a PAGE21, @PAGEOFF a PAGEOFF12, @GOTPAGE a GOT_LOAD_PAGE21, @GOTPAGEOFF a GOT_LOAD_PAGEOFF12;
-- a bare Ldr or Str has no entry
abbrev pub IsCarried : Word → Option Reloc → Type 0
IsCarried Adrp-Page r = HasType ARM64_RELOC_PAGE21 r
IsCarried Adrp-GotPage r = HasType ARM64_RELOC_GOT_LOAD_PAGE21 r
IsCarried Add-PageOff r = HasType ARM64_RELOC_PAGEOFF12 r
IsCarried Ldr-PageOff r = HasType ARM64_RELOC_PAGEOFF12 r
IsCarried Ldr-GotPageOff r = HasType ARM64_RELOC_GOT_LOAD_PAGEOFF12 r
IsCarried Ldr r = r ≡ None
IsCarried Str r = r ≡ None

-- an entry is what may be carried instead (RULES 8.4): for a half of v's own address that of v's GOT slot or of its thread-local slot, for a half of
-- the GOT slot's that of the thread-local slot
abbrev pub IsTakenFor : Word → Option Reloc → Type 0
IsTakenFor Adrp-Page r = HasType ARM64_RELOC_GOT_LOAD_PAGE21 r ⊎ HasType ARM64_RELOC_TLVP_LOAD_PAGE21 r
IsTakenFor Adrp-GotPage r = HasType ARM64_RELOC_TLVP_LOAD_PAGE21 r
IsTakenFor Add-PageOff r = HasType ARM64_RELOC_GOT_LOAD_PAGEOFF12 r ⊎ HasType ARM64_RELOC_TLVP_LOAD_PAGEOFF12 r
IsTakenFor Ldr-PageOff r = HasType ARM64_RELOC_GOT_LOAD_PAGEOFF12 r ⊎ HasType ARM64_RELOC_TLVP_LOAD_PAGEOFF12 r
IsTakenFor Ldr-GotPageOff r = HasType ARM64_RELOC_TLVP_LOAD_PAGEOFF12 r
IsTakenFor Ldr r = ⊥
IsTakenFor Str r = ⊥

-- entries are what a kind's words carry, or what may be carried instead: each word by itself, so that the two halves may be mixed
abbrev pub AreCarried : List Word → List (Option Reloc) → Type 0
AreCarried [] rs = Unit {0}
AreCarried (k ∷ ks) [] = ⊥
AreCarried (k ∷ ks) (r ∷ rs) = (IsCarried k r ⊎ IsTakenFor k r) × AreCarried ks rs

-- two entries are of one v: one target and one addend
abbrev pub OneV : Option Reloc → Option Reloc → Type 0
OneV None _ = ⊥
OneV (Some a) None = ⊥
OneV (Some a) (Some b) = (a.target ≡ b.target) × (a.addend ≡ b.addend)

-- the entries of a hint refer to what its kind says: AdrpAdrp names v1 and v2, which may be any two, each other kind one v
pub record Refers (n : ℕ) (r : Rels) : Type 0 where
  pub carried : AreCarried (words_of n) (r.r0 ∷ r.r1 ∷ r.r2 ∷ [])
  pub one : (n ≡ MCLOH_AdrpAdrp → ⊥) → OneV r.r0 r.r1
