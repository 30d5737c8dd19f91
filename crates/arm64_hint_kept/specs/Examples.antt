-- Hints of the examples, and what an example of one hint shows (RULES 9.21): it meets every premise, and a rewrite makes new words of it.
use Rattle.std.specs.Prelude.{◌≡◌, List, [], ◌∷◌, ◌++◌, ℕ, ◌+◌, ◌*◌, length, Result, Ok, Err, Some, None, Option}
use Rattle.util.specs.Word.{bytes}
use Rattle.macho.specs.Record.{list_bytes}
use Rattle.macho.specs.Reloc.{reloc_bytes}
use Rattle.macho.specs.Types.{ARM64_RELOC_PAGE21, ARM64_RELOC_PAGEOFF12, ARM64_RELOC_GOT_LOAD_PAGE21, ARM64_RELOC_GOT_LOAD_PAGEOFF12}
use Rattle.macho.specs.Hint.{no_entry, hint_bytes, word_count, hint_of}
use Rattle.macho.specs.declared.hint.HintInsn.{HintInsn}
use Rattle.macho.specs.declared.hint.HintRecord.{HintRecord}
use Rattle.arm64_hint_terms.specs.declared.answer.Rewrite.{Rewrite}
use Rattle.arm64_hint_terms.specs.declared.answer.Rewrite.TheVariants.{Drop, Literal, Adr, Fold, Slot}
use Rattle.arm64_hint_terms.specs.declared.answer.Plan.{Plan}
use Rattle.arm64_hint_terms.specs.declared.answer.NoRewrite.{NoRewrite}
use Rattle.arm64_hint_terms.specs.declared.answer.Insns.{Insns}
use Rattle.arm64_hint_terms.specs.declared.answer.NoRewrite.TheVariants.{Declined, Nine}
use Rattle.arm64_machine.specs.Examples.{start, idle}
use Rattle.arm64_hint_rules.specs.Rule.{hint_outcome}
use Rattle.arm64_hint_work.specs.declared.tally.Tally.{Tally}
use Rattle.arm64_hint_run.specs.Run.{run_of, image_of}
use Rattle.arm64_hint_kept.specs.HintsKept.{Close, Premises}

-- an image of words
abbrev pub words : List ℕ → List ℕ
words [] = []
words (w ∷ ws) = bytes 4 w ++ words ws

-- a place of a hint: offset, entry number, address
abbrev pub place : (off rel addr : ℕ) → HintInsn
place off rel addr = record { off = off; rel = rel; addr = addr }

-- a place that is not looked at
abbrev pub none-at : HintInsn
none-at = place 0 no_entry 0

-- a hint of a kind and an object on the part of len bytes from start on
abbrev pub hint_in : (kind object start len : ℕ) (a b c : HintInsn) → HintRecord
hint_in kind object start len a b c =
    record { kind = kind; n = word_count kind; object = object; start = start; len = len; insn0 = a; insn1 = b; insn2 = c }

-- hints as they are lent
abbrev pub lent : List HintRecord → List ℕ
lent hs = list_bytes hint_bytes hs

-- a hint of a kind on the n words of an image, the first at address p; the first two words have the entries 0 and 1
abbrev pub single : (kind p n : ℕ) → List HintRecord
single kind p n = hint_in kind 0 0 (4 * n) (place 0 0 p) (place 4 1 (p + 4)) (place 8 no_entry (p + 8)) ∷ []

-- a half of one reference, as an entry
abbrev pub half : ℕ → List ℕ
half ty = reloc_bytes (record { offset = 0; ty = ty; size = 4; is_pcrel = 1; is_subtracted = 0; target = 5; signing = 0; addend = 0 })

-- both of them
abbrev pub pair : List ℕ
pair = half ARM64_RELOC_PAGE21 ++ half ARM64_RELOC_PAGEOFF12

-- both of one to a GOT slot
abbrev pub got_pair : List ℕ
got_pair = half ARM64_RELOC_GOT_LOAD_PAGE21 ++ half ARM64_RELOC_GOT_LOAD_PAGEOFF12

-- two page halves
abbrev pub pages : List ℕ
pages = half ARM64_RELOC_PAGE21 ++ half ARM64_RELOC_PAGE21

-- a tally
abbrev pub counts : (rewritten skipped declined down : ℕ) → Tally
counts rewritten skipped declined down = record { rewritten = rewritten; skipped = skipped; declined = declined; turned_down = down }

-- a run of one hint of a kind with the words ws, the first at address p, is counted as t and leaves the words new
pub record Ends (entries : List ℕ) (kind p : ℕ) (ws : List ℕ) (t : Tally) (new : List ℕ) : Type 0 where
  pub done : run_of (words ws) (lent (single kind p (length ws))) entries ≡ Ok t
  pub leaves : image_of (words ws) (lent (single kind p (length ws))) entries ≡ words new

-- it declines
abbrev pub Declines : List ℕ → ℕ → ℕ → List ℕ → Type 0
Declines entries kind p ws = Ends entries kind p ws (counts 0 0 1 0) ws

-- which rewrite an outcome is
abbrev pub rewrite_in : Option (Result Plan NoRewrite × Insns) → Option Rewrite
rewrite_in None = None
rewrite_in (Some (Err Declined, s)) = None
rewrite_in (Some (Err Nine, s)) = None
rewrite_in (Some (Ok p, s)) = Some p.rewrite

-- a run of one hint of a kind with the words ws, the first at address p: they meet every premise (RULES 9.12 to 9.20), from one state; the rewrite r
-- makes new words of them, which run closely as the old ones from every state
pub record Shows (entries : List ℕ) (kind p : ℕ) (ws : List ℕ) (r : Rewrite) (new : List ℕ) : Type 0 where
  pub meets : Premises (hint_of (lent (single kind p (length ws))) 0) (words ws) idle start
  pub by : rewrite_in (hint_outcome entries (hint_of (lent (single kind p (length ws))) 0) ws) ≡ Some r
  pub done : run_of (words ws) (lent (single kind p (length ws))) entries ≡ Ok (counts 1 0 0 0)
  pub leaves : image_of (words ws) (lent (single kind p (length ws))) entries ≡ words new
  pub close : Close (hint_of (lent (single kind p (length ws))) 0) (words ws) (words new)

-- where a decision of a kind is a rewrite, a hint of the kind shows it
abbrev pub Shown : ℕ → Result Plan NoRewrite → Type 0
Shown kind (Err Declined) = Unit {0}
Shown kind (Err Nine) = Unit {0}
Shown kind (Ok plan) = (entries : List ℕ) × (p : ℕ) × (ws : List ℕ) × (new : List ℕ) × Shows entries kind p ws plan.rewrite new

-- for each kind and rewrite a hint that shows it
pub record EachRewrite : Type 0 where
  -- adrp x0; adrp x0, of one page. The same with number 31
  pub drop : Shows pages 1 0x100000000 (0x90000000 ∷ 0x90000000 ∷ []) Drop (0x90000000 ∷ 0xd503201f ∷ [])
  pub drop-31 : Shows pages 1 0x1000 (0x9000001f ∷ 0x9000001f ∷ []) Drop (0x9000001f ∷ 0xd503201f ∷ [])
  -- adrp x0; ldr x1, [x0, #8], example 6 (RULES 11.6). The same with ldr w1, ldrsw x1, ldr d1, ldr xzr, and ldr q1, [x0, #16]
  pub ldr-x : Shows pair 2 0x1000 (0x90000000 ∷ 0xf9400401 ∷ []) Literal (0xd503201f ∷ 0x58000021 ∷ [])
  pub ldr-w : Shows pair 2 0x1000 (0x90000000 ∷ 0xb9400801 ∷ []) Literal (0xd503201f ∷ 0x18000021 ∷ [])
  pub ldr-sw : Shows pair 2 0x1000 (0x90000000 ∷ 0xb9800801 ∷ []) Literal (0xd503201f ∷ 0x98000021 ∷ [])
  pub ldr-d : Shows pair 2 0x1000 (0x90000000 ∷ 0xfd400401 ∷ []) Literal (0xd503201f ∷ 0x5c000021 ∷ [])
  pub ldr-q : Shows pair 2 0x1000 (0x90000000 ∷ 0x3dc00401 ∷ []) Literal (0xd503201f ∷ 0x9c000061 ∷ [])
  pub ldr-31 : Shows pair 2 0x1000 (0x90000000 ∷ 0xf940041f ∷ []) Literal (0xd503201f ∷ 0x5800003f ∷ [])
  -- adrp x1; ldr s0, [x1, #0x2618]
  pub ldr-s : Shows pair 2 0x100000000 (0x90000001 ∷ 0xbd661820 ∷ []) Literal (0xd503201f ∷ 0x1c0130a0 ∷ [])
  -- adrp x0, two pages down, which wraps below 0; ldr x1, [x0, #8]
  pub ldr-wraps : Shows pair 2 0x1000 (0xd0ffffe0 ∷ 0xf9400401 ∷ []) Literal (0xd503201f ∷ 0x58ff0021 ∷ [])
  -- adrp x1; add x1, x1, #0; ldr q5, [x1, #0x7000]
  pub add-ldr-literal : Shows pair 3 0x33db2ef9865cfeb4 (0x90000001 ∷ 0x91000021 ∷ 0x3ddc0025 ∷ []) Literal (0xd503201f ∷ 0xd503201f ∷ 0x9c030a25 ∷ [])
  -- adrp x0, below the code; add x1, x0, #16; ldr b2, [x1, #1]: the ADR takes the load's own offset
  pub add-ldr-adr : Shows pair 3 0xfffffffffffff000 (0xf0fff800 ∷ 0x91004001 ∷ 0x3d400422 ∷ []) Adr (0x30818081 ∷ 0xd503201f ∷ 0x3d400022 ∷ [])
  -- adrp x1; add x2, x1, #8; ldrb w5, [x2], in reach of an ADR
  pub add-ldr-near : Shows pair 3 0x100000000 (0x90000241 ∷ 0x91002022 ∷ 0x39400045 ∷ []) Fold (0x90000241 ∷ 0xd503201f ∷ 0x39402025 ∷ [])
  -- adrp x0; add x1, x0, #0xbc8; str b5, [x1]: a store passes on to the fold
  pub add-ldr-fold : Shows pair 3 0x1000 (0x905bed00 ∷ 0x912f2001 ∷ 0x3d000025 ∷ []) Fold (0x905bed00 ∷ 0xd503201f ∷ 0x3d2f2005 ∷ [])
  -- adrp x0; ldr x2, [x0, #8]; ldrsb w2, [x2]
  pub got-ldr-slot : Shows got_pair 4 0x100000000 (0xd0000180 ∷ 0xf9400402 ∷ 0x39c00042 ∷ []) Slot (0xd503201f ∷ 0x58190022 ∷ 0x39c00042 ∷ [])
  -- adrp x1; add x1, x1, #4; ldr d0, [x1, #16]
  pub got-ldr-literal : Shows got_pair 4 0x100000000 (0xf00001c1 ∷ 0x91001021 ∷ 0xfd400820 ∷ []) Literal (0xd503201f ∷ 0xd503201f ∷ 0x5c1d8060 ∷ [])
  -- adrp x1, below the code; add x0, x1, #16; ldrsh x1, [x0]
  pub got-ldr-adr : Shows got_pair 4 0xfffffffffffff000 (0xb0fffa01 ∷ 0x91004020 ∷ 0x79800001 ∷ []) Adr (0x10a08080 ∷ 0xd503201f ∷ 0x79800001 ∷ [])
  -- adrp x0; add x0, x0, #16; ldr q0, [x0, #32]: the load keeps its own offset
  pub got-ldr-fold : Shows got_pair 4 0x1000 (0x90008000 ∷ 0x91004000 ∷ 0x3dc00800 ∷ []) Fold (0x90008000 ∷ 0xd503201f ∷ 0x3dc00c00 ∷ [])
  -- adrp x1; add x2, x1, #4; str x5, [x2]
  pub add-str-adr : Shows pair 5 0x100000000 (0x90000241 ∷ 0x91001022 ∷ 0xf9000045 ∷ []) Adr (0x10240022 ∷ 0xd503201f ∷ 0xf9000045 ∷ [])
  -- adrp x1; add x2, x1, #8; str x5, [x2], in reach of an ADR
  pub add-str-near : Shows pair 5 0x100000000 (0x90000241 ∷ 0x91002022 ∷ 0xf9000045 ∷ []) Fold (0x90000241 ∷ 0xd503201f ∷ 0xf9000425 ∷ [])
  -- adrp x0; add x0, x0, #16; str x1, [x0], example 8 (RULES 11.8)
  pub add-str-fold : Shows pair 5 0x1000 (0x90001000 ∷ 0x91004000 ∷ 0xf9000001 ∷ []) Fold (0x90001000 ∷ 0xd503201f ∷ 0xf9000801 ∷ [])
  -- adrp x0; ldr x1, [x0]; str xzr, [x1, #0x7bf8]
  pub got-str-slot : Shows got_pair 6 0x3c530a3734f415e4 (0xb0000000 ∷ 0xf9400001 ∷ 0xf93dfc3f ∷ []) Slot (0xd503201f ∷ 0x580050c1 ∷ 0xf93dfc3f ∷ [])
  -- adrp x0; add x0, x0, #16; str d2, [x0, #16]
  pub got-str-adr : Shows got_pair 6 0x1000 (0xb0000080 ∷ 0x91004000 ∷ 0xfd000802 ∷ []) Adr (0x10088080 ∷ 0xd503201f ∷ 0xfd000802 ∷ [])
  -- adrp x1; add x2, x1, #0; str b2, [x2]: vector register 2 is not the register 2 that ADD made
  pub got-str-fold : Shows got_pair 6 0x1000 (0xb0530841 ∷ 0x91000022 ∷ 0x3d000042 ∷ []) Fold (0xb0530841 ∷ 0xd503201f ∷ 0x3d000022 ∷ [])
  -- adrp x0; add x0, x0, #3, example 7 (RULES 11.7). The same from four pages down
  pub add-adr : Shows pair 7 0x1000 (0x90000000 ∷ 0x91000c00 ∷ []) Adr (0x70000000 ∷ 0xd503201f ∷ [])
  pub add-adr-below : Shows pair 7 0x100000000 (0x90ffffe0 ∷ 0x91000c00 ∷ []) Adr (0x70fe0000 ∷ 0xd503201f ∷ [])
  -- adrp x1; ldr xzr, [x1, #8]
  pub got-slot-31 : Shows got_pair 8 0x2a448a819049084c (0xd0000721 ∷ 0xf940043f ∷ []) Slot (0xd503201f ∷ 0x5872bddf ∷ [])
  -- adrp x0, which wraps below 0; add x0, x0, #0xc91
  pub got-adr : Shows got_pair 8 0x1000 (0x90ffffc0 ∷ 0x91324400 ∷ []) Adr (0x30fc6480 ∷ 0xd503201f ∷ [])
