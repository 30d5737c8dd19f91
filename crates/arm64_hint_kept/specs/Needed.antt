-- That a premise is needed (RULES 9.21): what an example shows that meets all the others of 9.12, 9.14 and 9.17, and is rewritten.
use Rattle.std.specs.Prelude.{◌≡◌, Bool, List, [], ◌∷◌, ℕ, Ok}
use Rattle.macho.specs.Hint.{hint_count, hint_of}
use Rattle.macho.specs.declared.hint.HintRecord.{HintRecord}
use Rattle.arm64_hint_order.specs.Lists.{Once}
use Rattle.arm64_hint_order.specs.Cursor.{order_of}
use Rattle.arm64_hint_run.specs.Run.{worked, run_of, image_of}
use Rattle.arm64_hint_kept.specs.HintsKept.{Alone, KeepsOrder, PartsApart, Same}
use Rattle.arm64_hint_kept.specs.Tests.{tests, all_true}
use Rattle.arm64_hint_kept.specs.Examples.{words, place, none-at, hint_in, lent, pair, counts}

-- a run of one hint h with the words ws: the tests of the premises come out as `holds` says (disjoint, aligned, no store of what was made), the hint is
-- rewritten, and the new words do not run as the old ones
pub record Fails (entries : List ℕ) (h : HintRecord) (ws : List ℕ) (holds : List Bool) (new : List ℕ) : Type 0 where
  pub premises : tests (hint_of (lent (h ∷ [])) 0) (words ws) ≡ holds
  pub done : run_of (words ws) (lent (h ∷ [])) entries ≡ Ok (counts 1 0 0 0)
  pub leaves : image_of (words ws) (lent (h ∷ [])) entries ≡ words new
  pub differ : Same (hint_of (lent (h ∷ [])) 0) (words ws) (words new) → ⊥

-- ---- hints that share a byte

-- adrp x0; ldr x1, [x0, #8]; add x2, x0, #3
abbrev pub shared : List ℕ
shared = words (0x90000000 ∷ 0xf9400401 ∷ 0x91000c02 ∷ [])

-- ADRP_LDR on the first and second word and ADRP_ADD on the first and third, of the objects i and j
abbrev pub sharing : ℕ → ℕ → List HintRecord
sharing i j = hint_in 2 i 0 12 (place 0 0 0x1000) (place 4 1 0x1004) none-at ∷ hint_in 7 j 0 12 (place 0 0 0x1000) (place 8 1 0x1008) none-at ∷ []

-- Alone: the first hint blanks the ADRP, the second declines, and its words, which meet the premises of RULES 9.12, 9.14 and 9.17, no longer make x2
pub record Shared : Type 0 where
  pub premises : tests (hint_of (lent (sharing 0 0)) 1) shared ≡ all_true
  pub done : run_of shared (lent (sharing 0 0)) pair ≡ Ok (counts 1 0 1 0)
  pub leaves : image_of shared (lent (sharing 0 0)) pair ≡ words (0xd503201f ∷ 0x58000021 ∷ 0x91000c02 ∷ [])
  pub differ : Same (hint_of (lent (sharing 0 0)) 1) shared (words (0xd503201f ∷ 0x58000021 ∷ 0x91000c02 ∷ [])) → ⊥
  pub together : Alone (lent (sharing 0 0)) 1 → ⊥

-- parts of different objects: the list 0, 1 keeps each object's own order, and leaves another image than the run, which is 1 and then 0
pub record Meeting : Type 0 where
  pub done : run_of shared (lent (sharing 2 1)) pair ≡ Ok (counts 1 0 1 0)
  pub own : order_of (lent (sharing 2 1)) ≡ 1 ∷ 0 ∷ []
  pub leaves : image_of shared (lent (sharing 2 1)) pair ≡ words (0x70000002 ∷ 0xf9400401 ∷ 0xd503201f ∷ [])
  pub other : (worked shared (lent (sharing 2 1)) pair (0 ∷ 1 ∷ [])).image ≡ words (0xd503201f ∷ 0x58000021 ∷ 0x91000c02 ∷ [])
  pub once : Once (hint_count (lent (sharing 2 1))) (0 ∷ 1 ∷ [])
  pub kept : KeepsOrder (lent (sharing 2 1)) (0 ∷ 1 ∷ [])
  pub meet : PartsApart (lent (sharing 2 1)) → ⊥
