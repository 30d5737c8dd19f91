-- Number 31 in hints (RULES 8.35): what is said of the words of a hint that is rewritten, in the machine's own words, hints that decline, and hints in which
-- 31 stands and that it does not bar.
use Rattle.std.specs.Prelude.{◌≡◌, false, ◌&&◌, List, [], ◌∷◌, ℕ, length, Result, Err, Some, None}
use Rattle.macho.specs.Hint.{hint_of}
use Rattle.image.specs.Words.{put_words}
use Rattle.arm64_hint_terms.specs.Plans.{rewritten}
use Rattle.arm64_hint_terms.specs.declared.answer.Rewrite.TheVariants.{Literal, Adr, Fold, Slot}
use Rattle.arm64_hint_terms.specs.declared.answer.Plan.{Plan}
use Rattle.arm64_hint_terms.specs.declared.answer.NoRewrite.{NoRewrite}
use Rattle.arm64_hint_terms.specs.declared.answer.NoRewrite.TheVariants.{Nine}
use Rattle.arm64_hint_laws.specs.Decide.{by_rule}
use Rattle.arm64_machine.specs.Machine.{Placed, action, add}
use Rattle.arm64_machine.specs.SameRun.{writes_or}
use Rattle.arm64_machine.specs.Premises.{Each, Next, reads}
use Rattle.arm64_hint_places.specs.Hint.{insns_of, rels_of}
use Rattle.arm64_hint_rules.specs.Rule.{news_in}
use Rattle.arm64_hint_work.specs.Step.{places_of}
use Rattle.arm64_hint_kept.specs.HintsKept.{Same}
use Rattle.arm64_hint_kept.specs.Examples.{words, lent, single, pair, got_pair, counts, Ends, Declines}

-- no word writes number 31 for the next to read as its base or as ADD's source, and none is an ADD to it
pub record Without31 (ws : List Placed) : Type 0 where
  pub no-link : Next (λ w u. (writes_or false (action w) 31 && reads (action u) 31) ≡ false) ws
  pub no_add : Each (λ w. (rn imm12 : ℕ) → action w.word ≡ add 31 rn imm12 → ⊥) ws

-- a hint of a kind with the words ws, the first at address p, declines; its rule alone decides d
pub record Barred (entries : List ℕ) (kind p : ℕ) (ws : List ℕ) (d : Result Plan NoRewrite) : Type 0 where
  pub declines : Declines entries kind p ws
  pub by-rule : let h = hint_of (lent (single kind p (length ws))) 0 in by_rule kind (insns_of h ws) (rels_of entries h) ≡ d

-- and what the rule would leave of the words does not run as they do
pub record WouldDiffer (entries : List ℕ) (kind p : ℕ) (ws : List ℕ) (d : Result Plan NoRewrite) : Type 0 where
  pub barred : Barred entries kind p ws d
  pub differ : let h = hint_of (lent (single kind p (length ws))) 0 in Same h (words ws) (put_words (places_of h) (news_in d) (words ws)) → ⊥

-- hints that decline
pub record Number31Declines : Type 0 where
  -- ADRP to 31. adrp xzr; ldr s1, [sp]: the literal load is of another address
  pub adrp-ldr : WouldDiffer pair 2 0x1000 (0x9000001f ∷ 0xbd4003e1 ∷ []) (rewritten Literal (Some 0xd503201f) (Some 0x1cffffe1) None)
  -- adrp xzr; ldr s5, [sp, #0x29d0], on the last page: the sum is not reached
  pub adrp-ldr-high : Barred pair 2 0xfffffffffffff000 (0x9000001f ∷ 0xbd69d3e5 ∷ []) (Err Nine)
  -- adrp xzr; add x0, sp, #16: ADR makes another address
  pub adrp-add : WouldDiffer pair 7 0x1000 (0x9000001f ∷ 0x910043e0 ∷ []) (rewritten Adr (Some 0x10000080) (Some 0xd503201f) None)
  -- adrp xzr; add x1, sp, #16; ldr x2, [x1]. The same with str x2, [x1], which takes the ADD's immediate in: that fold would have run alike
  pub adrp-add-ldr : Barred pair 3 0x1000 (0x9000001f ∷ 0x910043e1 ∷ 0xf9400022 ∷ []) (rewritten Literal (Some 0xd503201f) (Some 0xd503201f) (Some 0x58000042))
  pub adrp-add-str : Barred pair 5 0x1000 (0x9000001f ∷ 0x910043e1 ∷ 0xf9000022 ∷ []) (rewritten Fold None (Some 0xd503201f) (Some 0xf9000be2))
  -- adrp xzr; ldr x1, [sp, #8]. The same with str x2, [x1]; and with an ADD in the place of the load, and ldrb w2, [x1]
  pub adrp-ldr-got : Barred got_pair 8 0x1000 (0x9000001f ∷ 0xf94007e1 ∷ []) (rewritten Slot (Some 0xd503201f) (Some 0x58000021) None)
  pub adrp-ldr-got-str : Barred got_pair 6 0x1000 (0x9000001f ∷ 0xf94007e1 ∷ 0xf9000022 ∷ []) (rewritten Slot (Some 0xd503201f) (Some 0x58000021) None)
  pub adrp-ldr-got-ldr : Barred got_pair 4 0x1000 (0x9000001f ∷ 0x910043e1 ∷ 0x39400022 ∷ []) (rewritten Adr (Some 0x10000081) (Some 0xd503201f) None)
  -- ADD to 31. adrp x0; add sp, x0, #16: ADR leaves the stack pointer
  pub add : WouldDiffer pair 7 0x1000 (0xd0000340 ∷ 0x9100401f ∷ []) (rewritten Adr (Some 0x1035009f) (Some 0xd503201f) None)
  -- adrp x0; add sp, x0, #16; ldr x1, [sp]. The same with str x1, [sp]; and these as GOT loads
  pub add-ldr : Barred pair 3 0x1000 (0x90000000 ∷ 0x9100401f ∷ 0xf94003e1 ∷ []) (rewritten Literal (Some 0xd503201f) (Some 0xd503201f) (Some 0x58000041))
  pub add-str : Barred pair 5 0x1000 (0x90000000 ∷ 0x9100401f ∷ 0xf90003e1 ∷ []) (rewritten Fold None (Some 0xd503201f) (Some 0xf9000801))
  pub add-got : Barred got_pair 8 0x1000 (0x90000000 ∷ 0x9100401f ∷ []) (rewritten Adr (Some 0x1000009f) (Some 0xd503201f) None)
  pub add-got-ldr : Barred got_pair 4 0x1000 (0x90000000 ∷ 0x9100401f ∷ 0xf94003e1 ∷ []) (rewritten Literal (Some 0xd503201f) (Some 0xd503201f) (Some 0x58000041))
  pub add-got-str : Barred got_pair 6 0x1000 (0x90000000 ∷ 0x9100401f ∷ 0xf90003e1 ∷ []) (rewritten Adr (Some 0x1000009f) (Some 0xd503201f) None)
  -- adrp x0; add sp, x0, #4095; ldrb w2, [sp, #1], on the last page
  pub add-ldr-high : Barred pair 3 0xfffffffffffff000 (0x90000000 ∷ 0x913ffc1f ∷ 0x394007e2 ∷ []) (Err Nine)
  -- a GOT load into 31, with an access through 31, which would have run alike. adrp x0; ldr xzr, [x0, #8]; ldr x1, [sp]. The same with str x1, [sp]
  pub got-ldr : Barred got_pair 4 0x1000 (0x90000000 ∷ 0xf940041f ∷ 0xf94003e1 ∷ []) (rewritten Slot (Some 0xd503201f) (Some 0x5800003f) None)
  pub got-str : Barred got_pair 6 0x1000 (0x90000000 ∷ 0xf940041f ∷ 0xf90003e1 ∷ []) (rewritten Slot (Some 0xd503201f) (Some 0x5800003f) None)
  -- adrp x0; ldr xzr, [x0, #32760]; ldr x1, [sp], on the last page: the first sum is not reached. The same with str x1, [sp]
  pub got-ldr-high : Barred got_pair 4 0xfffffffffffff000 (0x90000000 ∷ 0xf97ffc1f ∷ 0xf94003e1 ∷ []) (Err Nine)
  pub got-str-high : Barred got_pair 6 0xfffffffffffff000 (0x90000000 ∷ 0xf97ffc1f ∷ 0xf90003e1 ∷ []) (Err Nine)

-- hints that number 31 stands in and does not bar; more are among those that meet every premise (EachRewrite: drop-31, ldr-31 and got-slot-31)
pub record Number31Stays : Type 0 where
  -- adrp x0; ldr xzr, [x0, #8], of kind 8
  pub ldr-got : Ends got_pair 8 0x1000 (0x90000000 ∷ 0xf940041f ∷ []) (counts 1 0 0 0) (0xd503201f ∷ 0x5800003f ∷ [])
  -- adrp x0; add x1, x0, #16; ldr xzr, [x1]. The same with str xzr, [x1]
  pub add-ldr : Ends pair 3 0x1000 (0x90000000 ∷ 0x91004001 ∷ 0xf940003f ∷ []) (counts 1 0 0 0) (0xd503201f ∷ 0xd503201f ∷ 0x5800005f ∷ [])
  pub add-str : Ends pair 5 0x1000 (0x90000000 ∷ 0x91004001 ∷ 0xf900003f ∷ []) (counts 1 0 0 0) (0x90000000 ∷ 0xd503201f ∷ 0xf900081f ∷ [])
  -- adrp x0; ldr xzr, [x0, #32760]; str xzr, [x1], on the last page: the register that a store stores is no link, and the sum is reached
  pub got-str-high : Ends got_pair 6 0xfffffffffffff000 (0x90000000 ∷ 0xf97ffc1f ∷ 0xf900003f ∷ []) (counts 0 0 0 1) (0x90000000 ∷ 0xf97ffc1f ∷ 0xf900003f ∷ [])
