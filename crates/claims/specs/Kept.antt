-- What a run of hints keeps (RULES 1.9 to 1.14, 9): the statement of every list of a run's hint steps, that it is not vacuous, and that each premise is needed.
-- The statement itself (Fair, Close, HintsKept, Premises, Literally) is arm64_hint_kept/specs/HintsKept, the machine arm64_machine/specs.
use Rattle.std.specs.Prelude.{◌≡◌, ◌≢◌, true, false, ◌&&◌, List, [], ◌∷◌, ℕ, ◌+◌, ◌^◌, ◌≤◌, ◌<◌, eqb, length, get_or, Result, Ok, Some}
use Rattle.macho.specs.Hint.{no_entry, word_count, hint_count, hint_of}
use Rattle.macho.specs.declared.hint.HintRecord.{HintRecord}
use Rattle.image.specs.Words.{span, words_at}
use Rattle.arm64_insn.specs.LoadStoreTable as Table
use Rattle.arm64_insn.specs.LoadStoreTable.{Row, Mnemonic, general, zeros, sign64}
use Rattle.arm64_insn.specs.Manual.{allocated}
use Rattle.arm64_insn.specs.Links.{makes, takes, links31, adds31}
use Rattle.arm64_insn.specs.ManualTargets.{literal_target, access_address}
use Rattle.arm64_insn.specs.Page.{adrp_page}
use Rattle.arm64_machine.specs.Machine.{load, store, Placed, placed, State, Other, action, adrp, add, access, literal, nop, other, run}
use Rattle.arm64_machine.specs.Examples.{start, high, logged, idle, placing, copying, loading}
use Rattle.arm64_machine.specs.SameRun.{writes_or, spared, Agree, SameRun, CloseRun}
use Rattle.arm64_machine.specs.Premises as Machine
use Rattle.arm64_hint_terms.specs.declared.answer.Insns.{Insns}
use Rattle.arm64_hint_terms.specs.declared.answer.Plan.{Plan}
use Rattle.arm64_hint_terms.specs.declared.answer.Rewrite.TheVariants.{Fold}
use Rattle.macho.specs.declared.refusal.Refusal.{Refusal}
use Rattle.arm64_hint_terms.specs.declared.rels.Rels.{Rels}
use Rattle.arm64_hint_laws.specs.Decide.{bars31, decide}
use Rattle.arm64_hint_laws.specs.RustOrder.{in_rust_order, BothFit}
use Rattle.arm64_hint_order.specs.Lists.{Once}
use Rattle.arm64_hint_order.specs.Cursor.{object_at, late_at, order_of}
use Rattle.arm64_hint_order.specs.Rising.{Rising}
use Rattle.arm64_hint_rules.specs.Rule.{hint_outcome}
use Rattle.arm64_hint_work.specs.Step.{places_of}
use Rattle.arm64_hint_work.specs.declared.tally.Tally.{Tally}
use Rattle.arm64_hint_run.specs.Run.{worked, run_of, image_of}
use Rattle.arm64_hint_kept.specs.HintsKept.{Fair, Close, HintsKept, Premises, Literally}
use Rattle.arm64_hint_kept.specs.HintsKept as Order
use Rattle.arm64_hint_kept.specs.Decided.{placed_of, after}
use Rattle.arm64_hint_kept.specs.Folded.{FoldKeeps}
use Rattle.arm64_hint_kept.specs.Number31.{Without31}
use Rattle.arm64_hint_kept.specs.PartCalls.{Call, part_of, PartCall, PartCalls, added}
use Rattle.arm64_hint_kept.specs.Examples.{words, place, none-at, hint_in, lent, pair, got_pair, counts, EachRewrite, Shown}
use Rattle.arm64_hint_kept.specs.ExampleRuns.{four, four_words, four_after, beside, beside_calls, beside_counts, beside_words, beside_after}
use Rattle.arm64_hint_kept.specs.ExampleRuns.{falling, late, late_words, late_after, AllEnd}
use Rattle.arm64_hint_kept.specs.Needed.{Fails, Shared, Meeting}
use Rattle.hauklivo.specs.Hints as HintsCall

-- one word at an address
abbrev pub one : (p w : ℕ) → List Placed
one p w = placed w p ∷ []

-- two words, one after another
abbrev pub two : (p q w u : ℕ) → List Placed
two p q w u = placed w p ∷ placed u q ∷ []

-- three words from an address on
abbrev pub three : (p w u v : ℕ) → List Placed
three p w u v = placed w p ∷ placed u (p + 4) ∷ placed v (p + 8) ∷ []

-- what a run of hints keeps
pub record Kept : Type 0 where
  -- RULES 1.11 to 1.14, 9.27 to 9.29: of every list of a run's hint steps with each hint once
  pub hints-kept : (image hints entries : List ℕ) (t : Tally) → run_of image hints entries ≡ Ok t
      → (l : List ℕ) → Once (hint_count hints) l → HintsKept image hints entries l t
  -- RULES 9.30: the run's own list has each hint once and keeps each object's own order
  pub own-list : (hints : List ℕ) → Once (hint_count hints) (order_of hints) × Order.KeepsOrder hints (order_of hints)
  -- RULES 8.27, 8.28: it rises by object, pass and position, and no other list with each hint once does
  pub own-rising : (hints : List ℕ) → Rising (object_at hints) (late_at hints) (order_of hints)
  pub own-only : (hints l : List ℕ) → Once (hint_count hints) l → Rising (object_at hints) (late_at hints) l → l ≡ order_of hints
  -- image and tally of that list are the run's
  pub run_is : (image hints entries : List ℕ) (t : Tally) → run_of image hints entries ≡ Ok t
      → worked image hints entries (order_of hints) ≡ record { image = image_of image hints entries; tally = t }
  -- RULES 9.13, 9.21: the words of a hint that is rewritten at its turn are allocated, which FairWords therefore does not suppose
  pub rewritten-words-allocated : (entries : List ℕ) (h : HintRecord) (image : List ℕ) (p : Plan) (s : Insns)
      → hint_outcome entries h (words_at (places_of h) image) ≡ Some (Ok p, s)
      → Machine.Each (λ w. allocated w.word ≡ true) (Order.codes h image)
  -- RULES 9.15, 9.16, 9.21: number 31 does not link the words of such a hint and none of them is an ADD to it, in the machine's own words (Without31:
  -- arm64_hint_kept/specs/Number31), which no premise supposes
  pub rewritten-without-31 : (entries : List ℕ) (h : HintRecord) (image : List ℕ) (p : Plan) (s : Insns)
      → hint_outcome entries h (words_at (places_of h) image) ≡ Some (Ok p, s) → Without31 (Order.codes h image)
  -- RULES 7.35, 9.9: what a word makes is what the machine writes, what it takes as a base or ADD source is what the machine reads, and so a link by 31
  pub makes-written : (w r : ℕ) → makes w r ≡ writes_or false (action w) r
  pub takes-read : (w r : ℕ) → takes w r ≡ Machine.reads (action w) r
  pub links-31 : (w u : ℕ) → links31 w u ≡ (writes_or false (action w) 31 && Machine.reads (action u) 31)
  -- an ADD to 31 is the machine's
  pub adds-31 : (w e n i : ℕ) → action w ≡ add e n i → adds31 w ≡ eqb 31 e
  pub adds-31-only : (w : ℕ) → adds31 w ≡ true → (n : ℕ) × (i : ℕ) × (action w ≡ add 31 n i)
  -- RULES 9.21: every premise gives those that are needed, and so the claim with every premise follows
  pub premises-fair : (h : HintRecord) (image : List ℕ) (o : Other) (s : State) → Premises h image o s → Fair h image
  pub literally : (image hints entries l : List ℕ) (t : Tally) → HintsKept image hints entries l t → Literally image hints entries l t
  -- RULES 1.9 to 1.13 of the compiled run: `answer` and `left` are what its promise says that it returns and leaves
  pub of-the-run : (image hints entries left : List ℕ) (answer : Result Tally Refusal) → answer ≡ run_of image hints entries → left ≡ image_of image hints entries
      → (t : Tally) → answer ≡ Ok t
      → (worked image hints entries (order_of hints) ≡ record { image = left; tally = t })
      × (Once (hint_count hints) (order_of hints))
      × (Order.KeepsOrder hints (order_of hints))
      × ((l : List ℕ) → Once (hint_count hints) l → HintsKept image hints entries l t × Literally image hints entries l t)
  -- RULES 1.9 to 1.13 of the call: `number`, `tally` and `left` are what the contract of hauklivo/src/hints.rt says that it returns and leaves
  pub of-the-call : (image hints entries left : List ℕ) (old tally : Tally) (number : ℕ) → number ≡ HintsCall.number_to image hints entries
      → tally ≡ HintsCall.tally_to image hints entries old → left ≡ HintsCall.image_to image hints entries → number ≡ 0
      → (worked image hints entries (order_of hints) ≡ record { image = left; tally = tally })
      × (Once (hint_count hints) (order_of hints))
      × (Order.KeepsOrder hints (order_of hints))
      × ((l : List ℕ) → Once (hint_count hints) l → HintsKept image hints entries l tally × Literally image hints entries l tally)
  -- RULES 9.31: a call for a part of the image leaves there what one run over the image leaves there
  pub part-call : (image hints entries : List ℕ) (t : Tally) → run_of image hints entries ≡ Ok t
      → (c : Call) (u : Tally) → c.start + c.len ≤ length image → run_of (part_of c image) c.hints c.entries ≡ Ok u → PartCall hints entries c
      → image_of (part_of c image) c.hints c.entries ≡ part_of c (image_of image hints entries)
  -- RULES 9.32: calls that have every hint of the run between them: each part's bytes, the bytes of no part, the counts
  pub part-calls : (image hints entries : List ℕ) (t : Tally) → run_of image hints entries ≡ Ok t
      → (m : ℕ) (call : ℕ → Call) (u : ℕ → Tally) → PartCalls image hints entries m call u
      → ((c : ℕ) → c < m → image_of (part_of (call c) image) (call c).hints (call c).entries ≡ part_of (call c) (image_of image hints entries))
      × ((b : ℕ) → ((c : ℕ) → c < m → span (call c).start (call c).len b ≡ false) → get_or (image_of image hints entries) b 0 ≡ get_or image b 0)
      × (t ≡ added u m)
  -- three hints in two calls
  pub part-called : PartCalls beside_words (lent beside) pair 2 beside_calls beside_counts
  -- RULES 1.9, 9.11: fair words run closely as what is decided of them, for every kind and whatever the entries say
  pub decided : (kind : ℕ) (s : Insns) (r : Rels) → s.p0 < 2 ^ 64 → s.p1 < 2 ^ 64 → s.p2 < 2 ^ 64 → Machine.FairWords (placed_of (word_count kind) s)
      → CloseRun (placed_of (word_count kind) s) (placed_of (word_count kind) (after (decide kind s r) s))
  -- words that run closely alike run alike
  pub close-same : (old new : List Placed) → CloseRun old new → SameRun old new
  -- RULES 9.33: what a fold leaves (FoldKeeps: arm64_hint_kept/specs/Folded): ADRP, the old accesses, its page in ADRP's register; only the ADD's may differ
  pub fold-keeps : (kind : ℕ) (s : Insns) (r : Rels) (p : Plan) → Machine.FairWords (placed_of 3 s) → decide kind s r ≡ Ok p → p.rewrite ≡ Fold
      → FoldKeeps s (after (Ok p) s)
  -- where fold and ADR both fit and number 31 does not bar the hint, the words of either order make the same accesses and end alike but for what is exempt
  pub orders-alike : (kind : ℕ) (s : Insns) (r : Rels) → s.p0 < 2 ^ 64 → Machine.FairWords (placed_of 3 s) → bars31 kind s ≡ false → BothFit kind s r
      → (o : Other) (z : State)
      → Agree (spared (placed_of 3 s)) (run o (placed_of 3 (after (in_rust_order kind s r) s)) z) (run o (placed_of 3 (after (decide kind s r) s)) z)
  -- adrp x1; add x2, x1, #8; ldrb w5, [x2]: the page is in x1 at the end, and so it is after the fold; the ADR leaves there what was there
  pub fold-shares : ((run idle (three 0x1000 0x90000241 0x91002022 0x39400045) start).x 1 ≡ 0x49000)
      × ((run idle (three 0x1000 0x90000241 0xd503201f 0x39402025) start).x 1 ≡ 0x49000)
      × ((run idle (three 0x1000 0x10240042 0xd503201f 0x39400045) start).x 1 ≡ start.x 1)
  -- not vacuous: hints of each kind that meet every premise, are rewritten, and whose words then run alike; among them one for each rewrite that a
  -- decision of the kind ends in
  pub each-rewrite : EachRewrite
  pub each-shown : (kind : ℕ) (s : Insns) (r : Rels) → Shown kind (decide kind s r)
  -- one hint of each count, in the order 1, 2, 3, 0; the list 0, 1, 2, 3 leaves the same, and the words of position 0 run there as before
  pub one-of-each : (order_of (lent four) ≡ 1 ∷ 2 ∷ 3 ∷ 0 ∷ [])
      × (run_of four_words (lent four) pair ≡ Ok (counts 1 1 1 1))
      × (image_of four_words (lent four) pair ≡ four_after)
      × (worked four_words (lent four) pair (0 ∷ 1 ∷ 2 ∷ 3 ∷ []) ≡ record { image = four_after; tally = counts 1 1 1 1 })
      × Close (hint_of (lent four) 0) four_words four_after
  -- three hints that meet every premise are all rewritten, and the words of each run in the last image as in the first: by the run's own list, and by
  -- one that does not keep an object's own order
  pub all_end : (order_of (lent beside) ≡ 2 ∷ 0 ∷ 1 ∷ [])
      × (run_of beside_words (lent beside) pair ≡ Ok (counts 3 0 0 0))
      × AllEnd beside_words (lent beside) pair (2 ∷ 0 ∷ 1 ∷ []) beside_after idle start
      × AllEnd beside_words (lent beside) pair (1 ∷ 0 ∷ 2 ∷ []) beside_after idle start
      × (Order.KeepsOrder (lent beside) (1 ∷ 0 ∷ 2 ∷ []) → ⊥)
  -- a hint whose places fall
  pub falls : (run_of (words (0xf9400401 ∷ 0x90000000 ∷ [])) (lent falling) pair ≡ Ok (counts 1 0 0 0))
      × (image_of (words (0xf9400401 ∷ 0x90000000 ∷ [])) (lent falling) pair ≡ words (0x58000041 ∷ 0xd503201f ∷ []))
      × Close (hint_of (lent falling) 0) (words (0xf9400401 ∷ 0x90000000 ∷ [])) (words (0x58000041 ∷ 0xd503201f ∷ []))
  -- kind 1 is worked last: the literal load is made, and ADRP_ADRP then declines; by list position the image would be another
  pub kind-1-last : (order_of (lent late) ≡ 1 ∷ 0 ∷ [])
      × (run_of late_words (lent late) pair ≡ Ok (counts 1 0 1 0))
      × (image_of late_words (lent late) pair ≡ late_after)
      × (worked late_words (lent late) pair (0 ∷ 1 ∷ []) ≡ record { image = words (0x90000000 ∷ 0xd503201f ∷ 0xf9400401 ∷ []); tally = counts 1 0 1 0 })
      × (Order.KeepsOrder (lent late) (0 ∷ 1 ∷ []) → ⊥)
  -- RULES 9.21: without one premise, and with all the others of 9.12, 9.14 and 9.17, a rewrite need not run alike
  -- (Fails: arm64_hint_kept/specs/Needed)
  -- disjoint
  pub needs-disjoint : Fails pair (hint_in 1 0 0 4 (place 0 0 0x1000) (place 0 0 0x1000) none-at) (0x90000000 ∷ [])
      (false ∷ true ∷ true ∷ []) (0xd503201f ∷ [])
  -- aligned
  pub needs-aligned : Fails pair (hint_in 2 0 0 8 (place 0 0 0x1002) (place 4 1 0x1006) none-at) (0x90000000 ∷ 0x3ded9c01 ∷ [])
      (true ∷ false ∷ true ∷ []) (0xd503201f ∷ 0x9c05b341 ∷ [])
  -- no store of what was made
  pub needs-no-store : Fails got_pair (hint_in 6 0 0 12 (place 0 0 0x1000) (place 4 1 0x1004) (place 8 no_entry 0x1008))
      (0x90000000 ∷ 0x91004002 ∷ 0xf9000040 ∷ []) (true ∷ true ∷ false ∷ []) (0x10000082 ∷ 0xd503201f ∷ 0xf9000040 ∷ [])
  -- hints that share a byte, and parts of different objects that meet
  pub needs-alone : Shared
  pub needs-apart : Meeting
  -- RULES 9.1, 9.6, 9.7: a store lists as many low bits as it moves: strb w1, [x0, #4]
  pub store-cut : (run idle (one 0x1000 0x39001001) high).log ≡ logged store 0 1 0xfc ∷ []
  -- it puts 8 bits in each byte, at addresses modulo 2^64: str x1, [x0]
  pub store_bytes : let memory = (run idle (one 0x1000 0xf9000001) high).memory in
      (memory 0xfffffffffffffffc ≡ 0xfc) × (memory 0xffffffffffffffff ≡ 0xff) × (memory 0 ≡ 0xff) × (memory 3 ≡ 0xff) × (memory 4 ≡ 0x200)
  -- a load takes 8 bits of each byte, at addresses modulo 2^64: ldr x1, [x0]
  pub load-bytes : (run idle (one 0x1000 0xf9400001) high).x 1 ≡ 0x0100000000000000
  -- RULES 9.8: another word (prfm) sees its address and may change general registers; sees and may change vector registers; sees stack pointer and
  -- memory, and its accesses are listed after those before it
  pub other-address : (run placing (one 0x1004 0xf9800000) high).x 1 ≡ 0x1004
  pub other-vectors : (run copying (one 0x1004 0xf9800000) high).v 2 ≡ 0x10f1
  pub other-listed : (run loading (two 0x1000 0x1004 0x39001001 0xf9800000) high).log ≡ logged store 0 1 0xfc ∷ logged load 0x2000 1 0x200 ∷ []
  -- wrong rewrites do not run alike: an access dropped; a literal load of another address; an ADRP dropped, last or before another word; one other word
  -- for another; a load that copies the sign replaced by one that does not
  pub access-dropped : (w n : ℕ) {p rt rn i : ℕ} {row : Row} → action w ≡ access row rt rn i → action n ≡ nop → SameRun (one p w) (one p n) → ⊥
  pub literal-elsewhere : (a b n l : ℕ) {p q d k t i j : ℕ} {row : Row} → action a ≡ adrp d k → action b ≡ access row t d i → action n ≡ nop
      → action l ≡ literal row t j → d < 31 → access_address row (adrp_page k p) i ≢ literal_target j q → SameRun (two p q a b) (two p q n l) → ⊥
  pub adrp-dropped : (w n : ℕ) {p d k : ℕ} → action w ≡ adrp d k → action n ≡ nop → d < 31 → SameRun (one p w) (one p n) → ⊥
  pub adrp-dropped-before : (w n u : ℕ) {p q d k : ℕ} → action w ≡ adrp d k → action n ≡ nop → action u ≡ other → d < 31
      → SameRun (two p q w u) (two p q n u) → ⊥
  pub other-replaced : (w u : ℕ) {p : ℕ} → action w ≡ other → action u ≡ other → w ≢ u → SameRun (one p w) (one p u) → ⊥
  pub sign-lost : (a b n l : ℕ) {p q d k t i j : ℕ} {m m' : Mnemonic} → action a ≡ adrp d k → action b ≡ access (Table.load m general 4 sign64) t d i
      → action n ≡ nop → action l ≡ literal (Table.load m' general 4 zeros) t j → t < 31 → SameRun (two p q a b) (two p q n l) → ⊥
  -- on closed words: a load, a store, an ADRP by NOP; an ADRP before PRFM by NOP; BR by MOVZ; LDRSW by the literal load of W
  pub refuted : (SameRun (one 0x1004 0xf9400401) (one 0x1004 0xd503201f) → ⊥)
      × (SameRun (one 0x1004 0xb9000801) (one 0x1004 0xd503201f) → ⊥)
      × (SameRun (one 0x1000 0x90000000) (one 0x1000 0xd503201f) → ⊥)
      × (SameRun (two 0x1000 0x1004 0x90000000 0xf9800000) (two 0x1000 0x1004 0xd503201f 0xf9800000) → ⊥)
      × (SameRun (one 0x1000 0xd61f0200) (one 0x1000 0xd2800000) → ⊥)
      × (SameRun (two 0x1000 0x1004 0x90000000 0xb9800401) (two 0x1000 0x1004 0xd503201f 0x18000001) → ⊥)
  -- example 6 with the literal load 4 bytes off
  pub off-by-4 : SameRun (two 0x1000 0x1004 0x90000000 0xf9400401) (two 0x1000 0x1004 0xd503201f 0x58000041) → ⊥
  -- of words that keep their ADRP, the same access by way of ADRP's register is not closely the same: adrp x1; add x2, x1, #8; ldrb w5, [x2] by
  -- adrp x1; add x1, x1, #8; ldrb w5, [x1]
  pub page-spoilt : CloseRun (three 0x1000 0x90000001 0x91002022 0x39400045) (three 0x1000 0x90000001 0x91002021 0x39400025) → ⊥
