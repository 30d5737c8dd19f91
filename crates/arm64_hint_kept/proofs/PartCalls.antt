-- A call for a part of the image leaves there what one run over the image leaves there (RULES 9.31): step by step along the run's order of work, each
-- hint of the call does in the part what it does in the image, and each other hint leaves the part.
use Rattle.std.specs.Prelude.{Result, Ok, Option, Some, None}
use mathlib.Core.Path.{◌≡◌, refl, sym, ap, ap₂, ◌∙◌, subst}
use mathlib.Core.Logic.{◌≢◌}
use mathlib.Core.Bool.{Bool, true, false, ◌||◌, not}
use mathlib.Core.List.{List, [], ◌∷◌, ◌++◌, map}
use Prim.Native.Nat.{ℕ, ◌+◌, ◌≤◌, ◌<◌}
use native.Mathlib.Omega.{arith}
use lib.Dec.{eqb}
use lib.ListN.{length, get_or, take, drop}
use lib.Seq.{length-take-le, take_at, drop_at, get_or-take, get_or-drop, ext_get_or}
use Rattle.util.specs.All.{All, empty, more}
use Rattle.util.specs.Choice.{choose}
use Rattle.util.specs.Part.{part, splice}
use Rattle.util.proofs.All.{all_map}
use Rattle.util.proofs.Part.{length_part}
use Rattle.macho.specs.Types.{MCLOH_AdrpAdrp}
use Rattle.macho.specs.Hint.{word_count, hint_count, hint_of}
use Rattle.macho.specs.declared.hint.HintInsn.{HintInsn}
use Rattle.macho.specs.declared.hint.HintRecord.{HintRecord}
use Rattle.image.specs.Words.{span, in_words, words_at, put_words}
use Rattle.image.specs.Local.{SameBytes}
use Rattle.image.specs.Steps.{Work, foot_of, answered, written}
use Rattle.image.proofs.Local.{leaves}
use Rattle.image.proofs.Words.{span-in, words_inside}
use Rattle.image.proofs.Steps.{local-step}
use Rattle.arm64_hint_terms.specs.declared.answer.Insns.{Insns}
use Rattle.arm64_hint_terms.specs.declared.rels.Rels.{Rels}
use Rattle.arm64_hint_laws.specs.Decide.{decide}
use Rattle.arm64_hint_order.specs.Lists.{run_list}
use Rattle.arm64_hint_order.specs.Cursor.{object_at, late_at, order_of}
use Rattle.arm64_hint_order.proofs.Lists.{once-inside}
use Rattle.arm64_hint_order.proofs.Own.{own-once}
use Rattle.arm64_hint_order.proofs.Runs as Runs
use Rattle.arm64_hint_places.specs.Hint.{is_skipped, insns_of, offs_of, rels_of}
use Rattle.arm64_hint_places.proofs.Places.{insns-none}
use Rattle.arm64_hint_check.proofs.Checks.{ready, each-fit}
use Rattle.arm64_hint_rules.specs.Rule.{hint_outcome, news_of}
use Rattle.arm64_hint_terms.specs.declared.answer.Plan.{Plan}
use Rattle.arm64_hint_terms.specs.declared.answer.NoRewrite.{NoRewrite}
use Rattle.arm64_hint_work.specs.Step.{places_of, steps_of}
use Rattle.arm64_hint_work.specs.declared.tally.Tally.{Tally}
use Rattle.arm64_hint_work.proofs.Sections.{words-part, puts-part}
use Rattle.arm64_hint_run.specs.Run.{start, worked, run_of, image_of}
use Rattle.arm64_hint_run.proofs.Parts.{places-inside}
use Rattle.arm64_hint_run.proofs.Answers.{done-fit, run_is}
use Rattle.arm64_hint_kept.specs.PartCalls.{SameHint, Call, part_of, PartCall}
use Rattle.arm64_hint_kept.proofs.Picked.{Picked, none, mine, other, pick, own-pick}

-- ---- parts

-- a part put in the place of another is the part there
part-splice : (xs : List ℕ) (a k : ℕ) (ys : List ℕ) → a ≤ length xs → length ys ≡ k → part (splice xs a k ys) a k ≡ ys
part-splice xs a k ys h e =
    ap (take k) (drop_at (take a xs) (ys ++ drop k (drop a xs)) a (length-take-le a xs h))
    ∙ take_at ys (drop k (drop a xs)) k e

-- images with the same bytes there have the same part
part_same : (xs ys : List ℕ) (a k : ℕ) → a + k ≤ length xs → length ys ≡ length xs → SameBytes (span a k) xs ys → part xs a k ≡ part ys a k
part_same xs ys a k h e same =
    ext_get_or 0 (part xs a k) (part ys a k) (length_part xs a k h ∙ sym (length_part ys a k (omega arith)))
    (λ i l. at xs i (omega (arith, length_part xs a k h)) ∙ same (a + i) (span-in a k (a + i) (omega arith) (omega (arith, length_part xs a k h)))
    ∙ sym (at ys i (omega (arith, length_part xs a k h))))
  where
    at : (xs : List ℕ) (i : ℕ) → i < k → get_or (part xs a k) i 0 ≡ get_or xs (a + i) 0
    at xs i l = get_or-take k (drop a xs) i 0 l ∙ get_or-drop a xs i 0

-- ---- a hint of the call and the run's

-- places of parts a bytes further down
moved : (s t a : ℕ) → s ≡ a + t → (offs : List ℕ) → map (λ o. s + o) offs ≡ map (λ p. a + p) (map (λ o. t + o) offs)
moved s t a e [] = refl
moved s t a e (o ∷ offs) = ap₂ (λ (p : ℕ) (ps : List ℕ). p ∷ ps) (let q : s + o ≡ a + (t + o) = omega arith in q) (moved s t a e offs)

module _ {a : ℕ} {entries : List ℕ} {h : HintRecord} {entries' : List ℕ} {g : HintRecord} (same : SameHint a entries h entries' g) where
  places : places_of h ≡ map (λ p. a + p) (places_of g)
  places = ap (map (λ o. h.start + o)) same.offsets ∙ moved h.start g.start a same.start (offs_of g)

  skipped : is_skipped h ≡ is_skipped g
  unfolding is_skipped
  skipped = ap₂ (λ (k n : ℕ). eqb (word_count k) 0 || not (eqb n (word_count k))) same.kind same.n

  insns : (ws : List ℕ) → insns_of h ws ≡ insns_of g ws
  unfolding insns_of
  insns ws = ap at-them same.addresses
    where
      at-them : List ℕ → Insns
      at-them ps = record { w0 = get_or ws 0 0; w1 = get_or ws 1 0; w2 = get_or ws 2 0; p0 = get_or ps 0 0; p1 = get_or ps 1 0; p2 = get_or ps 2 0 }

  outcomes : (ws : List ℕ) → hint_outcome entries h ws ≡ hint_outcome entries' g ws
  unfolding hint_outcome
  outcomes ws =
      ap₂ (λ (b : Bool) (o : Option (Result Plan NoRewrite × Insns)). choose b None o) skipped
      (ap₂ (λ (k : ℕ) (i : Insns). Some (decide k i (rels_of entries h), i)) same.kind (insns ws)
      ∙ ap (λ (r : Rels). Some (decide g.kind (insns_of g ws) r, insns_of g ws)) same.names)

-- ---- the run along its order, and the call along its own

module _ (hints entries : List ℕ) (c : Call) (call : PartCall hints entries c)
    (fits : (j : ℕ) → j < hint_count c.hints → All (λ p. p + 4 ≤ c.len) (places_of (hint_of c.hints j))) where
  pub answers : (j : ℕ) → j < hint_count c.hints → (x : List ℕ)
      → answered (steps_of hints entries) (c.at j) x ≡ answered (steps_of c.hints c.entries) j (part_of c x)
  answers j h x =
      ap (λ (ps : List ℕ). hint_outcome entries (hint_of hints (c.at j)) (words_at ps x)) (places (call.same j h))
      ∙ ap (hint_outcome entries (hint_of hints (c.at j))) (sym (words-part x c.start c.len (fits j h)))
      ∙ outcomes (call.same j h) (words_at (places_of (hint_of c.hints j)) (part_of c x))

  -- a hint of the call
  pub own-part : (j : ℕ) → j < hint_count c.hints → (x : List ℕ) → c.start + c.len ≤ length x
      → part_of c (written (steps_of hints entries) (c.at j) x) ≡ written (steps_of c.hints c.entries) j (part_of c x)
  own-part j h x l =
      ap₂ (λ (ps : List ℕ) (o : Option (Result Plan NoRewrite × Insns)). part_of c (put_words ps (news_of o) x)) (places (call.same j h)) (answers j h x)
      ∙ ap (part_of c) (sym (puts-part x c.start c.len l (fits j h) (news_of (answered (steps_of c.hints c.entries) j (part_of c x)))))
      ∙ part-splice x c.start c.len (written (steps_of c.hints c.entries) j (part_of c x)) (omega arith)
      ((local-step (steps_of c.hints c.entries) j).writes.size (part_of c x) ∙ length_part x c.start c.len l)

  -- and any other
  pub other-part : (k : ℕ) → k < hint_count hints → ((j : ℕ) → j < hint_count c.hints → c.at j ≢ k) → (x : List ℕ) → c.start + c.len ≤ length x
      → part_of c (written (steps_of hints entries) k x) ≡ part_of c x
  other-part k h away x l =
      let w = (local-step (steps_of hints entries) k).writes in
      part_same (written (steps_of hints entries) k x) x c.start c.len (omega (arith, w.size x)) (sym (w.size x))
      (leaves (span c.start c.len) (foot_of (steps_of hints entries) k) (call.others k h away) (written (steps_of hints entries) k) w x)

  along : {l m : List ℕ} → Picked c.at (hint_count c.hints) l m → All (λ k. k < hint_count hints) l → (x : List ℕ) → c.start + c.len ≤ length x
      → part_of c (run_list (written (steps_of hints entries)) l x) ≡ run_list (written (steps_of c.hints c.entries)) m (part_of c x)
  along none rest x h = refl
  along (mine {m = m} j hj p) (more hk rest) x h =
      along p rest (written (steps_of hints entries) (c.at j) x) (omega (arith, (local-step (steps_of hints entries) (c.at j)).writes.size x))
      ∙ ap (run_list (written (steps_of c.hints c.entries)) m) (own-part j hj x h)
  along (other {m = m} k away p) (more hk rest) x h =
      along p rest (written (steps_of hints entries) k x) (omega (arith, (local-step (steps_of hints entries) k).writes.size x))
      ∙ ap (run_list (written (steps_of c.hints c.entries)) m) (other-part k hk away x h)

  -- the call's order of work is what is picked of the run's
  pub own-order : (pick c.at (hint_count c.hints) (order_of hints)).0 ≡ order_of c.hints
  own-order =
      own-pick c.at (hint_count c.hints) call.rises (object_at hints) (object_at c.hints) (late_at hints) (late_at c.hints)
      call.objects-rise call.objects-same
      (λ j l. ap (λ (k : ℕ). eqb k MCLOH_AdrpAdrp) (call.same j l).kind)
      (hint_count hints) call.inside

  -- a byte of a hint of the call is one of the call's
  pub own-bytes : (j : ℕ) → j < hint_count c.hints → (b : ℕ) → foot_of (steps_of hints entries) (c.at j) b ≡ true → span c.start c.len b ≡ true
  own-bytes j h b w =
      words_inside c.start c.len (down (fits j h)) b (sym (ap (λ (ps : List ℕ). in_words ps b) (places (call.same j h))) ∙ w)
    where
      down : {ps : List ℕ} → All (λ p. p + 4 ≤ c.len) ps
          → All (λ at. (c.start ≤ at) × (at + 4 ≤ c.start + c.len)) (map (λ p. c.start + p) ps)
      down empty = empty
      down (more {k = p} h rest) = more {k = c.start + p} (omega arith, omega arith) (down rest)

-- ---- the image of a run that is done

pub image-done : (image hints entries : List ℕ) (t : Tally) → run_of image hints entries ≡ Ok t
    → image_of image hints entries ≡ run_list (written (steps_of hints entries)) (order_of hints) image
unfolding worked
image-done image hints entries t e =
    sym (ap (λ (w : Work Tally). w.image) (run_is image hints entries t e))
    ∙ Runs.image-of (steps_of hints entries) (hint_count hints) (order_of hints) (start image)

-- the words of each hint lie in it
words-fit : (image hints entries : List ℕ) (t : Tally) → run_of image hints entries ≡ Ok t → (j : ℕ) → j < hint_count hints
    → All (λ p. p + 4 ≤ length image) (places_of (hint_of hints j))
words-fit image hints entries t e j l = go (is_skipped g) refl
  where
    g : HintRecord
    g = hint_of hints j

    go : (b : Bool) → is_skipped g ≡ b → All (λ p. p + 4 ≤ length image) (places_of g)
    go true s =
        subst (λ (is : List HintInsn). All (λ p. p + 4 ≤ length image) (map (λ at. g.start + at) (map (λ i. i.off) is))) (sym (insns-none g s)) empty
    go false s =
        let r = ready (length image) (length entries) g g refl (each-fit (length image) hints (length entries) (done-fit image hints entries t e) j l) s in
        all_map (λ at w. omega (arith, r.part)) (places-inside g r.words)

-- the words of each hint of a call that is not refused lie in its bytes
pub fits-of : (image : List ℕ) (c : Call) (u : Tally) → c.start + c.len ≤ length image → run_of (part_of c image) c.hints c.entries ≡ Ok u
    → (j : ℕ) → j < hint_count c.hints → All (λ p. p + 4 ≤ c.len) (places_of (hint_of c.hints j))
fits-of image c u h e j l =
    all_map (λ p w. omega (arith, length_part image c.start c.len h)) (words-fit (part_of c image) c.hints c.entries u e j l)

-- every member of the run's order is a hint's position
pub order-inside : (hints : List ℕ) → All (λ k. k < hint_count hints) (order_of hints)
order-inside hints = once-inside (hint_count hints) (order_of hints) (own-once (object_at hints) (late_at hints) (hint_count hints))

-- RULES 9.31
pub part-call : (image hints entries : List ℕ) (t : Tally) → run_of image hints entries ≡ Ok t
    → (c : Call) (u : Tally) → c.start + c.len ≤ length image → run_of (part_of c image) c.hints c.entries ≡ Ok u → PartCall hints entries c
    → image_of (part_of c image) c.hints c.entries ≡ part_of c (image_of image hints entries)
part-call image hints entries t e c u h e' call =
    let fits = fits-of image c u h e' in
    image-done (part_of c image) c.hints c.entries u e'
    ∙ ap (λ (l : List ℕ). run_list (written (steps_of c.hints c.entries)) l (part_of c image)) (sym (own-order hints entries c call fits))
    ∙ sym (along hints entries c call fits (pick c.at (hint_count c.hints) (order_of hints)).1 (order-inside hints) image h)
    ∙ ap (part_of c) (sym (image-done image hints entries t e))
