-- The cursor's steps against the order of work. Carried by selections from a position on, and by the work of the objects from a number on.
use Rattle.std.specs.Prelude.{Option, Some, None, MatchOption, unwrap_or}
use mathlib.Core.Path.{◌≡◌, refl, sym, ap, ap₂, ◌∙◌, subst}
use mathlib.Core.Bool.{Bool, true, false, ◌&&◌, true≢false}
use mathlib.Core.List.{List, [], ◌∷◌, ◌++◌, append-nil}
use Prim.Native.Nat.{ℕ, zero, suc, ◌+◌, ◌-◌, ◌≤◌, ◌<◌}
use native.Mathlib.Omega.{arith}
use native.Mathlib.Nat.{zero-add}
use native.Mathlib.Numerals.{add-one}
use borrow.Author.Tests.{leb-true, le-leb}
use lib.Dec.{leb}
use lib.ListN.{length}
use Rattle.util.specs.Choice.{choose}
use Rattle.util.proofs.Choice.{choose-true, choose-false, both}
use Rattle.util.proofs.All.{all_map}
use Rattle.util.proofs.Cases.{same_or, less-or}
use Rattle.macho.specs.Hint.{hint_count}
use Rattle.arm64_hint_order.specs.declared.Cursor.{Cursor}
use Rattle.arm64_hint_order.specs.Lists.{run_list, count, range, those, sel, in_pass, passes}
use Rattle.arm64_hint_order.specs.Cursor.{object_at, late_at, work_from, order_of, pass_of, left_in, rest, following, Cut, Sound, SoundNext}
use Rattle.arm64_hint_order.specs.Walk.{grouped, last_of, LeastAt, Least, GroupEnd, Found, Entered, StepsIn}
use Rattle.arm64_hint_order.proofs.Lists.{all-range, range-add, those-append, those-none, sel_none, sel_first}
use Rattle.arm64_hint_order.proofs.Commute.{once-length}
use Rattle.arm64_hint_order.proofs.Own.{own-once, pass-true, passes_count, from_end, from-object, from-jump}

-- ---- selections from lo up to hi that have all that pass

pub window : (p : ℕ → Bool) (lo hi n : ℕ) → lo ≤ hi → hi ≤ n → ((k : ℕ) → k < n → p k ≡ true → (lo ≤ k) × (k < hi)) → sel p lo hi ≡ sel p 0 n
window p lo hi n h g f =
    sym
    (ap (λ (m : ℕ). those p (range 0 m)) (let e : n - 0 ≡ lo + ((hi - lo) + (n - hi)) = omega arith in e)
    ∙ ap (those p) (range-add 0 lo ((hi - lo) + (n - hi)) ∙ ap (λ (m : ℕ). range 0 lo ++ range m ((hi - lo) + (n - hi))) (zero-add lo))
    ∙ those-append p (range 0 lo) (range lo ((hi - lo) + (n - hi)))
    ∙ ap (λ (x : List ℕ). x ++ those p (range lo ((hi - lo) + (n - hi))))
    (those-none p (all_map (λ k q. fails k (omega arith) (λ r. omega (arith, r.0))) (all-range 0 lo)))
    ∙ ap (those p) (range-add lo (hi - lo) (n - hi))
    ∙ those-append p (range lo (hi - lo)) (range (lo + (hi - lo)) (n - hi))
    ∙ ap (λ (x : List ℕ). sel p lo hi ++ x)
    (those-none p (all_map (λ k q. fails k (omega arith) (λ r. omega (arith, r.1))) (all-range (lo + (hi - lo)) (n - hi))))
    ∙ append-nil (sel p lo hi))
  where
    fails : (k : ℕ) → k < n → ((lo ≤ k) × (k < hi) → ⊥) → p k ≡ false
    fails k l out = go (p k) refl
      where
        go : (b : Bool) → p k ≡ b → p k ≡ false
        go true e = absurd (out (f k l e))
        go false e = e

-- ---- lists whose object numbers never fall

module _ (obj : ℕ → ℕ) where
  pub never-falls : (n : ℕ) → grouped obj n ≡ true → (i j : ℕ) → i ≤ j → j < n → obj i ≤ obj j
  never-falls zero e i j h l = absurd (omega arith)
  never-falls (suc zero) e i j h l = let q : i ≡ j = omega arith in omega (arith, ap obj q)
  never-falls (suc (suc n)) e i j h l =
      let t = both (grouped obj (suc n)) (leb (obj n) (obj (suc n))) e in
      same_or j (suc n)
      (λ q. same_or i (suc n)
      (λ r. omega (arith, ap obj q, ap obj r))
      (λ r. omega (arith, ap obj q, leb-true (obj n) (obj (suc n)) t.1, never-falls (suc n) t.0 i n (omega arith) (omega arith))))
      (λ q. never-falls (suc n) t.0 i j h (omega arith))

  -- ---- whether they do, hint by hint

  pub grouped-step : (k : ℕ) → grouped obj (suc k) ≡ (grouped obj k && leb (last_of obj k) (obj k))
  grouped-step zero = sym (le-leb 0 (obj 0) (omega arith))
  grouped-step (suc k) = refl

-- ---- what is left, step by step

module _ (s : List ℕ) where
  -- the first position that passes, or that none does
  pub found-first : (o : ℕ) (b : Bool) (lo hi : ℕ) (r : Option ℕ)
      → MatchOption r ((k : ℕ) → lo ≤ k → k < hi → in_pass (object_at s) (late_at s) o b k ≡ false)
      (λ i. (lo ≤ i) × (i < hi) × (in_pass (object_at s) (late_at s) o b i ≡ true)
      × ((k : ℕ) → lo ≤ k → k < i → in_pass (object_at s) (late_at s) o b k ≡ false))
      → Found s o b lo hi r
  found-first o b lo hi None f = sel_none (in_pass (object_at s) (late_at s) o b) lo hi f
  found-first o b lo hi (Some i) f = (f.1, sel_first (in_pass (object_at s) (late_at s) o b) lo hi i f.0 f.1 f.2 f.3)

  pub ended-late : (c : Cursor) → Found s c.object c.late c.at c.hi None → c.late ≡ true → left_in s c ≡ []
  ended-late c f e = ap₂ (λ (x y : List ℕ). x ++ y) f (choose-true c.late [] (pass_of s c.object true c.lo c.hi) e)

  second-left : (c : Cursor) → Found s c.object c.late c.at c.hi None → c.late ≡ false → left_in s c ≡ pass_of s c.object true c.lo c.hi
  second-left c f e = ap₂ (λ (x y : List ℕ). x ++ y) f (choose-false c.late [] (pass_of s c.object true c.lo c.hi) e)

  pub take_second : (c : Cursor) (m : ℕ) → Found s c.object c.late c.at c.hi None → c.late ≡ false → Found s c.object true c.lo c.hi (Some m)
      → m ∷ rest s (record { grouped = c.grouped; object = c.object; lo = c.lo; hi = c.hi; late = true; at = m + 1 }) ≡ rest s c
  take_second c m f e g =
      ap (λ (x : List ℕ). x ++ work_from s (suc c.object))
      (ap (λ (x : List ℕ). m ∷ pass_of s c.object true (m + 1) c.hi ++ x) (choose-true true [] (pass_of s c.object true c.lo c.hi) refl)
      ∙ append-nil (m ∷ pass_of s c.object true (m + 1) c.hi)
      ∙ sym g.1
      ∙ sym (second-left c f e))

  pub ended-both : (c : Cursor) → Found s c.object c.late c.at c.hi None → c.late ≡ false → Found s c.object true c.lo c.hi None → left_in s c ≡ []
  ended-both c f e g = second-left c f e ∙ g

  -- ---- from object to object

  -- the least object from o on is the next that is worked
  jumped : (o p : ℕ) → LeastAt s o (hint_count s) p → work_from s o ≡ work_from s (object_at s p)
  jumped o p l = from-jump (object_at s) (late_at s) (hint_count s) o (object_at s p) l.reached l.least

  pub none_left : (o : ℕ) → Least s o (hint_count s) None → work_from s o ≡ []
  none_left o l = from_end (object_at s) (late_at s) (hint_count s) o l

  pub entered-rest : (o p : ℕ) (c : Cursor) → LeastAt s o (hint_count s) p → Entered s p c → rest s c ≡ work_from s o
  entered-rest o p c l e =
      ap₂ (λ (x : List ℕ) (y : ℕ). x ++ work_from s (suc y)) e.whole e.object
      ∙ sym (from-object (object_at s) (late_at s) (hint_count s) p l.within)
      ∙ sym (jumped o p l)

  -- an object that is entered has work
  pub entered-work : (p : ℕ) (c : Cursor) → p < hint_count s → Entered s p c → left_in s c ≡ [] → ⊥
  entered-work p c h e q =
      omega (arith, passes_count (object_at s) (late_at s) (hint_count s) p h, ap (count p) (sym e.whole ∙ q))

  -- ---- an object entered

  opened : (o lo hi : ℕ) → pass_of s o false lo hi ++ choose false [] (pass_of s o true lo hi) ≡ pass_of s o false lo hi ++ pass_of s o true lo hi
  opened o lo hi = ap (λ (x : List ℕ). pass_of s o false lo hi ++ x) (choose-false false [] (pass_of s o true lo hi) refl)

  pub entered-apart : (o p : ℕ) → o ≡ object_at s p → p < hint_count s
      → Entered s p (record { grouped = false; object = o; lo = 0; hi = hint_count s; late = false; at = 0 })
  entered-apart o p e h = record {
    object = e;
    whole = opened o 0 (hint_count s) ∙ ap (passes (object_at s) (late_at s) (hint_count s)) e;
    sound = record { ends = omega arith; holds = λ k l q. omega arith; cut = λ f. absurd (true≢false (sym f)) };
  }

  -- in such a list the object's hints end where another object is first found past p
  pub group-found : (p : ℕ) (r : Option ℕ) → p < hint_count s
      → MatchOption r ((k : ℕ) → p + 1 ≤ k → k < hint_count s → object_at s k ≡ object_at s p)
      (λ e. (p + 1 ≤ e) × (e < hint_count s) × (object_at s e ≡ object_at s p → ⊥) × ((k : ℕ) → p + 1 ≤ k → k < e → object_at s k ≡ object_at s p))
      → GroupEnd s p (unwrap_or r (hint_count s))
  group-found p None h f = record {
    within = omega arith;
    past = h;
    same = λ k l g. same_or k p (ap (object_at s)) (λ n. f k (omega arith) g);
    other = λ l. absurd (omega arith);
  }
  group-found p (Some e) h f = record {
    within = omega arith;
    past = omega (arith, f.0);
    same = λ k l g. same_or k p (ap (object_at s)) (λ n. f.3 k (omega arith) g);
    other = λ l. f.2;
  }

  pub entered-grouped : (o p e : ℕ) → o ≡ object_at s p → p < hint_count s → Cut s (object_at s p) p → GroupEnd s p e
      → Entered s p (record { grouped = true; object = o; lo = p; hi = e; late = false; at = p })
  entered-grouped o p e q h c g = record {
    object = q;
    whole =
        opened o p e
        ∙ ap₂ (λ (x y : List ℕ). x ++ y) (all_in false) (all_in true)
        ∙ ap (passes (object_at s) (late_at s) (hint_count s)) q;
    sound = record {
      ends = g.within;
      holds = holds;
      cut = λ _. record {
        rises = c.rises;
        below = λ k l. less-or k p (λ m. omega (arith, c.below k m)) (λ m. omega (arith, g.same k m l));
        above = λ k l m. omega (arith, past k l m);
      };
    };
  }
    where
      past : (k : ℕ) → e ≤ k → k < hint_count s → object_at s p < object_at s k
      past k l m =
          let a : object_at s p ≤ object_at s e = c.above e (omega (arith, g.past)) (omega arith) in
          let b : object_at s e ≤ object_at s k = c.rises e k l m in
          less-or (object_at s p) (object_at s e) (λ r. omega arith) (λ r. absurd (g.other (omega arith) (omega arith)))

      holds : (k : ℕ) → k < hint_count s → object_at s k ≡ o → (p ≤ k) × (k < e)
      holds k l r =
          (less-or k p (λ m. absurd (omega (arith, c.below k m))) (λ m. m), less-or k e (λ m. m) (λ m. absurd (omega (arith, past k m l))))

      all_in : (b : Bool) → pass_of s o b p e ≡ pass_of s o b 0 (hint_count s)
      all_in b =
          window (in_pass (object_at s) (late_at s) o b) p e (hint_count s) (omega (arith, g.past)) g.within
          (λ k l r. holds k l (pass-true (object_at s) (late_at s) o b k r).0)

  -- ---- the next object, or the end

  left-none : (c : Cursor) → left_in s c ≡ [] → rest s c ≡ work_from s (c.object + 1)
  left-none c e =
      ap₂ (λ (x : List ℕ) (o : ℕ). x ++ work_from s o) e (sym (add-one c.object))

  pub next-object : (c d : Cursor) (p : ℕ) (r : Option (ℕ × Cursor)) → left_in s c ≡ [] → LeastAt s (c.object + 1) (hint_count s) p → Entered s p d
      → StepsIn s d r → following s r ≡ rest s c
  next-object c d p (Some (k, b)) e l q t = t ∙ entered-rest (c.object + 1) p d l q ∙ sym (left-none c e)
  next-object c d p None e l q t = absurd (entered-work p d l.within q t)

  pub next-none : (c : Cursor) → left_in s c ≡ [] → Least s (c.object + 1) (hint_count s) None → [] ≡ rest s c
  next-none c e l = sym (left-none c e ∙ none_left (c.object + 1) l)

  -- ---- the start

  pub cut-start : grouped (object_at s) (hint_count s) ≡ true → Cut s 0 0
  cut-start e = record { rises = never-falls (object_at s) (hint_count s) e; below = λ k h. absurd (omega arith); above = λ k h g. omega arith }

  module _ (g : Bool) (l : Least s 0 (hint_count s) None) where
    no-hint : (k : ℕ) → k < hint_count s → ⊥
    no-hint k q = omega (arith, l k q)

    abbrev none-cursor : Cursor
    none-cursor = record { grouped = g; object = 0; lo = 0; hi = 0; late = false; at = 0 }

    pub none_rest : rest s none-cursor ≡ order_of s
    none_rest =
        left-none none-cursor (opened 0 0 0)
        ∙ from_end (object_at s) (late_at s) (hint_count s) 1 (λ k q. absurd (no-hint k q))
        ∙ sym (none_left 0 l)

-- ---- a loop over the cursor: the state after the work that is left

module _ {S : Type 0} (step : ℕ → S → S) (s : List ℕ) (c : Cursor) (r : Option (ℕ × Cursor)) (told : following s r ≡ rest s c) (w : S) where
  pub turn_at : (k : ℕ) (d : Cursor) → r ≡ Some (k, d) → run_list step (rest s d) (step k w) ≡ run_list step (rest s c) w
  turn_at k d e = ap (λ (l : List ℕ). run_list step l w) (ap (following s) (sym e) ∙ told)

  pub turn-done : r ≡ None → w ≡ run_list step (rest s c) w
  turn-done e = ap (λ (l : List ℕ). run_list step l w) (ap (following s) (sym e) ∙ told)

pub order-length : (s : List ℕ) → length (order_of s) ≡ hint_count s
order-length s = once-length (hint_count s) (order_of s) (own-once (object_at s) (late_at s) (hint_count s))

-- the number of hints that are left, and what is known of the hint and the next cursor
module _ (s : List ℕ) (r : Option (ℕ × Cursor)) (k : ℕ) (d : Cursor) (e : r ≡ Some (k, d)) where
  pub turn-count : (c : Cursor) → following s r ≡ rest s c → suc (length (rest s d)) ≡ length (rest s c)
  turn-count c told = ap length (ap (following s) (sym e) ∙ told)

  pub turn-sound : SoundNext s r → (k < hint_count s) × Sound s d
  turn-sound = subst (SoundNext s) e
