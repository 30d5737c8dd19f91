-- Orders of work that compute, lists that keep each object's own order, and one that does not.
use mathlib.Core.Path.{◌≡◌, refl, ap}
use mathlib.Core.Logic.{◌≢◌, inl, inr}
use mathlib.Core.Bool.{Bool, false}
use mathlib.Core.List.{List, [], ◌∷◌, ◌++◌}
use Rattle.std.specs.Prelude.{Some}
use Prim.Native.Nat.{ℕ, zero, suc, ◌+◌, ◌-◌, ◌*◌, ◌≤◌, ◌<◌}
use native.Mathlib.Omega.{arith}
use lib.Dec.{eqb, lit<}
use lib.ListN.{get_or, replicate}
use Rattle.util.specs.Choice.{choose}
use Rattle.util.specs.Word.{le, put, bytes}
use Rattle.util.specs.All.{empty, more}
use Rattle.util.proofs.Cases.{less-or}
use Rattle.macho.specs.Types.{MCLOH_AdrpAdrp}
use Rattle.macho.specs.Record.{bytes_of}
use Rattle.macho.specs.Hint.{no_entry, insn_at, hint_at, hint_bytes}
use Rattle.macho.specs.declared.hint.HintInsn.{HintInsn}
use Rattle.image.specs.Words.{span}
use Rattle.image.specs.Steps.{Work, Steps, step_of}
use Rattle.image.proofs.Words.{words_inside, spans_apart}
use Rattle.arm64_hint_order.specs.Lists.{run_list, count, of_obj, Once, passes, own_list}
use Rattle.arm64_hint_order.specs.Cursor.{order_of}
use Rattle.arm64_hint_order.specs.Runs.{Kept}
use Rattle.arm64_hint_order.proofs.Lists.{once-of}
use Rattle.arm64_hint_order.proofs.Own.{kept_of}
use Rattle.arm64_hint_order.proofs.Runs.{parts}

-- four hints of the objects 2, 1, 1, 1, none an ADRP_ADRP hint
abbrev object : ℕ → ℕ
object k = get_or (2 ∷ 1 ∷ 1 ∷ 1 ∷ []) k 0

abbrev never : ℕ → Bool
never k = false

pub four : own_list object never 4 ≡ 1 ∷ 2 ∷ 3 ∷ 0 ∷ []
unfolding choose
four = refl

-- the same from records: kinds 2, 9, 7, 2
abbrev nowhere : HintInsn
nowhere = record { off = 0; rel = no_entry; addr = 0 }

abbrev hint : ℕ → ℕ → List ℕ
hint kind o = hint_bytes (record { kind = kind; n = 0; object = o; start = 0; len = 0; insn0 = nowhere; insn1 = nowhere; insn2 = nowhere })

abbrev records : List ℕ
records = hint 2 2 ++ hint 9 1 ++ hint 7 1 ++ hint 2 1

pub four-records : order_of records ≡ 1 ∷ 2 ∷ 3 ∷ 0 ∷ []
unfolding choose le bytes bytes_of insn_at hint_at hint_bytes
four-records = refl

-- an object whose ADRP_ADRP hint stands first in the list, and is worked last
pub adrp-adrp-last : own_list (λ k. 7) (λ k. eqb (get_or (1 ∷ 2 ∷ 8 ∷ []) k 0) MCLOH_AdrpAdrp) 3 ≡ 1 ∷ 2 ∷ 0 ∷ []
unfolding choose
adrp-adrp-last = refl

-- the list 0, 1, 2, 3 is another that keeps each object's own order
pub other-once : Once 4 (0 ∷ 1 ∷ 2 ∷ 3 ∷ [])
unfolding choose
other-once = once-of 4 (0 ∷ 1 ∷ 2 ∷ 3 ∷ []) (more (lit< tt) (more (lit< tt) (more (lit< tt) (more (lit< tt) empty)))) each
  where
    each : (k : ℕ) → k < 4 → count k (0 ∷ 1 ∷ 2 ∷ 3 ∷ []) ≡ 1
    each zero h = refl
    each (suc zero) h = refl
    each (suc (suc zero)) h = refl
    each (suc (suc (suc zero))) h = refl
    each (suc (suc (suc (suc k)))) h = absurd (omega arith)

pub other-kept : Kept object never 4 (0 ∷ 1 ∷ 2 ∷ 3 ∷ [])
unfolding choose
other-kept = kept_of object never 4 (0 ∷ 1 ∷ 2 ∷ 3 ∷ []) other-once own
  where
    own : (o : ℕ) → o < 3 → of_obj object o (0 ∷ 1 ∷ 2 ∷ 3 ∷ []) ≡ passes object never 4 o
    own zero h = refl
    own (suc zero) h = refl
    own (suc (suc zero)) h = refl
    own (suc (suc (suc o))) h = absurd (omega arith)

-- the list 3, 2, 1, 0 does not keep object 1's
pub turned_round : Kept object never 4 (3 ∷ 2 ∷ 1 ∷ 0 ∷ []) → ⊥
unfolding choose
turned_round kept =
    let e : ◌≡◌ {A = List ℕ} (3 ∷ 2 ∷ 1 ∷ []) (1 ∷ 2 ∷ 3 ∷ []) = kept 1 in
    let z : ◌≡◌ {A = ℕ} 3 1 = cc in
    omega arith

-- two hints that put a word of their own at the same place: the order within an object shows in the image
abbrev sharing : Steps ℕ ℕ
sharing = record { places = λ k. 0 ∷ []; answer = λ k ws. k; news = λ k. Some (k + 7) ∷ []; add = λ k t. suc t }

pub order-shows : ((run_list (step_of sharing) (0 ∷ 1 ∷ []) (record { image = replicate 4 0; tally = 0 })).image ≡ 8 ∷ 0 ∷ 0 ∷ 0 ∷ [])
    × ((run_list (step_of sharing) (1 ∷ 0 ∷ []) (record { image = replicate 4 0; tally = 0 })).image ≡ 7 ∷ 0 ∷ 0 ∷ 0 ∷ [])
unfolding le put
order-shows = (refl, refl)

-- two hints of different objects, each at a place of its own: the list 0, 1 leaves what the run, 1 and then 0, leaves
abbrev apart : Steps ℕ ℕ
apart = record { places = λ k. 4 * k ∷ []; answer = λ k ws. k; news = λ k. Some (k + 7) ∷ []; add = λ k t. suc t }

pub either_order : (w : Work ℕ) → run_list (step_of apart) (0 ∷ 1 ∷ []) w ≡ run_list (step_of apart) (1 ∷ 0 ∷ []) w
unfolding choose
either_order w =
    parts apart 2 (λ a b t. refl) (λ k. span (4 * k) 4)
    (λ k h. words_inside (4 * k) 4 (let e : (4 * k ≤ 4 * k) × (4 * k + 4 ≤ 4 * k + 4) = omega arith in more e empty))
    (λ k. 1 - k) never
    (λ i j hi hj ne. spans_apart (4 * i) 4 (4 * j) 4 (less-or i j (λ h. inl (omega arith)) (λ h. inr (strict i j h ne))))
    (0 ∷ 1 ∷ []) once kept w
  where
    strict : (i j : ℕ) → j ≤ i → (1 - i ≢ 1 - j) → 4 * j + 4 ≤ 4 * i
    strict i j h ne = less-or j i (λ g. omega arith) (λ g. absurd (ne (ap (λ (k : ℕ). 1 - k) (let e : i ≡ j = omega arith in e))))

    once : Once 2 (0 ∷ 1 ∷ [])
    once = once-of 2 (0 ∷ 1 ∷ []) (more (lit< tt) (more (lit< tt) empty)) each
      where
        each : (k : ℕ) → k < 2 → count k (0 ∷ 1 ∷ []) ≡ 1
        each zero h = refl
        each (suc zero) h = refl
        each (suc (suc k)) h = absurd (omega arith)

    kept : Kept (λ k. 1 - k) never 2 (0 ∷ 1 ∷ [])
    kept = kept_of (λ k. 1 - k) never 2 (0 ∷ 1 ∷ []) once own
      where
        own : (o : ℕ) → o < 2 → of_obj (λ k. 1 - k) o (0 ∷ 1 ∷ []) ≡ passes (λ k. 1 - k) never 2 o
        own zero h = refl
        own (suc zero) h = refl
        own (suc (suc o)) h = absurd (omega arith)
