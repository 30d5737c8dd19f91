-- What a value that was read at a place says of the bytes there.
use Rattle.std.specs.Prelude.{Option, Some, None}
use mathlib.Core.Path.{◌≡◌, refl, sym, ap, ◌∙◌}
use mathlib.Core.Bool.{Bool, true, false}
use mathlib.Core.List.{List}
use Prim.Native.Nat.{ℕ, suc, ◌+◌, ◌-◌, ◌^◌, ◌≤◌, ◌<◌}
use native.Mathlib.Omega.{arith}
use borrow.Author.Tests.{ltb-true}
use lib.Dec.{ltb}
use lib.ListN.{length, drop, length-drop}
use lib.Seq.{drop-drop}
use Rattle.std.proofs.lemmas.Option.{none-some, some_pair_parts}
use Rattle.util.specs.Choice.{choose}
use Rattle.uleb.specs.Values.{Values, ended, cut, next, values_of, first_of, uleb_at}
use Rattle.uleb.proofs.Spelled.{each-value, rest-is}
use Rattle.uleb.proofs.Reading.{Stands}

-- the bytes after a value are the last ones
after-drop : (bs : List ℕ) (v : ℕ) (after : List ℕ) (rest : Values) → values_of bs ≡ next v after rest
    → (length after < length bs) × (after ≡ drop (length bs - length after) bs)
after-drop =
    each-value (λ bs v after rest. (length after < length bs) × (after ≡ drop (length bs - length after) bs))
    (λ b bs h.
    let e : suc (length bs) - length bs ≡ 1 = omega arith in
    (omega arith, rw e))
    (λ b bs v after rest h e p.
    let k : suc (length bs) - length after ≡ suc (length bs - length after) = omega (arith, p.0) in
    (omega (arith, p.0), rw k p.1))

-- a value that was read at a place stands there, up to the place after it
pub record Read (l : List ℕ) (at v end : ℕ) : Type 0 where
  pub stands : Stands l at v end
  pub small : v < 2 ^ 64
  pub onward : at < end
  pub within : end ≤ length l

pub read-value : (l : List ℕ) (at v end : ℕ) (u : Option (ℕ × ℕ)) → at ≤ length l → u ≡ Some (v, end) → u ≡ uleb_at l at → Read l at v end
unfolding uleb_at choose
read-value l at v end u h e f = go (values_of (drop at l)) refl (sym e ∙ f)
  where
    known : (w : ℕ) (after : List ℕ) (rest : Values) (t : Bool) → ltb w (2 ^ 64) ≡ t → values_of (drop at l) ≡ next w after rest
        → ◌≡◌ {A = Option (ℕ × ℕ)} (Some (v, end)) (choose t (Some (w, length l - length after)) None) → Read l at v end
    known w after rest true b s q =
        let parts = some_pair_parts v w end (length l - length after) q in
        let value = parts.0 in
        let place = parts.1 in
        let p = after-drop (drop at l) w after rest s in
        let n = length-drop at l in
        let k : at + (length (drop at l) - length after) ≡ end = omega (arith, p.0, n) in
        let tail : after ≡ drop end l = p.1 ∙ drop-drop (length (drop at l) - length after) at l ∙ ap (λ (j : ℕ). drop j l) k in
        record {
          stands = s ∙ rw (← tail, value, rest-is (drop at l) w after rest s);
          small = rw value (ltb-true w (2 ^ 64) b);
          onward = omega (arith, p.0, n);
          within = omega arith;
        }
    known w after rest false b s q = absurd (none-some (v, end) (sym q))

    go : (ns : Values) → values_of (drop at l) ≡ ns → Some (v, end) ≡ first_of (length l) ns → Read l at v end
    go ended s q = absurd (none-some (v, end) (sym q))
    go cut s q = absurd (none-some (v, end) (sym q))
    go (next w after rest) s q = known w after rest (ltb w (2 ^ 64)) refl s q

-- and none was read where none can be
pub read-refused : (l : List ℕ) (at : ℕ) (u : Option (ℕ × ℕ)) → u ≡ None → u ≡ uleb_at l at → first_of (length l) (values_of (drop at l)) ≡ None
unfolding uleb_at
read-refused l at u e f = sym f ∙ e
