-- An entry says the whole class: the fields of the number, one by one. Two classes with the same fields are the same.
use Rattle.std.specs.Prelude.{Option, Some, None}
use mathlib.Core.Path.{◌≡◌, refl, sym, ap, ◌∙◌}
use mathlib.Core.Bool.{Bool, true, false, ◌&&◌, false≢true}
use Prim.Native.Nat.{ℕ, ◌+◌, ◌*◌, ◌/◌, ◌%◌, ◌≤◌, ◌<◌}
use native.Mathlib.Omega.{arith}
use borrow.Author.Tests.{ne_eqb, eq-eqb, eqb-true, eqb-false}
use lib.Dec.{eqb}
use lib.Pow.{shr-shr}
use Rattle.util.specs.Choice.{choose, flag}
use Rattle.util.proofs.Choice.{split, choose-false, both, agree, agree-is}
use Rattle.util.proofs.Flags.{cast-flag}
use Rattle.arm64_ldst_class.specs.Entry.{moves, entry_of, class_in}
use Rattle.arm64_ldst_class.specs.declared.LoadStoreClass.{LoadStoreClass}

-- a bit that is set, and one that is not
flag-back : (b : Bool) (n : ℕ) → n ≡ flag b → eqb n 1 ≡ b
flag-back true n e = eq-eqb n 1 e
flag-back false n e = ne_eqb n 1 (λ (f : n ≡ 1). omega arith)

-- a class that moves bytes
pub moves-back : (n : ℕ) (s v l : Bool) → 1 ≤ n → class_in (entry_of (Some (moves n s v l))) ≡ Some (moves n s v l)
moves-back n s v l h =
    let e = n * 8 + flag s * 4 + flag v * 2 + flag l in
    let a = (cast-flag s).1 in
    let b = (cast-flag v).1 in
    let c = (cast-flag l).1 in
    let bytes : e / 8 ≡ n = omega arith in
    let stores : eqb (e / 4 % 2) 1 ≡ s = flag-back s (e / 4 % 2) (omega arith) in
    let vector : eqb (e / 2 % 2) 1 ≡ v = flag-back v (e / 2 % 2) (omega arith) in
    let ldrsw : eqb (e % 2) 1 ≡ l = flag-back l (e % 2) (omega arith) in
    choose-false (eqb e 0) _ _ (ne_eqb e 0 (λ (f : e ≡ 0). omega arith)) ∙ cc (bytes, stores, vector, ldrsw)

pub neither-back : class_in (entry_of None) ≡ None
unfolding choose
neither-back = refl

-- a bit of a number
flag_is : (n : ℕ) → n < 2 → flag (eqb n 1) ≡ n
flag_is n h = go (eqb n 1) refl
  where
    go : (t : Bool) → eqb n 1 ≡ t → flag t ≡ n
    go true e = sym (eqb-true n 1 e)
    go false e = let f = eqb-false n 1 e in omega arith

-- the fields of a number give it back
joined : (e : ℕ) → entry_of (Some (moves (e / 8) (eqb (e / 4 % 2) 1) (eqb (e / 2 % 2) 1) (eqb (e % 2) 1))) ≡ e
joined e =
    let a : e / 4 / 2 ≡ e / 8 = shr-shr e 2 1 in
    let b : e / 2 / 2 ≡ e / 4 = shr-shr e 1 1 in
    rw (flag_is (e / 4 % 2) (omega arith), flag_is (e / 2 % 2) (omega arith), flag_is (e % 2) (omega arith)) (omega (arith, a, b))

-- every number is the entry of its class
pub entry-back : (e : ℕ) → entry_of (class_in e) ≡ e
entry-back e =
    split (λ (c : Option LoadStoreClass). entry_of c ≡ e) (eqb e 0) None (Some (moves (e / 8) (eqb (e / 4 % 2) 1) (eqb (e / 2 % 2) 1) (eqb (e % 2) 1)))
    (λ z. sym (eqb-true e 0 z)) (λ z. joined e)

-- whether two classes are the same
abbrev pub same : Option LoadStoreClass → Option LoadStoreClass → Bool
same (Some a) (Some b) = eqb a.bytes b.bytes && (agree a.stores b.stores && (agree a.vector b.vector && agree a.ldrsw b.ldrsw))
same (Some a) None = false
same None (Some b) = false
same None None = true

pub same-is : (a b : Option LoadStoreClass) → same a b ≡ true → a ≡ b
same-is (Some a) (Some b) e =
    let p = both (eqb a.bytes b.bytes) (agree a.stores b.stores && (agree a.vector b.vector && agree a.ldrsw b.ldrsw)) e in
    let q = both (agree a.stores b.stores) (agree a.vector b.vector && agree a.ldrsw b.ldrsw) p.1 in
    let r = both (agree a.vector b.vector) (agree a.ldrsw b.ldrsw) q.1 in
    ap (λ (n : ℕ). Some (moves n a.stores a.vector a.ldrsw)) (eqb-true a.bytes b.bytes p.0)
    ∙ ap (λ (t : Bool). Some (moves b.bytes t a.vector a.ldrsw)) (agree-is a.stores b.stores q.0)
    ∙ ap (λ (t : Bool). Some (moves b.bytes b.stores t a.ldrsw)) (agree-is a.vector b.vector r.0)
    ∙ ap (λ (t : Bool). Some (moves b.bytes b.stores b.vector t)) (agree-is a.ldrsw b.ldrsw r.1)
same-is (Some a) None e = absurd (false≢true e)
same-is None (Some b) e = absurd (false≢true e)
same-is None None e = refl
