-- Each premise is needed: hints that meet all the others, with what the run really makes of them, and a run of the machine that tells the two apart.
use mathlib.Core.Path.{◌≡◌, refl, ap}
use mathlib.Core.Bool.{true, false}
use mathlib.Core.List.{List, [], ◌∷◌}
use Prim.Native.Nat.{ℕ, suc}
use native.Mathlib.Omega.{arith}
use lib.Dec.{lit<}
use Rattle.macho.specs.Hint.{no_entry, hint_of}
use Rattle.arm64_machine.specs.Machine.{Access}
use Rattle.arm64_machine.specs.Examples.{start, idle}
use Rattle.arm64_hint_work.specs.Step.{places_of}
use Rattle.arm64_hint_kept.specs.HintsKept.{Disjoint}
use Rattle.arm64_hint_kept.specs.Examples.{place, none-at, hint_in, lent, pair, got_pair}
use Rattle.arm64_hint_kept.specs.Needed.{Fails, sharing, Shared, Meeting}
use Rattle.arm64_hint_kept.proofs.Computing.{runs, machine}
use Rattle.arm64_hint_kept.proofs.Tests.{once_by, kept_by}

-- one more than the address of the first access, and its value; 0 where there is none
abbrev pub address : List Access → ℕ
address [] = 0
address (a ∷ log) = suc a.address

abbrev value : List Access → ℕ
value [] = 0
value (a ∷ log) = a.value

-- disjoint: ADRP_ADRP that names one word twice blanks it
pub one-word-twice : Fails pair (hint_in 1 0 0 4 (place 0 0 0x1000) (place 0 0 0x1000) none-at) (0x90000000 ∷ [])
    (false ∷ true ∷ true ∷ []) (0xd503201f ∷ [])
unfolding runs machine
one-word-twice = record {
  premises = refl;
  done = refl;
  leaves = refl;
  differ = λ same. let z : ◌≡◌ {A = ℕ} 0x1000 0x10f0 = (same.agree idle start).x 0 (lit< tt) refl in omega arith;
}

-- its two words are one
pub one-word-shared : Disjoint (places_of (hint_of (lent (hint_in 1 0 0 4 (place 0 0 0x1000) (place 0 0 0x1000) none-at ∷ [])) 0)) → ⊥
unfolding runs
one-word-shared d = d.0 0 refl refl

-- aligned: from 0x1006 no literal load reaches a multiple of 4
pub unaligned : Fails pair (hint_in 2 0 0 8 (place 0 0 0x1002) (place 4 1 0x1006) none-at) (0x90000000 ∷ 0x3ded9c01 ∷ [])
    (true ∷ false ∷ true ∷ []) (0xd503201f ∷ 0x9c05b341 ∷ [])
unfolding runs machine
unaligned = record {
  premises = refl;
  done = refl;
  leaves = refl;
  differ = λ same. let z : ◌≡◌ {A = ℕ} 0xc671 0xc66f = ap address (same.agree idle start).log in omega arith;
}

-- no store of what was made: str x0, [x2] stores what ADRP made
pub made-and-stored : Fails got_pair (hint_in 6 0 0 12 (place 0 0 0x1000) (place 4 1 0x1004) (place 8 no_entry 0x1008)) (0x90000000 ∷ 0x91004002 ∷ 0xf9000040 ∷ [])
    (true ∷ true ∷ false ∷ []) (0x10000082 ∷ 0xd503201f ∷ 0xf9000040 ∷ [])
unfolding runs machine
made-and-stored = record {
  premises = refl;
  done = refl;
  leaves = refl;
  differ = λ same. let z : ◌≡◌ {A = ℕ} 0x1000 0x10f0 = ap value (same.agree idle start).log in omega arith;
}

-- ---- hints that share a byte

pub not-alone : Shared
unfolding runs machine
not-alone = record {
  premises = refl;
  done = refl;
  leaves = refl;
  differ = λ same. let z : ◌≡◌ {A = ℕ} 0x1003 0x10f3 = (same.agree idle start).x 2 (lit< tt) refl in omega arith;
  together = λ alone. alone 0 (lit< tt) (λ e. omega arith) 0 refl refl;
}

pub parts_meet : Meeting
unfolding runs
parts_meet = record {
  done = refl;
  own = refl;
  leaves = refl;
  other = refl;
  once = once_by 2 (0 ∷ 1 ∷ []) refl refl;
  kept = kept_by (lent (sharing 2 1)) (0 ∷ 1 ∷ []) (once_by 2 (0 ∷ 1 ∷ []) refl refl) refl;
  meet = λ apart. apart 0 1 (lit< tt) (lit< tt) (λ e. let z : ◌≡◌ {A = ℕ} 2 1 = e in omega arith) 0 refl refl;
}
