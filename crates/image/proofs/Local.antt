-- Local steps whose footprints share no byte commute, byte by byte.
use mathlib.Core.Path.{◌≡◌, refl, sym, ◌∙◌}
use mathlib.Core.Bool.{Bool, true, false, true≢false}
use mathlib.Core.List.{List}
use Prim.Native.Nat.{ℕ}
use lib.ListN.{length, get_or}
use lib.Seq.{ext_get_or}
use Rattle.image.specs.Local.{SameBytes, Apart, Reads, Writes, Local}

pub apart-sym : {foot foot' : ℕ → Bool} → Apart foot foot' → Apart foot' foot
apart-sym a b h g = a b g h

-- a byte of one footprint is not of another that is apart
pub outside : (foot foot' : ℕ → Bool) → Apart foot foot' → (b : ℕ) → foot b ≡ true → foot' b ≡ false
outside foot foot' a b h = go (foot' b) refl
  where
    go : (c : Bool) → foot' b ≡ c → foot' b ≡ false
    go true e = absurd (a b h e)
    go false e = e

module _ (foot foot' : ℕ → Bool) (apart : Apart foot foot') where
  -- another step leaves the footprint's bytes
  pub leaves : (write' : List ℕ → List ℕ) → Writes foot' write' → (x : List ℕ) → SameBytes foot (write' x) x
  leaves write' w x b h = w.stays x b (outside foot foot' apart b h)

module _ (foot foot' : ℕ → Bool) (write write' : List ℕ → List ℕ) (w : Writes foot write) (w' : Writes foot' write') (apart : Apart foot foot') where
  commute-at : (x : List ℕ) (b : ℕ) (c d : Bool) → foot b ≡ c → foot' b ≡ d → get_or (write (write' x)) b 0 ≡ get_or (write' (write x)) b 0
  commute-at x b true d p q =
      w.makes (write' x) x (w'.size x) (leaves foot foot' apart write' w' x) b p
      ∙ sym (w'.stays (write x) b (outside foot foot' apart b p))
  commute-at x b false true p q =
      w.stays (write' x) b p
      ∙ sym (w'.makes (write x) x (w.size x) (leaves foot' foot (apart-sym apart) write w x) b q)
  commute-at x b false false p q = w.stays (write' x) b p ∙ w'.stays x b q ∙ sym (w.stays x b p) ∙ sym (w'.stays (write x) b q)

  pub commute : (x : List ℕ) → write (write' x) ≡ write' (write x)
  commute x =
      ext_get_or 0 (write (write' x)) (write' (write x))
      (w.size (write' x) ∙ w'.size x ∙ sym (w.size x) ∙ sym (w'.size (write x)))
      (λ b h. commute-at x b (foot b) (foot' b) refl refl)

-- a wider footprint serves too
module _ (foot wide : ℕ → Bool) (sub : (b : ℕ) → foot b ≡ true → wide b ≡ true) where
  pub reads-wide : {A : Type 0} (out : List ℕ → A) → Reads foot out → Reads wide out
  reads-wide out r x y a = r x y (λ b h. a b (sub b h))

  pub writes-wide : (write : List ℕ → List ℕ) → Writes foot write → Writes wide write
  writes-wide write w = record {
    size = w.size;
    stays = λ x b h. w.stays x b (narrow b h (foot b) refl);
    makes = λ x y e a b h. at x y e a b h (foot b) refl;
  }
    where
      narrow : (b : ℕ) → wide b ≡ false → (c : Bool) → foot b ≡ c → foot b ≡ false
      narrow b h true e = absurd (true≢false (sym (sub b e) ∙ h))
      narrow b h false e = e

      at : (x y : List ℕ) → length x ≡ length y → SameBytes wide x y → (b : ℕ) → wide b ≡ true → (c : Bool) → foot b ≡ c
          → get_or (write x) b 0 ≡ get_or (write y) b 0
      at x y l a b h true e = w.makes x y l (λ d g. a d (sub d g)) b e
      at x y l a b h false e = w.stays x b e ∙ a b h ∙ sym (w.stays y b e)

  pub local-wide : {A : Type 0} (write : List ℕ → List ℕ) (out : List ℕ → A) → Local foot write out → Local wide write out
  local-wide write out s = record { writes = writes-wide write s.writes; reads = reads-wide out s.reads }
