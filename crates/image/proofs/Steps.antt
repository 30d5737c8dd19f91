-- A step is local to the bytes of its words, and steps whose footprints share no byte commute in image and tally.
use mathlib.Core.Path.{◌≡◌, ap, ◌∙◌, sym}
use mathlib.Core.Bool.{Bool}
use mathlib.Core.List.{List}
use Prim.Native.Nat.{ℕ}
use lib.ListN.{get_or}
use Rattle.image.specs.Words.{put_words}
use Rattle.image.specs.Local.{Apart, Reads, Writes, Local}
use Rattle.image.specs.Steps.{Work, step_by, Steps, foot_of, answered, written}
use Rattle.image.proofs.Local.{apart-sym, leaves, commute}
use Rattle.image.proofs.Words.{puts-write, words-read}

module _ {A T : Type 0} (s : Steps A T) (k : ℕ) where
  -- THE LAW: a step is local to its words, whatever it answers
  pub local-step : Local (foot_of s k) (written s k) (answered s k)
  local-step = record {
    writes = record {
      size = λ x. (puts x).size x;
      stays = λ x b h. (puts x).stays x b h;
      makes = λ x y l a b h. ap (λ (c : A). get_or (put_words (s.places k) (s.news c) x) b 0) (told x y a) ∙ (puts y).makes x y l a b h;
    };
    reads = told;
  }
    where
      told : Reads (foot_of s k) (answered s k)
      told x y a = ap (s.answer k) (words-read (s.places k) x y a)

      puts : (x : List ℕ) → Writes (foot_of s k) (put_words (s.places k) (s.news (answered s k x)))
      puts x = puts-write (foot_of s k) (s.places k) (s.news (answered s k x)) (λ b h. h)

module _ {A T : Type 0} (write : ℕ → List ℕ → List ℕ) (out : ℕ → List ℕ → A) (add : A → T → T)
    (swap : (a b : A) (t : T) → add a (add b t) ≡ add b (add a t)) where
  -- two steps whose footprints share no byte; `swap`: the tally does not depend on the order of the answers
  pub step-commute : (foot foot' : ℕ → Bool) (i j : ℕ) → Local foot (write i) (out i) → Local foot' (write j) (out j) → Apart foot foot' → (w : Work T)
      → step_by write out add i (step_by write out add j w) ≡ step_by write out add j (step_by write out add i w)
  step-commute foot foot' i j l l' apart w =
      let x : List ℕ = w.image in
      let t : T = w.tally in
      let p : write i (write j x) ≡ write j (write i x) = commute foot foot' (write i) (write j) l.writes l'.writes apart x in
      let oi : out i (write j x) ≡ out i x = l.reads (write j x) x (leaves foot foot' apart (write j) l'.writes x) in
      let oj : out j (write i x) ≡ out j x = l'.reads (write i x) x (leaves foot' foot (apart-sym apart) (write i) l.writes x) in
      let q : add (out i (write j x)) (add (out j x) t) ≡ add (out j (write i x)) (add (out i x) t)
      = ap (λ (o : A). add o (add (out j x) t)) oi ∙ swap (out i x) (out j x) t ∙ ap (λ (o : A). add o (add (out i x) t)) (sym oj) in
      λ d. record { image = p d; tally = q d }
