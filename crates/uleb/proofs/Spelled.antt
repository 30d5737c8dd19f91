-- The value that bytes spell first: what follows it, and the spellings that it has.
use mathlib.Core.Path.{◌≡◌, refl, sym, ap, ap₂, ◌∙◌, subst}
use mathlib.Core.Bool.{Bool, true, false, false≢true}
use mathlib.Core.List.{List, [], ◌∷◌, ◌++◌}
use Prim.Native.Nat.{ℕ, zero, suc, ◌+◌, ◌*◌, ◌/◌, ◌%◌, ◌^◌, ◌≤◌, ◌<◌}
use native.Mathlib.Omega.{arith}
use borrow.Author.Tests.{ltb-true, ltb-false, lt-ltb, le-ltb}
use lib.Dec.{ltb}
use lib.ListN.{length, replicate}
use lib.Pow.{pow-add, shr_lt}
use Rattle.util.specs.All.{All, empty, more}
use Rattle.util.proofs.Choice.{split, choose-true, choose-false}
use Rattle.uleb.specs.Values.{Values, ended, cut, next, below, values_of}
use Rattle.uleb.specs.Shortest.{uleb_within, uleb_of}
use Rattle.uleb.specs.Spelling.{spelling, SpelledIn}

-- ---- a byte before the rest

-- a byte after which none follow
pub final-byte : (b : ℕ) (bs : List ℕ) → b < 128 → values_of (b ∷ bs) ≡ next b bs (values_of bs)
unfolding values_of
final-byte b bs h = choose-true (ltb b 128) (next b bs (values_of bs)) (below (b % 128) (values_of bs)) (lt-ltb b 128 h)

-- a byte after which more follow
pub more_bytes : (b : ℕ) (bs : List ℕ) → 128 ≤ b → values_of (b ∷ bs) ≡ below (b % 128) (values_of bs)
unfolding values_of
more_bytes b bs h = choose-false (ltb b 128) (next b bs (values_of bs)) (below (b % 128) (values_of bs)) (le-ltb b 128 h)

-- the low seven bits of a value before what is left
pub low_byte : (v : ℕ) (bs after : List ℕ) (rest : Values) → values_of bs ≡ next (v / 128) after rest
    → values_of ((v % 128 + 128) ∷ bs) ≡ next v after rest
low_byte v bs after rest h =
    more_bytes (v % 128 + 128) bs (omega arith)
    ∙ ap (below ((v % 128 + 128) % 128)) h
    ∙ ap (λ (w : ℕ). next w after rest) {x = (v % 128 + 128) % 128 + 128 * (v / 128)} {y = v} (omega arith)

-- whether no byte is left
abbrev is_ended : Values → Bool
is_ended ended = true
is_ended cut = false
is_ended (next v after rest) = false

pub below-ended : (b : ℕ) (ns : Values) → below b ns ≡ ended → ⊥
below-ended b ended h = false≢true (ap is_ended h)
below-ended b cut h = false≢true (ap is_ended h)
below-ended b (next v after rest) h = false≢true (ap is_ended h)

pub no_bytes : (bs : List ℕ) → values_of bs ≡ ended → bs ≡ []
unfolding values_of
no_bytes [] h = refl
no_bytes (b ∷ bs) h =
    split (λ (ns : Values). ns ≡ ended → b ∷ bs ≡ []) (ltb b 128) (next b bs (values_of bs)) (below (b % 128) (values_of bs))
    (λ _ q. absurd (false≢true (ap is_ended q)))
    (λ _ q. absurd (below-ended (b % 128) (values_of bs) q))
    h

-- bytes that all say that more follow
pub all_more : (b : ℕ) (bs : List ℕ) → All (λ x. 128 ≤ x) (b ∷ bs) → values_of (b ∷ bs) ≡ cut
unfolding values_of
all_more b [] (more h a) = more_bytes b [] h
all_more b (c ∷ bs) (more h a) = more_bytes b (c ∷ bs) h ∙ ap (below (b % 128)) (all_more c bs a)

-- whether bytes are left, and none is the last of a value
abbrev is_cut : Values → Bool
is_cut ended = false
is_cut cut = true
is_cut (next v after rest) = false

below-cut : (b : ℕ) (bs : List ℕ) → (values_of bs ≡ cut → All (λ x. 128 ≤ x) bs) → (ns : Values) → values_of bs ≡ ns → below b ns ≡ cut → All (λ x. 128 ≤ x) bs
below-cut b bs f ended e h = subst (All (λ x. 128 ≤ x)) (sym (no_bytes bs e)) empty
below-cut b bs f cut e h = f e
below-cut b bs f (next v after rest) e h = absurd (false≢true (ap is_cut h))

pub only-more : (bs : List ℕ) → values_of bs ≡ cut → (1 ≤ length bs) × All (λ x. 128 ≤ x) bs
unfolding values_of
only-more [] h = absurd (false≢true (ap is_cut h))
only-more (b ∷ bs) h =
    split (λ (ns : Values). ns ≡ cut → (1 ≤ suc (length bs)) × All (λ x. 128 ≤ x) (b ∷ bs)) (ltb b 128)
    (next b bs (values_of bs))
    (below (b % 128) (values_of bs))
    (λ _ q. absurd (false≢true (ap is_cut q)))
    (λ t q. (omega arith, more (ltb-false b 128 t) (below-cut (b % 128) bs (λ e. (only-more bs e).1) (values_of bs) refl q)))
    h

-- ---- what is true of a last byte, and of a byte before more, is true of each value

module _ (P : List ℕ → ℕ → List ℕ → Values → Type 0)
    (last : (b : ℕ) (bs : List ℕ) → b < 128 → P (b ∷ bs) b bs (values_of bs))
    (then : (b : ℕ) (bs : List ℕ) (v : ℕ) (after : List ℕ) (rest : Values) → 128 ≤ b → values_of bs ≡ next v after rest → P bs v after rest
    → P (b ∷ bs) (b % 128 + 128 * v) after rest)
  where
    abbrev Of : List ℕ → Values → Type 0
    Of bs ended = Unit {0}
    Of bs cut = Unit {0}
    Of bs (next v after rest) = P bs v after rest

    of-below : (b : ℕ) (bs : List ℕ) (ns : Values) → 128 ≤ b → values_of bs ≡ ns → Of bs ns → Of (b ∷ bs) (below (b % 128) ns)
    of-below b bs ended h e p = tt
    of-below b bs cut h e p = tt
    of-below b bs (next v after rest) h e p = then b bs v after rest h e p

    of-each : (bs : List ℕ) → Of bs (values_of bs)
    unfolding values_of
    of-each [] = tt
    of-each (b ∷ bs) =
        split (Of (b ∷ bs)) (ltb b 128) (next b bs (values_of bs)) (below (b % 128) (values_of bs))
        (λ e. last b bs (ltb-true b 128 e))
        (λ e. of-below b bs (values_of bs) (ltb-false b 128 e) refl (of-each bs))

    pub each-value : (bs : List ℕ) (v : ℕ) (after : List ℕ) (rest : Values) → values_of bs ≡ next v after rest → P bs v after rest
    each-value bs v after rest h = subst (Of bs) h (of-each bs)

-- ---- what follows a value

-- the rest is what the bytes after it spell
pub rest-is : (bs : List ℕ) (v : ℕ) (after : List ℕ) (rest : Values) → values_of bs ≡ next v after rest → rest ≡ values_of after
rest-is = each-value (λ bs v after rest. rest ≡ values_of after) (λ b bs h. refl) (λ b bs v after rest h e p. p)

-- there are fewer of them
pub after-shorter : (bs : List ℕ) (v : ℕ) (after : List ℕ) (rest : Values) → values_of bs ≡ next v after rest → length after < length bs
after-shorter =
    each-value (λ bs v after rest. length after < length bs) (λ b bs h. omega arith) (λ b bs v after rest h e p. omega arith)

-- what every byte has, every byte after it has
pub after-all : (Q : ℕ → Type 0) (bs : List ℕ) (v : ℕ) (after : List ℕ) (rest : Values) → values_of bs ≡ next v after rest → All Q bs → All Q after
after-all Q = each-value (λ bs v after rest. All Q bs → All Q after) (λ b bs h. tail b bs) (λ b bs v after rest h e p a. p (tail b bs a))
  where
    tail : (b : ℕ) (bs : List ℕ) → All Q (b ∷ bs) → All Q bs
    tail b bs (more q a) = a

-- bytes are some that spell a value, and then other bytes
pub record Begins (bytes : List ℕ) (v : ℕ) (after : List ℕ) : Type 0 where
  pub front : List ℕ
  pub joined : bytes ≡ front ++ after
  pub spells : values_of front ≡ next v [] ended

-- the bytes before them spell the value
pub begins : (bs : List ℕ) (v : ℕ) (after : List ℕ) (rest : Values) → values_of bs ≡ next v after rest → Begins bs v after
unfolding values_of
begins =
    each-value (λ bs v after rest. Begins bs v after)
    (λ b bs h. record { front = b ∷ []; joined = refl; spells = final-byte b [] h })
    (λ b bs v after rest h e p.
    record {
      front = b ∷ p.front;
      joined = ap {B = List ℕ} (λ l. b ∷ l) p.joined;
      spells = more_bytes b p.front h ∙ ap (below (b % 128)) p.spells;
    })

-- whatever follows, the value is the same
pub append-value : (p bs : List ℕ) (v : ℕ) (after : List ℕ) (rest : Values) → values_of bs ≡ next v after rest
    → values_of (bs ++ p) ≡ next v (after ++ p) (values_of (after ++ p))
append-value p =
    each-value (λ bs v after rest. values_of (bs ++ p) ≡ next v (after ++ p) (values_of (after ++ p)))
    (λ b bs h. final-byte b (bs ++ p) h)
    (λ b bs v after rest h e q. more_bytes b (bs ++ p) h ∙ ap (below (b % 128)) q)

pub append-one : (s p : List ℕ) (v : ℕ) → values_of s ≡ next v [] ended → values_of (s ++ p) ≡ next v p (values_of p)
append-one s p v h = append-value p s v [] ended h

-- ---- the shortest spelling

-- what is left of a value of n + 2 bytes
pub left_lt : (n v : ℕ) → v < 2 ^ (7 * suc (suc n)) → v / 128 < 2 ^ (7 * suc n)
left_lt n v h = shr_lt (7 * suc n) 7 (subst (λ (k : ℕ). v < 2 ^ k) {x = 7 * suc (suc n)} {y = 7 * suc n + 7} (omega arith) h)

-- a value below 128 is a byte
pub within-last : (n v : ℕ) → 1 ≤ n → v < 128 → uleb_within n v ≡ v ∷ []
unfolding uleb_within
within-last zero v k h = absurd (omega arith)
within-last (suc n) v k h = choose-true (ltb v 128) (v ∷ []) ((v % 128 + 128) ∷ uleb_within n (v / 128)) (lt-ltb v 128 h)

within-back : (n v : ℕ) (bs : List ℕ) → v < 2 ^ (7 * suc n) → values_of (uleb_within (suc n) v ++ bs) ≡ next v bs (values_of bs)
unfolding uleb_within
within-back zero v bs h = ap (λ (s : List ℕ). values_of (s ++ bs)) (within-last 1 v (omega arith) h) ∙ final-byte v bs h
within-back (suc n) v bs h =
    split (λ (s : List ℕ). values_of (s ++ bs) ≡ next v bs (values_of bs)) (ltb v 128) (v ∷ []) ((v % 128 + 128) ∷ uleb_within (suc n) (v / 128))
    (λ e. final-byte v bs (ltb-true v 128 e))
    (λ e. low_byte v (uleb_within (suc n) (v / 128) ++ bs) bs (values_of bs) (within-back n (v / 128) bs (left_lt n v h)))

-- it is read back
pub value-back : (v : ℕ) (bs : List ℕ) → v < 2 ^ 64 → values_of (uleb_of v ++ bs) ≡ next v bs (values_of bs)
value-back v bs h = within-back 9 v bs (omega arith)

-- it has at least one byte, and at most as many as are allowed
within-some : (n v : ℕ) → 1 ≤ length (uleb_within (suc n) v)
unfolding uleb_within
within-some n v = split (λ (s : List ℕ). 1 ≤ length s) (ltb v 128) (v ∷ []) _ (λ e. omega arith) (λ e. omega arith)

within-most : (n v : ℕ) → length (uleb_within n v) ≤ n
unfolding uleb_within
within-most zero v = omega arith
within-most (suc n) v =
    split (λ (s : List ℕ). length s ≤ suc n) (ltb v 128) (v ∷ []) ((v % 128 + 128) ∷ uleb_within n (v / 128))
    (λ e. omega arith)
    (λ e. omega (arith, within-most n (v / 128)))

pub some_byte : (v : ℕ) → 1 ≤ length (uleb_of v)
some_byte v = within-some 9 v

pub ten-bytes : (v : ℕ) → length (uleb_of v) ≤ 10
ten-bytes v = within-most 10 v

-- each of them is a byte
within-bytes : (n v : ℕ) → All (λ b. b < 256) (uleb_within n v)
unfolding uleb_within
within-bytes zero v = empty
within-bytes (suc n) v =
    split (All (λ b. b < 256)) (ltb v 128) (v ∷ []) ((v % 128 + 128) ∷ uleb_within n (v / 128))
    (λ e. more (omega (arith, ltb-true v 128 e)) empty)
    (λ e. more (omega arith) (within-bytes n (v / 128)))

pub its-bytes : (v : ℕ) → All (λ b. b < 256) (uleb_of v)
its-bytes v = within-bytes 10 v

-- no spelling of the value is shorter
within-shortest : (bs : List ℕ) (v : ℕ) (after : List ℕ) (rest : Values) → values_of bs ≡ next v after rest
    → (n : ℕ) → length (uleb_within n v) + length after ≤ length bs
unfolding uleb_within
within-shortest = each-value (λ bs v after rest. (n : ℕ) → length (uleb_within n v) + length after ≤ length bs) last then
  where
    last : (b : ℕ) (bs : List ℕ) → b < 128 → (n : ℕ) → length (uleb_within n b) + length bs ≤ suc (length bs)
    last b bs h zero = omega arith
    last b bs h (suc n) = omega (arith, ap length (within-last (suc n) b (omega arith) h))

    then : (b : ℕ) (bs : List ℕ) (v : ℕ) (after : List ℕ) (rest : Values) → 128 ≤ b → values_of bs ≡ next v after rest
        → ((n : ℕ) → length (uleb_within n v) + length after ≤ length bs)
        → (n : ℕ) → length (uleb_within n (b % 128 + 128 * v)) + length after ≤ suc (length bs)
    then b bs v after rest h e p zero = omega (arith, p 0)
    then b bs v after rest h e p (suc n) =
        let w : ℕ = b % 128 + 128 * v in
        let left : w / 128 ≡ v = omega arith in
        split (λ (s : List ℕ). length s + length after ≤ suc (length bs)) (ltb w 128) (w ∷ []) ((w % 128 + 128) ∷ uleb_within n (w / 128))
        (λ _. omega (arith, p 0))
        (λ _. rw left (omega (arith, p n)))

pub shortest : (bs : List ℕ) (v : ℕ) (after : List ℕ) (rest : Values) → values_of bs ≡ next v after rest
    → length (uleb_of v) + length after ≤ length bs
shortest bs v after rest h = within-shortest bs v after rest h 10

-- ---- spellings of any length

-- each that has room for the value is read as it
pub any-length : (n v : ℕ) (bs : List ℕ) → v < 2 ^ (7 * suc n) → values_of (spelling n v ++ bs) ≡ next v bs (values_of bs)
unfolding spelling
any-length zero v bs h = final-byte v bs h
any-length (suc n) v bs h = low_byte v (spelling n (v / 128) ++ bs) bs (values_of bs) (any-length n (v / 128) bs (left_lt n v h))

-- 0 has one of each length
pub zero-spelled : (n : ℕ) → values_of (replicate n 128 ++ (0 ∷ [])) ≡ next 0 [] ended
unfolding values_of
zero-spelled zero = final-byte 0 [] (omega arith)
zero-spelled (suc n) = more_bytes 128 (replicate n 128 ++ (0 ∷ [])) (omega arith) ∙ ap (below 0) (zero-spelled n)

-- no other bytes are read as it
pub only-spellings : (bs : List ℕ) (v : ℕ) (after : List ℕ) (rest : Values) → values_of bs ≡ next v after rest → All (λ b. b < 256) bs
    → SpelledIn bs v after
unfolding spelling
only-spellings = each-value (λ bs v after rest. All (λ b. b < 256) bs → SpelledIn bs v after) last then
  where
    last : (b : ℕ) (bs : List ℕ) → b < 128 → All (λ b. b < 256) (b ∷ bs) → SpelledIn (b ∷ bs) b bs
    last b bs h a = record { n = 0; fits = h; joined = refl }

    then : (b : ℕ) (bs : List ℕ) (v : ℕ) (after : List ℕ) (rest : Values) → 128 ≤ b → values_of bs ≡ next v after rest
        → (All (λ b. b < 256) bs → SpelledIn bs v after)
        → All (λ b. b < 256) (b ∷ bs) → SpelledIn (b ∷ bs) (b % 128 + 128 * v) after
    then b bs v after rest h e p (more q a) =
        let s : SpelledIn bs v after = p a in
        let w : ℕ = b % 128 + 128 * v in
        let low : w % 128 + 128 ≡ b = omega arith in
        let left : w / 128 ≡ v = omega arith in
        let room : 2 ^ (7 * suc (suc s.n)) ≡ 2 ^ (7 * suc s.n) * 128 =
        ap (λ (k : ℕ). 2 ^ k) {x = 7 * suc (suc s.n)} {y = 7 * suc s.n + 7} (omega arith) ∙ pow-add 2 (7 * suc s.n) 7 in
        record {
          n = suc s.n;
          fits = rw room (omega (arith, s.fits));
          joined = ap₂ {C = List ℕ} (λ (x : ℕ) (l : List ℕ). x ∷ l) (sym low) (s.joined ∙ ap (λ (x : ℕ). spelling s.n x ++ after) (sym left));
        }
