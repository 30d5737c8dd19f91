-- Round trips of the records: each theorem is proved once, of any layout, by the laws of fields; the six records are layouts.
use mathlib.Core.Path.{◌≡◌, refl, sym, ap, ap₂, ◌∙◌, subst}
use mathlib.Core.List.{List, [], ◌∷◌, ◌++◌, append_assoc}
use mathlib.Core.Logic.{inl, inr}
use Prim.Native.Nat.{ℕ, zero, suc, ◌+◌, ◌*◌, ◌%◌, ◌^◌, ◌≤◌, ◌<◌}
use native.Mathlib.Omega.{arith}
use native.Mathlib.Nat.{add-zero, zero-add, add_assoc, mul-zero, mul-suc, not-suc-le-zero}
use lib.Dec.{lit≤}
use lib.ListN.{length, get_or, set, take, drop, length-append}
use lib.Seq.{sets, sets-eq, length-take-le}
use Rattle.util.specs.Part.{part}
use Rattle.util.specs.Word.{le, put}
use Rattle.util.proofs.Word.{le-put, le-put-other}
use Rattle.macho.specs.Record.{Field, ◌of◌, unused, size_of, bytes_of, Fits, Zeros, list_bytes}
use Rattle.macho.specs.MachRel.{mach_rel_size, mach_rel_at, mach_rel_fields, mach_rel_bytes}
use Rattle.macho.specs.Reloc.{reloc_size, reloc_at, reloc_fields, reloc_bytes, with_signing}
use Rattle.macho.specs.Resolved.{resolved_size, resolved_at, resolved_fields, resolved_bytes}
use Rattle.macho.specs.Report.{report_size, report_at, report_fields, report_bytes}
use Rattle.macho.specs.Hint.{hint_size, insn_at, hint_at, hint_fields, hint_bytes}
use Rattle.macho.specs.RuleRecord.{rule_record_size, rule_record_at, rule_record_fields, rule_record_bytes}
use Rattle.macho.proofs.Record.{length-bytes_of, HoldsFrom, held, part_held, held-ext, held-unused}

-- a kind of record: its size, the value from a byte on, a value's fields and a value's bytes.
-- The bytes are those of the fields; a value whose fields stand from a byte on is the value there, and the value there has its fields there.
pub record Layout {A : Type 0} (size : ℕ) (value : List ℕ → ℕ → A) (fields : A → List Field) (image : A → List ℕ) : Type 0 where
  pub sized : (a : A) → size_of (fields a) ≡ size
  pub made : (a : A) → image a ≡ bytes_of (fields a)
  pub is : (a : A) (s : List ℕ) (at : ℕ) → HoldsFrom 0 (fields a) s at → value s at ≡ a
  pub has : (s : List ℕ) (at : ℕ) → HoldsFrom 0 (fields (value s at)) s at

module _ {A : Type 0} {n : ℕ} {value : List ℕ → ℕ → A} {fields : A → List Field} {image : A → List ℕ} (L : Layout n value fields image) where
  -- a record has its size
  pub length-image : (a : A) → length (image a) ≡ n
  length-image a = ap length (L.made a) ∙ length-bytes_of (fields a) ∙ L.sized a

  -- the value of the bytes of a value is the value, wherever they stand
  pub value-of-bytes : (a : A) (xs ys : List ℕ) (at : ℕ) → length xs ≡ at → Fits (fields a) → value (xs ++ (image a ++ ys)) at ≡ a
  value-of-bytes a xs ys at e h = rw (L.made a) (L.is a _ at (held (fields a) xs ys 0 at (omega arith) h))

  -- the bytes of the value of bytes are the bytes, where the unused ones are zero
  pub bytes-of-value : (s : List ℕ) (at : ℕ) → ((i : ℕ) → get_or s i 0 < 256) → at + n ≤ length s → Zeros (fields (value s at)) s at
      → image (value s at) ≡ part s at n
  bytes-of-value s at b l z =
      let v = value s at in
      L.made v
      ∙ part_held (fields v) s 0 at b (omega (arith, L.sized v)) (L.has s at) (rw (add-zero at) z)
      ∙ ap₂ (λ (i m : ℕ). part s i m) (add-zero at) (L.sized v)

  -- what an unused byte holds changes no value
  pub value-ignores : (fs gs : List Field) (s : List ℕ) (at v : ℕ) → fields (value s at) ≡ fs ++ (unused ∷ gs)
      → value (set s (at + size_of fs) v) at ≡ value s at
  value-ignores fs gs s at v e =
      L.is (value s at) _ at
      (rw (e, ← zero-add (size_of fs)) (held-unused fs gs s 0 at v (subst (λ (hs : List Field). HoldsFrom 0 hs s at) e (L.has s at))))

  -- a value is fixed by its bytes
  pub value-ext : (s t : List ℕ) (i j : ℕ) → ((k : ℕ) → k < n → get_or s (i + k) 0 ≡ get_or t (j + k) 0) → value s i ≡ value t j
  value-ext s t i j f =
      L.is (value t j) s i
      (held-ext (fields (value t j)) s t 0 i j (λ k a b. f k (omega (arith, L.sized (value t j)))) (L.has t j))

  -- a record that was stored is read
  pub value-stored : (a : A) (s : List ℕ) (at : ℕ) → at + n ≤ length s → Fits (fields a) → value (sets s at (image a)) at ≡ a
  value-stored a s at l h =
      rw (sets-eq (image a) s at (omega (arith, length-image a)), append_assoc (take at s) (image a) (drop (at + length (image a)) s))
      (value-of-bytes a (take at s) _ at (length-take-le at s (omega arith)) h)

  -- record k of a list of records that starts at `at`
  in_list : (rs : List A) (xs ys : List ℕ) (at k : ℕ) (d : A) → length xs ≡ at → k < length rs → Fits (fields (get_or rs k d))
      → value (xs ++ (list_bytes image rs ++ ys)) (at + n * k) ≡ get_or rs k d
  unfolding list_bytes
  in_list [] xs ys at k d e l h = absurd (not-suc-le-zero l)
  in_list (r ∷ rs) xs ys at zero d e l h =
      rw (mul-zero n, add-zero at, append_assoc (image r) (list_bytes image rs) ys)
      (value-of-bytes r xs _ at e h)
  in_list (r ∷ rs) xs ys at (suc k) d e l h =
      let m : at + n * suc k ≡ at + n + n * k = omega (arith, mul-suc n k) in
      rw (append_assoc (image r) (list_bytes image rs) ys, ← append_assoc xs (image r) (list_bytes image rs ++ ys), m)
      (in_list rs (xs ++ image r) ys (at + n) k d (simp (length-append, length-image r) (omega arith)) (omega arith) h)

  -- record k of a list of records
  pub value-in-list : (rs : List A) (ys : List ℕ) (k : ℕ) (d : A) → k < length rs → Fits (fields (get_or rs k d))
      → value (list_bytes image rs ++ ys) (n * k) ≡ get_or rs k d
  value-in-list rs ys k d l h = ap (value (list_bytes image rs ++ ys)) (sym (zero-add (n * k))) ∙ in_list rs [] ys 0 k d refl l h

-- the six records
pub mach_rel : Layout mach_rel_size mach_rel_at mach_rel_fields mach_rel_bytes
unfolding mach_rel_at mach_rel_bytes
mach_rel =
    record {
      sized = λ r. refl;
      made = λ r. refl;
      is = λ r s at (a, (b, z)). simp (a, b);
      has = λ s at. (refl, (refl, tt));
    }

pub reloc : Layout reloc_size reloc_at reloc_fields reloc_bytes
unfolding reloc_at reloc_bytes
reloc =
    record {
      sized = λ r. refl;
      made = λ r. refl;
      is = λ r s at (a, (b, (c, (d, (e, (f, (g, (h, z)))))))). simp (a, b, c, d, e, f, g, h);
      has = λ s at. (refl, (refl, (refl, (refl, (refl, (refl, (refl, (refl, tt))))))));
    }

pub resolved : Layout resolved_size resolved_at resolved_fields resolved_bytes
unfolding resolved_at resolved_bytes
resolved =
    record {
      sized = λ r. refl;
      made = λ r. refl;
      is = λ r s at (a, (b, (c, (d, (e, (f, (g, z))))))). simp (a, b, c, d, e, f, g);
      has = λ s at. (refl, (refl, (refl, (refl, (refl, (refl, (refl, tt)))))));
    }

pub report : Layout report_size report_at report_fields report_bytes
unfolding report_at report_bytes
report =
    record {
      sized = λ r. refl;
      made = λ r. refl;
      is = λ r s at (a, (b, (c, (d, (e, z))))). simp (a, b, c, d, e);
      has = λ s at. (refl, (refl, (refl, (refl, (refl, tt)))));
    }

pub hint : Layout hint_size hint_at hint_fields hint_bytes
unfolding insn_at hint_at hint_bytes
hint =
    record {
      sized = λ r. refl;
      made = λ r. refl;
      is = λ r s at (a, (b, (c, (d, (e, (f, (g, (h, (i, (j, (k, (l, (m, (n, z)))))))))))))). simp (add_assoc, a, b, c, d, e, f, g, h, i, j, k, l, m, n);
      has = λ s at.
          let e = add_assoc in
          (refl, (refl, (refl, (refl, (refl, (refl, (simp e, (simp e, (refl, (simp e, (simp e, (refl, (simp e, (simp e, tt))))))))))))));
    }

pub rule_record : Layout rule_record_size rule_record_at rule_record_fields rule_record_bytes
unfolding rule_record_at rule_record_bytes
rule_record =
    record {
      sized = λ r. refl;
      made = λ r. refl;
      is = λ r s at (a, (b, (c, (d, z)))). simp (a, b, c, d);
      has = λ s at. (refl, (refl, (refl, (refl, tt))));
    }

-- a report's two unused bytes, and a hint's
pub report-ignores : (s : List ℕ) (at u v : ℕ) → report_at (set (set s (at + 6) u) (at + 7) v) at ≡ report_at s at
report-ignores s at u v =
    value-ignores report (4 of _ ∷ 1 of _ ∷ 1 of _ ∷ unused ∷ []) _ _ at v refl
    ∙ value-ignores report (4 of _ ∷ 1 of _ ∷ 1 of _ ∷ []) _ s at u refl

pub hint-ignores : (s : List ℕ) (at u v : ℕ) → hint_at (set (set s (at + 2) u) (at + 3) v) at ≡ hint_at s at
hint-ignores s at u v =
    value-ignores hint (1 of _ ∷ 1 of _ ∷ unused ∷ []) _ _ at v refl
    ∙ value-ignores hint (1 of _ ∷ 1 of _ ∷ []) _ s at u refl

-- bytes 12 to 15 of an entry are its field `signing` and nothing else
pub reloc-signing : (s : List ℕ) (at v : ℕ) → at + 16 ≤ length s → reloc_at (put 4 s (at + 12) v) at ≡ with_signing (reloc_at s at) (v % 2 ^ 32)
unfolding reloc_at
reloc-signing s at v l =
    simp (le-put-other 4 4 s (at + 12) v at (inr (omega arith)), before 1 4 (lit≤ tt), before 1 5 (lit≤ tt), before 1 6 (lit≤ tt), before 1 7 (lit≤ tt))
    (simp (before 4 8 (lit≤ tt), le-put 4 s (at + 12) v (omega arith), le-put-other 8 4 s (at + 12) v (at + 16) (inl (omega arith))))
  where
    before : (n k : ℕ) → k + n ≤ 12 → le n (put 4 s (at + 12) v) (at + k) ≡ le n s (at + k)
    before n k h = le-put-other n 4 s (at + 12) v (at + k) (inr (omega arith))
