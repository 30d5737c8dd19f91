-- Where branches go after the fix-up, from the manual's definitions: for entry k of any accepted list that no SUBTRACTOR consumes and whose
-- bytes no other entry writes. The words are those of arm64_insn's `Encodes`, their targets those of its `Meaning`.
use Rattle.std.specs.Prelude.{Option, Some, None}
use mathlib.Core.Path.{◌≡◌, refl, ap, ◌∙◌}
use mathlib.Core.Bool.{Bool, true, false}
use mathlib.Core.List.{List}
use Prim.Native.Nat.{ℕ, ◌+◌, ◌*◌, ◌%◌, ◌^◌, ◌<◌}
use native.Mathlib.Omega.{arith}
use native.Mathlib.Nat.{mod-eq_of_lt}
use Rattle.util.specs.Choice.{choose}
use Rattle.util.specs.Bits.{field}
use Rattle.util.specs.Wrap.{diff}
use Rattle.util.proofs.Choice.{chosen, choose-true, choose-false}
use Rattle.util.proofs.Word.{le-lt}
use Rattle.macho.specs.Types.{ARM64_RELOC_BRANCH26, ARM64_RELOC_GOT_LOAD_PAGE21}
use Rattle.macho.specs.Resolved.{resolved_size, resolved_at, has_helper, helper_is_own, is_probe, is_enabled}
use Rattle.macho.specs.declared.reloc.Reloc.{Reloc}
use Rattle.macho.specs.declared.resolved.Resolved.{Resolved}
use Rattle.macho.specs.declared.report.Report.{Report}
use Rattle.arm64_insn.specs.Manual.{B, BL, NOP, MOVZ, instruction, decode}
use Rattle.arm64_insn.specs.Fix.{nop_word, is_enabled_word}
use Rattle.arm64_insn.specs.ManualTargets as M
use Rattle.arm64_insn.specs.Branch.{branch_reaches, branch_word, helper_word}
use Rattle.arm64_insn.proofs.Encodes.{b-patched, bl-patched, helper-made, nop-made, is-enabled-made}
use Rattle.arm64_insn.proofs.Meaning.{branch-means}
use Rattle.arm64_insn.proofs.Manual.{encode-lt}
use Rattle.arm64_fixup_entry.specs.Target.{is_symbol, address_of}
use Rattle.arm64_fixup_entry.specs.Change.{silent, reported, branch_target, thunk_serves, dtrace_site_insn, branch, displacement, branch_unless, got_page21}
use Rattle.arm64_fixup.specs.Walk.{lent_entry, lent_target, Fixed}
use Rattle.arm64_fixup.specs.Footprint.{Lone, word_at}
use Rattle.arm64_fixup_entry.specs.declared.target.Bases.{Bases}
use Rattle.arm64_fixup_entry.specs.declared.change.Site.{Site}
use Rattle.arm64_fixup_entry.specs.declared.change.Change.{Change}
use Rattle.arm64_fixup_entry.specs.declared.change.Write.TheVariants.{Word}
use Rattle.arm64_fixup_entry.proofs.ByType.{site_of, branch-does, branch-untraced, got-page-does}
use Rattle.arm64_fixup.proofs.Lone.{passed, stores-word}

by_tests : (word : ℕ) (x y : Bool) (d c : ℕ) (r : Report)
    → (choose x (silent (Word (branch_word word d))) (choose y (silent (Word (branch_word word c))) (reported (Word (branch_word word d)) r))).write
    ≡ Word (branch_word word (choose x d (choose y c d)))
unfolding choose
by_tests word true y d c r = refl
by_tests word false true d c r = refl
by_tests word false false d c r = refl

branch-write : (s : Site) (e : Reloc) (t : Resolved) (word : ℕ) → (branch s e t word).write ≡ Word (branch_word word (displacement e t s.addr))
unfolding branch
branch-write s e t word = by_tests word (branch_reaches (branch_target e t) s.addr) (thunk_serves e t (branch_target e t)) _ _ _

branch-lt : (e : Reloc) (t : Resolved) → branch_target e t < 2 ^ 64
unfolding branch_target
branch-lt e t = omega arith

-- thunk and helper are 64-bit numbers, as they are read from 8 bytes
thunk-lt : (targets : List ℕ) (k : ℕ) → (lent_target targets k).thunk < 2 ^ 64
unfolding resolved_at
thunk-lt targets k = le-lt 8 targets (resolved_size * k + 24)

helper-field-lt : (targets : List ℕ) (k : ℕ) → (lent_target targets k).helper < 2 ^ 64
unfolding resolved_at
helper-field-lt targets k = le-lt 8 targets (resolved_size * k + 32)

branch-word-lt : (w d : ℕ) → branch_word w d < 2 ^ 32
unfolding branch_word
branch-word-lt w d = omega arith

module _ {section : List ℕ} {b : Bases} {entries targets slots : List ℕ} {f : Fixed} {k : ℕ} (l : Lone section b entries targets slots f k)
    (ty : (lent_entry entries k).ty ≡ ARM64_RELOC_BRANCH26) (plain : dtrace_site_insn (lent_entry entries k) (lent_target targets k) ≡ None)
  where
    -- any word, at no tracing site: bits 31..26 stay, the others are the displacement in words
    pub branch-word : word_at entries f.section k
        ≡ branch_word (word_at entries section k) (displacement (lent_entry entries k) (lent_target targets k) (address_of b (lent_entry entries k)))
    branch-word =
        stores-word l
        (ap (λ (c : Change). c.write) (branch-untraced b k _ _ _ _ _ ty plain)
        ∙ branch-write (site_of b k (lent_entry entries k)) (lent_entry entries k) (lent_target targets k) (word_at entries section k))
        ∙ mod-eq_of_lt
        (branch-word-lt (word_at entries section k) (displacement (lent_entry entries k) (lent_target targets k) (address_of b (lent_entry entries k))))

    -- a B stays a B, and a BL a BL
    pub b-stays : (imm26 : ℕ) → decode (word_at entries section k) ≡ instruction (B imm26)
        → decode (word_at entries f.section k)
        ≡ instruction (B (field (displacement (lent_entry entries k) (lent_target targets k) (address_of b (lent_entry entries k))) 2 26))
    b-stays imm26 d = ap decode branch-word ∙ b-patched _ imm26 _ d

    pub bl-stays : (imm26 : ℕ) → decode (word_at entries section k) ≡ instruction (BL imm26)
        → decode (word_at entries f.section k)
        ≡ instruction (BL (field (displacement (lent_entry entries k) (lent_target targets k) (address_of b (lent_entry entries k))) 2 26))
    bl-stays imm26 d = ap decode branch-word ∙ bl-patched _ imm26 _ d

    -- in reach it goes to T, where place and T are multiples of 4
    pub goes : branch_reaches (branch_target (lent_entry entries k) (lent_target targets k)) (address_of b (lent_entry entries k)) ≡ true
        → branch_target (lent_entry entries k) (lent_target targets k) % 4 ≡ 0
        → address_of b (lent_entry entries k) % 4 ≡ 0
        → M.branch_target (field (displacement (lent_entry entries k) (lent_target targets k) (address_of b (lent_entry entries k))) 2 26)
        (address_of b (lent_entry entries k))
        ≡ branch_target (lent_entry entries k) (lent_target targets k)
    goes near t p =
        ap (λ (d : ℕ). M.branch_target (field d 2 26) (address_of b (lent_entry entries k))) (choose-true _ _ _ near)
        ∙ branch-means _ _ (branch-lt _ _) (passed l).address near t p

    -- else, where a thunk serves and is in reach of the branch, to the thunk
    pub goes-by-thunk : branch_reaches (branch_target (lent_entry entries k) (lent_target targets k)) (address_of b (lent_entry entries k)) ≡ false
        → thunk_serves (lent_entry entries k) (lent_target targets k) (branch_target (lent_entry entries k) (lent_target targets k)) ≡ true
        → branch_reaches (lent_target targets k).thunk (address_of b (lent_entry entries k)) ≡ true
        → (lent_target targets k).thunk % 4 ≡ 0
        → address_of b (lent_entry entries k) % 4 ≡ 0
        → M.branch_target (field (displacement (lent_entry entries k) (lent_target targets k) (address_of b (lent_entry entries k))) 2 26)
        (address_of b (lent_entry entries k))
        ≡ (lent_target targets k).thunk
    goes-by-thunk far serves near t p =
        ap (λ (d : ℕ). M.branch_target (field d 2 26) (address_of b (lent_entry entries k))) (choose-false _ _ _ far ∙ choose-true _ _ _ serves)
        ∙ branch-means _ _ (thunk-lt targets k) (passed l).address near t p

-- at a tracing site
module _ {section : List ℕ} {b : Bases} {entries targets slots : List ℕ} {f : Fixed} {k : ℕ} (l : Lone section b entries targets slots f k)
    (ty : (lent_entry entries k).ty ≡ ARM64_RELOC_BRANCH26)
  where
    site-word : {w : ℕ} → dtrace_site_insn (lent_entry entries k) (lent_target targets k) ≡ Some w → word_at entries f.section k ≡ w % 2 ^ 32
    site-word d =
        stores-word l
        (ap (λ (c : Change). c.write)
        (branch-does b k _ _ _ _ _ ty
        ∙ ap
        (λ (d : Option ℕ). branch_unless d (branch (site_of b k (lent_entry entries k)) (lent_entry entries k) (lent_target targets k) (word_at entries section k)))
        d))

    -- a symbol's probe becomes NOP, is-enabled "movz x0, #0"
    pub probe-site : is_symbol (lent_entry entries k) ≡ true → is_probe (lent_target targets k) ≡ true → decode (word_at entries f.section k) ≡ instruction NOP
    unfolding dtrace_site_insn choose
    probe-site s p = ap decode (site-word {w = nop_word} (rw (s, p))) ∙ nop-made

    pub is-enabled-site : is_symbol (lent_entry entries k) ≡ true → is_probe (lent_target targets k) ≡ false → is_enabled (lent_target targets k) ≡ true
        → decode (word_at entries f.section k) ≡ instruction (MOVZ 1 0 0 0)
    unfolding dtrace_site_insn choose
    is-enabled-site s p e = ap decode (site-word {w = is_enabled_word} (rw (s, p, e))) ∙ is-enabled-made

-- a GOT page with a helper becomes a B, to one of the site's own, or a BL
helped : (s : Site) (e : Reloc) (t : Resolved) (word : ℕ) → has_helper t ≡ true
    → got_page21 s e t word ≡ silent (Word (helper_word (helper_is_own t) (diff t.helper s.addr)))
unfolding got_page21 choose
helped s e t word h = rw h

helper-lt : (own : Bool) (d : ℕ) → helper_word own d < 2 ^ 32
unfolding helper_word
helper-lt own d = chosen (λ (w : ℕ). w < 2 ^ 32) own _ _ (encode-lt (B (field d 2 26)) (omega arith)) (encode-lt (BL (field d 2 26)) (omega arith))

module _ {section : List ℕ} {b : Bases} {entries targets slots : List ℕ} {f : Fixed} {k : ℕ} (l : Lone section b entries targets slots f k)
    (ty : (lent_entry entries k).ty ≡ ARM64_RELOC_GOT_LOAD_PAGE21) (h : has_helper (lent_target targets k) ≡ true)
  where
    helper-word : word_at entries f.section k
        ≡ helper_word (helper_is_own (lent_target targets k)) (diff (lent_target targets k).helper (address_of b (lent_entry entries k)))
    helper-word =
        stores-word l (ap (λ (c : Change). c.write) (got-page-does b k _ _ _ _ _ ty ∙ helped _ _ _ _ h))
        ∙ mod-eq_of_lt (helper-lt (helper_is_own (lent_target targets k)) (diff (lent_target targets k).helper (address_of b (lent_entry entries k))))

    pub helper-own : helper_is_own (lent_target targets k) ≡ true
        → decode (word_at entries f.section k) ≡ instruction (B (field (diff (lent_target targets k).helper (address_of b (lent_entry entries k))) 2 26))
    helper-own o =
        ap decode (helper-word ∙ ap (λ (t : Bool). helper_word t (diff (lent_target targets k).helper (address_of b (lent_entry entries k)))) o) ∙ (helper-made _).0

    pub helper-shared : helper_is_own (lent_target targets k) ≡ false
        → decode (word_at entries f.section k)
        ≡ instruction (BL (field (diff (lent_target targets k).helper (address_of b (lent_entry entries k))) 2 26))
    helper-shared o =
        ap decode (helper-word ∙ ap (λ (t : Bool). helper_word t (diff (lent_target targets k).helper (address_of b (lent_entry entries k)))) o) ∙ (helper-made _).1

    -- in reach, where place and helper are multiples of 4, it goes to the helper
    pub helper-goes : branch_reaches (lent_target targets k).helper (address_of b (lent_entry entries k)) ≡ true
        → (lent_target targets k).helper % 4 ≡ 0
        → address_of b (lent_entry entries k) % 4 ≡ 0
        → M.branch_target (field (diff (lent_target targets k).helper (address_of b (lent_entry entries k))) 2 26) (address_of b (lent_entry entries k))
        ≡ (lent_target targets k).helper
    helper-goes near t p = branch-means _ _ (helper-field-lt targets k) (passed l).address near t p
