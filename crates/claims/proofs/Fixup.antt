-- What the fix-up makes of a section: the theorems of arm64_fixup, gathered by entry.
use Rattle.std.specs.Prelude.{Result, Ok, Err}
use mathlib.Core.Path.{◌≡◌, refl, ap, ◌∙◌}
use mathlib.Core.List.{List}
use Prim.Native.Nat.{ℕ}
use native.Mathlib.Omega.{arith}
use Rattle.util.specs.Choice.{choose}
use Rattle.macho.specs.Refusal.{answer_number}
use Rattle.macho.specs.declared.refusal.Refusal.{Refusal}
use Rattle.arm64_insn.specs.Manual.{ADRP, instruction, decode}
use Rattle.arm64_fixup_entry.specs.declared.target.Bases.{Bases}
use Rattle.arm64_fixup.specs.Walk.{Fixed}
use Rattle.arm64_fixup.specs.Answer.{bases_of, answer_to, section_to}
use Rattle.arm64_fixup.specs.Footprint.{Lone, Unreported, word_at}
use Rattle.arm64_fixup.proofs.Means as Means
use Rattle.arm64_fixup.proofs.Reports.{none_filled, none_named, must-serve}
use Rattle.arm64_fixup.proofs.Unreported as U
use Rattle.arm64_fixup.proofs.Branches as Branches
use Rattle.arm64_fixup.proofs.Values as Values
use Rattle.arm64_fixup.proofs.Authenticated as Authenticated
use Rattle.arm64_fixup.proofs.Bits as Bits
use Rattle.arm64_fixup.proofs.Footprint as Footprint
use Rattle.arm64_fixup.proofs.Bytewise.{reads-touch}
use Rattle.arm64_fixup.proofs.StubEntry as Stub
use Rattle.arm64_fixup.proofs.Examples as Examples
use Rattle.hauklivo.specs.Lent.{lent_number, lent_count}
use Rattle.hauklivo.proofs.Lent.{lent-kept}
use Rattle.claims.specs.Fixup.{Entry, Pair, Fixup}

module _ {section : List ℕ} {b : Bases} {entries targets slots : List ℕ} {f : Fixed} {k : ℕ} (l : Lone section b entries targets slots f k) where
  entry : Entry section b entries targets f k
  entry =
      record {
        page = λ {a} r. Means.page-means l r;
        offset-add = λ {a} r. Means.offset-add l r;
        offset-access = λ {a} r. Means.offset-access l r;
        offset-prefetch = λ {a} r. Means.offset-prefetch l r;
        offset-kept = λ {a} r. Means.offset-kept l r;
        relaxed = Means.relaxed-means l;
        relaxed-kept = Means.relaxed-kept l;
        b-stays = Branches.b-stays l;
        bl-stays = Branches.bl-stays l;
        goes = Branches.goes l;
        goes-by-thunk = Branches.goes-by-thunk l;
        b-goes = U.b-goes l;
        bl-goes = U.bl-goes l;
        must-serve = must-serve l;
        unreported-goes = U.unreported-goes l;
        probe-site = Branches.probe-site l;
        is-enabled-site = Branches.is-enabled-site l;
        helper-own = Branches.helper-own l;
        helper-shared = Branches.helper-shared l;
        helper-goes = Branches.helper-goes l;
        unsigned-plain = Values.unsigned-plain l;
        unsigned-tls = Values.unsigned-tls l;
        authenticated-fields = Authenticated.authenticated-fields l;
        authenticated-from-image = Authenticated.authenticated-from-image l;
        subtractor-4 = Values.subtractor-4 l;
        subtractor-8 = Values.subtractor-8 l;
        pointer-to-got = Values.pointer-to-got l;
        page-bits = λ {a} r. Bits.page-bits l r;
        offset-bits = λ {a} r. Bits.offset-bits l r;
        branch-bits = Bits.branch-bits l;
      }

module _ {section : List ℕ} {b : Bases} {entries targets slots : List ℕ} {f : Fixed} {k m : ℕ} (l : Lone section b entries targets slots f k)
    (l' : Lone section b entries targets slots f m) (u : Unreported f k) (rd imm : ℕ) (d : decode (word_at entries section k) ≡ instruction (ADRP rd imm))
  where
    pair : Pair section b entries targets f k m rd
    pair =
        record {
          pair-add = λ {a} p o rd' rn imm12 d'. let q = U.pair-add l u l' rd imm d p o refl rd' rn imm12 d' in (q.0, (q.1, q.2));
          pair-access = λ {a} p o size v opc rt rn imm12 d' u'. U.pair-access l u l' rd imm d size v opc rt rn imm12 d' u' p o refl;
          got-add = λ p g n n' e rd' rn imm12 d'. let q = U.got-add l u l' rd imm d p g n n' e rd' rn imm12 d' in (q.0, (q.1, q.2));
          got-access = λ p g n n' e size v opc rt rn imm12 d' u'. U.got-access l u l' rd imm d size v opc rt rn imm12 d' u' p g n n' e;
          got-relaxed = λ p r u' n e. let q = U.got-relaxed l u l' rd imm d p r u' n e in (q.0, (q.1, q.2));
        }

-- an answer with number 0 and count 0
no-report : (a : Result ℕ Refusal) (count : ℕ) → answer_number a ≡ 0 → lent_count a count ≡ 0 → a ≡ Ok 0
unfolding lent_count lent_number choose
no-report (Ok n) count h c = ap Ok c
no-report (Err x) count h c = absurd (omega (arith, kept))
  where
    kept : ◌≡◌ {A = ℕ} 0 1
    kept = lent-kept x 1 0 ∙ ap (λ (n : ℕ). lent_number n 1 0) h

pub fixup : Fixup
fixup =
    record {
      entry-alone = λ section b entries targets slots f k l. entry l;
      pair-alone = λ section b entries targets slots f k m l l' u rd imm d. pair l l' u rd imm d;
      second-alone = Examples.second-lone;
      unallocated-scaled = Examples.unallocated-scaled;
      both-alone =
          let r = Examples.both-roles in
          ((Examples.both-lone).0, (Examples.both-lone).1, λ k. none_named (Examples.pair_fixed).section k, r.0, r.1, r.2, r.3);
      none-reported = λ section base tls image entries targets slots count n c. (
        none_filled section (bases_of base tls image) entries targets slots (no-report (answer_to section base tls image entries targets slots) count n c),
        λ k. none_named (section_to section base tls image entries targets slots) k,
      );
      unwritten = Footprint.unwritten;
      only = λ section b entries targets slots {f} a k below alone. Footprint.only section b entries targets slots a k below alone;
      last_written = λ section b entries targets slots {f} a k below. Footprint.last_written section b entries targets slots a k below;
      writes-touch = Footprint.writes-touch;
      reads-touch = reads-touch;
      apart-alone = Footprint.apart-alone;
      imported-width = Footprint.imported-width;
      unaddressed-width = Footprint.unaddressed-width;
      stub-entry = Stub.stub-entry;
      thunk-entry = Stub.thunk-entry;
      past-entry = Stub.past-entry;
      short-entry = Stub.short-entry;
    }
