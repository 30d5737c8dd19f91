-- Empty lists, and what is not looked at: the theorems of each call's crate.
use Rattle.arm64_reader.proofs.Lengths as Lengths
use Rattle.arm64_reader.proofs.Ignored as Reader
use Rattle.arm64_fixup.proofs.Empty as FixupEmpty
use Rattle.arm64_fixup.proofs.Ignored as Fixup
use Rattle.arm64_fixup.proofs.ImageBase as ImageBase
use Rattle.arm64_hint_run.proofs.Empty as HintsEmpty
use Rattle.arm64_hint_run.proofs.Ignored as Hints
use Rattle.arm64_hint_run.proofs.IgnoredEntries as Entries
use Rattle.arm64_hint_run.proofs.Skipped as Skipped
use Rattle.arm64_hint_run.proofs.Addresses as Addresses
use Rattle.claims.specs.Ignored.{Ignored}

pub ignored : Ignored
ignored =
    record {
      no-records = Lengths.empty;
      no-entries = FixupEmpty.empty;
      no-hints = HintsEmpty.no-hints;
      reader-slots = Reader.slots-ignored;
      reader-contents = λ contents others sections addresses first rs a b c d.
          Reader.contents-ignored contents others sections addresses first rs (record { size = a; ordinals = b; words = c; named = d });
      reader-addend = Reader.addend-ignored;
      fix-up-alike = λ b entries entries' targets targets' section slots le lt w t.
          Fixup.ignored b entries entries' targets targets' (record { length-entries = le; length-targets = lt; worked = w; taken = t }) section slots;
      fix-up-marks = Fixup.mark-bytes;
      fix-up-signing = Fixup.signing-bytes;
      fix-up-signing-bits = Fixup.signing-bits;
      fix-up-image = ImageBase.image-unused;
      fix-up-size = Fixup.size-byte;
      fix-up-target-bits = Fixup.target-byte;
      fix-up-taken = Fixup.consumed-entry;
      fix-up-taken-target = Fixup.consumed-target;
      hint-bytes = Hints.ignored-bytes;
      hint-places = Hints.past-count;
      hint-skipped = λ hints others entries image sized each. Skipped.run-skipped entries hints others sized each image;
      hint-addresses = Addresses.same_number;
      hint-part = Addresses.any_part;
      hint-entries = λ entries entries' image hints l a.
          Entries.run-alike-entries entries entries' l (λ k h. record { type = (a k h).0; target = (a k h).1; addend = (a k h).2 }) image hints;
      hint-signing = Entries.signing-bytes;
    }
