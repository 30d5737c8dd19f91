-- Decoders and encoders against the manual: the theorems of arm64_insn and of the reader's words.
use Rattle.arm64_insn.proofs.Decodes as Decodes
use Rattle.arm64_insn.proofs.Split as Split
use Rattle.arm64_insn.proofs.Encodes as Encodes
use Rattle.arm64_insn.proofs.Meaning as Meaning
use Rattle.arm64_insn.proofs.ManualTargets as Targets
use Rattle.arm64_reader.proofs.Words as Reader
use Rattle.claims.specs.Words.{Words}

pub words : Words
words =
    record {
      adrp-decodes = Decodes.adrp-decodes;
      decodes-adrp = Decodes.decodes-adrp;
      add-decodes = Decodes.add-decodes;
      decodes-add = Decodes.decodes-add;
      load-store-manual = Decodes.load-store-manual;
      decodes-load-store = Decodes.decodes-load-store;
      load-store-decodes = Decodes.load-store-decodes;
      load-store-split = Split.load-store-split;
      ldrsw-marked = Split.ldrsw-marked;
      unallocated-none = Decodes.unallocated-none;
      got-fits = Reader.got-fits-is;
      tlvp-fits = Reader.tlvp-fits-is;
      tlvp-unallocated = Reader.tlvp-unallocated;
      add_is = Reader.add_is;
      loaded-is = Reader.loaded-is;
      add-either-decodes = Decodes.add-either-decodes;
      decodes-add-either = Decodes.decodes-add-either;
      ldr-imm-decodes = Decodes.ldr-imm-decodes;
      decodes-ldr-imm = Decodes.decodes-ldr-imm;
      load-store-scale = Decodes.load-store-scale;
      unmoved-scale = Decodes.unmoved-scale;
      other-scale = Decodes.other-scale;
      adr-made = Encodes.adr-made;
      adrp-patched = Encodes.adrp-patched;
      add-patched = Encodes.add-patched;
      load-store-patched = Encodes.load-store-patched;
      prefetch-patched = Encodes.prefetch-patched;
      b-patched = Encodes.b-patched;
      bl-patched = Encodes.bl-patched;
      helper-made = Encodes.helper-made;
      relaxed-made = Encodes.relaxed-made;
      nop-made = Encodes.nop-made;
      is-enabled-made = Meaning.is-enabled-means;
      stub-made = Encodes.stub-made;
      thunk-made = Encodes.thunk-made;
      based-made = Encodes.based-made;
      literal-made = Encodes.literal-made;
      literal-row = Encodes.literal-row;
      adrp-page = Targets.adrp-page;
      adr-means = Meaning.adr-means;
      literal-means = Meaning.literal-means;
      branch-means = Meaning.branch-means;
      adrp-means = Meaning.adrp-means;
      add-means = Meaning.add-means;
      access-means = Meaning.access-means;
      stub-means = Meaning.stub-means;
    }
