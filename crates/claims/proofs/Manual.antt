-- The Arm manual: the theorems of arm64_insn and of util's diagrams.
use lib.Dec.{lit<}
use Rattle.util.proofs.Diagram as Diagram
use Rattle.arm64_insn.proofs.Manual as M
use Rattle.arm64_insn.proofs.ManualClasses as Classes
use Rattle.arm64_insn.proofs.ManualMasks.{mask-test}
use Rattle.arm64_insn.proofs.ManualAssembled.{encoded, decoded}
use Rattle.arm64_insn.proofs.ManualLines.{unsigned-printed, literal-printed, unsigned-signs, literal-signs}
use Rattle.claims.specs.Manual.{Manual}

pub manual : Manual
manual =
    record {
      decode-encode = M.decode-encode;
      encode-decode = M.encode-decode;
      decode-in-range = M.decode-in-range;
      one_class = Classes.one_class;
      decode-allocated = M.decode-allocated;
      load-store-unallocated = M.load-store-unallocated;
      literal-unallocated = M.literal-unallocated;
      movz-unallocated = M.movz-unallocated;
      mask-matches = Diagram.mask-matches;
      masks = (
        λ w. mask-test 0 w (lit< tt),
        λ w. mask-test 1 w (lit< tt),
        λ w. mask-test 2 w (lit< tt),
        λ w. mask-test 3 w (lit< tt),
        λ w. mask-test 4 w (lit< tt),
        λ w. mask-test 5 w (lit< tt),
        λ w. mask-test 6 w (lit< tt),
        λ w. mask-test 7 w (lit< tt),
        λ w. mask-test 8 w (lit< tt),
        λ w. mask-test 9 w (lit< tt),
        λ w. mask-test 10 w (lit< tt),
        λ w. mask-test 11 w (lit< tt),
        λ w. mask-test 12 w (lit< tt),
      );
      assembled-encodes = encoded;
      assembled-decodes = decoded;
      table-printed = unsigned-printed;
      literal-table-printed = literal-printed;
      signs = (unsigned-signs, literal-signs);
    }
