-- `put` meets its contract: the bytes at `at` are the text, and all others stay. Assumes nothing.
use Rattle.std.proofs.Common.{◌≡◌, ◌+◌, ◌-◌, refl, length, arith, append_assoc}
use lib.Seq.{sets, sets-eq, drop-drop, length-sets}
use borrow.Rule.Slice.PartMut.{put_mid}
use Rattle.text.proofs.Page.put.Goals as goal

pub returns : goal.returns
returns c =
    let at = c.args.self.now.at in
    let old = c.args.self.now.out.now in
    let text = c.args.text.now in
    let n : at + length text - at ≡ length text = omega arith in
    let stored : put_mid at (at + length text - at) old c.copy_from_slice.new.self ≡ sets old at text =
    rw (c.copy_from_slice.ensures.after, n, sets-eq text old at (omega arith), append_assoc, drop-drop) in
    record {
      same_reference = refl;
      kept_length = rw stored (length-sets old at text);
      puts = record { ends = refl; stored = stored };
    }
