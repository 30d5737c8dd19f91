-- `write64`: the bytes that are copied are those of `put 8`.
use Rattle.std.proofs.Common.{◌∙◌, div-one}
use Rattle.util.specs.Word.{bytes}
use Rattle.util.proofs.Part.{put_copied}
use Rattle.util.proofs.write64.Goals as goal

pub returns : goal.returns
unfolding bytes
returns c =
    put_copied 8 c.args.s.now c.copy_from_slice.new.self c.args.at c.args.v c.requires
    (c.copy_from_slice.ensures.after ∙ c.to_le_bytes.ensures ∙ simp div-one)
