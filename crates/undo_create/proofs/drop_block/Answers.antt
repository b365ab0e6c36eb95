-- `undo_create::drop_block` meets its contract: the two stores leave the image of the routine without its last block.
use mathlib.Core.Path.{ap, ◌∙◌}
use Prim.Native.Nat.{◌-◌}
use Rattle.fields.specs.Bytes.{put}
use Rattle.pod.specs.Written.{bytes}
use Rattle.undo_create.proofs.Uncreates.{uncreated_image}
use Rattle.undo_create.proofs.drop_block.Goals as goal

pub returns : goal.returns
returns c r o =
    c.put_u32.ensures ∙ ap (put (c.args.start - 4) (bytes 4 c.args.place)) c.clear.ensures
    ∙ uncreated_image _ r _ _ _ _ o c.requires.1.1.1
