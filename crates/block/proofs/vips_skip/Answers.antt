-- A list of vips passed over at once, after its count.
use Rattle.std.proofs.Common.{◌∙◌}
use Rattle.block.proofs.Fixed.{counted-at-once}
use Rattle.block.proofs.vips_skip.Goals as goal

pub returns : goal.returns
returns c = c.skip.ensures.field ∙ counted-at-once 8 _ _ c.in_ok-count.ensures
