-- The vips that the walk finds are those of the blocks that were read.
use Rattle.std.proofs.Common.{ap, ◌∙◌}
use Rattle.pod.specs.Blocks.{repeats}
use Rattle.distinct.proofs.Read.{vips-read}
use Rattle.distinct.proofs.has_repeat.Goals as goal

pub returns : goal.returns
returns c = λ bs end e. c.has_repeat.ensures ∙ ap repeats (vips-read _ _ _ e)
