-- Straight code: the walk over k instructions.
use Rattle.image.proofs.Parts.{instruction-found}
use borrow.Author.Rules.{rules}
use Rattle.image.proofs.instruction_offset.Goals as goal

pub jump-a-requires : goal.jump-a-requires
jump-a-requires c = search rules

pub instructions_end-requires : goal.instructions_end-requires
instructions_end-requires c = search rules

pub returns : goal.returns
returns c = λ x i h l e m. instruction-found x i h l e m c.jump-a.ensures c.instructions_end.ensures
