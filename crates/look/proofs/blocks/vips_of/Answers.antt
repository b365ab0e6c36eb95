-- The list that is chosen, as it is read with the block. That there is none of another number the check finds by itself.
use Rattle.look.proofs.InBlock.{prev-listed, next-listed}
use Rattle.look.proofs.blocks.vips_of.Goals as goal

pub returns-in-0 : goal.returns-in-0
returns-in-0 c = λ b n e. prev-listed c.type_inv.image _ e c.block_at-block.ensures c.args.list c.in-0.is

pub returns-in-1 : goal.returns-in-1
returns-in-1 c = λ b n e. next-listed c.type_inv.image _ e c.block_at-block.ensures c.args.list c.in-1.is
