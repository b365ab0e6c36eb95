-- Straight code: the calls put together come to the block's instructions, and past its vips.
use Rattle.charge.proofs.InBlock.{instructions-read, vips-passed}
use Rattle.charge.proofs.block_sum.Goals as goal

pub returns : goal.returns
returns c =
    λ rates z b n e.
    let y = c.type_inv.s in
    let r = c.instructions_sum-instructions.ensures rates z _ _ (instructions-read _ y _ e c.jump-i.ensures c.word32-count.ensures c.jump-first.ensures) in
    (r.0, vips-passed _ y _ e r.1 c.vips_end-prev.ensures c.vips_end-end.ensures)
