-- The sum so far, with what is left, comes to the whole; and the whole is known to fit.
use mathlib.Core.Path.{refl}
use native.Mathlib.Omega.{arith}
use Rattle.charge.proofs.Totals.{begins, ends, goes_on, stays_below}
use Rattle.charge.proofs.blocks_sum.Goals as goal

pub loop-block-init : goal.loop-block-init
loop-block-init c = λ rates t bs n e. begins c.args.count bs e refl

-- with one block more the sum is no more than the whole, which fits
pub overflow_add-sum : goal.overflow_add-sum
overflow_add-sum c =
    let w = c.requires in
    let below = stays_below _ (c.loop-block.invariant w.rates w.table _ _ w.reads) c.loop-block-test.true (c.block_sum-passed.ensures w.rates w.table) in
    record { fits = omega (arith, below, w.fits) }

pub loop-block-preserved : goal.loop-block-preserved
loop-block-preserved c =
    λ rates t bs n e. goes_on _ (c.loop-block.invariant rates t bs n e) c.loop-block-test.true (c.block_sum-passed.ensures rates t)

pub returns : goal.returns
returns c = λ rates t bs n e. ends (c.loop-block.invariant rates t bs n e) c.loop-block-test.false
