-- The block's walk part by part: what it accepts is there, with its lists of vips where the walk came to them, and what it refuses is refused.
use Rattle.std.proofs.Common.{rules}
use Rattle.fields.specs.Parse.{bind}
use Rattle.pread.proofs.Found.{exit-match, block_stands, block_refused}
use Rattle.pread.proofs.block_ends.Goals as goal

pub returns-in_err-prev : goal.returns-in_err-prev
unfolding bind
returns-in_err-prev c = exit-match _ _ _ _ c.from_residual.ensures.1 (block_refused _ c.type_inv.s _ (search rules))

pub returns-in_err-next : goal.returns-in_err-next
unfolding bind
returns-in_err-next c = exit-match _ _ _ _ c.from_residual-in_err-next.ensures.1 (block_refused _ c.type_inv.s _ (search rules))

pub returns-in_err-end : goal.returns-in_err-end
unfolding bind
returns-in_err-end c = exit-match _ _ _ _ c.from_residual-in_err-end.ensures.1 (block_refused _ c.type_inv.s _ (search rules))

pub returns : goal.returns
returns c = block_stands _ c.type_inv.s _ c.in_ok-prev.ensures c.in_ok-next.ensures c.in_ok-end.ensures
