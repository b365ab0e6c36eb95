-- A block walked over part by part. One without lists is known.
use Rattle.std.proofs.Common.{rules}
use Rattle.fields.specs.Parse.{bind}
use Rattle.block.proofs.Walk.{block_walked}
use Rattle.block.proofs.block_skip.Goals as goal

pub returns-in_err-seen : goal.returns-in_err-seen
unfolding bind
returns-in_err-seen c = rw (← block_walked _ c.type_inv.s _) (search rules)

pub returns-in_err-at : goal.returns-in_err-at
unfolding bind
returns-in_err-at c = rw (← block_walked _ c.type_inv.s _) (search rules)

pub returns-in_err-end : goal.returns-in_err-end
unfolding bind
returns-in_err-end c = rw (← block_walked _ c.type_inv.s _) (search rules)

pub returns : goal.returns
unfolding bind
returns c = rw (← block_walked _ c.type_inv.s _) (search rules)
