-- The routine walked over: its head, and then its blocks.
use Rattle.std.proofs.Common.{rules}
use Rattle.fields.specs.Parse.{bind}
use Rattle.routine.proofs.Walk.{routine-walked}
use Rattle.routine.proofs.routine_skip.Goals as goal

pub returns-in_err-head : goal.returns-in_err-head
unfolding bind
returns-in_err-head c = rw (← routine-walked _ c.type_inv.s _) (search rules)

pub returns-in_err-blocks : goal.returns-in_err-blocks
unfolding bind
returns-in_err-blocks c = rw (← routine-walked _ c.type_inv.s _) (search rules)

pub returns : goal.returns
unfolding bind
returns c = rw (← routine-walked _ c.type_inv.s _) (search rules)
