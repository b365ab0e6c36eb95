-- The head walked over, and then the blocks, which stand where it ended: so the note of the blocks is one of the routine.
use Rattle.std.proofs.Common.{rules}
use Rattle.fields.specs.Parse.{bind}
use Rattle.routine.proofs.Notes.{routine_noted}
use Rattle.routine.proofs.Walk.{routine-walked}
use Rattle.routine.proofs.routine_noting.Goals as goal

pub returns-in_err-head-clause-walk : goal.returns-in_err-head-clause-walk
unfolding bind
returns-in_err-head-clause-walk c = rw (← routine-walked _ c.type_inv.s _) (search rules)

pub returns-in_err-noted-clause-walk : goal.returns-in_err-noted-clause-walk
unfolding bind
returns-in_err-noted-clause-walk c = rw (← routine-walked _ c.type_inv.s _) (search rules)

pub returns-clause-walk : goal.returns-clause-walk
unfolding bind
returns-clause-walk c = rw (← routine-walked _ c.type_inv.s _) (search rules)

pub returns-clause-note : goal.returns-clause-note
returns-clause-note c = routine_noted _ c.type_inv.s _ _ c.in_ok-head.ensures _ c.in_ok-noted.ensures.note
