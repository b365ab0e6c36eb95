-- Each number is what stands in the routine.
use Rattle.pread.proofs.Found.{routine_found}
use Rattle.pread.proofs.routine_at.Goals as goal

pub returns-in-Ok : goal.returns-in-Ok
returns-in-Ok c = cc (routine_found _ c.type_inv.s _ c.conventions_end-special.ensures c.in-Ok.ensures)
