-- The operation is found as the layout reads it.
use Rattle.std.proofs.Common.{sym}
use Rattle.instruction.proofs.Operation.{op-is, op-accepted}
use Rattle.instruction.proofs.op_of.Goals as goal

pub returns-in-Some : goal.returns-in-Some
returns-in-Some c i n e = op-is _ _ e c.in-Some.ensures.is

pub returns-in-Ok : goal.returns-in-Ok
returns-in-Ok c i n e = op-is _ _ e (sym c.in-Ok.ensures)

pub returns-in-Err : goal.returns-in-Err
returns-in-Err c i n e = absurd (op-accepted _ _ e (sym c.in-Err.ensures))
