-- The exit at a refused operand, and the end of the run.
use Rattle.fields.proofs.Read.{exit-last}
use Rattle.value.proofs.Gather.{gather_stop, gather_end}
use Rattle.value.proofs.operands_at.Goals as goal

pub returns-in_err-operand : goal.returns-in_err-operand
returns-in_err-operand c =
    exit-last _ _ c.from_residual.ensures.1 (gather_stop _ _ _ c.loop-i.invariant c.loop-i-test.true c.in_err-operand.ensures)

pub returns : goal.returns
returns c = gather_end _ _ _ c.loop-i.invariant c.loop-i-test.false
