-- An instruction passed over: the parts one after the other, where registers are asked and where not.
use Rattle.instruction.proofs.Asking.{no_operation, no_operation-asked, no_operands, no_operands-asked, whole, whole-asked}
use Rattle.instruction.proofs.instruction_past.Goals as goal

pub returns-in_err-k-clause-plain : goal.returns-in_err-k-clause-plain
returns-in_err-k-clause-plain c = no_operation _ _ _ _ c.from_residual.ensures.1 c.in_err-k.ensures

pub returns-in_err-k-clause-asked : goal.returns-in_err-k-clause-asked
returns-in_err-k-clause-asked c = no_operation-asked _ _ _ _ c.from_residual.ensures.1 c.in_err-k.ensures

pub returns-in_err-sound-clause-plain : goal.returns-in_err-sound-clause-plain
returns-in_err-sound-clause-plain c =
    no_operands _ _ _ c.in_ok-k.ensures _ c.operand_count.ensures _ c.from_residual-in_err-sound.ensures.1 c.in_err-sound.ensures.plain

pub returns-in_err-sound-clause-asked : goal.returns-in_err-sound-clause-asked
returns-in_err-sound-clause-asked c =
    no_operands-asked _ _ _ c.in_ok-k.ensures _ c.operand_count.ensures _ c.from_residual-in_err-sound.ensures.1 c.in_err-sound.ensures.asked

pub returns-clause-plain : goal.returns-clause-plain
returns-clause-plain c = whole _ _ _ c.in_ok-k.ensures _ c.operand_count.ensures c.tail_past.ensures.plain c.in_ok-sound.ensures.plain

pub returns-clause-asked : goal.returns-clause-asked
returns-clause-asked c = whole-asked _ _ _ c.in_ok-k.ensures _ c.operand_count.ensures _ _ c.tail_past.ensures.asked c.in_ok-sound.ensures.asked
