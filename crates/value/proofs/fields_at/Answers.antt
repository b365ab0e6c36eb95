-- What the operation, the operands and the rest answered is what the layout's three parts do.
use Rattle.std.proofs.Common.{sym, arith, rules}
use Rattle.fields.proofs.Read.{step, exit}
use Rattle.value.proofs.Parts.{op-listed, counts-small, parts}
use Rattle.value.proofs.fields_at.Goals as goal

pub operands_at-requires : goal.operands_at-requires
operands_at-requires c = rw c.operand_count-count.ensures (counts-small _)

pub returns-in_err-operands : goal.returns-in_err-operands
returns-in_err-operands c =
    rw (parts _ _ _ _ _ (sym c.in_ok-op.ensures) c.operand_count-count.ensures)
    (exit _ _ _ c.from_residual-in_err-operands.ensures.1 c.in_err-operands.ensures)

pub returns-in_err-tail : goal.returns-in_err-tail
returns-in_err-tail c =
    rw (parts _ _ _ _ _ (sym c.in_ok-op.ensures) c.operand_count-count.ensures)
    (step _ c.in_ok-operands.ensures (exit _ _ _ c.from_residual-in_err-tail.ensures.1 c.in_err-tail.ensures))

pub overflow_cast-result : goal.overflow_cast-result
overflow_cast-result c = omega (arith, op-listed _ _ (sym c.in_ok-op.ensures))

pub returns : goal.returns
returns c =
    rw (parts _ _ _ _ _ (sym c.in_ok-op.ensures) c.operand_count-count.ensures)
    (step _ c.in_ok-operands.ensures (step _ c.in_ok-tail.ensures (search rules)))
