-- `append::one_instruction` meets its contract: each answer is one case of the bytes, with what passing over them tells where registers are asked.
use Rattle.std.proofs.Common.{arith}
use Rattle.append.proofs.Appends.{unread-exit, too_long, all_read}
use Rattle.append.proofs.one_instruction.Goals as goal

-- The `?` hands on what reading refuses, a crooked register among it; then the bytes are an instruction,
-- and what is left is whether others come after it.
pub returns-in_err-end : goal.returns-in_err-end
returns-in_err-end c = unread-exit _ _ _ c.from_residual.ensures.1 c.in_err-end.ensures

pub returns-then-end-instruction : goal.returns-then-end-instruction
returns-then-end-instruction c = too_long _ c.in_ok-end.ensures (omega (arith, c.if-end-instruction.true))

pub returns : goal.returns
returns c = all_read _ c.in_ok-end.ensures (omega (arith, c.if-end-instruction.false))
