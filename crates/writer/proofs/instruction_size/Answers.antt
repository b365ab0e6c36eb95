-- `writer::instruction_size` meets its contract, by the size of the whole.
use native.Mathlib.Omega.{arith}
use Rattle.op.proofs.Same.{short}
use Rattle.writer.proofs.Whole.{size-whole}
use Prim.Native.Nat.{◌≤◌}
use Rattle.writer.proofs.instruction_size.Goals as goal
use Rattle.writer.proofs.instruction_size.Goals.{After-name_len}

brief : (c : After-name_len) → c.name_len.result ≤ 6
brief c = omega (arith, c.name_len.ensures, short c.args.value.op)

pub returns : goal.returns
returns c =
    omega (arith, size-whole c.args.value, c.name_len.ensures, c.operands_size.ensures.0)

pub overflow_add-result : goal.overflow_add-result
overflow_add-result c = omega (arith, brief c)

pub overflow_add-result-2 : goal.overflow_add-result-2
overflow_add-result-2 c = omega (arith, brief (goal.at.overflow_add-result-2 c).After-name_len, c.operands_size.ensures.1)
