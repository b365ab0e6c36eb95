-- `writer::operand_size` meets its contract, by the sizes of the two kinds.
use native.Mathlib.Omega.{arith}
use mathlib.Core.Path.{sym}
use Rattle.writer.proofs.Sizes.{size-imm, size_reg}
use Rattle.writer.proofs.operand_size.Goals as goal

pub returns-then-place-eq0 : goal.returns-then-place-eq0
returns-then-place-eq0 c = (sym (size-imm c.args.place.now (omega arith)), omega arith)

pub returns-else-place-eq0 : goal.returns-else-place-eq0
returns-else-place-eq0 c = (sym (size_reg c.args.place.now (λ e. omega arith)), omega arith)
