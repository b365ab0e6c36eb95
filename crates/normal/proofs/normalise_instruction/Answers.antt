-- Of an accepted instruction the table has the rate, the walk finds the end, and the byte before it is its flag.
use native.Mathlib.Omega.{arith}
use Rattle.normal.proofs.Wholes.{instruction-normal}
use borrow.Author.Rules.{rules}
use Rattle.normal.proofs.normalise_instruction.Goals as goal

pub returns : goal.returns
returns c =
    (instruction-normal c.args.table.now (search rules) _ c.rate_at-rate.ensures c.instruction_end-end.ensures c.normalise_flag.ensures, omega arith)
