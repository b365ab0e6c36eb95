-- A byte of a name: the table has six for each.
use native.Mathlib.Omega.{arith}
use Rattle.op.specs.Ops.{names}
use Rattle.op.specs.ByLength.{in_six}
use Rattle.op.proofs.Same.{in_six_at}
use Rattle.op.proofs.name_byte.Goals as goal

pub returns : goal.returns
unfolding names in_six
returns c = in_six_at c.args.k c.args.j (omega arith) (omega arith)
