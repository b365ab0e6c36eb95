use Rattle.op.specs.ByLength.{between}
use Rattle.op.proofs.ByLength.{Rest}
use Rattle.op.proofs.number_of.Given as goal

abbrev pub invariant-loop-i : goal.invariant-loop-i
invariant-loop-i l = Rest l.w (between l.i l.i-end)
