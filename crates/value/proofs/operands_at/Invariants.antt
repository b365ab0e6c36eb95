use Rattle.value.proofs.Gather.{Gathered}
use Rattle.value.proofs.operands_at.Given as goal

abbrev pub invariant-loop-i : goal.invariant-loop-i
invariant-loop-i l = Gathered l.count l.s l.at l.places l.i l.end
