use Rattle.std.proofs.Common.{◌-◌}
use Rattle.distinct.specs.Walked.{vips_of}
use Rattle.distinct.proofs.Walks.{Gathering}
use Rattle.distinct.proofs.accepted.Blocks.gather.Given as goal

abbrev pub invariant-loop-passed : goal.invariant-loop-passed
invariant-loop-passed l = Gathering l.self.s.now (vips_of l.self) l.lo l.size l.b (l.passed-end - l.passed) l.at l.hi
