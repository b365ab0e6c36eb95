use Rattle.std.proofs.Common.{◌-◌}
use Rattle.distinct.specs.Walked.{vips_of}
use Rattle.distinct.proofs.Walks.{Tops}
use Rattle.distinct.proofs.accepted.Blocks.top_twice.Given as goal

abbrev pub invariant-loop-passed : goal.invariant-loop-passed
invariant-loop-passed l = Tops l.self.s.now (vips_of l.self) (l.passed-end - l.passed) l.at l.seen
