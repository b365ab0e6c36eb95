use Rattle.std.proofs.Common.{◌-◌, length}
use Rattle.sorting.specs.Buffer.{TOP}
use Rattle.distinct.specs.Walked.{vips_of}
use Rattle.distinct.proofs.Rounds.{Passing}
use Rattle.distinct.proofs.accepted.Blocks.passes.Given as goal

abbrev pub invariant-loop-lo : goal.invariant-loop-lo
invariant-loop-lo l = Passing (vips_of l.self) (length l.initial.b) l.b l.lo

abbrev pub decreases-loop-lo : goal.decreases-loop-lo
decreases-loop-lo l = TOP - l.lo
