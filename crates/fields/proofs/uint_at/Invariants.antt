use Rattle.std.proofs.Common.{◌≡◌, ◌-◌}
use Rattle.fields.specs.Parse.{le}
use Rattle.fields.proofs.uint_at.Given as goal

abbrev pub invariant-loop-passed : goal.invariant-loop-passed
invariant-loop-passed l = l.v ≡ le l.passed l.s (l.end - l.passed)
