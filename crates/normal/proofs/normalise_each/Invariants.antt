use Rattle.normal.specs.Chains.{Chain}
use Rattle.normal.proofs.normalise_each.Given as goal

abbrev pub invariant-loop-part : goal.invariant-loop-part
invariant-loop-part g l = Chain (goal.F-post g l.one) l.part l.initial.a l.initial.end l.a l.end l.sum
