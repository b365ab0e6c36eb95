use Rattle.outside.specs.Chains.{Chain}
use Rattle.outside.proofs.mask_each.Given as goal

abbrev pub invariant-loop-part : goal.invariant-loop-part
invariant-loop-part g l = Chain (goal.F-post g l.one) l.part l.initial.a l.at l.a l.end
