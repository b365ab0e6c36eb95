-- One step for each part.
use Rattle.std.proofs.Common.{rules, refl}
use Rattle.ends.specs.Ends.{operand_end}
use Rattle.ends.proofs.Steps.{times_fold}
use Rattle.ends.proofs.operands_end.Goals as goal

pub returns : goal.returns
returns c = times_fold (operand_end c.args.s.now) _ _ _ refl (λ a x b h k. search rules) c.fold.ensures.ran
