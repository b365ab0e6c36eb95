-- One step for each part.
use Rattle.std.proofs.Common.{rules, refl}
use Rattle.ends.specs.Ends.{instruction_end}
use Rattle.ends.proofs.Steps.{times_fold}
use Rattle.ends.proofs.instructions_end.Goals as goal

pub returns : goal.returns
returns c = times_fold (instruction_end c.args.s.now) _ _ _ refl (λ a x b h k. search rules) c.fold.ensures.ran
