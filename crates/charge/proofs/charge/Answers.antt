-- What C sees of the charge: by what it answers.
use Rattle.std.proofs.Common.{refl}
use Rattle.charge.specs.Answers.{charge_look}
use Rattle.charge.proofs.charge.Goals as goal

pub returns-in-Ok : goal.returns-in-Ok
unfolding charge_look
returns-in-Ok c = rw (← c.in-Ok.ensures) refl

pub returns-in-Err : goal.returns-in-Err
unfolding charge_look
returns-in-Err c = rw (← c.in-Err.ensures, c.from.ensures) refl
