-- A convention passed over part by part.
use Rattle.std.proofs.Common.{rules}
use Rattle.fields.specs.Parse.{bind}
use Rattle.convention.proofs.Skip.{convention_judged}
use Rattle.convention.proofs.convention_past.Goals as goal

pub returns-in_err-volatile : goal.returns-in_err-volatile
unfolding bind
returns-in_err-volatile c = rw (← convention_judged _ _) (search rules)

pub returns-in_err-param : goal.returns-in_err-param
unfolding bind
returns-in_err-param c = rw (← convention_judged _ _) (search rules)

pub returns-in_err-retval : goal.returns-in_err-retval
unfolding bind
returns-in_err-retval c = rw (← convention_judged _ _) (search rules)

pub returns-in_err-frame : goal.returns-in_err-frame
unfolding bind
returns-in_err-frame c = rw (← convention_judged _ _) (search rules)

pub returns-in_err-end : goal.returns-in_err-end
unfolding bind
returns-in_err-end c = rw (← convention_judged _ _) (search rules)

pub returns : goal.returns
unfolding bind
returns c = rw (← convention_judged _ _) (search rules)
