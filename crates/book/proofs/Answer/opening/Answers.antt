-- What C sees of an opening: by what it answers.
use Rattle.std.proofs.Common.{refl}
use Rattle.book.proofs.Answers.{opening-accepted, opening-refused}
use Rattle.book.proofs.Answer.opening.Goals as goal

pub returns-in-Ok : goal.returns-in-Ok
returns-in-Ok c image journal = opening-accepted _ image journal c.in-Ok.is

pub returns-in-Err : goal.returns-in-Err
returns-in-Err c image journal = opening-refused image journal _ c.in-Err.is c.from.ensures refl
